use Rattle.std.proofs.Common.{List, ℕ, [], ◌∷◌, ◌++◌, ap, ◌∙◌, append_assoc}
use Rattle.plank_ast.specs.Layout.{blanks}
use Rattle.plank_ast.proofs.Blanks.{blanks_more}
use Rattle.plank_ast.proofs.layout.append_indent.Goals as goal

pub loop-level-preserved : goal.loop-level-preserved
loop-level-preserved c =
    c.in_ok-append.ensures
    ∙ ap (λ (out : List ℕ). out ++ 32 ∷ 32 ∷ []) c.loop-level.invariant
    ∙ append_assoc c.args.out.now.items (blanks c.loop-level._level) (32 ∷ 32 ∷ [])
    ∙ ap (λ (rest : List ℕ). c.args.out.now.items ++ rest) (blanks_more c.loop-level._level)
