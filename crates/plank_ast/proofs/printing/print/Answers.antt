use Rattle.std.proofs.Common.{◌≡◌, ℕ, Bool, true, false, List, ap, ◌∙◌, sym, subst}
use Rattle.std.specs.Str.{IsAscii, IsUtf8}
use Rattle.std.proofs.lemmas.Str.{IsUtf8-from_ascii}
use Rattle.plank_ast.specs.Spelled.{kinds}
use Rattle.plank_ast.specs.Layout.{layout}
use Rattle.plank_ast.specs.Texts.{text_tokens}
use Rattle.plank_ast.proofs.Ascii.{lawful_layout_ascii}
use Rattle.plank_ast.proofs.printing.print.Goals as goal

pub unreachable-requires : goal.unreachable-requires
unreachable-requires c =
    let bytes : c.in_ok-bytes.bytes.items ≡ layout (text_tokens c.args.text.now) =
    c.in_ok-bytes.ensures ∙ ap layout (ap kinds c.deref.ensures.value ∙ c.in_ok-tokens.ensures) in
    let utf8 : IsUtf8 c.in_ok-bytes.bytes.items =
    IsUtf8-from_ascii _ (subst (λ (b : List ℕ). IsAscii b) (sym bytes) (lawful_layout_ascii (text_tokens c.args.text.now) c.args.text.now.lawful)) in
    let never : ◌≡◌ {A = Bool} false true = c.in-Err.ensures.succeeds utf8 in cc
