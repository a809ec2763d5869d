-- The tokens of a text may stand and keep `!` apart, so its canonical form is read as them.
use Rattle.std.specs.List.{list_all}
use Rattle.std.specs.Cmp.{first_so}
use Rattle.plank_ast.specs.Spelling.{may_stand}
use Rattle.plank_ast.specs.Texts.{text_tokens}
use Rattle.plank_ast.proofs.TextsApart.{text_keeps_apart}
use Rattle.plank_ast.proofs.PrintedParts.{layout_reads}
use Rattle.plank_ast.proofs.laws.print_keeps_tokens.Goals as goal

pub returns : goal.returns
returns c t = layout_reads (text_tokens t) (first_so (list_all may_stand (text_tokens t)) _ t.lawful) (text_keeps_apart t)
