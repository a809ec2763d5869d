-- The tokens of a whole text.
use Rattle.plank_ast.specs.declared.texts.Text.{Text}
use Rattle.plank_ast.specs.Spelling.{Spelling, parts_tokens}

-- the tokens of a text, without the end
abbrev pub text_tokens : Text → Spelling
text_tokens t =
    parts_tokens t.structure t.flags t.pointers t.lock t.roots t.starts t.edges t.holds t.keeps t.freeze t.methods
