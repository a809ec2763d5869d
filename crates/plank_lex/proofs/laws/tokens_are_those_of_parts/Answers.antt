-- Both directions are proved in Cuts.
use Rattle.plank_lex.proofs.Cuts.{tokens_cut, cut_tokens}
use Rattle.plank_lex.proofs.laws.tokens_are_those_of_parts.Goals as goal

pub returns : goal.returns
returns c text tokens = (tokens_cut text tokens, cut_tokens text tokens)
