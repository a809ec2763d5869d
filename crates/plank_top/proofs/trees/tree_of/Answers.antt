use Rattle.std.proofs.Common.{refl, ◌∙◌, ap, sym, Ok}
use Rattle.plank_top.specs.Trees.{malformed, bad_byte, bad_token}
use Rattle.plank_top.proofs.trees.tree_of.Goals as goal

pub returns-in-Err-BadByte : goal.returns-in-Err-BadByte
returns-in-Err-BadByte c =
    rw c.in-Err-BadByte.field-0-is (malformed _ (bad_byte (rw c.in-Err-BadByte.field-0-is at c.in-Err-BadByte.ensures.exact)) refl)

pub returns-in-Err-Unexpected : goal.returns-in-Err-Unexpected
returns-in-Err-Unexpected c =
    malformed _ (bad_token c.deref.result.now (c.in-Ok.ensures.exact ∙ ap Ok (sym c.deref.ensures.value)) (rw c.in-Err-Unexpected.field-0-is at c.in-Err-Unexpected.ensures.refused)) refl
