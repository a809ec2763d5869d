-- The cell of the part is its own.
use Rattle.std.proofs.Common.{◌∙◌, sym, true, subst, arith}
use Rattle.std.specs.Prelude.{slice_set}
use Rattle.plank_whole.specs.Wholes.{frame_of, said_in, SaysBesides}
use Rattle.plank_whole.proofs.Putting.{put_says}
use Rattle.plank_whole.proofs.wholes.Picture.put.Goals as goal

pub returns-then-fits-clause-part : goal.returns-then-fits-clause-part
returns-then-fits-clause-part c =
    let w = c.args.self.now in
    subst (λ code. SaysBesides (frame_of w) c.args.part (said_in (frame_of w) w.said) (said_in (frame_of w) (slice_set w.said code true))) (sym c.part_code.ensures)
    (put_says (frame_of w) w.shape.few_names w.shape.few_pointers w.shape.few_flags w.said (omega arith) c.args.part (sym c.fits.ensures ∙ c.if-fits.true))
