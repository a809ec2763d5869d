-- The lines are played one by one.
use Rattle.std.proofs.Common.{◌≡◌, ◌+◌, ◌∙◌, length, slice_get, Some, refl, sym, ap, subst, rules, arith}
use Rattle.std.proofs.lemmas.Option.{slice_get-get_or}
use Rattle.plank_trace.specs.declared.lines.Line.{Line}
use Rattle.plank_trace.specs.declared.traces.Moved.{Moved}
use Rattle.plank_trace.specs.Moves.{IsMoved}
use Rattle.plank_trace.specs.Traces.{begins}
use Rattle.plank_trace.proofs.Playing.{play_on, null_trace, end_trace, bad_step}
use Rattle.plank_trace.proofs.traces.trace.Goals as goal

pub loop-i-init : goal.loop-i-init
loop-i-init c = record {
  plays = begins 0 c.in-Ok-start.world c.new.result.items refl c.in-Ok-start.ensures.world c.new.ensures.items;
  fits = c.in-Ok-start.ensures.fits;
}

pub returns-in-Ok-Null-clause-shown : goal.returns-in-Ok-Null-clause-shown
returns-in-Ok-Null-clause-shown c =
    let p = c.args.program.now in
    let line = c.index-lines-i.result in
    let at : slice_get c.args.lines.now c.loop-i.i ≡ Some line = slice_get-get_or c.args.lines.now c.loop-i.i line c.loop-i-test.true ∙ ap (λ (x : Line). Some x) (sym c.index-lines-i.is) in
    let moved = subst (λ (m : Moved). IsMoved p.header p.methods c.as_slice.result.now (c.loop-i.i + 1) line m c.loop-i.play c.make.new.play) c.in-Ok-Null.field-0-is c.in-Ok-Null.ensures.moved in
    null_trace p.header p.methods c.args.lines.now c.loop-i.i (c.loop-i.i + 1) c.loop-i.play.world c.loop-i.play.out.items _ c.loop-i.invariant.plays line at moved.0 (omega arith) moved.1

pub returns-in-Ok-Refused-clause-bad : goal.returns-in-Ok-Refused-clause-bad
returns-in-Ok-Refused-clause-bad c = λ i e.
    let p = c.args.program.now in
    let line = c.index-lines-i.result in
    let at : slice_get c.args.lines.now c.loop-i.i ≡ Some line = slice_get-get_or c.args.lines.now c.loop-i.i line c.loop-i-test.true ∙ ap (λ (x : Line). Some x) (sym c.index-lines-i.is) in
    let moved = subst (λ (m : Moved). IsMoved p.header p.methods c.as_slice.result.now (c.loop-i.i + 1) line m c.loop-i.play c.make.new.play) c.in-Ok-Refused.field-0-is c.in-Ok-Refused.ensures.moved in
    let same : c.loop-i.i + 1 ≡ i = cc in
    bad_step p.header p.methods c.args.lines.now c.loop-i.i i c.loop-i.play.world c.loop-i.play.out.items c.loop-i.invariant.plays line at moved (omega (arith, same))

pub loop-i-preserved : goal.loop-i-preserved
loop-i-preserved c =
    let p = c.args.program.now in
    let line = c.index-lines-i.result in
    let at : slice_get c.args.lines.now c.loop-i.i ≡ Some line = slice_get-get_or c.args.lines.now c.loop-i.i line c.loop-i-test.true ∙ ap (λ (x : Line). Some x) (sym c.index-lines-i.is) in
    let moved = subst (λ (m : Moved). IsMoved p.header p.methods c.as_slice.result.now (c.loop-i.i + 1) line m c.loop-i.play c.make.new.play) c.in-Ok-On.field-0-is c.in-Ok-On.ensures.moved in
    record {
      plays = play_on p.header p.methods c.args.lines.now (c.loop-i.i + 1) c.loop-i.i (c.loop-i.i + 1) c.loop-i.play.world _ c.loop-i.play.out.items _ c.as_slice.result.now c.loop-i.invariant.plays line at moved.0 moved.1 (omega arith) (omega arith) (c.as_slice.ensures.value ∙ c.in-Ok.ensures.keys) moved.2;
      fits = c.make.ensures.fits;
    }

pub returns-clause-shown : goal.returns-clause-shown
returns-clause-shown c =
    let p = c.args.program.now in
    let all : c.loop-i.i ≡ length c.args.lines.now = search rules in
    end_trace p.header p.methods c.args.lines.now c.loop-i.i c.loop-i.play.world _ c.loop-i.invariant.plays all
