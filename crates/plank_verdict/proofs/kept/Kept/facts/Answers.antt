use Rattle.std.specs.Prelude.{ℕ, Bool}
use Rattle.std.proofs.Common.{◌+◌, ◌*◌, ◌≤◌, ◌++◌, sym, ◌∙◌, ap, arith, length}
use Rattle.plank_base.specs.declared.limits.TheConstants.{MARK_WORDS_PER_LOCATION}
use Rattle.plank_bits.specs.Words.{has}
use Rattle.plank_fact.specs.ReportedEffects.{kept_from}
use Rattle.plank_verdict.specs.Kept.{table, listed_if}
use Rattle.plank_verdict.proofs.Keeping.{kept_more, kept_end, table_at, table_ends, table_has_room}
use Rattle.plank_verdict.proofs.kept.Kept.facts.Goals as goal

pub returns-in-None : goal.returns-in-None
returns-in-None c =
    let p = c.args.self.now.program.now in
    let m = c.args.self.now.method in
    let marks : ℕ → Bool = λ n. has c.args.self.now.marks.now (c.args.self.now.first + n) in
    let b = c.args.self.now.block.now in
    kept_end marks b (table p.header p.methods m) c.loop-number.number c.loop-number.facts.items (kept_from marks b 0 (table p.header p.methods m))
    (table_ends p.header p.methods m c.loop-number.number (sym c.fact.ensures ∙ c.in-None.is)) c.loop-number.invariant

pub loop-number-preserved : goal.loop-number-preserved
loop-number-preserved c =
    let p = c.args.self.now.program.now in
    let m = c.args.self.now.method in
    let marks : ℕ → Bool = λ n. has c.args.self.now.marks.now (c.args.self.now.first + n) in
    let b = c.args.self.now.block.now in
    kept_more marks b (table p.header p.methods m) c.loop-number.number c.in-Some.fact c.loop-number.facts.items c.push_if.new.facts.items (kept_from marks b 0 (table p.header p.methods m))
    (sym (table_at p.header p.methods m c.loop-number.number) ∙ sym c.fact.ensures ∙ c.in-Some.is) c.loop-number.invariant
    (c.in_ok-push_if-in-Some.ensures ∙ ap (λ kept. c.loop-number.facts.items ++ listed_if kept c.in-Some.fact) c.keeps.ensures)

pub returns : goal.returns
returns c =
    let p = c.args.self.now.program.now in
    let m = c.args.self.now.method in
    let marks : ℕ → Bool = λ n. has c.args.self.now.marks.now (c.args.self.now.first + n) in
    let b = c.args.self.now.block.now in
    let room : length (table p.header p.methods m) ≤ 64 * MARK_WORDS_PER_LOCATION = table_has_room p m in
    let far = c.loop-number-test.false in
    let past : length (table p.header p.methods m) ≤ c.loop-number.number = omega arith in
    kept_end marks b (table p.header p.methods m) c.loop-number.number c.loop-number.facts.items (kept_from marks b 0 (table p.header p.methods m)) past c.loop-number.invariant
