-- The ruling is that of the question.
use Rattle.std.proofs.Common.{◌≡◌, Bool, true, List, ℕ, Option, refl, sym, not, ◌∙◌, ap, ap₂}
use Rattle.plank_pic.specs.declared.parts.Part.{Part}
use Rattle.plank_pic.specs.Frames.{Frame}
use Rattle.plank_pic.specs.Lawful.{part_fits}
use Rattle.plank_parts.specs.Numbers.{Numbers, is_moved, IsNumbering, HasAssignments}
use Rattle.plank_query.specs.declared.questions.Question.{Question}
use Rattle.plank_query.specs.Situations.{names, root, frame}
use Rattle.plank_reach.specs.declared.stepping.Stepping.{Stepping}
use Rattle.plank_reach.specs.Steps.{step_of}
use Rattle.plank_reach.specs.Kept.{is_kept_by}
use Rattle.plank_solve.specs.declared.asks.Ask.{Ask}
use Rattle.plank_solve.specs.Lists.{asks_of}
use Rattle.plank_solve.specs.Rulings.{IsAskedOf}
use Rattle.plank_solve.proofs.Rounds.{both_possible}
use Rattle.plank_solve.proofs.solver.SolverOracle.reached.Goals as goal

-- a frame of the situation's names and root
framed : (q : Question) (N : Numbers) (n : ℕ) (r : Option ℕ) → N.frame ≡ (let f : Frame = record { header = q.header.now; names = n; root = r } in f) → n ≡ names q.situation → r ≡ root q.situation
    → N.frame ≡ frame q.header.now q.situation
framed q N n r is same_names same_root = is ∙ ap₂ (λ m s. (let f : Frame = record { header = q.header.now; names = m; root = s } in f)) same_names same_root

asked_of : (q : Question) (N : Numbers) (asks : List Ask) (n : ℕ) (r : Option ℕ) (o : Option Stepping) → N.frame ≡ (let f : Frame = record { header = q.header.now; names = n; root = r } in f) → n ≡ names q.situation → r ≡ root q.situation
    → o ≡ step_of q.situation → ((part : Part) → part_fits (let f : Frame = record { header = q.header.now; names = n; root = r } in f) part ≡ true → is_moved N.table part ≡ not (is_kept_by o part))
    → IsNumbering N.frame N.table → HasAssignments N → asks ≡ asks_of q N.frame N.table → IsAskedOf q N q.situation asks
asked_of q N asks n r o is same_names same_root step moved numbered assigned listed = record {
  situation = refl;
  framed = framed q N n r is same_names same_root;
  moved = λ part fits. moved part (ap (λ D. part_fits D part) (sym is) ∙ fits) ∙ ap (λ p. not (is_kept_by p part)) step;
  numbered = numbered;
  assigned = assigned;
  listed = listed;
}

pub invariant_of-ruling-clause-pictures : goal.invariant_of-ruling-clause-pictures
invariant_of-ruling-clause-pictures c =
    both_possible c.args.question.now c.in_ok-numbering.numbering c.args.question.now.situation c.as_slice.result.now
    (asked_of c.args.question.now c.in_ok-numbering.numbering c.as_slice.result.now c.names.result c.root.result c.step_of.result c.in_ok-numbering.ensures.frame c.names.ensures c.root.ensures c.step_of.ensures
    c.in_ok-numbering.ensures.moved c.pictures.ensures.numbered c.pictures.ensures.assigned (c.as_slice.ensures.value ∙ c.in_ok-asks.ensures))

pub answers-requires : goal.answers-requires
answers-requires c = record {
  ruling = asked_of c.args.question.now c.in_ok-numbering.numbering c.as_slice.result.now c.names.result c.root.result c.step_of.result c.in_ok-numbering.ensures.frame c.names.ensures c.root.ensures c.step_of.ensures
      c.in_ok-numbering.ensures.moved c.pictures.ensures.numbered c.pictures.ensures.assigned (c.as_slice.ensures.value ∙ c.in_ok-asks.ensures);
}
