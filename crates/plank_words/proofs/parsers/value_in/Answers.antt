use Rattle.std.proofs.Common.{◌≡◌, ap, sym, ◌∙◌}
use Rattle.std.specs.Prelude.{Some}
use Rattle.clap.specs.Words.{app_of, found_of, first_of}
use Rattle.clap.proofs.WalkLemmas.{first_value-rows}
use Rattle.plank_words.proofs.Values.{is_simple_too, value_taken, value_faulty}
use Rattle.plank_words.proofs.parsers.value_in.Goals as goal

pub returns-in-Ok-clause-value : goal.returns-in-Ok-clause-value
returns-in-Ok-clause-value c =
    let rows = c.in-Ok.ensures.matches (is_simple_too (app_of c.args.parser) c.requires) in
    value_taken (app_of c.args.parser) c.args.id.now _ (c.in-Ok.ensures.kinds c.requires)
    ∙ ap Some (ap (first_of c.args.id.now) (sym rows.0) ∙ sym (first_value-rows (found_of c.in-Ok.matches) c.args.id.now) ∙ sym c.get_str.ensures)

pub returns : goal.returns
returns c = record {
  value = tt;
  refused = λ usage. value_faulty (app_of c.args.parser) c.args.id.now _ c.in-Err.error (c.in-Err.ensures.kinds c.requires) (λ memory. c.in_default.not-OutOfMemory (c.kind.ensures ∙ memory));
}
