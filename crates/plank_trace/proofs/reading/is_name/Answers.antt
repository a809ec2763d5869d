-- A name is the one token of its bytes.
use Rattle.std.proofs.Common.{◌≡◌, ◌↔◌, true, List, subst}
use Rattle.plank_lex.specs.declared.tokens.Token.{Token}
use Rattle.plank_trace.specs.Cuts.{BeginsNamed}
use Rattle.plank_trace.proofs.ReadLines.{name_exact, no_name}
use Rattle.plank_trace.proofs.reading.is_name.Goals as goal

pub returns-in-Ok : goal.returns-in-Ok
returns-in-Ok c =
    let iff = subst (λ (ts : List Token). (c.begins_named.result ≡ true) ↔ BeginsNamed ts c.args.bytes.now) c.as_slice.ensures.value c.begins_named.ensures in
    name_exact c.tokens_are_those_of_parts.ensures c.args.bytes.now c.in-Ok.tokens.items c.begins_named.result c.in-Ok.ensures.exact c.in-Ok.ensures.tokens iff

pub returns-in-Err-BadByte : goal.returns-in-Err-BadByte
returns-in-Err-BadByte c =
    no_name c.tokens_are_those_of_parts.ensures c.args.bytes.now (λ tokens e. let bad = rw c.in-Err-BadByte.field-0-is at c.in-Err-BadByte.ensures.exact in absurd (cc))
