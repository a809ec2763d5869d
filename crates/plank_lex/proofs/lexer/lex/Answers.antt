-- Each iteration reads one lexeme, and the list is whole where nothing is left.
use Rattle.std.proofs.Common.{◌<◌, length, sym, subst, arith, true-eqb, false-eqb}
use Rattle.plank_lex.specs.Tokens.{IsTokenList}
use Rattle.plank_lex.proofs.LoopSteps.{read_none, read_stops, read_ends, read_more}
use Rattle.plank_lex.proofs.Reading.{found_stands}
use Rattle.plank_lex.proofs.TokenLists.{tokens_of_listed}
use Rattle.plank_lex.proofs.lexer.lex.Goals as goal

pub loop-rest-init : goal.loop-rest-init
loop-rest-init c = read_none c.args.text.now c.new-tokens.result.items c.new-tokens.ensures.items

-- no lexeme is at the front of the rest
pub returns-in_default-clause-exact : goal.returns-in_default-clause-exact
returns-in_default-clause-exact c =
    read_stops _ _ _ c.loop-rest.rest.now c.loop-rest.invariant (omega (arith, false-eqb (length c.loop-rest.rest.now) 0 c.loop-rest-test.ensures)) (sym c.in_default.ensures)

pub split_at-requires : goal.split_at-requires
split_at-requires c = (found_stands c.loop-rest.rest.now c.in-Some.found (sym c.in-Some.ensures)).within

-- a lexeme has at least one byte
pub loop-rest-smaller : goal.loop-rest-smaller
loop-rest-smaller c =
    let smaller : length c.split_at.result.1.now < length c.loop-rest.rest.now = omega (arith, c.split_at.ensures.back_len, (found_stands c.loop-rest.rest.now c.in-Some.found (sym c.in-Some.ensures)).some) in
    smaller

pub loop-rest-preserved : goal.loop-rest-preserved
loop-rest-preserved c =
    read_more _ _ _ _ _ c.loop-rest.rest.now _ _ c.in-Some.found c.loop-rest.invariant (sym c.in-Some.ensures) c.split_at.ensures.front c.split_at.ensures.back c.in_ok-push_lexeme.ensures c.moved-place.ensures

pub returns-clause-tokens : goal.returns-clause-tokens
returns-clause-tokens c =
    let ended = true-eqb (length c.loop-rest.rest.now) 0 c.loop-rest-test.ensures in
    subst IsTokenList (sym c.in_ok-push.ensures) (tokens_of_listed c.args.text.now _ (read_ends _ _ _ c.loop-rest.rest.now c.loop-rest.invariant ended))
