-- The keys that are present after calls of a set, call by call.
use Rattle.std.proofs.Common.{◌≡◌, ℕ, ◌+◌, ◌-◌, ◌<◌, Bool, ◌&&◌, List, [], ◌∷◌, ◌++◌, length, get_or, take, drop, refl, sym, ap, ◌∙◌, arith, ℤ, pos, false, Option}
use Rattle.std.specs.Option.{unwrap_or}
use Rattle.plank_base.specs.declared.operations.Op.TheVariants.{Contains}
use Rattle.std.specs.Prelude.{map}
use Rattle.std.proofs.lemmas.List.{map-append, take_more, take_all, drop_more}
use Rattle.plank_hist.specs.declared.calls.SeqCall.{SeqCall}
use Rattle.plank_hist.specs.Objects.{Object, Finished, replayed, legal_from}
use Rattle.plank_hist.specs.Sets.{set_of_keys, finished, holds_after}

replayed-append : {State Input Answer : Type 0} (object : Object State Input Answer) (state : State) (xs ys : List (Finished Input Answer))
    → replayed object state (xs ++ ys) ≡ replayed object (replayed object state xs) ys
replayed-append object state [] ys = refl
replayed-append object state (x ∷ xs) ys = replayed-append object (object.after state x.input) xs ys

-- one more call
holds_after-push : (calls : List SeqCall) (call : SeqCall) → holds_after (calls ++ call ∷ []) ≡ set_of_keys.after (holds_after calls) (call.op, call.key)
holds_after-push calls call =
    ap (λ all. replayed set_of_keys set_of_keys.first all) (map-append finished calls (call ∷ [])) ∙ replayed-append set_of_keys set_of_keys.first (map finished calls) (finished call ∷ [])

pub holds_after-more : (calls : List SeqCall) (i : ℕ) (d : SeqCall) → i < length calls
    → holds_after (take (i + 1) calls) ≡ set_of_keys.after (holds_after (take i calls)) ((get_or calls i d).op, (get_or calls i d).key)
holds_after-more calls i d lt = ap holds_after (take_more calls i d lt) ∙ holds_after-push (take i calls) (get_or calls i d)

-- the last call
pub holds_after-last : (calls : List SeqCall) (d : SeqCall) → 0 < length calls
    → holds_after calls ≡ set_of_keys.after (holds_after (take (length calls - 1) calls)) ((get_or calls (length calls - 1) d).op, (get_or calls (length calls - 1) d).key)
holds_after-last calls d lt =
    ap holds_after (sym (take_all (length calls - 1 + 1) calls (omega arith))) ∙ holds_after-more calls (length calls - 1) d (omega arith)

-- whether the rest of the calls is legal after the first i of them
abbrev pub rest_legal : List SeqCall → ℕ → Bool
rest_legal calls i = legal_from set_of_keys (holds_after (take i calls)) (map finished (drop i calls))

pub rest_legal-more : (calls : List SeqCall) (i : ℕ) (d : SeqCall) → i < length calls
    → rest_legal calls i ≡ (set_of_keys.allows (holds_after (take i calls)) ((get_or calls i d).op, (get_or calls i d).key) (get_or calls i d).answer && rest_legal calls (i + 1))
rest_legal-more calls i d lt =
    ap (λ rest. legal_from set_of_keys (holds_after (take i calls)) (map finished rest)) (drop_more calls i d lt)
    ∙ ap (λ state. set_of_keys.allows (holds_after (take i calls)) ((get_or calls i d).op, (get_or calls i d).key) (get_or calls i d).answer && legal_from set_of_keys state (map finished (drop (i + 1) calls))) (sym (holds_after-more calls i d lt))

-- what Rattle reads past the end of a list of calls
abbrev pub no_call : SeqCall
no_call = record { op = Contains; key = pos 0; answer = false }

abbrev pub last_call : List SeqCall → SeqCall
last_call calls = get_or calls (length calls - 1) no_call

-- a key's presence, where the last call settles it or leaves it
pub holds_after-settled : (calls : List SeqCall) (key : ℤ) (settled : Option Bool) → 0 < length calls
    → ((holds : ℤ → Bool) → set_of_keys.after holds ((last_call calls).op, (last_call calls).key) key ≡ unwrap_or settled (holds key))
    → holds_after calls key ≡ unwrap_or settled (holds_after (take (length calls - 1) calls) key)
holds_after-settled calls key settled lt spec =
    ap (λ holds. holds key) (holds_after-last calls no_call lt) ∙ spec (holds_after (take (length calls - 1) calls))

-- one more call is allowed, or is not
pub rest_legal-step : (calls : List SeqCall) (i : ℕ) (allowed : Bool) → i < length calls
    → allowed ≡ set_of_keys.allows (holds_after (take i calls)) ((get_or calls i no_call).op, (get_or calls i no_call).key) (get_or calls i no_call).answer
    → rest_legal calls i ≡ (allowed && rest_legal calls (i + 1))
rest_legal-step calls i allowed lt is =
    rest_legal-more calls i no_call lt ∙ ap (λ b. b && rest_legal calls (i + 1)) (sym is)
