-- Readers that keep the places of their tokens, and how they compose.
use Rattle.std.proofs.Common.{◌≡◌, ℕ, zero, suc, Bool, true, false, List, [], ◌∷◌, ◌++◌, Some, None, length, refl, sym, ap, subst, append_assoc, ◌∙◌, if◌then◌else◌}
use Rattle.std.specs.List.{flat_map}
use Rattle.plank_base.specs.declared.places.Place.{Place}
use Rattle.plank_lex.specs.declared.symbols.Symbol.{Symbol}
use Rattle.plank_lex.specs.declared.words.Reserved.{Reserved}
use Rattle.plank_lex.specs.declared.tokens.Token.{Token}
use Rattle.plank_lex.specs.declared.tokens.TokenKind.{TokenKind}
use Rattle.plank_lex.specs.declared.tokens.TokenKind.TheVariants as kind
use Rattle.plank_parse.specs.Readers.{Found, read, stopped, too_deep, Reader, and_then, ◌>>=◌, ◌<$>◌, pure, is_kind, begins, expected, word, symbol, name, name_by, by_kind, taken, optional, many, many_within, behind, blocked, opening}
use Rattle.plank_parse.specs.Placing.{Places, at, bare, StandAt, if_any, name_places}

-- the tokens stand at these places
pub record Stand (ps : Places) (ts : List Token) : Type 0 where
  pub by : StandAt ps ts

joined : (xs ys : Places) (a b : List Token) → StandAt xs a → StandAt ys b → StandAt (xs ++ ys) (a ++ b)
joined [] ys [] b h k = k
joined [] ys (t ∷ a) b h k = absurd h
joined (None ∷ xs) ys [] b h k = absurd h
joined (Some p ∷ xs) ys [] b h k = absurd h
joined (None ∷ xs) ys (t ∷ a) b h k = joined xs ys a b h k
joined (Some p ∷ xs) ys (t ∷ a) b h k = (h.0, joined xs ys a b h.1 k)

pub join : {xs ys : Places} {a b : List Token} → Stand xs a → Stand ys b → Stand (xs ++ ys) (a ++ b)
join {xs} {ys} {a} {b} h k = record { by = joined xs ys a b h.by k.by }

pub moved : {xs ys : Places} {a : List Token} → xs ≡ ys → Stand xs a → Stand ys a
moved {xs} {ys} {a} e h = subst (λ (zs : Places). Stand zs a) e h

-- ---- what is read, and of which tokens

pub record Took {A : Type 0} (Q : A → List Token → Type 0) (ts : List Token) (a : A) (rest : List Token) : Type 0 where
  pub front : List Token
  pub split : ts ≡ front ++ rest
  pub says : Q a front

abbrev pub Finds : {A : Type 0} → (A → List Token → Type 0) → List Token → Found A → Type 0
Finds Q ts (read a rest) = Took Q ts a rest
Finds Q ts (stopped rest) = Unit {0}
Finds Q ts (too_deep rest) = Unit {0}

pub record Keeps {A : Type 0} (r : Reader A) (Q : A → List Token → Type 0) : Type 0 where
  pub of : (ts : List Token) → Finds Q ts (r ts)

-- a part stands at its places
abbrev pub At : {A : Type 0} → (A → Places) → A → List Token → Type 0
At places a ts = Stand (places a) ts

-- ---- steps

behind_front : {B : Type 0} (Q : B → List Token → Type 0) (ts front rest : List Token) → ts ≡ front ++ rest → (found : Found B) → Finds (λ b more. Q b (front ++ more)) rest found → Finds Q ts found
behind_front Q ts front rest e (read b left) v = record {
  front = front ++ v.front;
  split = e ∙ (ap (λ (r : List Token). front ++ r) v.split ∙ sym (append_assoc front v.front left));
  says = v.says;
}
behind_front Q ts front rest e (stopped left) v = tt
behind_front Q ts front rest e (too_deep left) v = tt

step_at : {A B : Type 0} (s : A → Reader B) (P : A → List Token → Type 0) (Q : B → List Token → Type 0) (ts : List Token) (x : Found A) → Finds P ts x
    → ((a : A) (front : List Token) → P a front → Keeps (s a) (λ b more. Q b (front ++ more))) → Finds Q ts (and_then x s)
step_at s P Q ts (read a rest) v g = behind_front Q ts v.front rest v.split (s a rest) ((g a v.front v.says).of rest)
step_at s P Q ts (stopped rest) v g = tt
step_at s P Q ts (too_deep rest) v g = tt

pub step : {A B : Type 0} {r : Reader A} {s : A → Reader B} {P : A → List Token → Type 0} {Q : B → List Token → Type 0} → Keeps r P
    → ((a : A) (front : List Token) → P a front → Keeps (s a) (λ b more. Q b (front ++ more))) → Keeps (r >>= s) Q
step {A} {B} {r} {s} {P} {Q} f g = record { of = λ ts. step_at s P Q ts (r ts) (f.of ts) g }

finish_at : {A B : Type 0} (f : A → B) (P : A → List Token → Type 0) (Q : B → List Token → Type 0) (ts : List Token) (x : Found A) → Finds P ts x
    → ((a : A) (front : List Token) → P a front → Q (f a) front) → Finds Q ts (and_then x (λ a. pure (f a)))
finish_at f P Q ts (read a rest) v g = record { front = v.front; split = v.split; says = g a v.front v.says }
finish_at f P Q ts (stopped rest) v g = tt
finish_at f P Q ts (too_deep rest) v g = tt

-- the last step, and what is made of all
pub finish : {A B : Type 0} {r : Reader A} {P : A → List Token → Type 0} {Q : B → List Token → Type 0} (f : A → B) → Keeps r P
    → ((a : A) (front : List Token) → P a front → Q (f a) front) → Keeps (r >>= (λ a. pure (f a))) Q
finish {A} {B} {r} {P} {Q} f h g = record { of = λ ts. finish_at f P Q ts (r ts) (h.of ts) g }

weaker_at : {A : Type 0} (P Q : A → List Token → Type 0) (ts : List Token) (x : Found A) → Finds P ts x → ((a : A) (front : List Token) → P a front → Q a front) → Finds Q ts x
weaker_at P Q ts (read a rest) v g = record { front = v.front; split = v.split; says = g a v.front v.says }
weaker_at P Q ts (stopped rest) v g = tt
weaker_at P Q ts (too_deep rest) v g = tt

-- the last step, whose part is the whole
pub weaker : {A : Type 0} {r : Reader A} {P Q : A → List Token → Type 0} → Keeps r P → ((a : A) (front : List Token) → P a front → Q a front) → Keeps r Q
weaker {A} {r} {P} {Q} h g = record { of = λ ts. weaker_at P Q ts (r ts) (h.of ts) g }

-- ---- one token

expected_by : (Q : Place → List Token → Type 0) → ((t : Token) → Q t.place (t ∷ [])) → (k : TokenKind) → Keeps (expected k) Q
expected_by Q h k = record { of = go }
  where
    go : (ts : List Token) → Finds Q ts (expected k ts)
    go [] = tt
    go (t ∷ ts) = one (is_kind k t.kind)
      where
        one : (b : Bool) → Finds Q (t ∷ ts) (if b then read t.place ts else stopped (t ∷ ts))
        one true = record { front = t ∷ []; split = refl; says = h t }
        one false = tt

pub word_at : (r : Reserved) → Keeps (word r) (At at)
word_at r = expected_by (At at) (λ t. record { by = (refl, tt) }) (kind.Reserved r)

pub symbol_at : (s : Symbol) → Keeps (symbol s) (At at)
symbol_at s = expected_by (At at) (λ t. record { by = (refl, tt) }) (kind.Symbol s)

pub bare_token : (k : TokenKind) → Keeps (expected k) (At (λ p. bare))
bare_token k = expected_by (At (λ p. bare)) (λ t. record { by = tt }) k

pub bare_word : (r : Reserved) → Keeps (word r) (At (λ p. bare))
bare_word r = bare_token (kind.Reserved r)

pub bare_symbol : (s : Symbol) → Keeps (symbol s) (At (λ p. bare))
bare_symbol s = bare_token (kind.Symbol s)

pub name_at : Keeps name (At name_places)
name_at = record { of = go }
  where
    one : (t : Token) (ts : List Token) (k : TokenKind) → Finds (At name_places) (t ∷ ts) (name_by t k ts)
    one t ts (kind.Symbol s) = tt
    one t ts (kind.Reserved r) = tt
    one t ts (kind.Name label) = record { front = t ∷ []; split = refl; says = record { by = (refl, tt) } }
    one t ts kind.End = tt

    go : (ts : List Token) → Finds (At name_places) ts (name ts)
    go [] = tt
    go (t ∷ ts) = one t ts t.kind

abbrev pub token : TokenKind → Place → ℕ → Token
token k p n = record { kind = k; place = p; length = n }

pub dispatch : {A : Type 0} (d : TokenKind → Reader A) (Q : A → List Token → Type 0)
    → ((k : TokenKind) (p : Place) (n : ℕ) (ts : List Token) → Finds Q (token k p n ∷ ts) (d k (token k p n ∷ ts))) → Keeps (by_kind d) Q
dispatch {A} d Q arm = record { of = go }
  where
    go : (ts : List Token) → Finds Q ts (by_kind d ts)
    go [] = tt
    go (t ∷ ts) = arm t.kind t.place t.length ts

-- one token is taken, and its place kept
pub take_one : {A : Type 0} (f : Place → A) (places : A → Places) (t : Token) (ts : List Token) → places (f t.place) ≡ at t.place → Finds (At places) (t ∷ ts) ((f <$> taken) (t ∷ ts))
take_one f places t ts e = record { front = t ∷ []; split = refl; says = moved (sym e) (record { by = (refl, tt) }) }

pub taken_at : Keeps taken (At at)
taken_at = record { of = go }
  where
    go : (ts : List Token) → Finds (At at) ts (taken ts)
    go [] = tt
    go (t ∷ ts) = record { front = t ∷ []; split = refl; says = record { by = (refl, tt) } }

-- ---- absent parts, lists and brackets

pub pure_at : {A : Type 0} (a : A) (Q : A → List Token → Type 0) → Q a [] → Keeps (pure a) Q
pure_at a Q h = record { of = λ ts. record { front = []; split = refl; says = h } }

pub none : Stand [] []
none = record { by = tt }

pub chosen : {A : Type 0} (test : TokenKind → Bool) (r s : Reader A) (Q : A → List Token → Type 0) → Keeps r Q → Keeps s Q → Keeps (λ ts. if begins test ts then r ts else s ts) Q
chosen test r s Q f g = record { of = λ ts. go ts (begins test ts) }
  where
    go : (ts : List Token) (b : Bool) → Finds Q ts (if b then r ts else s ts)
    go ts true = f.of ts
    go ts false = g.of ts

pub optional_at : {A : Type 0} {r : Reader A} {places : A → Places} (k : TokenKind) → Keeps r (At places) → Keeps (optional k r) (At (if_any places))
optional_at {A} {r} {places} k f =
    chosen (is_kind k) (Some <$> r) (pure None) (At (if_any places)) (finish Some f (λ a front h. h)) (pure_at None (At (if_any places)) none)

within_at : {A : Type 0} (n : ℕ) (test : TokenKind → Bool) (r : Reader A) (places : A → Places) → Keeps r (At places) → Keeps (many_within n test r) (At (flat_map places))
unfolding many_within
within_at zero test r places f = pure_at [] (At (flat_map places)) none
within_at (suc n) test r places f =
    chosen test (r >>= (λ part. many_within n test r >>= (λ parts. pure (part ∷ parts)))) (pure []) (At (flat_map places))
    (step f (λ part front h. finish (λ parts. part ∷ parts) (within_at n test r places f) (λ parts more k. join h k)))
    (pure_at [] (At (flat_map places)) none)

pub many_at : {A : Type 0} {r : Reader A} {places : A → Places} (test : TokenKind → Bool) → Keeps r (At places) → Keeps (many test r) (At (flat_map places))
unfolding many
many_at {A} {r} {places} test f = record { of = λ ts. (within_at (length ts) test r places f).of ts }

pub behind_at : {A : Type 0} {r : Reader A} {places : A → Places} (k : TokenKind) → Keeps r (At places) → Keeps (behind k r) (At (λ a. bare ++ places a))
behind_at k f = step (bare_token k) (λ p front h. weaker f (λ a more g. join h g))

pub blocked_at : {A : Type 0} (bracket : Symbol) (Q : A → List Token → Type 0) → Keeps (blocked bracket) Q
blocked_at bracket Q = record { of = λ ts. go ts (begins (is_kind (kind.Symbol bracket)) ts) }
  where
    go : (ts : List Token) (b : Bool) → Finds Q ts (if b then too_deep ts else stopped ts)
    go ts true = tt
    go ts false = tt

pub opening_bare : (levels : ℕ) (bracket : Symbol) → Keeps (opening levels bracket) (At (λ p. bare))
opening_bare zero bracket = blocked_at bracket (At (λ p. bare))
opening_bare (suc levels) bracket = bare_symbol bracket
