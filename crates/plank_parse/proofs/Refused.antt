-- The token where the reading stops is the first with which the tokens so far begin no text; the bracket that is too
-- many ends tokens that begin one.
use Rattle.std.proofs.Common.{◌≡◌, ℕ, suc, ◌≤◌, ◌+◌, Bool, true, false, ◌&&◌, ◌==◌, List, [], ◌∷◌, ◌++◌, map, length, if◌then◌else◌, refl, sym, ap, subst, append_assoc, append-nil, ◌∙◌, arith}
use Rattle.std.specs.Prelude.{nat_le}
use Rattle.std.proofs.lemmas.Bool.{true≢false}
use Rattle.std.proofs.lemmas.List.{append_cancel_right}
use Rattle.plank_base.specs.declared.places.Place.{Place}
use Rattle.plank_base.specs.declared.limits.TheConstants.{NESTING_LIMIT}
use Rattle.plank_lex.specs.Places.{start}
use Rattle.plank_lex.specs.Tokens.{kinds_of}
use Rattle.plank_lex.specs.declared.tokens.Token.{Token}
use Rattle.plank_lex.specs.declared.tokens.TokenKind.{TokenKind}
use Rattle.plank_lex.specs.declared.tokens.TokenKind.TheVariants as kind
use Rattle.plank_ast.specs.Spelling.{Spelling, nests_within}
use Rattle.plank_parse.specs.Readers.{Found, read, stopped, too_deep}
use Rattle.plank_parse.specs.Texts.{Parts, parts_spelling, reading_of}
use Rattle.plank_parse.specs.Grammar.{BeginsText, IsUnexpected, IsTooDeep}
use Rattle.plank_parse.proofs.Grammars.{class_of, member, openings, Outcome, passed, halted, over, reads, then_on, read_one}
use Rattle.plank_parse.proofs.Nesting.{opens}
use Rattle.plank_parse.proofs.Taken.{Taken, Reads}
use Rattle.plank_parse.proofs.TextGrammar.{rules, text_g}
use Rattle.plank_parse.proofs.TextDecides.{text_law, end_ends_text}
use Rattle.plank_parse.proofs.Follows.{Follow, Halting, kinds_append}
use Rattle.plank_parse.proofs.Leveled.{text_at}
use Rattle.plank_parse.proofs.TextRules.{WholeText, text_follows}
use Rattle.plank_parse.proofs.Whole.{TextVerdict, found_in, whole_in, beside, halted_is, over_is, passed_no_halt, over_no_halt, halt_no_over, pass_no_over}
use Rattle.plank_parse.proofs.TextsTaken.{text_taken}

-- ---- what the grammar takes is a text

-- tokens of these kinds
abbrev tokens_with : Spelling → List Token
tokens_with ks = map (λ k. record { kind = k; place = start; length = 0 }) ks

kinds_with : (ks : Spelling) → kinds_of (tokens_with ks) ≡ ks
kinds_with [] = refl
kinds_with (k ∷ ks) = ap (λ (r : Spelling). k ∷ r) (kinds_with ks)

-- a text with these tokens
abbrev pub Spelled : Spelling → Type 0
Spelled ks = (p : Parts) × (parts_spelling p ≡ ks)

-- with levels enough no bracket is too many
passes : (l : ℕ) (ks : Spelling) (o : Outcome) → length ks ≤ l → TextVerdict l ks o → Reads o (kind.End ∷ []) → o ≡ passed (kind.End ∷ [])
passes l ks (passed r) e v h = ap passed h
passes l ks (halted r) e v h = absurd h
passes l ks (over r) e v h = absurd (few l (length v.more) (length ks) e v.few)
  where
    few : (l m n : ℕ) → n ≤ l → l + suc m ≤ n → ⊥
    few l m n e f = omega arith

nil_kinds : (rest : List Token) → [] ≡ kinds_of rest → rest ≡ []
nil_kinds [] e = refl
nil_kinds (t ∷ rest) e = absurd (never t.kind (kinds_of rest) e)
  where
    never : (k : TokenKind) (more : Spelling) → [] ≡ k ∷ more → ⊥
    never k more e = cc

read_text : (ks : Spelling) (ts : List Token) (o : Outcome) (x : Found Parts) → kinds_of ts ≡ ks ++ kind.End ∷ [] → o ≡ passed [] → Follow o WholeText ts x → Spelled ks
read_text ks ts o (read p rest) e f v = (p, append_cancel_right (parts_spelling p) ks (kind.End ∷ []) (sym v.says ∙ (sym whole ∙ e)))
  where
    same : (r : Spelling) → passed [] ≡ passed r → [] ≡ r
    same r e = cc

    whole : kinds_of ts ≡ kinds_of v.front
    whole = ap kinds_of (v.split ∙ (ap (λ (r : List Token). v.front ++ r) (nil_kinds rest (same (kinds_of rest) (sym f ∙ v.same))) ∙ append-nil v.front))
read_text ks ts o (stopped rest) e f v = passed_no_halt [] (kinds_of rest) (sym f ∙ v.same)
read_text ks ts o (too_deep rest) e f v = absurd (pass_no_over [] (kinds_of rest) (sym f ∙ v.same))

complete : (ks : Spelling) → Taken rules text_g ks → Spelled ks
complete ks taken = read_text ks ts (whole_in (suc l) ts) (text_at l ts) kinds found ((text_follows l).at ts)
  where
    l : ℕ
    l = length (ks ++ kind.End ∷ [])

    ts : List Token
    ts = tokens_with (ks ++ kind.End ∷ [])

    kinds : kinds_of ts ≡ ks ++ kind.End ∷ []
    kinds = kinds_with (ks ++ kind.End ∷ [])

    room : (n : ℕ) → n ≤ suc n
    room n = omega arith

    found : whole_in (suc l) ts ≡ passed []
    found = ap (λ (r : Spelling). then_on (reads rules (suc l) text_g r) (read_one 61)) kinds
        ∙ ap (λ (o : Outcome). then_on o (read_one 61))
        (passes (suc l) (ks ++ kind.End ∷ []) (reads rules (suc l) text_g (ks ++ kind.End ∷ [])) (room l) (text_law (suc l) (ks ++ kind.End ∷ [])) (taken.reading (suc l) kind.End [] end_ends_text))

-- tokens that are taken with a completion begin a text
begins_with : (ks completion : Spelling) → Taken rules text_g (ks ++ completion) → BeginsText ks
begins_with ks completion taken = (text.0, completion ++ kind.End ∷ [], sym (append_assoc ks completion (kind.End ∷ [])) ∙ ap (λ (r : Spelling). r ++ kind.End ∷ []) (sym text.1))
  where
    text : Spelled (ks ++ completion)
    text = complete (ks ++ completion) taken

-- ---- the first token that does not go on

-- where every list that goes on with the token is read otherwise than a text, the tokens with it begin none
begins_none : (front : Spelling) (k : TokenKind) → ((other : Spelling) → Reads (reads rules 32 text_g (front ++ k ∷ other)) (kind.End ∷ []) → ⊥) → BeginsText (front ++ k ∷ []) → ⊥
begins_none front k otherwise b = otherwise b.1 (subst (λ (ks : Spelling). Reads (reads rules 32 text_g ks) (kind.End ∷ [])) (sym b.2 ∙ append_assoc front (k ∷ []) b.1) ((text_taken b.0).reading 32 kind.End [] end_ends_text))

-- what is known of the tokens before the one that stops
pub record StopsAt (front : Spelling) (k : TokenKind) : Type 0 where
  pub begins : BeginsText front
  pub fails : BeginsText (front ++ k ∷ []) → ⊥
  pub within : nests_within NESTING_LIMIT 0 front ≡ true

stops_in : (ks front : Spelling) (k : TokenKind) (rest : Spelling) (o : Outcome) → TextVerdict 32 ks o → ks ≡ front ++ k ∷ rest → then_on o (read_one 61) ≡ halted (k ∷ rest) → StopsAt front k
stops_in ks front k rest (over r) v split e = over_no_halt r (k ∷ rest) e
stops_in ks front k rest (halted r) v split e = record {
  begins = subst BeginsText same (begins_with v.front v.completion v.taken);
  fails = begins_none front k (λ other h. subst (λ (o : Outcome). Reads o (kind.End ∷ [])) (ap (λ (f : Spelling). reads rules 32 text_g (f ++ k ∷ other)) (sym same) ∙ v.looks k rest other at) h);
  within = ap (nests_within 32 0) (sym same) ∙ v.within.nests 32 0 refl;
}
  where
    at : r ≡ k ∷ rest
    at = halted_is r (k ∷ rest) e

    same : v.front ≡ front
    same = append_cancel_right v.front front (k ∷ rest) (ap (λ (x : Spelling). v.front ++ x) (sym at) ∙ (sym v.split ∙ split))
stops_in ks front k rest (passed []) v split e = never k rest e
  where
    never : {P : Type 0} (k : TokenKind) (rest : Spelling) → halted [] ≡ halted (k ∷ rest) → P
    never k rest e = cc
stops_in ks front k rest (passed (own ∷ r)) v split e = go (class_of own == 61) refl e
  where
    heads : (own k : TokenKind) (r rest : Spelling) → own ∷ r ≡ k ∷ rest → own ≡ k
    heads own k r rest e = cc

    no_end : (other : Spelling) → (class_of own == 61) ≡ false → own ≡ k → k ∷ other ≡ kind.End ∷ [] → ⊥
    no_end other f g h = true≢false (sym (ap (λ (x : TokenKind). class_of x == 61) (g ∙ heads k kind.End other [] h)) ∙ f)

    stop : (class_of own == 61) ≡ false → own ∷ r ≡ k ∷ rest → StopsAt front k
    stop f at = record {
      begins = subst BeginsText same (begins_with v.front [] (subst (λ (x : Spelling). Taken rules text_g x) (sym (append-nil v.front)) v.taken));
      fails = begins_none front k (λ other h. no_end other f (heads own k r rest at) (subst (λ (o : Outcome). Reads o (kind.End ∷ [])) (ap (λ (x : Spelling). reads rules 32 text_g (x ++ k ∷ other)) (sym same) ∙ v.looks k rest other at) h));
      within = ap (nests_within 32 0) (sym same ∙ sym (append-nil v.front)) ∙ v.kept.nests 32 0 refl [];
    }
      where
        same : v.front ≡ front
        same = append_cancel_right v.front front (k ∷ rest) (ap (λ (x : Spelling). v.front ++ x) (sym at) ∙ (sym v.split ∙ split))

    go : (b : Bool) → (class_of own == 61) ≡ b → (if b then passed r else halted (own ∷ r)) ≡ halted (k ∷ rest) → StopsAt front k
    go true f g = passed_no_halt r (k ∷ rest) g
    go false f g = stop f (halted_is (own ∷ r) (k ∷ rest) g)

pub unexpected : (tokens : List Token) (t : Token) (rest : List Token) (p : Place) → reading_of tokens ≡ stopped (t ∷ rest) → p ≡ t.place → IsUnexpected tokens p
unexpected tokens t rest p found at = go (beside tokens (stopped (t ∷ rest)) found)
  where
    go : Halting (whole_in 32 tokens) (halted (t.kind ∷ kinds_of rest)) tokens (t ∷ rest) → IsUnexpected tokens p
    go v = record { front = v.front; token = t; rest = rest; split = v.split; at = at; begins = stops.begins; fails = stops.fails; within = stops.within }
      where
        stops : StopsAt (kinds_of v.front) t.kind
        stops = stops_in (kinds_of tokens) (kinds_of v.front) t.kind (kinds_of rest) (found_in 32 tokens) (text_law 32 (kinds_of tokens)) (ap kinds_of v.split ∙ kinds_append v.front (t ∷ rest)) v.same

-- ---- the bracket that is too many

pub record DeepAt (front : Spelling) (k : TokenKind) : Type 0 where
  pub begins : BeginsText (front ++ k ∷ [])
  pub within : nests_within NESTING_LIMIT 0 front ≡ true
  pub deeper : nests_within NESTING_LIMIT 0 (front ++ k ∷ []) ≡ false

past_limit : (k : TokenKind) → member (class_of k) openings ≡ true → nests_within 32 32 (k ∷ []) ≡ false
past_limit k h = ap (λ (n : ℕ). nat_le n 32 && nests_within 32 n []) (opens k h 32)

deep_in : (ks front : Spelling) (k : TokenKind) (rest : Spelling) (o : Outcome) → TextVerdict 32 ks o → ks ≡ front ++ k ∷ rest → then_on o (read_one 61) ≡ over (k ∷ rest) → DeepAt front k
deep_in ks front k rest (halted r) v split e = absurd (halt_no_over r (k ∷ rest) e)
deep_in ks front k rest (passed []) v split e = absurd (halt_no_over [] (k ∷ rest) e)
deep_in ks front k rest (passed (own ∷ r)) v split e = go (class_of own == 61) e
  where
    go : (b : Bool) → (if b then passed r else halted (own ∷ r)) ≡ over (k ∷ rest) → DeepAt front k
    go true f = absurd (pass_no_over r (k ∷ rest) f)
    go false f = absurd (halt_no_over (own ∷ r) (k ∷ rest) f)
deep_in ks front k rest (over r) v split e = record {
  begins = begins_with (front ++ k ∷ []) v.completion (subst (λ (x : Spelling). Taken rules text_g x) (again v.completion) v.taken);
  within = ap (nests_within 32 0) (sym same ∙ sym (append-nil v.front)) ∙ v.opened.nests 32 0 refl [];
  deeper = ap (nests_within 32 0) (ap (λ (x : Spelling). x ++ k ∷ []) (sym same)) ∙ (v.opened.nests 32 0 refl (k ∷ []) ∙ past_limit k (subst (λ (x : TokenKind). member (class_of x) openings ≡ true) bracket v.opening));
}
  where
    heads : (own k : TokenKind) (r rest : Spelling) → own ∷ r ≡ k ∷ rest → own ≡ k
    heads own k r rest e = cc

    tails : (own k : TokenKind) (r rest : Spelling) → own ∷ r ≡ k ∷ rest → r ≡ rest
    tails own k r rest e = cc

    at : v.bracket ∷ v.more ≡ k ∷ rest
    at = sym v.is ∙ over_is r (k ∷ rest) e

    bracket : v.bracket ≡ k
    bracket = heads v.bracket k v.more rest at

    same : v.front ≡ front
    same = append_cancel_right v.front front (k ∷ rest) (ap (λ (x : Spelling). v.front ++ x) (sym at) ∙ (sym v.split ∙ split))

    again : (c : Spelling) → v.front ++ v.bracket ∷ c ≡ (front ++ k ∷ []) ++ c
    again c = ap (λ (x : Spelling). x ++ v.bracket ∷ c) same ∙ (ap (λ (own : TokenKind). front ++ own ∷ c) bracket ∙ sym (append_assoc front (k ∷ []) c))

pub deep : (tokens : List Token) (t : Token) (rest : List Token) (p : Place) → reading_of tokens ≡ too_deep (t ∷ rest) → p ≡ t.place → IsTooDeep tokens p
deep tokens t rest p found at = go (beside tokens (too_deep (t ∷ rest)) found)
  where
    go : Halting (whole_in 32 tokens) (over (t.kind ∷ kinds_of rest)) tokens (t ∷ rest) → IsTooDeep tokens p
    go v = record { front = v.front; token = t; rest = rest; split = v.split; at = at; begins = stops.begins; within = stops.within; deeper = stops.deeper }
      where
        stops : DeepAt (kinds_of v.front) t.kind
        stops = deep_in (kinds_of tokens) (kinds_of v.front) t.kind (kinds_of rest) (found_in 32 tokens) (text_law 32 (kinds_of tokens)) (ap kinds_of v.split ∙ kinds_append v.front (t ∷ rest)) v.same
