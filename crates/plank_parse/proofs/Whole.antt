-- What is read of the tokens of a whole text.
use Rattle.std.proofs.Common.{◌≡◌, ℕ, ◌<◌, Bool, true, false, not, ◌&&◌, ◌==◌, List, [], ◌∷◌, ◌++◌, length, if◌then◌else◌, refl, sym, ap, subst, append_assoc, append-nil, ◌∙◌, arith}
use Rattle.std.proofs.lemmas.Bool.{true≢false, eqb-true, and_from}
use Rattle.std.proofs.lemmas.List.{append_cancel_right}
use Rattle.plank_base.specs.declared.limits.TheConstants.{NESTING_LIMIT}
use Rattle.plank_lex.specs.Tokens.{EndsOnce, IsTokenList, kinds_of}
use Rattle.plank_lex.specs.declared.symbols.Symbol.TheVariants as symbol
use Rattle.plank_lex.specs.declared.words.Reserved.TheVariants as word
use Rattle.plank_lex.specs.declared.tokens.Token.{Token}
use Rattle.plank_lex.specs.declared.tokens.TokenKind.{TokenKind}
use Rattle.plank_lex.specs.declared.tokens.TokenKind.TheVariants as kind
use Rattle.plank_ast.specs.Spelling.{Spelling, nests_within, is_lawful}
use Rattle.plank_parse.specs.Readers.{Found, read, stopped, too_deep}
use Rattle.plank_parse.specs.Texts.{Parts, parts_spelling, reading_of}
use Rattle.plank_parse.proofs.Grammars.{class_of, Outcome, passed, halted, over, reads, then_on, read_one}
use Rattle.plank_parse.proofs.Nesting.{without_end}
use Rattle.plank_parse.proofs.Taken.{Taken}
use Rattle.plank_parse.proofs.Verdicts.{Verdict}
use Rattle.plank_parse.proofs.GrammarLaws.{Finding}
use Rattle.plank_parse.proofs.TextGrammar.{rules, text_g}
use Rattle.plank_parse.proofs.TextDecides.{text_law}
use Rattle.plank_parse.proofs.Follows.{Follow, kinds_append}
use Rattle.plank_parse.proofs.Leveled.{reading_is}
use Rattle.plank_parse.proofs.TextRules.{WholeText, text_follows}
use Rattle.plank_parse.proofs.LastToken.{end_last, all_stand}

-- what the grammar finds in tokens, before the end and with it
abbrev pub found_in : ℕ → List Token → Outcome
found_in l ts = reads rules l text_g (kinds_of ts)

abbrev pub whole_in : ℕ → List Token → Outcome
whole_in l ts = then_on (found_in l ts) (read_one 61)

abbrev pub TextVerdict : ℕ → Spelling → Outcome → Type 0
TextVerdict l ks o = Verdict (Taken rules text_g) (Finding rules l text_g) l ks o

-- the reading beside what the grammar finds
pub beside : (ts : List Token) (x : Found Parts) → reading_of ts ≡ x → Follow (whole_in 32 ts) WholeText ts x
beside ts x e = subst (λ (y : Found Parts). Follow (whole_in 32 ts) WholeText ts y) (ap (λ r. r ts) (sym reading_is) ∙ e) ((text_follows 31).at ts)

is_end : (k : TokenKind) → class_of k ≡ 61 → k ≡ kind.End
is_end kind.End e = refl
is_end (kind.Symbol symbol.OpenBrace) e = absurd (omega arith)
is_end (kind.Reserved word.Structure) e = absurd (omega arith)
is_end k e = absurd (omega arith)

-- ---- the end

end_inside : (ts : List Token) → EndsOnce ts → without_end (kinds_of ts) ≡ false
end_inside [] once = absurd once
end_inside (t ∷ []) once = ap (λ (k : TokenKind). without_end (k ∷ [])) once
end_inside (t ∷ u ∷ us) once = go (not (class_of t.kind == 61)) (end_inside (u ∷ us) once.1)
  where
    go : (b : Bool) → without_end (kinds_of (u ∷ us)) ≡ false → (b && without_end (kinds_of (u ∷ us))) ≡ false
    go true e = e
    go false e = refl

no_end_front : (front : Spelling) (ks : Spelling) → ((rest : Spelling) → without_end (front ++ rest) ≡ without_end rest) → ks ≡ front ++ [] → without_end ks ≡ true
no_end_front front ks ends e = ap without_end e ∙ ends []

-- ---- what is read

pub all_read : (tokens : List Token) (p : Parts) (rest : List Token) → IsTokenList tokens → reading_of tokens ≡ read p rest → rest ≡ []
all_read tokens p rest kept found = go (beside tokens (read p rest) found)
  where
    go : Follow (whole_in 32 tokens) WholeText tokens (read p rest) → rest ≡ []
    go v = end_last v.front rest (parts_spelling p) (subst EndsOnce v.split kept.ends_once) v.says

-- what the grammar takes before the end nests within the limit
nests_before : (ks : Spelling) (mid : Spelling) (o : Outcome) → TextVerdict 32 ks o → (rest : Spelling) → then_on o (read_one 61) ≡ passed rest → ks ≡ (mid ++ kind.End ∷ []) ++ rest → nests_within NESTING_LIMIT 0 mid ≡ true
nests_before ks mid (halted r) v rest e f = absurd (never r rest e)
  where
    never : (r rest : Spelling) → halted r ≡ passed rest → ⊥
    never r rest e = cc
nests_before ks mid (over r) v rest e f = absurd (never r rest e)
  where
    never : (r rest : Spelling) → over r ≡ passed rest → ⊥
    never r rest e = cc
nests_before ks mid (passed []) v rest e f = absurd (never [] rest e)
  where
    never : (r rest : Spelling) → halted r ≡ passed rest → ⊥
    never r rest e = cc
nests_before ks mid (passed (k ∷ r)) v rest e f = go (class_of k == 61) refl e
  where
    never : (r rest : Spelling) → halted r ≡ passed rest → ⊥
    never r rest e = cc

    same : (r rest : Spelling) → passed r ≡ passed rest → r ≡ rest
    same r rest e = cc

    fronts : (k ≡ kind.End) → r ≡ rest → mid ≡ v.front
    fronts h g = append_cancel_right mid v.front (kind.End ∷ rest)
        (sym (append_assoc mid (kind.End ∷ []) rest) ∙ (sym f ∙ (v.split ∙ ap (λ (x : Spelling). v.front ++ x) (ap (λ (own : TokenKind). own ∷ r) h ∙ ap (λ (x : Spelling). kind.End ∷ x) g))))

    go : (b : Bool) → (class_of k == 61) ≡ b → (if b then passed r else halted (k ∷ r)) ≡ passed rest → nests_within NESTING_LIMIT 0 mid ≡ true
    go false h g = absurd (never (k ∷ r) rest g)
    go true h g = ap (nests_within 32 0) (fronts (is_end k (eqb-true (class_of k) 61 h)) (same r rest g) ∙ sym (append-nil v.front)) ∙ v.kept.nests 32 0 refl []

pub lawful_parts : (tokens : List Token) (p : Parts) (rest : List Token) → IsTokenList tokens → reading_of tokens ≡ read p rest → is_lawful (parts_spelling p) ≡ true
lawful_parts tokens p rest kept found = go (beside tokens (read p rest) found)
  where
    go : Follow (whole_in 32 tokens) WholeText tokens (read p rest) → is_lawful (parts_spelling p) ≡ true
    go v = and_from _ _ (all_stand v.front rest (parts_spelling p) (subst IsTokenList v.split kept) v.says)
        (nests_before (kinds_of tokens) (parts_spelling p) (found_in 32 tokens) (text_law 32 (kinds_of tokens)) (kinds_of rest) v.same
        (ap kinds_of v.split ∙ (kinds_append v.front rest ∙ ap (λ (ks : Spelling). ks ++ kinds_of rest) v.says)))

-- a text is spelled by the tokens that are read
pub spelled_parts : (tokens : List Token) (p : Parts) (rest : List Token) → IsTokenList tokens → reading_of tokens ≡ read p rest → kinds_of tokens ≡ parts_spelling p ++ kind.End ∷ []
spelled_parts tokens p rest kept found = go (beside tokens (read p rest) found)
  where
    go : Follow (whole_in 32 tokens) WholeText tokens (read p rest) → kinds_of tokens ≡ parts_spelling p ++ kind.End ∷ []
    go v = ap kinds_of (v.split ∙ (ap (λ (ts : List Token). v.front ++ ts) (all_read tokens p rest kept found) ∙ append-nil v.front)) ∙ v.says

-- ---- where the reading stops

pub halted_is : (r rest : Spelling) → halted r ≡ halted rest → r ≡ rest
halted_is r rest e = cc

pub over_is : (r rest : Spelling) → over r ≡ over rest → r ≡ rest
over_is r rest e = cc

pub passed_no_halt : {P : Type 0} (r rest : Spelling) → passed r ≡ halted rest → P
passed_no_halt r rest e = cc

pub over_no_halt : {P : Type 0} (r rest : Spelling) → over r ≡ halted rest → P
over_no_halt r rest e = cc

pub halt_no_over : {P : Type 0} (r rest : Spelling) → halted r ≡ over rest → P
halt_no_over r rest e = cc

pub pass_no_over : {P : Type 0} (r rest : Spelling) → passed r ≡ over rest → P
pass_no_over r rest e = cc

stopped_nowhere : (ks : Spelling) (o : Outcome) → TextVerdict 32 ks o → then_on o (read_one 61) ≡ halted [] → without_end ks ≡ true
stopped_nowhere ks (halted r) v e = no_end_front v.front ks v.within.ends (v.split ∙ ap (λ (x : Spelling). v.front ++ x) (halted_is r [] e))
stopped_nowhere ks (over r) v e = over_no_halt r [] e
stopped_nowhere ks (passed []) v e = no_end_front v.front ks v.kept.ends v.split
stopped_nowhere ks (passed (k ∷ r)) v e = go (class_of k == 61) e
  where
    never : (k : TokenKind) (r : Spelling) → halted (k ∷ r) ≡ halted [] → without_end ks ≡ true
    never k r e = cc

    go : (b : Bool) → (if b then passed r else halted (k ∷ r)) ≡ halted [] → without_end ks ≡ true
    go true e = passed_no_halt r [] e
    go false e = never k r e

pub stops_at : (tokens rest : List Token) → IsTokenList tokens → reading_of tokens ≡ stopped rest → 0 < length rest
stops_at tokens (t ∷ rest) kept found = omega arith
stops_at tokens [] kept found = go (beside tokens (stopped []) found)
  where
    go : Follow (whole_in 32 tokens) WholeText tokens (stopped []) → 0 < 0
    go v = absurd (true≢false (sym (stopped_nowhere (kinds_of tokens) (found_in 32 tokens) (text_law 32 (kinds_of tokens)) v.same) ∙ end_inside tokens kept.ends_once))

deep_nowhere : (ks : Spelling) (o : Outcome) → TextVerdict 32 ks o → then_on o (read_one 61) ≡ over [] → ⊥
deep_nowhere ks (halted r) v e = halt_no_over r [] e
deep_nowhere ks (over r) v e = never v.bracket v.more (sym v.is ∙ over_is r [] e)
  where
    never : (k : TokenKind) (more : Spelling) → k ∷ more ≡ [] → ⊥
    never k more e = cc
deep_nowhere ks (passed []) v e = halt_no_over [] [] e
deep_nowhere ks (passed (k ∷ r)) v e = go (class_of k == 61) e
  where
    go : (b : Bool) → (if b then passed r else halted (k ∷ r)) ≡ over [] → ⊥
    go true e = pass_no_over r [] e
    go false e = halt_no_over (k ∷ r) [] e

pub deep_at : (tokens rest : List Token) → IsTokenList tokens → reading_of tokens ≡ too_deep rest → 0 < length rest
deep_at tokens (t ∷ rest) kept found = omega arith
deep_at tokens [] kept found = go (beside tokens (too_deep []) found)
  where
    go : Follow (whole_in 32 tokens) WholeText tokens (too_deep []) → 0 < 0
    go v = absurd (deep_nowhere (kinds_of tokens) (found_in 32 tokens) (text_law 32 (kinds_of tokens)) v.same)
