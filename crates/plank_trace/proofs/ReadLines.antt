-- What is found of a line's parts is what is written so.
use Rattle.std.proofs.Common.{◌≡◌, ◌≢◌, ◌↔◌, ℕ, Bool, true, false, List, [], ◌∷◌, ◌++◌, codes, length, slice_get, Option, Some, None, Ok, refl, sym, ap, ◌∙◌, subst, append-nil}
use Rattle.std.specs.Fmt.{signed_decimal}
use Rattle.std.specs.List.{AllByRecursion}
use Rattle.std.proofs.lemmas.Bool.{false_from_ne_true}
use Rattle.plank_base.proofs.Digits.{same_tests}
use Rattle.plank_lex.specs.Spelling.{is_name}
use Rattle.plank_lex.specs.Places.{start, place_after}
use Rattle.plank_lex.specs.Kinds.{name_of}
use Rattle.plank_lex.specs.Tokens.{tokens_of, IsTokenList, IsRightKind, end_at}
use Rattle.plank_lex.specs.Parts.{token, IsCut, TokensAreThoseOfParts}
use Rattle.plank_lex.specs.declared.tokens.Token.{Token}
use Rattle.plank_lex.specs.declared.tokens.TokenKind.{TokenKind}
use Rattle.plank_lex.specs.declared.tokens.TokenKind.TheVariants as kind
use Rattle.plank_trace.specs.declared.lines.Line.{Line}
use Rattle.plank_trace.specs.declared.parts.Parts.{Parts}
use Rattle.plank_trace.specs.Schedules.{blank, lacks, thread_text, line_text, IsLine, IsRead}
use Rattle.plank_trace.specs.Cuts.{IsCallOf, AreBehind, IsCutAtBlank, AreParts, BeginsNamed, IsGoRead, IsCallRead}
use Rattle.plank_trace.proofs.Cutting.{first_cut, not_lacked}
use Rattle.plank_trace.proofs.LineTexts.{thread_lacks, name_lacks, go_no_call}

-- ---- parts

pub other_word : (bytes word rest : List ℕ) → bytes ≡ word ++ blank ∷ rest → lacks blank word ≡ true → (word ≡ codes "call" → ⊥) → (m k : List ℕ) → IsCallOf bytes m k → ⊥
other_word bytes word rest e alone other m k of =
    other (first_cut blank word rest (codes "call") (m ++ blank ∷ k) alone refl (sym e ∙ of.whole)).0

pub one_part_behind : (bytes word rest : List ℕ) → bytes ≡ word ++ blank ∷ rest → lacks blank word ≡ true → lacks blank rest ≡ true → (m k : List ℕ) → IsCallOf bytes m k → ⊥
one_part_behind bytes word rest e alone none m k of =
    let same = (first_cut blank word rest (codes "call") (m ++ blank ∷ k) alone refl (sym e ∙ of.whole)).1 in
    not_lacked blank m k (subst (λ (bs : List ℕ). lacks blank bs ≡ true) same none)

pub parts_from : (bytes first behind : List ℕ) (parts : Parts) → IsCutAtBlank bytes first behind → AreBehind first behind parts → AreParts bytes parts
parts_from bytes first behind (Parts.Go thread) cut are =
    subst (λ (bs : List ℕ). IsCutAtBlank bytes bs (codes "go")) (sym are.0) (subst (λ (bs : List ℕ). IsCutAtBlank bytes first bs) are.1 cut)
parts_from bytes first behind (Parts.Call thread method key) cut are =
    (behind, subst (λ (bs : List ℕ). IsCutAtBlank bytes bs behind) (sym are.0) cut, are.1)
parts_from bytes first behind Parts.Other cut are = λ f b other.
    let same : behind ≡ b = (first_cut blank first behind f b cut.alone other.alone (sym cut.whole ∙ other.whole)).1 in
    subst (λ (bs : List ℕ). (bs ≢ codes "go") × ((m k : List ℕ) → IsCallOf bs m k → ⊥)) same are

-- ---- names

label_of : (k : TokenKind) (label : List ℕ) → Some label ≡ name_of k → k ≡ kind.Name label
label_of (kind.Symbol s) label e = absurd (cc)
label_of (kind.Reserved r) label e = absurd (cc)
label_of (kind.Name own) label e = let same : own ≡ label = cc in ap (λ (bs : List ℕ). kind.Name bs) same
label_of kind.End label e = absurd (cc)

same_label : (a b : List ℕ) → kind.Name a ≡ kind.Name b → a ≡ b
same_label a b e = let both : Some a ≡ Some b = ap name_of e in cc

pub begins : (tokens : List Token) (first : Token) (label bytes : List ℕ) (b : Bool) → slice_get tokens 0 ≡ Some first → Some label ≡ name_of first.kind → (b ≡ true → label ≡ bytes) → (label ≡ bytes → b ≡ true) → (b ≡ true) ↔ BeginsNamed tokens bytes
begins tokens first label bytes b at named to from =
    let is = label_of first.kind label named in (
      λ holds. (first, at, is ∙ ap (λ (bs : List ℕ). kind.Name bs) (to holds)),
      λ begun.
          let same : begun.0 ≡ first = let both = sym begun.1 ∙ at in cc in
          from (same_label label bytes (sym is ∙ ap (λ (t : Token). t.kind) (sym same) ∙ begun.2)),
    )

named_head : (tokens : List Token) (bytes : List ℕ) → AllByRecursion (λ (t : Token). IsRightKind t.kind) tokens → BeginsNamed tokens bytes → is_name bytes ≡ true
named_head [] bytes names begun = absurd (let at = begun.1 in cc)
named_head (t ∷ ts) bytes names begun =
    let same : t ≡ begun.0 = let at = begun.1 in cc in
    subst IsRightKind (ap (λ (x : Token). x.kind) same ∙ begun.2) names.0

only_token : List ℕ → List Token
only_token bytes = (record { kind = kind.Name bytes; place = start; length = length bytes }) ∷ end_at (place_after start bytes) ∷ []

name_cut : (bytes : List ℕ) → is_name bytes ≡ true → IsCut start bytes (only_token bytes)
unfolding only_token
name_cut bytes h = record {
  parts = token (kind.Name bytes) bytes ∷ [];
  whole = append-nil bytes;
  each = ((refl, h, tt), tt);
  listed = refl;
}

name_tokens : TokensAreThoseOfParts → (bytes : List ℕ) → is_name bytes ≡ true → tokens_of bytes ≡ Ok (only_token bytes)
name_tokens law bytes h = (law bytes (only_token bytes)).1 (name_cut bytes h)

name_begins : TokensAreThoseOfParts → (bytes : List ℕ) (tokens : List Token) → tokens_of bytes ≡ Ok tokens → is_name bytes ≡ true → BeginsNamed tokens bytes
unfolding only_token
name_begins law bytes tokens e h =
    let same : only_token bytes ≡ tokens = let both = sym (name_tokens law bytes h) ∙ e in cc in
    subst (λ (ts : List Token). BeginsNamed ts bytes) same (record { kind = kind.Name bytes; place = start; length = length bytes }, refl, refl)

pub name_exact : TokensAreThoseOfParts → (bytes : List ℕ) (tokens : List Token) (b : Bool) → tokens_of bytes ≡ Ok tokens → IsTokenList tokens → (b ≡ true) ↔ BeginsNamed tokens bytes → b ≡ is_name bytes
name_exact law bytes tokens b e list iff =
    same_tests b (is_name bytes) (λ h. named_head tokens bytes list.names (iff.0 h)) (λ h. iff.1 (name_begins law bytes tokens e h))

pub no_name : TokensAreThoseOfParts → (bytes : List ℕ) → ((tokens : List Token) → tokens_of bytes ≡ Ok tokens → ⊥) → false ≡ is_name bytes
no_name law bytes none = sym (false_from_ne_true (is_name bytes) (λ h. none (only_token bytes) (name_tokens law bytes h)))

-- ---- lines

pub go_read : (bytes thread : List ℕ) → IsCutAtBlank bytes thread (codes "go") → (found : Option Line) → IsGoRead thread found → IsRead IsLine line_text bytes found
go_read bytes thread cut None none = refuse
  where
    refuse : (l : Line) → IsLine l → bytes ≢ line_text l
    refuse (Line.Go t) is e =
        none t is (first_cut blank thread (codes "go") (thread_text t) (codes "go") cut.alone (thread_lacks blank t is refl) (sym cut.whole ∙ e)).0
    refuse (Line.Call t m k) is e =
        go_no_call (blank ∷ (m ++ blank ∷ signed_decimal k))
        (first_cut blank thread (codes "go") (thread_text t) (codes "call" ++ blank ∷ (m ++ blank ∷ signed_decimal k)) cut.alone (thread_lacks blank t is.0 refl) (sym cut.whole ∙ e)).1
go_read bytes thread cut (Some line) read =
    subst (λ (l : Line). IsLine l × (bytes ≡ line_text l)) (sym read.3) (read.1, cut.whole ∙ ap (λ (bs : List ℕ). bs ++ blank ∷ codes "go") read.2)

pub call_read : (bytes thread behind method key : List ℕ) → IsCutAtBlank bytes thread behind → IsCallOf behind method key → (found : Option Line) → IsCallRead thread method key found → IsRead IsLine line_text bytes found
call_read bytes thread behind method key cut of None none = refuse
  where
    refuse : (l : Line) → IsLine l → bytes ≢ line_text l
    refuse (Line.Go t) is e =
        let same = (first_cut blank thread behind (thread_text t) (codes "go") cut.alone (thread_lacks blank t is refl) (sym cut.whole ∙ e)).1 in
        go_no_call (blank ∷ (method ++ blank ∷ key)) (sym same ∙ of.whole)
    refuse (Line.Call t m k) is e =
        let outer = first_cut blank thread behind (thread_text t) (codes "call" ++ blank ∷ (m ++ blank ∷ signed_decimal k)) cut.alone (thread_lacks blank t is.0 refl) (sym cut.whole ∙ e) in
        let word = (first_cut blank (codes "call") (method ++ blank ∷ key) (codes "call") (m ++ blank ∷ signed_decimal k) refl refl (sym of.whole ∙ outer.1)).1 in
        let inner = first_cut blank method key m (signed_decimal k) of.apart (name_lacks blank m refl is.1) word in
        none t k (record {
          is_thread = is.0;
          thread_is = outer.0;
          named = subst (λ (bs : List ℕ). is_name bs ≡ true) (sym inner.0) is.1;
          fits = is.2;
          key_is = inner.1;
        })
call_read bytes thread behind method key cut of (Some line) read =
    let are = read.2 in
    subst (λ (l : Line). IsLine l × (bytes ≡ line_text l)) (sym read.3) (
      (are.is_thread, are.named, are.fits),
      cut.whole
          ∙ ap (λ (bs : List ℕ). bs ++ blank ∷ behind) are.thread_is
          ∙ ap (λ (bs : List ℕ). thread_text read.0 ++ blank ∷ bs) of.whole
          ∙ ap (λ (bs : List ℕ). thread_text read.0 ++ blank ∷ (codes "call" ++ blank ∷ (method ++ blank ∷ bs))) are.key_is,
    )

pub other_read : (bytes : List ℕ) → AreParts bytes Parts.Other → (l : Line) → IsLine l → bytes ≢ line_text l
other_read bytes are (Line.Go t) is e =
    (are (thread_text t) (codes "go") (record { whole = e; alone = thread_lacks blank t is refl })).0 refl
other_read bytes are (Line.Call t m k) is e =
    (are (thread_text t) (codes "call" ++ blank ∷ (m ++ blank ∷ signed_decimal k)) (record { whole = e; alone = thread_lacks blank t is.0 refl })).1
    m (signed_decimal k) (record { whole = refl; apart = name_lacks blank m refl is.1 })
