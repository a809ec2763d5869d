-- The end of a list of tokens is its last token, and every token before it may stand in a text.
use Rattle.std.proofs.Common.{rules, ◌≡◌, ◌≢◌, true, List, [], ◌∷◌, ◌++◌, refl, sym}
use Rattle.std.specs.List.{list_all, AllByRecursion}
use Rattle.plank_lex.specs.Tokens.{EndsOnce, IsRightKind, IsTokenList, kinds_of}
use Rattle.plank_lex.specs.declared.tokens.Token.{Token}
use Rattle.plank_lex.specs.declared.tokens.TokenKind.{TokenKind}
use Rattle.plank_lex.specs.declared.tokens.TokenKind.TheVariants as kind
use Rattle.plank_ast.specs.Spelling.{Spelling, may_stand}

first_of_two : {A : Type 0} (x : A) (xs : List A) (y : A) (ys : List A) → x ∷ xs ≡ y ∷ ys → x ≡ y
first_of_two x xs y ys e = cc

rest_of_two : {A : Type 0} (x : A) (xs : List A) (y : A) (ys : List A) → x ∷ xs ≡ y ∷ ys → xs ≡ ys
rest_of_two x xs y ys e = cc

none_more : (t : Token) (ts : List Token) → EndsOnce (t ∷ ts) → t.kind ≡ kind.End → ts ≡ []
none_more t [] once e = refl
none_more t (u ∷ us) once e = absurd (once.0 e)

-- where more follows, a token is not the end, and the end is behind it
after_other : (t u : Token) (us : List Token) → EndsOnce (t ∷ u ∷ us) → (t.kind ≢ kind.End) × EndsOnce (u ∷ us)
after_other t u us once = once

pub end_last : (front rest : List Token) (ks : Spelling) → EndsOnce (front ++ rest) → kinds_of front ≡ ks ++ kind.End ∷ [] → rest ≡ []
end_last [] rest [] once e = absurd (search rules)
end_last [] rest (k ∷ ks) once e = absurd (search rules)
end_last (t ∷ []) rest [] once e = none_more t rest once (first_of_two t.kind [] kind.End [] e)
end_last (t ∷ u ∷ us) rest [] once e = absurd (search rules)
end_last (t ∷ []) rest (k ∷ []) once e = absurd (search rules)
end_last (t ∷ []) rest (k ∷ l ∷ ks) once e = absurd (search rules)
end_last (t ∷ u ∷ us) rest (k ∷ ks) once e = end_last (u ∷ us) rest ks once.1 (rest_of_two t.kind (kinds_of (u ∷ us)) k (ks ++ kind.End ∷ []) e)

stands : (k : TokenKind) → IsRightKind k → k ≢ kind.End → may_stand k ≡ true
stands (kind.Symbol s) right other = refl
stands (kind.Reserved r) right other = refl
stands (kind.Name label) right other = right
stands kind.End right other = absurd (other refl)

all_before : (front rest : List Token) (ks : Spelling) → EndsOnce (front ++ rest) → AllByRecursion (λ t. IsRightKind t.kind) (front ++ rest) → kinds_of front ≡ ks ++ kind.End ∷ [] → list_all may_stand ks ≡ true
all_before front rest [] once right e = refl
all_before [] rest (k ∷ ks) once right e = absurd (search rules)
all_before (t ∷ []) rest (k ∷ []) once right e = absurd (search rules)
all_before (t ∷ []) rest (k ∷ l ∷ ks) once right e = absurd (search rules)
all_before (t ∷ u ∷ us) rest (k ∷ ks) once right e =
    let same = first_of_two t.kind (kinds_of (u ∷ us)) k (ks ++ kind.End ∷ []) e in
    rw (sym same, stands t.kind right.0 once.0)
    (all_before (u ∷ us) rest ks once.1 right.1 (rest_of_two t.kind (kinds_of (u ∷ us)) k (ks ++ kind.End ∷ []) e))

pub all_stand : (front rest : List Token) (ks : Spelling) → IsTokenList (front ++ rest) → kinds_of front ≡ ks ++ kind.End ∷ [] → list_all may_stand ks ≡ true
all_stand front rest ks kept e = all_before front rest ks kept.ends_once kept.names e
