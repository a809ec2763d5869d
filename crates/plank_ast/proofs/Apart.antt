-- Spellings in which no `!` stands before `=` or `==`, and how they are put together.
use Rattle.std.proofs.Common.{◌≡◌, Bool, true, false, not, ◌&&◌, List, [], ◌∷◌, ◌++◌, Option, Some, None, refl, sym, subst, append_assoc}
use Rattle.std.specs.List.{flat_map}
use Rattle.std.specs.Option.{option_map_or}
use Rattle.plank_lex.specs.declared.symbols.Symbol.{Symbol}
use Rattle.plank_lex.specs.declared.symbols.Symbol.TheVariants as symbol
use Rattle.plank_lex.specs.declared.words.Reserved.{Reserved}
use Rattle.plank_lex.specs.declared.tokens.TokenKind.{TokenKind}
use Rattle.plank_lex.specs.declared.tokens.TokenKind.TheVariants as kind
use Rattle.plank_ast.specs.Spelling.{Spelling, mark, keyword, each_after}

abbrev pub begins_equal : TokenKind → Bool
begins_equal (kind.Symbol symbol.Assign) = true
begins_equal (kind.Symbol symbol.Equal) = true
begins_equal k = false

abbrev pub is_not : TokenKind → Bool
is_not (kind.Symbol symbol.Not) = true
is_not k = false

-- whether no `!` stands before `=` or `==`; the first test says whether the token before these is `!`
abbrev pub keeps_apart : Bool → Spelling → Bool
keeps_apart after_not [] = true
keeps_apart after_not (k ∷ ks) = not (after_not && begins_equal k) && keeps_apart (is_not k) ks

-- put before tokens that keep `!` apart, these keep it apart too
pub record Apart (ks : Spelling) : Type 0 where
  pub before : (rest : Spelling) → keeps_apart false rest ≡ true → keeps_apart false (ks ++ rest) ≡ true

pub none : Apart []
none = record { before = λ rest h. h }

pub one : (k : TokenKind) → is_not k ≡ false → Apart (k ∷ [])
one k e = record { before = λ rest h. subst (λ (b : Bool). keeps_apart b rest ≡ true) (sym e) h }

pub sign : (s : Symbol) → is_not (kind.Symbol s) ≡ false → Apart (mark s)
sign s e = one (kind.Symbol s) e

pub reserved : (r : Reserved) → Apart (keyword r)
reserved r = one (kind.Reserved r) refl

pub both : {a b : Spelling} → Apart a → Apart b → Apart (a ++ b)
both {a} {b} first second = record {
  before = λ rest h. subst (λ (ks : Spelling). keeps_apart false ks ≡ true) (sym (append_assoc a b rest)) (first.before (b ++ rest) (second.before rest h));
}

pub perhaps : {A : Type 0} (f : A → Spelling) → ((x : A) → Apart (f x)) → (o : Option A) → Apart (option_map_or f o [])
perhaps f each None = none
perhaps f each (Some x) = each x

pub every : {A : Type 0} (f : A → Spelling) → ((x : A) → Apart (f x)) → (xs : List A) → Apart (flat_map f xs)
every f each [] = none
every f each (x ∷ xs) = both (each x) (every f each xs)

pub every_after : {A : Type 0} (s : Symbol) → is_not (kind.Symbol s) ≡ false → (f : A → Spelling) → ((x : A) → Apart (f x)) → (xs : List A) → Apart (each_after (kind.Symbol s) f xs)
every_after s e f each xs = every (λ x. kind.Symbol s ∷ f x) (λ x. both (sign s e) (each x)) xs
