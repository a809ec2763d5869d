-- What a grammar finds at the front of tokens: a part that it takes, or the front of one, up to the token where it stops.
use Rattle.std.proofs.Common.{◌≡◌, ℕ, suc, ◌+◌, ◌≤◌, true, [], ◌∷◌, ◌++◌, length, sym, ap, subst, append_assoc, length-append, ◌∙◌, arith}
use Rattle.plank_lex.specs.declared.tokens.TokenKind.{TokenKind}
use Rattle.plank_ast.specs.Spelling.{Spelling}
use Rattle.plank_parse.proofs.Grammars.{class_of, member, openings, Outcome, passed, halted, over, Recognizer, then_on}
use Rattle.plank_parse.proofs.Nesting.{Kept, Opened, Within, kept_both, opened_after, within_after}

-- what is taken whole
abbrev pub Whole : Type 1
Whole = Spelling → Type 0

-- what is found at the front of tokens
abbrev pub Finds : Type 1
Finds = Spelling → Outcome → Type 0

-- a part is taken, and is read the same before every list that starts_in with the same token
pub record Passed (T : Whole) (F : Finds) (l : ℕ) (ks rest : Spelling) : Type 0 where
  pub front : Spelling
  pub split : ks ≡ front ++ rest
  pub taken : T front
  pub kept : Kept l front
  pub looks : (k : TokenKind) (more other : Spelling) → rest ≡ k ∷ more → F (front ++ k ∷ other) (passed (k ∷ other))

-- the tokens before the one that stops begin a part, and every part that they begin goes on otherwise
pub record Stopped (T : Whole) (F : Finds) (l : ℕ) (ks rest : Spelling) : Type 0 where
  pub front : Spelling
  pub split : ks ≡ front ++ rest
  pub completion : Spelling
  pub taken : T (front ++ completion)
  pub within : Within l front
  pub looks : (k : TokenKind) (more other : Spelling) → rest ≡ k ∷ more → F (front ++ k ∷ other) (halted (k ∷ other))

-- the tokens up to the bracket begin a part, and it is one too many
pub record Deep (T : Whole) (l : ℕ) (ks rest : Spelling) : Type 0 where
  pub front : Spelling
  pub bracket : TokenKind
  pub more : Spelling
  pub is : rest ≡ bracket ∷ more
  pub split : ks ≡ front ++ bracket ∷ more
  pub completion : Spelling
  pub taken : T (front ++ bracket ∷ completion)
  pub opened : Opened l front
  pub opening : member (class_of bracket) openings ≡ true
  pub few : l + suc (length more) ≤ length ks

abbrev pub Verdict : Whole → Finds → ℕ → Spelling → Outcome → Type 0
Verdict T F l ks (passed rest) = Passed T F l ks rest
Verdict T F l ks (halted rest) = Stopped T F l ks rest
Verdict T F l ks (over rest) = Deep T l ks rest

-- something that is taken
abbrev pub Some_taken : Whole → Type 0
Some_taken T = (ks : Spelling) × T ks

-- ---- one verdict for another

pub weaken : (T U : Whole) (F G : Finds) (l : ℕ) (ks : Spelling) → ((a : Spelling) → T a → U a) → ((front : Spelling) (k : TokenKind) (more other : Spelling) (o : Outcome) → ks ≡ front ++ k ∷ more → F (front ++ k ∷ other) o → G (front ++ k ∷ other) o) → (o : Outcome) → Verdict T F l ks o → Verdict U G l ks o
weaken T U F G l ks t f (passed rest) v = record {
  front = v.front;
  split = v.split;
  taken = t v.front v.taken;
  kept = v.kept;
  looks = λ k more other e. f v.front k more other (passed (k ∷ other)) (v.split ∙ ap (λ (r : Spelling). v.front ++ r) e) (v.looks k more other e);
}
weaken T U F G l ks t f (halted rest) v = record {
  front = v.front;
  split = v.split;
  completion = v.completion;
  taken = t (v.front ++ v.completion) v.taken;
  within = v.within;
  looks = λ k more other e. f v.front k more other (halted (k ∷ other)) (v.split ∙ ap (λ (r : Spelling). v.front ++ r) e) (v.looks k more other e);
}
weaken T U F G l ks t f (over rest) v = record {
  front = v.front;
  bracket = v.bracket;
  more = v.more;
  is = v.is;
  split = v.split;
  completion = v.completion;
  taken = t (v.front ++ v.bracket ∷ v.completion) v.taken;
  opened = v.opened;
  opening = v.opening;
  few = v.few;
}

-- ---- one part after another

-- how parts of a first and of a second kind make one of a third
pub record Joins (T U W : Whole) (F G H : Finds) (ks : Spelling) : Type 1 where
  pub join : (a b : Spelling) → T a → U b → W (a ++ b)
  pub completion : Some_taken U
  pub through : (a mid : Spelling) (o : Outcome) → T a → F (a ++ mid) (passed mid) → G mid o → H (a ++ mid) o
  pub stays : (front : Spelling) (k : TokenKind) (more other : Spelling) → ks ≡ front ++ k ∷ more → F (front ++ k ∷ other) (halted (k ∷ other)) → H (front ++ k ∷ other) (halted (k ∷ other))

-- what the first part's reading sees of the second
sees : (T U : Whole) (F : Finds) (l : ℕ) (ks mid : Spelling) (v : Passed T F l ks mid) (b : Spelling) (k : TokenKind) (more other : Spelling) → mid ≡ b ++ k ∷ more → F (v.front ++ (b ++ k ∷ other)) (passed (b ++ k ∷ other))
sees T U F l ks mid v [] k more other e = v.looks k more other e
sees T U F l ks mid v (x ∷ b) k more other e = v.looks x (b ++ k ∷ more) (b ++ k ∷ other) e

after_passed : (T U W : Whole) (F G H : Finds) (l : ℕ) (ks : Spelling) → Joins T U W F G H ks → (mid : Spelling) → Passed T F l ks mid → (o : Outcome) → Verdict U G l mid o → Verdict W H l ks o
after_passed T U W F G H l ks j mid v (passed rest) w = record {
  front = v.front ++ w.front;
  split = v.split ∙ (ap (λ (r : Spelling). v.front ++ r) w.split ∙ sym (append_assoc v.front w.front rest));
  taken = j.join v.front w.front v.taken w.taken;
  kept = kept_both l v.front w.front v.kept w.kept;
  looks = λ k more other e. subst (λ (r : Spelling). H r (passed (k ∷ other))) (sym (append_assoc v.front w.front (k ∷ other)))
      (j.through v.front (w.front ++ k ∷ other) (passed (k ∷ other)) v.taken
      (sees T U F l ks mid v w.front k more other (w.split ∙ ap (λ (r : Spelling). w.front ++ r) e)) (w.looks k more other e));
}
after_passed T U W F G H l ks j mid v (halted rest) w = record {
  front = v.front ++ w.front;
  split = v.split ∙ (ap (λ (r : Spelling). v.front ++ r) w.split ∙ sym (append_assoc v.front w.front rest));
  completion = w.completion;
  taken = subst W (sym (append_assoc v.front w.front w.completion)) (j.join v.front (w.front ++ w.completion) v.taken w.taken);
  within = within_after l v.front w.front v.kept w.within;
  looks = λ k more other e. subst (λ (r : Spelling). H r (halted (k ∷ other))) (sym (append_assoc v.front w.front (k ∷ other)))
      (j.through v.front (w.front ++ k ∷ other) (halted (k ∷ other)) v.taken
      (sees T U F l ks mid v w.front k more other (w.split ∙ ap (λ (r : Spelling). w.front ++ r) e)) (w.looks k more other e));
}
after_passed T U W F G H l ks j mid v (over rest) w = record {
  front = v.front ++ w.front;
  bracket = w.bracket;
  more = w.more;
  is = w.is;
  split = v.split ∙ (ap (λ (r : Spelling). v.front ++ r) w.split ∙ sym (append_assoc v.front w.front (w.bracket ∷ w.more)));
  completion = w.completion;
  taken = subst W (sym (append_assoc v.front w.front (w.bracket ∷ w.completion))) (j.join v.front (w.front ++ w.bracket ∷ w.completion) v.taken w.taken);
  opened = opened_after l v.front w.front v.kept w.opened;
  opening = w.opening;
  few = longer ks v.front mid (l + suc (length w.more)) v.split w.few;
}
  where
    longer : (ks a mid : Spelling) (n : ℕ) → ks ≡ a ++ mid → n ≤ length mid → n ≤ length ks
    longer ks a mid n e h = subst (λ (r : Spelling). n ≤ length r) (sym e) (omega (arith, length-append a mid))

pub sequence : (T U W : Whole) (F G H : Finds) (l : ℕ) (ks : Spelling) → Joins T U W F G H ks → (q : Recognizer) (o : Outcome) → Verdict T F l ks o → ((mid : Spelling) → Passed T F l ks mid → Verdict U G l mid (q mid)) → Verdict W H l ks (then_on o q)
sequence T U W F G H l ks j q (passed mid) v w = after_passed T U W F G H l ks j mid v (q mid) (w mid v)
sequence T U W F G H l ks j q (halted rest) v w = record {
  front = v.front;
  split = v.split;
  completion = v.completion ++ j.completion.0;
  taken = subst W (append_assoc v.front v.completion j.completion.0) (j.join (v.front ++ v.completion) j.completion.0 v.taken j.completion.1);
  within = v.within;
  looks = λ k more other e. j.stays v.front k more other (v.split ∙ ap (λ (r : Spelling). v.front ++ r) e) (v.looks k more other e);
}
sequence T U W F G H l ks j q (over rest) v w = record {
  front = v.front;
  bracket = v.bracket;
  more = v.more;
  is = v.is;
  split = v.split;
  completion = v.completion ++ j.completion.0;
  taken = subst W (append_assoc v.front (v.bracket ∷ v.completion) j.completion.0) (j.join (v.front ++ v.bracket ∷ v.completion) j.completion.0 v.taken j.completion.1);
  opened = v.opened;
  opening = v.opening;
  few = v.few;
}
