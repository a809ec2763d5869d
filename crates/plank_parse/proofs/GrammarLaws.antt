-- A grammar in which the next token decides has a verdict on every list of tokens.
use Rattle.std.proofs.Common.{◌≡◌, ℕ, zero, suc, ◌+◌, ◌≤◌, Bool, true, false, not, ◌&&◌, ◌||◌, ◌==◌, List, [], ◌∷◌, ◌++◌, length, if◌then◌else◌, refl, sym, ap, subst, append_assoc, length-append, ◌∙◌, arith}
use Rattle.std.proofs.lemmas.Bool.{true≢false, false≢true, eqb-true, not-true}
use Rattle.plank_lex.specs.declared.tokens.TokenKind.{TokenKind}
use Rattle.plank_ast.specs.Spelling.{Spelling}
use Rattle.plank_parse.proofs.Grammars.{class_of, member, disjoint, starts_in, Grammar, one, nothing, ahead, both, either, many, group, Inside, Rules, nullable, firsts, goes_on, openings, closings, end, decides, Outcome, passed, halted, over, Recognizer, then_on, read_one, read_many, reads}
use Rattle.plank_parse.proofs.Nesting.{Within, kept_none, kept_within, kept_one, kept_group, opened_group, within_group, opened_none}
use Rattle.plank_parse.proofs.Taken.{Taken, begins_as, taken_nothing, taken_ahead, taken_one, taken_both, taken_left, taken_right, Repeated, taken_many, no_repeat, repeat, taken_group}
use Rattle.plank_parse.proofs.Verdicts.{Verdict, Finds, Some_taken, weaken, sequence}

abbrev pub Finding : Rules → ℕ → Grammar → Finds
Finding rules l g ks o = reads rules l g ks ≡ o

abbrev pub Law : Rules → ℕ → Grammar → Type 0
Law rules l g = (ks : Spelling) → Verdict (Taken rules g) (Finding rules l g) l ks (reads rules l g ks)

-- ---- small facts

none_is : {P : Type 0} (k : TokenKind) (more : Spelling) → [] ≡ k ∷ more → P
none_is k more e = cc

head_of : (x k : TokenKind) (ks more : Spelling) → x ∷ ks ≡ k ∷ more → x ≡ k
head_of x k ks more e = cc

within_none : (l : ℕ) → Within l []
within_none l = kept_within l [] (kept_none l)

-- lists that begin with the same token
same_begin : (set : List ℕ) (front : Spelling) (k : TokenKind) (more other : Spelling) → starts_in set (front ++ k ∷ other) ≡ starts_in set (front ++ k ∷ more)
same_begin set [] k more other = refl
same_begin set (x ∷ front) k more other = refl

if_is : (b c : Bool) (x y : Outcome) → b ≡ c → (if b then x else y) ≡ (if c then x else y)
if_is b c x y e = ap (λ (t : Bool). if t then x else y) e

-- ---- one token

is_plain : (own k : TokenKind) → class_of own ≡ class_of k → not (member (class_of k) (openings ++ closings ++ end ∷ [])) ≡ true → member (class_of own) (openings ++ closings ++ end ∷ []) ≡ false
is_plain own k e d = subst (λ (n : ℕ). member n (openings ++ closings ++ end ∷ []) ≡ false) (sym e) (not-true (member (class_of k) (openings ++ closings ++ end ∷ [])) d)

pub one_law : (rules : Rules) (l : ℕ) (k : TokenKind) → decides rules (one k) ≡ true → Law rules l (one k)
one_law rules l k d [] = record {
  front = [];
  split = refl;
  completion = k ∷ [];
  taken = taken_one rules k k refl;
  within = within_none l;
  looks = λ next more other e. none_is next more e;
}
one_law rules l k d (x ∷ ks) = go (class_of x == class_of k) refl
  where
    go : (b : Bool) → (class_of x == class_of k) ≡ b → Verdict (Taken rules (one k)) (Finding rules l (one k)) l (x ∷ ks) (if b then passed ks else halted (x ∷ ks))
    go true e = record {
      front = x ∷ [];
      split = refl;
      taken = taken_one rules k x (eqb-true (class_of x) (class_of k) e);
      kept = kept_one l x (is_plain x k (eqb-true (class_of x) (class_of k) e) d);
      looks = λ next more other f. if_is (class_of x == class_of k) true (passed (next ∷ other)) (halted (x ∷ next ∷ other)) e;
    }
    go false e = record {
      front = [];
      split = refl;
      completion = k ∷ [];
      taken = taken_one rules k k refl;
      within = within_none l;
      looks = λ next more other f. if_is (class_of next == class_of k) false (passed other) (halted (next ∷ other)) (ap (λ (y : TokenKind). class_of y == class_of k) (sym (head_of x next ks more f)) ∙ e);
    }

pub nothing_law : (rules : Rules) (l : ℕ) → Law rules l nothing
nothing_law rules l ks = record { front = []; split = refl; taken = taken_nothing rules; kept = kept_none l; looks = λ next more other e. refl }

pub ahead_law : (rules : Rules) (l : ℕ) → Law rules l ahead
ahead_law rules l [] = record {
  front = [];
  split = refl;
  completion = [];
  taken = taken_ahead rules;
  within = within_none l;
  looks = λ next more other e. none_is next more e;
}
ahead_law rules l (x ∷ ks) = record { front = []; split = refl; taken = taken_ahead rules; kept = kept_none l; looks = λ next more other e. refl }

-- ---- one after another, and a choice

pub both_law : (rules : Rules) (l : ℕ) (g h : Grammar) → disjoint (goes_on g) (firsts h) ≡ true → Some_taken (Taken rules h) → Law rules l g → Law rules l h → Law rules l (both g h)
both_law rules l g h d rest first second ks =
    sequence (Taken rules g) (Taken rules h) (Taken rules (both g h)) (Finding rules l g) (Finding rules l h) (Finding rules l (both g h)) l ks
    (record {
      join = λ a b ta tb. taken_both rules g h a b d ta tb;
      completion = rest;
      through = λ a mid o ta e f. ap (λ (s : Outcome). then_on s (reads rules l h)) e ∙ f;
      stays = λ front k more other split e. ap (λ (s : Outcome). then_on s (reads rules l h)) e;
    })
    (reads rules l h) (reads rules l g ks) (first ks) (λ mid v. second mid)

pub either_law : (rules : Rules) (l : ℕ) (g h : Grammar) → not (nullable g) ≡ true → disjoint (firsts g) (firsts h) ≡ true → Law rules l g → Law rules l h → Law rules l (either g h)
either_law rules l g h n d first second ks = go (starts_in (firsts g) ks) refl
  where
    go : (b : Bool) → starts_in (firsts g) ks ≡ b → Verdict (Taken rules (either g h)) (Finding rules l (either g h)) l ks (if b then reads rules l g ks else reads rules l h ks)
    go true e = weaken (Taken rules g) (Taken rules (either g h)) (Finding rules l g) (Finding rules l (either g h)) l ks (λ a ta. taken_left rules g h a n ta)
        (λ front k more other o split f. if_is (starts_in (firsts g) (front ++ k ∷ other)) true (reads rules l g (front ++ k ∷ other)) (reads rules l h (front ++ k ∷ other)) (same_begin (firsts g) front k more other ∙ (ap (starts_in (firsts g)) (sym split) ∙ e)) ∙ f)
        (reads rules l g ks) (first ks)
    go false e = weaken (Taken rules h) (Taken rules (either g h)) (Finding rules l h) (Finding rules l (either g h)) l ks (λ a ta. taken_right rules g h a d ta)
        (λ front k more other o split f. if_is (starts_in (firsts g) (front ++ k ∷ other)) false (reads rules l g (front ++ k ∷ other)) (reads rules l h (front ++ k ∷ other)) (same_begin (firsts g) front k more other ∙ (ap (starts_in (firsts g)) (sym split) ∙ e)) ∙ f)
        (reads rules l h ks) (second ks)

-- ---- repeated parts

-- what is found in so many turns that they are enough
abbrev pub Finding_all : Rules → ℕ → Grammar → Finds
Finding_all rules l g ks o = (turns : ℕ) → length ks ≤ turns → read_many turns (firsts g) (reads rules l g) ks ≡ o

idle : (turns : ℕ) (set : List ℕ) (q : Recognizer) (ks : Spelling) → starts_in set ks ≡ false → read_many turns set q ks ≡ passed ks
idle zero set q ks e = refl
idle (suc turns) set q ks e = if_is (starts_in set ks) false (then_on (q ks) (read_many turns set q)) (passed ks) e

turn : (turns : ℕ) (set : List ℕ) (q : Recognizer) (ks : Spelling) (s : Outcome) → starts_in set ks ≡ true → q ks ≡ s → read_many (suc turns) set q ks ≡ then_on s (read_many turns set q)
turn turns set q ks s e f = if_is (starts_in set ks) true (then_on (q ks) (read_many turns set q)) (passed ks) e ∙ ap (λ (o : Outcome). then_on o (read_many turns set q)) f

repeat_through : (rules : Rules) (l : ℕ) (g : Grammar) → not (nullable g) ≡ true → (a mid : Spelling) (o : Outcome) → Taken rules g a → reads rules l g (a ++ mid) ≡ passed mid → Finding_all rules l g mid o → Finding_all rules l g (a ++ mid) o
repeat_through rules l g n [] mid o ta e f turns enough = absurd (true≢false (sym ta.first ∙ not-true (nullable g) n))
repeat_through rules l g n (x ∷ a) mid o ta e f zero enough = absurd (omega (arith, enough))
repeat_through rules l g n (x ∷ a) mid o ta e f (suc turns) enough = turn turns (firsts g) (reads rules l g) ((x ∷ a) ++ mid) (passed mid) ta.first e ∙ f turns (fewer a mid turns enough)
  where
    fewer : (p q : Spelling) (turns : ℕ) → suc (length (p ++ q)) ≤ suc turns → length q ≤ turns
    fewer p q turns e = omega (arith, length-append p q)

repeat_stays : (rules : Rules) (l : ℕ) (g : Grammar) (ks front : Spelling) (k : TokenKind) (more other : Spelling) → starts_in (firsts g) ks ≡ true → ks ≡ front ++ k ∷ more → reads rules l g (front ++ k ∷ other) ≡ halted (k ∷ other) → Finding_all rules l g (front ++ k ∷ other) (halted (k ∷ other))
repeat_stays rules l g ks front k more other b split e zero enough = absurd (none front other enough)
  where
    none : (p q : Spelling) → length (p ++ k ∷ q) ≤ zero → ⊥
    none p q e = omega (arith, length-append p (k ∷ q))
repeat_stays rules l g ks front k more other b split e (suc turns) enough =
    turn turns (firsts g) (reads rules l g) (front ++ k ∷ other) (halted (k ∷ other)) (same_begin (firsts g) front k more other ∙ (ap (starts_in (firsts g)) (sym split) ∙ b)) e

shorter : (rules : Rules) (g : Grammar) (front ks mid : Spelling) (turns : ℕ) → not (nullable g) ≡ true → Taken rules g front → ks ≡ front ++ mid → length ks ≤ suc turns → length mid ≤ turns
shorter rules g [] ks mid turns n t split enough = absurd (true≢false (sym t.first ∙ not-true (nullable g) n))
shorter rules g (x ∷ front) ks mid turns n t split enough = less front mid turns (subst (λ (r : Spelling). length r ≤ suc turns) split enough)
  where
    less : (p q : Spelling) (turns : ℕ) → suc (length (p ++ q)) ≤ suc turns → length q ≤ turns
    less p q turns e = omega (arith, length-append p q)

no_room : (x : TokenKind) (ks : Spelling) → suc (length ks) ≤ zero → ⊥
no_room x ks e = omega arith

repeated_law : (rules : Rules) (l : ℕ) (g : Grammar) → not (nullable g) ≡ true → disjoint (goes_on g) (firsts g) ≡ true → Law rules l g → (turns : ℕ) (ks : Spelling) → length ks ≤ turns → Verdict (Repeated rules g) (Finding_all rules l g) l ks (read_many turns (firsts g) (reads rules l g) ks)
repeated_law rules l g n d law zero [] enough = record { front = []; split = refl; taken = no_repeat rules g; kept = kept_none l; looks = λ next more other e. none_is next more e }
repeated_law rules l g n d law zero (x ∷ ks) enough = absurd (no_room x ks enough)
repeated_law rules l g n d law (suc turns) ks enough = go (starts_in (firsts g) ks) refl (λ mid small. repeated_law rules l g n d law turns mid small)
  where
    go : (b : Bool) → starts_in (firsts g) ks ≡ b → ((mid : Spelling) → length mid ≤ turns → Verdict (Repeated rules g) (Finding_all rules l g) l mid (read_many turns (firsts g) (reads rules l g) mid)) → Verdict (Repeated rules g) (Finding_all rules l g) l ks (if b then then_on (reads rules l g ks) (read_many turns (firsts g) (reads rules l g)) else passed ks)
    go true e later = sequence (Taken rules g) (Repeated rules g) (Repeated rules g) (Finding rules l g) (Finding_all rules l g) (Finding_all rules l g) l ks
        (record {
          join = λ a b ta tb. repeat rules g a b n d ta tb;
          completion = ([], no_repeat rules g);
          through = λ a mid o ta f h. repeat_through rules l g n a mid o ta f h;
          stays = λ front k more other split f. repeat_stays rules l g ks front k more other e split f;
        })
        (read_many turns (firsts g) (reads rules l g)) (reads rules l g ks) (law ks) (λ mid v. later mid (shorter rules g v.front ks mid turns n v.taken v.split enough))
    go false e later = record {
      front = [];
      split = refl;
      taken = no_repeat rules g;
      kept = kept_none l;
      looks = λ next more other f many_turns small. idle many_turns (firsts g) (reads rules l g) (next ∷ other) (same_begin (firsts g) [] next more other ∙ (ap (starts_in (firsts g)) (sym f) ∙ e));
    }

pub many_law : (rules : Rules) (l : ℕ) (g : Grammar) → not (nullable g) ≡ true → disjoint (goes_on g) (firsts g) ≡ true → Law rules l g → Law rules l (many g)
many_law rules l g n d law ks =
    weaken (Repeated rules g) (Taken rules (many g)) (Finding_all rules l g) (Finding rules l (many g)) l ks (λ a r. taken_many rules g a r)
    (λ front k more other o split f. f (length (front ++ k ∷ other)) (same_length (front ++ k ∷ other)))
    (reads rules l (many g) ks) (repeated_law rules l g n d law (length ks) ks (same_length ks))
  where
    same_length : (r : Spelling) → length r ≤ length r
    same_length r = omega arith

-- ---- brackets

is_opening : (own k : TokenKind) (set : List ℕ) → (class_of own == class_of k) ≡ true → member (class_of k) set ≡ true → member (class_of own) set ≡ true
is_opening own k set e h = subst (λ (n : ℕ). member n set ≡ true) (sym (eqb-true (class_of own) (class_of k) e)) h

pub deep_law : (rules : Rules) (opening : TokenKind) (inner : Inside) (closing : TokenKind) → member (class_of opening) openings ≡ true → disjoint (goes_on (rules inner)) (class_of closing ∷ []) ≡ true → Some_taken (Taken rules (rules inner)) → Law rules zero (group opening inner closing)
deep_law rules opening inner closing o d rest [] = record {
  front = [];
  split = refl;
  completion = opening ∷ (rest.0 ++ closing ∷ []);
  taken = taken_group rules opening inner closing opening closing rest.0 refl refl d rest.1;
  within = within_none zero;
  looks = λ next more other e. none_is next more e;
}
deep_law rules opening inner closing o d rest (x ∷ ks) = go (class_of x == class_of opening) refl
  where
    go : (b : Bool) → (class_of x == class_of opening) ≡ b → Verdict (Taken rules (group opening inner closing)) (Finding rules zero (group opening inner closing)) zero (x ∷ ks) (if b || false then over (x ∷ ks) else halted (x ∷ ks))
    go true e = record {
      front = [];
      bracket = x;
      more = ks;
      is = refl;
      split = refl;
      completion = rest.0 ++ closing ∷ [];
      taken = taken_group rules opening inner closing x closing rest.0 (eqb-true (class_of x) (class_of opening) e) refl d rest.1;
      opened = opened_none;
      opening = is_opening x opening openings e o;
      few = same_length (suc (length ks));
    }
      where
        same_length : (n : ℕ) → zero + n ≤ n
        same_length n = omega arith
    go false e = record {
      front = [];
      split = refl;
      completion = opening ∷ (rest.0 ++ closing ∷ []);
      taken = taken_group rules opening inner closing opening closing rest.0 refl refl d rest.1;
      within = within_none zero;
      looks = λ next more other f. if_is (class_of next == class_of opening || false) false (over (next ∷ other)) (halted (next ∷ other)) (ap (λ (y : TokenKind). class_of y == class_of opening || false) (sym (head_of x next ks more f)) ∙ ap (λ (b : Bool). b || false) e);
    }

open_group : (rules : Rules) (l : ℕ) (opening : TokenKind) (inner : Inside) (closing : TokenKind) (x : TokenKind) (ks : Spelling) (s : Outcome) → (class_of x == class_of opening) ≡ true → reads rules l (rules inner) ks ≡ s → reads rules (suc l) (group opening inner closing) (x ∷ ks) ≡ then_on s (read_one (class_of closing))
open_group rules l opening inner closing x ks s e f =
    ap (λ (o : Outcome). then_on o (λ r. then_on (reads rules l (rules inner) r) (read_one (class_of closing)))) (if_is (class_of x == class_of opening) true (passed ks) (halted (x ∷ ks)) e)
    ∙ ap (λ (o : Outcome). then_on o (read_one (class_of closing))) f

-- what a group finds by what its inside finds
inside_law : (rules : Rules) (l : ℕ) (opening : TokenKind) (inner : Inside) (closing : TokenKind) → member (class_of opening) openings ≡ true → member (class_of closing) closings ≡ true → disjoint (goes_on (rules inner)) (class_of closing ∷ []) ≡ true → (x : TokenKind) (ks : Spelling) → (class_of x == class_of opening) ≡ true → (s : Outcome) → Verdict (Taken rules (rules inner)) (Finding rules l (rules inner)) l ks s → Verdict (Taken rules (group opening inner closing)) (Finding rules (suc l) (group opening inner closing)) (suc l) (x ∷ ks) (then_on s (read_one (class_of closing)))
inside_law rules l opening inner closing o c d x ks e (passed []) v = record {
  front = x ∷ v.front;
  split = ap (λ (r : Spelling). x ∷ r) v.split;
  completion = closing ∷ [];
  taken = taken_group rules opening inner closing x closing v.front (eqb-true (class_of x) (class_of opening) e) refl d v.taken;
  within = within_group l x v.front (is_opening x opening openings e o) (kept_within l v.front v.kept);
  looks = λ next more other f. none_is next more f;
}
inside_law rules l opening inner closing o c d x ks e (passed (y ∷ rest)) v = close (class_of y == class_of closing) refl
  where
    close : (b : Bool) → (class_of y == class_of closing) ≡ b → Verdict (Taken rules (group opening inner closing)) (Finding rules (suc l) (group opening inner closing)) (suc l) (x ∷ ks) (if b then passed rest else halted (y ∷ rest))
    close true f = record {
      front = x ∷ (v.front ++ y ∷ []);
      split = ap (λ (r : Spelling). x ∷ r) (v.split ∙ sym (append_assoc v.front (y ∷ []) rest));
      taken = taken_group rules opening inner closing x y v.front (eqb-true (class_of x) (class_of opening) e) (eqb-true (class_of y) (class_of closing) f) d v.taken;
      kept = kept_group l x y v.front (is_opening x opening openings e o) (is_opening y closing closings f c) v.kept;
      looks = λ next more other h. ap (λ (r : Spelling). reads rules (suc l) (group opening inner closing) (x ∷ r)) (append_assoc v.front (y ∷ []) (next ∷ other))
          ∙ (open_group rules l opening inner closing x (v.front ++ y ∷ next ∷ other) (passed (y ∷ next ∷ other)) e (v.looks y rest (next ∷ other) refl)
          ∙ if_is (class_of y == class_of closing) true (passed (next ∷ other)) (halted (y ∷ next ∷ other)) f);
    }
    close false f = record {
      front = x ∷ v.front;
      split = ap (λ (r : Spelling). x ∷ r) v.split;
      completion = closing ∷ [];
      taken = taken_group rules opening inner closing x closing v.front (eqb-true (class_of x) (class_of opening) e) refl d v.taken;
      within = within_group l x v.front (is_opening x opening openings e o) (kept_within l v.front v.kept);
      looks = λ next more other h. open_group rules l opening inner closing x (v.front ++ next ∷ other) (passed (next ∷ other)) e (v.looks next more other h)
          ∙ if_is (class_of next == class_of closing) false (passed other) (halted (next ∷ other)) (ap (λ (z : TokenKind). class_of z == class_of closing) (sym (head_of y next rest more h)) ∙ f);
    }
inside_law rules l opening inner closing o c d x ks e (halted rest) v = record {
  front = x ∷ v.front;
  split = ap (λ (r : Spelling). x ∷ r) v.split;
  completion = v.completion ++ closing ∷ [];
  taken = subst (λ (r : Spelling). Taken rules (group opening inner closing) (x ∷ r)) (append_assoc v.front v.completion (closing ∷ []))
      (taken_group rules opening inner closing x closing (v.front ++ v.completion) (eqb-true (class_of x) (class_of opening) e) refl d v.taken);
  within = within_group l x v.front (is_opening x opening openings e o) v.within;
  looks = λ next more other h. open_group rules l opening inner closing x (v.front ++ next ∷ other) (halted (next ∷ other)) e (v.looks next more other h);
}
inside_law rules l opening inner closing o c d x ks e (over rest) v = record {
  front = x ∷ v.front;
  bracket = v.bracket;
  more = v.more;
  is = v.is;
  split = ap (λ (r : Spelling). x ∷ r) v.split;
  completion = v.completion ++ closing ∷ [];
  taken = subst (λ (r : Spelling). Taken rules (group opening inner closing) (x ∷ r)) (append_assoc v.front (v.bracket ∷ v.completion) (closing ∷ []))
      (taken_group rules opening inner closing x closing (v.front ++ v.bracket ∷ v.completion) (eqb-true (class_of x) (class_of opening) e) refl d v.taken);
  opened = opened_group l x v.front (is_opening x opening openings e o) v.opened;
  opening = v.opening;
  few = more_of l (suc (length v.more)) (length ks) v.few;
}
  where
    more_of : (l m n : ℕ) → l + m ≤ n → suc l + m ≤ suc n
    more_of l m n e = omega arith

pub group_law : (rules : Rules) (l : ℕ) (opening : TokenKind) (inner : Inside) (closing : TokenKind) → member (class_of opening) openings ≡ true → member (class_of closing) closings ≡ true → disjoint (goes_on (rules inner)) (class_of closing ∷ []) ≡ true → Some_taken (Taken rules (rules inner)) → Law rules l (rules inner) → Law rules (suc l) (group opening inner closing)
group_law rules l opening inner closing o c d rest law [] = record {
  front = [];
  split = refl;
  completion = opening ∷ (rest.0 ++ closing ∷ []);
  taken = taken_group rules opening inner closing opening closing rest.0 refl refl d rest.1;
  within = within_none (suc l);
  looks = λ next more other e. none_is next more e;
}
group_law rules l opening inner closing o c d rest law (x ∷ ks) = go (class_of x == class_of opening) refl
  where
    go : (b : Bool) → (class_of x == class_of opening) ≡ b → Verdict (Taken rules (group opening inner closing)) (Finding rules (suc l) (group opening inner closing)) (suc l) (x ∷ ks) (then_on (if b then passed ks else halted (x ∷ ks)) (λ r. then_on (reads rules l (rules inner) r) (read_one (class_of closing))))
    go true e = inside_law rules l opening inner closing o c d x ks e (reads rules l (rules inner) ks) (law ks)
    go false e = record {
      front = [];
      split = refl;
      completion = opening ∷ (rest.0 ++ closing ∷ []);
      taken = taken_group rules opening inner closing opening closing rest.0 refl refl d rest.1;
      within = within_none (suc l);
      looks = λ next more other f. ap (λ (q : Outcome). then_on q (λ r. then_on (reads rules l (rules inner) r) (read_one (class_of closing)))) (if_is (class_of next == class_of opening) false (passed other) (halted (next ∷ other)) (ap (λ (y : TokenKind). class_of y == class_of opening) (sym (head_of x next ks more f)) ∙ e));
    }

-- ---- every grammar

-- the insides decide, and each has something that it takes
pub record Decided (rules : Rules) : Type 0 where
  pub decided : (n : Inside) → decides rules (rules n) ≡ true
  pub some : (n : Inside) → Some_taken (Taken rules (rules n))

three : (a b c : Bool) → (a && b && c) ≡ true → (a ≡ true) × (b ≡ true) × (c ≡ true)
three true true true e = (refl, refl, refl)
three true true false e = absurd (false≢true e)
three true false c e = absurd (false≢true e)
three false b c e = absurd (false≢true e)

four : (a b c d : Bool) → (a && b && c && d) ≡ true → (a ≡ true) × (b ≡ true) × (c ≡ true) × (d ≡ true)
four true true true true e = (refl, refl, refl, refl)
four true true true false e = absurd (false≢true e)
four true true false d e = absurd (false≢true e)
four true false c d e = absurd (false≢true e)
four false b c d e = absurd (false≢true e)

pub both_parts : (rules : Rules) (g h : Grammar) → decides rules (both g h) ≡ true → (decides rules g ≡ true) × (decides rules h ≡ true) × (disjoint (goes_on g) (firsts h) ≡ true)
both_parts rules g h e = three (decides rules g) (decides rules h) (disjoint (goes_on g) (firsts h)) e

pub either_parts : (rules : Rules) (g h : Grammar) → decides rules (either g h) ≡ true → (decides rules g ≡ true) × (decides rules h ≡ true) × (not (nullable g) ≡ true) × (disjoint (firsts g) (firsts h) ≡ true)
either_parts rules g h e = four (decides rules g) (decides rules h) (not (nullable g)) (disjoint (firsts g) (firsts h)) e

pub many_parts : (rules : Rules) (g : Grammar) → decides rules (many g) ≡ true → (decides rules g ≡ true) × (not (nullable g) ≡ true) × (disjoint (goes_on g) (firsts g) ≡ true)
many_parts rules g e = three (decides rules g) (not (nullable g)) (disjoint (goes_on g) (firsts g)) e

pub group_parts : (rules : Rules) (o : TokenKind) (n : Inside) (c : TokenKind) → decides rules (group o n c) ≡ true → (member (class_of o) openings ≡ true) × (member (class_of c) closings ≡ true) × (disjoint (goes_on (rules n)) (class_of c ∷ []) ≡ true)
group_parts rules o n c e = three (member (class_of o) openings) (member (class_of c) closings) (disjoint (goes_on (rules n)) (class_of c ∷ [])) e

-- something that the grammar takes
pub some_taken : (rules : Rules) → ((n : Inside) → Some_taken (Taken rules (rules n))) → (g : Grammar) → decides rules g ≡ true → Some_taken (Taken rules g)
some_taken rules some (one k) e = (k ∷ [], taken_one rules k k refl)
some_taken rules some nothing e = ([], taken_nothing rules)
some_taken rules some ahead e = ([], taken_ahead rules)
some_taken rules some (both g h) e =
    let a : Some_taken (Taken rules g) = some_taken rules some g (both_parts rules g h e).0 in
    let b : Some_taken (Taken rules h) = some_taken rules some h (both_parts rules g h e).1 in
    (a.0 ++ b.0, taken_both rules g h a.0 b.0 (both_parts rules g h e).2 a.1 b.1)
some_taken rules some (either g h) e =
    let a : Some_taken (Taken rules g) = some_taken rules some g (either_parts rules g h e).0 in
    (a.0, taken_left rules g h a.0 (either_parts rules g h e).2 a.1)
some_taken rules some (many g) e = ([], taken_many rules g [] (no_repeat rules g))
some_taken rules some (group o n c) e = (o ∷ ((some n).0 ++ c ∷ []), taken_group rules o n c o c (some n).0 refl refl (group_parts rules o n c e).2 (some n).1)

law_over : (rules : Rules) (l : ℕ) → ((n : Inside) → Some_taken (Taken rules (rules n))) → ((o : TokenKind) (n : Inside) (c : TokenKind) → decides rules (group o n c) ≡ true → Law rules l (group o n c)) → (g : Grammar) → decides rules g ≡ true → Law rules l g
law_over rules l some brackets (one k) e = one_law rules l k e
law_over rules l some brackets nothing e = nothing_law rules l
law_over rules l some brackets ahead e = ahead_law rules l
law_over rules l some brackets (both g h) e =
    both_law rules l g h (both_parts rules g h e).2 (some_taken rules some h (both_parts rules g h e).1) (law_over rules l some brackets g (both_parts rules g h e).0) (law_over rules l some brackets h (both_parts rules g h e).1)
law_over rules l some brackets (either g h) e =
    either_law rules l g h (either_parts rules g h e).2 (either_parts rules g h e).3 (law_over rules l some brackets g (either_parts rules g h e).0) (law_over rules l some brackets h (either_parts rules g h e).1)
law_over rules l some brackets (many g) e = many_law rules l g (many_parts rules g e).1 (many_parts rules g e).2 (law_over rules l some brackets g (many_parts rules g e).0)
law_over rules l some brackets (group o n c) e = brackets o n c e

-- a grammar in which the next token decides has a verdict on every list of tokens
pub law_of : (rules : Rules) → Decided rules → (l : ℕ) (g : Grammar) → decides rules g ≡ true → Law rules l g
law_of rules all zero g e = law_over rules zero all.some (λ o n c h. deep_law rules o n c (group_parts rules o n c h).0 (group_parts rules o n c h).2 (all.some n)) g e
law_of rules all (suc l) g e =
    law_over rules (suc l) all.some (λ o n c h. group_law rules l o n c (group_parts rules o n c h).0 (group_parts rules o n c h).1 (group_parts rules o n c h).2 (all.some n) (law_of rules all l (rules n) (all.decided n))) g e

-- a token that does not begin a rule stops its reading
pub refuses : (rules : Rules) (l : ℕ) (g : Grammar) → Law rules l g → not (nullable g) ≡ true → (k : TokenKind) (ks : Spelling) → member (class_of k) (firsts g) ≡ false → reads rules l g (k ∷ ks) ≡ halted (k ∷ ks)
refuses rules l g law n k ks out = go (reads rules l g (k ∷ ks)) (law (k ∷ ks))
  where
    never : {P : Type 0} (x : TokenKind) (rest other : Spelling) → begins_as g (x ∷ other) ≡ true → k ∷ ks ≡ x ∷ rest → P
    never x rest other e f = absurd (true≢false (sym e ∙ (ap (λ (y : TokenKind). member (class_of y) (firsts g)) (sym (head_of k x ks rest f)) ∙ out)))

    go_passed : (front rest : Spelling) → k ∷ ks ≡ front ++ rest → begins_as g front ≡ true → ⊥
    go_passed [] rest e t = true≢false (sym t ∙ not-true (nullable g) n)
    go_passed (x ∷ front) rest e t = never x (front ++ rest) front t e

    go_halted : (front rest completion : Spelling) → k ∷ ks ≡ front ++ rest → begins_as g (front ++ completion) ≡ true → halted rest ≡ halted (k ∷ ks)
    go_halted [] rest completion e t = ap halted (sym e)
    go_halted (x ∷ front) rest completion e t = never x (front ++ rest) (front ++ completion) t e

    go_over : (front rest completion : Spelling) (b : TokenKind) → k ∷ ks ≡ front ++ b ∷ rest → begins_as g (front ++ b ∷ completion) ≡ true → ⊥
    go_over [] rest completion b e t = never b rest completion t e
    go_over (x ∷ front) rest completion b e t = never x (front ++ b ∷ rest) (front ++ b ∷ completion) t e

    go : (o : Outcome) → Verdict (Taken rules g) (Finding rules l g) l (k ∷ ks) o → o ≡ halted (k ∷ ks)
    go (passed rest) v = absurd (go_passed v.front rest v.split v.taken.first)
    go (halted rest) v = go_halted v.front rest v.completion v.split v.taken.first
    go (over rest) v = absurd (go_over v.front v.more v.completion v.bracket v.split v.taken.first)
