-- Bytes are a schedule in one way, or one line is the first that is none; and how the lines so far are read.
use Rattle.std.proofs.Common.{◌≡◌, ℕ, suc, ◌+◌, ◌<◌, ◌≤◌, true, List, [], ◌∷◌, ◌++◌, length, codes, refl, sym, ap, ap₂, ◌∙◌, subst, arith, append_assoc, length-append}
use Rattle.std.specs.List.{AllByRecursion}
use Rattle.plank_trace.specs.declared.lines.Line.{Line}
use Rattle.plank_trace.specs.declared.schedules.Front.{Front}
use Rattle.plank_trace.specs.Cuts.{IsFrontOf, IsFront}
use Rattle.plank_trace.specs.Schedules.{line_feed, lacks, line_text, lines_text, IsLine, IsSchedule, BeginsNoLine, ended, unknown, IsBadSchedule}
use Rattle.plank_trace.proofs.Cutting.{first_cut, not_lacked}
use Rattle.plank_trace.proofs.LineTexts.{feed_lacked, not_text, one_line}

-- the first line and what stands behind it
pub opened : (l : Line) (ls : List Line) (r : List ℕ) → lines_text (l ∷ ls) ++ r ≡ line_text l ++ line_feed ∷ (lines_text ls ++ r)
opened l ls r = append_assoc (line_text l) (line_feed ∷ lines_text ls) r

-- ---- what begins no line

no_line : (bytes : List ℕ) → BeginsNoLine bytes → (l : Line) (more : List ℕ) → IsLine l → bytes ≡ line_text l ++ line_feed ∷ more → ⊥
no_line bytes (ended alone) l more is e = not_lacked line_feed (line_text l) more (subst (λ (bs : List ℕ). lacks line_feed bs ≡ true) e alone)
no_line bytes (unknown line rest whole alone other none) l more is e =
    none l is (first_cut line_feed line rest (line_text l) more alone (feed_lacked l is) (sym whole ∙ e)).0

no_text : (bytes : List ℕ) → BeginsNoLine bytes → (more : List ℕ) → bytes ≡ codes "text" ++ line_feed ∷ more → ⊥
no_text bytes (ended alone) more e = not_lacked line_feed (codes "text") more (subst (λ (bs : List ℕ). lacks line_feed bs ≡ true) e alone)
no_text bytes (unknown line rest whole alone other none) more e =
    other (first_cut line_feed line rest (codes "text") more alone refl (sym whole ∙ e)).0

text_no_line : (l : Line) (text more : List ℕ) → IsLine l → codes "text" ++ line_feed ∷ text ≡ line_text l ++ line_feed ∷ more → ⊥
text_no_line l text more is e = not_text l (first_cut line_feed (codes "text") text (line_text l) more refl (feed_lacked l is) e).0

-- ---- one reading

record SameLines (l m : Line) (r s : List ℕ) : Type 0 where
  line : l ≡ m
  rest : r ≡ s

same_first : (l m : Line) (ls ms : List Line) (r s : List ℕ) → IsLine l → IsLine m → lines_text (l ∷ ls) ++ r ≡ lines_text (m ∷ ms) ++ s → SameLines l m (lines_text ls ++ r) (lines_text ms ++ s)
same_first l m ls ms r s p q e =
    let cut = first_cut line_feed (line_text l) (lines_text ls ++ r) (line_text m) (lines_text ms ++ s) (feed_lacked l p) (feed_lacked m q) (sym (opened l ls r) ∙ e ∙ opened m ms s) in
    record { line = one_line l m p q cut.0; rest = cut.1 }

abbrev text_line : List ℕ → List ℕ
text_line text = codes "text" ++ line_feed ∷ text

one_schedule : (ls ms : List Line) (x y : List ℕ) → AllByRecursion IsLine ls → AllByRecursion IsLine ms → lines_text ls ++ text_line x ≡ lines_text ms ++ text_line y → (ls ≡ ms) × (x ≡ y)
one_schedule [] [] x y p q e = (refl, (first_cut line_feed (codes "text") x (codes "text") y refl refl e).1)
one_schedule [] (m ∷ ms) x y p q e = absurd (text_no_line m x (lines_text ms ++ text_line y) q.0 (e ∙ opened m ms (text_line y)))
one_schedule (l ∷ ls) [] x y p q e = absurd (text_no_line l y (lines_text ls ++ text_line x) p.0 (sym e ∙ opened l ls (text_line x)))
one_schedule (l ∷ ls) (m ∷ ms) x y p q e =
    let same = same_first l m ls ms (text_line x) (text_line y) p.0 q.0 e in
    let rest = one_schedule ls ms x y p.1 q.1 same.rest in
    (ap₂ (λ k ks. k ∷ ks) same.line rest.0, rest.1)

one_stop : (ls ms : List Line) (r s : List ℕ) → AllByRecursion IsLine ls → AllByRecursion IsLine ms → BeginsNoLine r → BeginsNoLine s → lines_text ls ++ r ≡ lines_text ms ++ s → length ls ≡ length ms
one_stop [] [] r s p q a b e = refl
one_stop [] (m ∷ ms) r s p q a b e = absurd (no_line r a m (lines_text ms ++ s) q.0 (e ∙ opened m ms s))
one_stop (l ∷ ls) [] r s p q a b e = absurd (no_line s b l (lines_text ls ++ r) p.0 (sym e ∙ opened l ls r))
one_stop (l ∷ ls) (m ∷ ms) r s p q a b e =
    ap suc (one_stop ls ms r s p.1 q.1 a b (same_first l m ls ms r s p.0 q.0 e).rest)

no_stop : (ls ms : List Line) (x s : List ℕ) → AllByRecursion IsLine ls → AllByRecursion IsLine ms → BeginsNoLine s → lines_text ls ++ text_line x ≡ lines_text ms ++ s → ⊥
no_stop [] [] x s p q b e = no_text s b x (sym e)
no_stop [] (m ∷ ms) x s p q b e = text_no_line m x (lines_text ms ++ s) q.0 (e ∙ opened m ms s)
no_stop (l ∷ ls) [] x s p q b e = no_line s b l (lines_text ls ++ text_line x) p.0 (sym e ∙ opened l ls (text_line x))
no_stop (l ∷ ls) (m ∷ ms) x s p q b e = no_stop ls ms x s p.1 q.1 b (same_first l m ls ms (text_line x) s p.0 q.0 e).rest

pub one_reading : (bytes : List ℕ) (ls ms : List Line) (x y : List ℕ) → IsSchedule bytes ls x → IsSchedule bytes ms y → (ls ≡ ms) × (x ≡ y)
one_reading bytes ls ms x y a b = one_schedule ls ms x y a.each b.each (sym a.whole ∙ b.whole)

pub one_bad_line : (bytes : List ℕ) (i j : ℕ) → IsBadSchedule bytes i → IsBadSchedule bytes j → i ≡ j
one_bad_line bytes i j a b =
    let same = one_stop a.lines b.lines a.rest b.rest a.each b.each a.stops b.stops (sym a.so_far ∙ b.so_far) in
    a.number ∙ ap suc same ∙ sym b.number

pub not_bad_too : (bytes : List ℕ) (ls : List Line) (x : List ℕ) (i : ℕ) → IsSchedule bytes ls x → IsBadSchedule bytes i → ⊥
not_bad_too bytes ls x i a b = no_stop ls b.lines x b.rest a.each b.each b.stops (sym a.whole ∙ b.so_far)

-- ---- line by line

-- these lines are read, and this is left
pub record IsReadUpTo (bytes : List ℕ) (lines : List Line) (rest : List ℕ) : Type 0 where
  pub each : AllByRecursion IsLine lines
  pub so_far : bytes ≡ lines_text lines ++ rest

pub read_none : (bytes : List ℕ) (lines : List Line) → lines ≡ [] → IsReadUpTo bytes lines bytes
read_none bytes lines none = subst (λ (ls : List Line). IsReadUpTo bytes ls bytes) (sym none) (record { each = tt; so_far = refl })

all_pushed : (ls : List Line) (l : Line) → AllByRecursion IsLine ls → IsLine l → AllByRecursion IsLine (ls ++ l ∷ [])
all_pushed [] l p q = (q, tt)
all_pushed (k ∷ ls) l p q = (p.0, all_pushed ls l p.1 q)

lines_pushed : (ls : List Line) (l : Line) (more : List ℕ) → lines_text (ls ++ l ∷ []) ++ more ≡ lines_text ls ++ (line_text l ++ line_feed ∷ more)
lines_pushed [] l more = opened l [] more
lines_pushed (k ∷ ls) l more =
    opened k (ls ++ l ∷ []) more
    ∙ ap (λ t. line_text k ++ line_feed ∷ t) (lines_pushed ls l more)
    ∙ sym (opened k ls (line_text l ++ line_feed ∷ more))

pub read_more : (bytes : List ℕ) (ls ms : List Line) (l : Line) (rest more : List ℕ) → IsReadUpTo bytes ls rest → IsLine l → rest ≡ line_text l ++ line_feed ∷ more → ms ≡ ls ++ l ∷ [] → IsReadUpTo bytes ms more
read_more bytes ls ms l rest more read is e longer =
    let joined : lines_text (ls ++ l ∷ []) ++ more ≡ lines_text ls ++ rest = lines_pushed ls l more ∙ ap (λ t. lines_text ls ++ t) (sym e) in
    subst (λ (ks : List Line). IsReadUpTo bytes ks more) (sym longer) (record { each = all_pushed ls l read.each is; so_far = read.so_far ∙ sym joined })

pub read_whole : (bytes : List ℕ) (ls : List Line) (rest text : List ℕ) → IsReadUpTo bytes ls rest → rest ≡ codes "text" ++ line_feed ∷ text → IsSchedule bytes ls text
read_whole bytes ls rest text read e = record { each = read.each; whole = read.so_far ∙ ap (λ r. lines_text ls ++ r) e }

pub read_stops : (bytes : List ℕ) (ls : List Line) (rest : List ℕ) (i : ℕ) → IsReadUpTo bytes ls rest → BeginsNoLine rest → i ≡ suc (length ls) → IsBadSchedule bytes i
read_stops bytes ls rest i read stops number = record { lines = ls; rest = rest; each = read.each; so_far = read.so_far; stops = stops; number = number }

-- ---- how much is left

fewer_lines : (ls : List Line) → length ls ≤ length (lines_text ls)
fewer_lines [] = omega arith
fewer_lines (l ∷ ls) =
    let all = length-append (line_text l) (line_feed ∷ lines_text ls) in
    let rest = fewer_lines ls in
    omega (arith, all, rest)

pub lines_and_rest : (bytes : List ℕ) (ls : List Line) (rest : List ℕ) → IsReadUpTo bytes ls rest → length ls + length rest ≤ length bytes
lines_and_rest bytes ls rest read =
    let all = ap length read.so_far ∙ length-append (lines_text ls) rest in
    let few = fewer_lines ls in
    omega arith

pub less_left : (bytes line more : List ℕ) (c : ℕ) → bytes ≡ line ++ c ∷ more → length more < length bytes
less_left bytes line more c e = let all = ap length e ∙ length-append line (c ∷ more) in omega arith

pub front_from : (bytes line more : List ℕ) → bytes ≡ line ++ line_feed ∷ more → lacks line_feed line ≡ true → (f : Front) → IsFrontOf line more f → IsFront bytes f
front_from bytes line more whole alone (Front.Line l rest) is =
    (is.0, whole ∙ ap (λ (bs : List ℕ). bs ++ line_feed ∷ more) is.1 ∙ ap (λ (bs : List ℕ). line_text l ++ line_feed ∷ bs) (sym is.2))
front_from bytes line more whole alone (Front.Text text) is =
    whole ∙ ap (λ (bs : List ℕ). bs ++ line_feed ∷ more) is.0 ∙ ap (λ (bs : List ℕ). codes "text" ++ line_feed ∷ bs) (sym is.1)
front_from bytes line more whole alone Front.Bad is = unknown line more whole alone is.0 is.1
