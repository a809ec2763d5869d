-- The nodes that the writes of a block share are those that the change of the turn publishes.
use Rattle.std.proofs.Common.{◌≡◌, ℕ, ◌<◌, ◌==◌, Bool, true, false, not, List, [], ◌∷◌, length, length-set, Option, Some, None, refl, sym, ◌∙◌, ap, inl, inr, arith}
use Rattle.std.specs.Prelude.{◌&&◌, ◌||◌, nat_lt, slice_get, slice_set, is_none, if◌then◌else◌}
use Rattle.std.specs.List.{list_any, list_all}
use Rattle.std.specs.Option.{option_map_or}
use Rattle.std.proofs.lemmas.Bool.{false≢true, true≢false, and_parts, and_from, and_right, or_cases, or_left, or_right, cases_Bool, cases_eq, eqb-true, eq-eqb, ne_eqb, ltb-true, not-true, cond-true, cond-false, false_from_ne_true}
use Rattle.std.proofs.lemmas.Option.{none-some, same_Some}
use Rattle.plank_base.specs.declared.keys.NodeId.{NodeId}
use Rattle.plank_prog.specs.declared.headers.Header.{Header}
use Rattle.plank_prog.specs.declared.blocks.Reference.{Reference}
use Rattle.plank_prog.specs.declared.blocks.Value.{Value}
use Rattle.plank_prog.specs.declared.blocks.Write.{Write}
use Rattle.plank_prog.specs.Names.{all_pairs}
use Rattle.plank_prog.specs.Blocks.{reference_fits, value_fits, write_fits, writes_agree}
use Rattle.plank_heap.specs.declared.heaps.Heap.{Heap}
use Rattle.plank_sem.specs.declared.calls.Call.{Call}
use Rattle.plank_sem.specs.Reads.{value_of}
use Rattle.plank_sem.specs.Kept.{shared_from, shared_by, shared_by_all}
use Rattle.plank_sem.proofs.Lists.{set_elsewhere}
use Rattle.plank_pic.specs.Below.{some_below}
use Rattle.plank_pic.specs.Blocks.{put_pointer}
use Rattle.plank_pic.proofs.Below.{some_there, none_there}
use Rattle.plank_scene.specs.Scenes.{is_node}
use Rattle.plank_scene.specs.Turns.{number}
use Rattle.plank_scene.proofs.Turns.Putting.{set_at, no_pointer, put_node}

-- whether a node is shared, by its owner
abbrev pub is_shared_by : List (Option ℕ) → ℕ → Bool
is_shared_by owners y = option_map_or (λ o. is_none o) (slice_get owners y) false

or_false : (b : Bool) → (b || false) ≡ b
or_false true = refl
or_false false = refl

or_assoc : (a b c : Bool) → (a || b || c) ≡ (a || (b || c))
or_assoc true b c = refl
or_assoc false b c = refl

and_over : (p a b : Bool) → ((p && a) || (p && b)) ≡ (p && (a || b))
and_over true a b = refl
and_over false a b = refl

-- a write of a pointer that leads to y
abbrev pub puts : Heap → Call → ℕ → Write → Bool
puts heap call y (Write.Flag r f to) = false
puts heap call y (Write.Pointer r f to) = is_node (number (value_of heap call to)) (Some y)
puts heap call y (Write.TakeLock r) = false
puts heap call y (Write.FreeLock r) = false

module _ (heap : Heap) (call : Call) (x y : ℕ) where
  from_target : (o : Option NodeId) (owners : List (Option ℕ)) → ((z : NodeId) → o ≡ Some z → z.0 < length owners) → is_shared_by (shared_from x o owners) y ≡ (is_shared_by owners y || (not (y == x) && is_node (number o) (Some y)))
  from_target None owners within = sym (ap (λ b. is_shared_by owners y || b) (and_right (not (y == x)) false refl) ∙ or_false (is_shared_by owners y))
  from_target (Some z) owners within =
      elim (cases_Bool (z.0 == x)) [
        | inl same ↦
            ap (λ (os : List (Option ℕ)). is_shared_by os y) (cond-true (z.0 == x) owners (slice_set owners z.0 None) same)
            ∙ sym (ap (λ b. is_shared_by owners y || b) (false_from_ne_true (not (y == x) && (z.0 == y)) (λ e.
            let w = and_parts (not (y == x)) (z.0 == y) e in
            true≢false (sym (eq-eqb y x (sym (eqb-true z.0 y w.1) ∙ eqb-true z.0 x same)) ∙ not-true (y == x) w.0))) ∙ or_false (is_shared_by owners y))
        | inr other ↦
            ap (λ (os : List (Option ℕ)). is_shared_by os y) (cond-false (z.0 == x) owners (slice_set owners z.0 None) other)
            ∙ elim (cases_eq y z.0) [
              | inl is ↦
                  ap (is_shared_by (slice_set owners z.0 None)) is ∙ ap (λ o. option_map_or (λ p. is_none p) o false) (set_at owners z.0 None (within z refl))
                  ∙ sym (or_right (is_shared_by owners y) (not (y == x) && (z.0 == y)) (and_from _ _ (ap not (ap (λ v. v == x) is ∙ other)) (eq-eqb z.0 y (sym is))))
              | inr apart ↦
                  ap (λ o. option_map_or (λ p. is_none p) o false) (set_elsewhere owners z.0 None y apart)
                  ∙ sym (ap (λ b. is_shared_by owners y || b) (and_right (not (y == x)) (z.0 == y) (ne_eqb z.0 y (λ e. apart (sym e)))) ∙ or_false (is_shared_by owners y))
            ]
      ]

  by_write : (w : Write) (owners : List (Option ℕ)) → ((to : Value) (z : NodeId) → value_of heap call to ≡ Some z → z.0 < length owners) → is_shared_by (shared_by heap call x w owners) y ≡ (is_shared_by owners y || (not (y == x) && puts heap call y w))
  by_write (Write.Flag r f to) owners within = sym (ap (λ b. is_shared_by owners y || b) (and_right (not (y == x)) false refl) ∙ or_false (is_shared_by owners y))
  by_write (Write.Pointer r f to) owners within = from_target (value_of heap call to) owners (within to)
  by_write (Write.TakeLock r) owners within = sym (ap (λ b. is_shared_by owners y || b) (and_right (not (y == x)) false refl) ∙ or_false (is_shared_by owners y))
  by_write (Write.FreeLock r) owners within = sym (ap (λ b. is_shared_by owners y || b) (and_right (not (y == x)) false refl) ∙ or_false (is_shared_by owners y))

  from_length : (o : Option NodeId) (owners : List (Option ℕ)) → length (shared_from x o owners) ≡ length owners
  from_length None owners = refl
  from_length (Some z) owners = either (z.0 == x)
    where
      either : (b : Bool) → length (if b then owners else slice_set owners z.0 None) ≡ length owners
      either true = refl
      either false = length-set owners z.0 None

  by_length : (w : Write) (owners : List (Option ℕ)) → length (shared_by heap call x w owners) ≡ length owners
  by_length (Write.Flag r f to) owners = refl
  by_length (Write.Pointer r f to) owners = from_length (value_of heap call to) owners
  by_length (Write.TakeLock r) owners = refl
  by_length (Write.FreeLock r) owners = refl

  -- a node is shared after the writes where it was before, or where one writes it into another
  pub by_writes : (ws : List Write) (owners : List (Option ℕ)) → ((to : Value) (z : NodeId) → value_of heap call to ≡ Some z → z.0 < length owners) → is_shared_by (shared_by_all heap call x ws owners) y ≡ (is_shared_by owners y || (not (y == x) && list_any (puts heap call y) ws))
  by_writes [] owners within = sym (ap (λ b. is_shared_by owners y || b) (and_right (not (y == x)) false refl) ∙ or_false (is_shared_by owners y))
  by_writes (w ∷ ws) owners within =
      by_writes ws (shared_by heap call x w owners) (λ to z e. let lt = within to z e in let same = by_length w owners in omega arith)
      ∙ ap (λ b. b || (not (y == x) && list_any (puts heap call y) ws)) (by_write w owners within)
      ∙ or_assoc (is_shared_by owners y) (not (y == x) && puts heap call y w) (not (y == x) && list_any (puts heap call y) ws)
      ∙ ap (λ b. is_shared_by owners y || b) (and_over (not (y == x)) (puts heap call y w) (list_any (puts heap call y) ws))

-- ---- the same by the fields of the change

module _ (h : Header) (variables : ℕ) (heap : Heap) (call : Call) (y : ℕ) where
  abbrev PutsAt : List Write → Type 0
  PutsAt ws = (f : ℕ) × (to : Value) × (f < length h.pointers) × (put_pointer f ws ≡ Some to) × (is_node (number (value_of heap call to)) (Some y) ≡ true)

  -- a later write of another field
  later : (q : Reference) (g : ℕ) (first : Value) (ws : List Write) → list_all (writes_agree (Write.Pointer q g first)) ws ≡ true → PutsAt ws → PutsAt (Write.Pointer q g first ∷ ws)
  later q g first ws all w = (
    w.0,
    w.1,
    w.2,
    cond-false (w.0 == g) (Some first) (put_pointer w.0 ws) (false_from_ne_true _ (λ e.
        none-some w.1 (sym (ap (λ i. put_pointer i ws) (eqb-true w.0 g e) ∙ no_pointer q g first ws all) ∙ w.3))) ∙ w.3,
    w.4,
  )

  found_put : (ws : List Write) → list_all (write_fits h variables) ws ≡ true → all_pairs writes_agree ws ≡ true → list_any (puts heap call y) ws ≡ true → PutsAt ws
  found_put [] fits apart e = absurd (false≢true e)
  found_put (Write.Flag q g to ∷ ws) fits apart e = let w = found_put ws (and_parts (write_fits h variables (Write.Flag q g to)) _ fits).1 (and_parts (list_all (writes_agree (Write.Flag q g to)) ws) _ apart).1 e in (w.0, w.1, w.2, w.3, w.4)
  found_put (Write.Pointer q g to ∷ ws) fits apart e =
      let f = and_parts (write_fits h variables (Write.Pointer q g to)) _ fits in
      let a = and_parts (list_all (writes_agree (Write.Pointer q g to)) ws) (all_pairs writes_agree ws) apart in
      elim (or_cases (is_node (number (value_of heap call to)) (Some y)) (list_any (puts heap call y) ws) e) [
        | inl now ↦ (g, to, ltb-true g (length h.pointers) (and_parts (reference_fits variables q) (nat_lt g (length h.pointers)) (and_parts (reference_fits variables q && nat_lt g (length h.pointers)) (value_fits variables to) f.0).0).1, cond-true (g == g) (Some to) (put_pointer g ws) (eq-eqb g g refl), now)
        | inr more ↦ later q g to ws a.0 (found_put ws f.1 a.1 more)
      ]
  found_put (Write.TakeLock q ∷ ws) fits apart e = let w = found_put ws (and_parts (write_fits h variables (Write.TakeLock q)) _ fits).1 (and_parts (list_all (writes_agree (Write.TakeLock q)) ws) _ apart).1 e in (w.0, w.1, w.2, w.3, w.4)
  found_put (Write.FreeLock q ∷ ws) fits apart e = let w = found_put ws (and_parts (write_fits h variables (Write.FreeLock q)) _ fits).1 (and_parts (list_all (writes_agree (Write.FreeLock q)) ws) _ apart).1 e in (w.0, w.1, w.2, w.3, w.4)

  put_found : (f : ℕ) (to : Value) (ws : List Write) → put_pointer f ws ≡ Some to → is_node (number (value_of heap call to)) (Some y) ≡ true → list_any (puts heap call y) ws ≡ true
  put_found f to [] e is = absurd (none-some to e)
  put_found f to (Write.Flag q g too ∷ ws) e is = put_found f to ws e is
  put_found f to (Write.Pointer q g too ∷ ws) e is =
      elim (cases_Bool (f == g)) [
        | inl c ↦ or_left _ _ (ap (λ v. is_node (number (value_of heap call v)) (Some y)) (same_Some _ _ (sym (cond-true (f == g) (Some too) (put_pointer f ws) c) ∙ e)) ∙ is)
        | inr c ↦ or_right (is_node (number (value_of heap call too)) (Some y)) _ (put_found f to ws (sym (cond-false (f == g) (Some too) (put_pointer f ws) c) ∙ e) is)
      ]
  put_found f to (Write.TakeLock q ∷ ws) e is = put_found f to ws e is
  put_found f to (Write.FreeLock q ∷ ws) e is = put_found f to ws e is

  -- some pointer of the change leads to y
  pub puts_some : (ws : List Write) → list_all (write_fits h variables) ws ≡ true → all_pairs writes_agree ws ≡ true → list_any (puts heap call y) ws ≡ some_below (λ f. is_node (put_node heap call (put_pointer f ws) None) (Some y)) (length h.pointers)
  puts_some ws fits apart = elim (cases_Bool (list_any (puts heap call y) ws)) [
    | inl e ↦
        let w = found_put ws fits apart e in
        e ∙ sym (some_there (λ f. is_node (put_node heap call (put_pointer f ws) None) (Some y)) (length h.pointers) w.0 w.2 (ap (λ o. is_node (put_node heap call o None) (Some y)) w.3 ∙ w.4))
    | inr e ↦ e ∙ sym (none_there (λ f. is_node (put_node heap call (put_pointer f ws) None) (Some y)) (length h.pointers) (λ f few. by_put f (put_pointer f ws) refl e))
  ]
    where
      by_put : (f : ℕ) (o : Option Value) → put_pointer f ws ≡ o → list_any (puts heap call y) ws ≡ false → is_node (put_node heap call o None) (Some y) ≡ false
      by_put f None d e = refl
      by_put f (Some to) d e = false_from_ne_true _ (λ c. true≢false (sym (put_found f to ws d c) ∙ e))
