-- Conditions have the same value at a name of the picture as at the node.
use Rattle.std.proofs.Common.{◌≡◌, ℕ, ◌<◌, ℤ, Bool, true, false, not, [], length, Option, Some, None, refl, sym, ◌∙◌, ap, arith}
use Rattle.std.specs.Prelude.{◌&&◌, nat_lt, slice_get, is_some, is_none}
use Rattle.std.specs.Option.{option_map_or}
use Rattle.std.specs.List.{list_all}
use Rattle.std.proofs.lemmas.Bool.{false≢true, and_parts, and_from, lt-ltb}
use Rattle.plank_base.specs.declared.keys.Key.{Key}
use Rattle.plank_base.specs.Keys.{is_at_most}
use Rattle.plank_prog.specs.declared.conditions.KeyTerm.{KeyTerm}
use Rattle.plank_prog.specs.declared.conditions.Condition.{Condition}
use Rattle.plank_prog.specs.declared.headers.Pointer.{Pointer}
use Rattle.plank_prog.specs.declared.headers.Header.{Header}
use Rattle.plank_prog.specs.Conditions.{View, value}
use Rattle.plank_prog.specs.Scopes.{condition_fits, AgreeWithin}
use Rattle.plank_prog.specs.Headers.{is_lawful_header, walk_scope, freeze_scope, optional_fits}
use Rattle.plank_prog.specs.Views.{view_of, value_at, admits, key_of_term, is_bit_set, is_frozen}
use Rattle.plank_prog.proofs.ScopeLaws.{scoped_value, frozen_at}
use Rattle.plank_prog.proofs.HeaderFacts.{lawful_conditions, lawful_freeze, list_all_at}
use Rattle.plank_heap.specs.Walks.{next_from}
use Rattle.plank_pic.specs.declared.parts.KeyName.{KeyName}
use Rattle.plank_pic.specs.declared.parts.Term.{Term}
use Rattle.plank_pic.specs.declared.parts.Part.{Part}
use Rattle.plank_pic.specs.Frames.{Frame}
use Rattle.plank_pic.specs.Pictures.{place, node_view, term_at, view_admits, goes, edge, is_frozen_view}
use Rattle.plank_pic.specs.Lawful.{term_fits}
use Rattle.plank_pic.proofs.Below.{least_some, least_first, least_none}
use Rattle.plank_scene.specs.Scenes.{Scene, node_at, leads, key_in, shown}
use Rattle.plank_scene.proofs.Scenes.Edges.{goes_at, first_goes, none_goes}
use Rattle.plank_scene.proofs.Scenes.Showing.{on_at, shown_says}

-- ---- what is there

pub one_there : (o : Option ℕ) → is_some o ≡ true → (a : ℕ) × (o ≡ Some a)
one_there None t = absurd (false≢true t)
one_there (Some a) t = (a, refl)

pub not_none : (o : Option ℕ) → not (is_none o) ≡ is_some o
not_none None = refl
not_none (Some n) = refl

module _ (h : Header) (lawful : is_lawful_header h ≡ true) where
  edges_fit : list_all (λ p. optional_fits (walk_scope h) p.edge) h.pointers ≡ true
  edges_fit = (and_parts _ _ (and_parts _ _ (and_parts _ _ (lawful_conditions h lawful)).0).0).0

  pub holds_fits : condition_fits (walk_scope h) h.holds ≡ true
  holds_fits = (and_parts _ _ (and_parts _ _ (and_parts _ _ (lawful_conditions h lawful)).0).0).1

  pub edge_fits : (f : ℕ) (p : Pointer) → slice_get h.pointers f ≡ Some p → optional_fits (walk_scope h) p.edge ≡ true
  edge_fits f p e = list_all_at (λ q. optional_fits (walk_scope h) q.edge) h.pointers f p edges_fit e

-- a view whose order is that of keys and whose flags are a node's, as far as flags are declared
pub record IsViewOf (h : Header) (v : View) (key : Key) (flags : ℕ) (walked : Key) : Type 0 where
  pub keys : (a b : KeyTerm) → v.at_most a b ≡ is_at_most (key_of_term key walked a) (key_of_term key walked b)
  pub flag : (f : ℕ) → f < length h.flags → v.flag f ≡ is_bit_set flags f

module _ (h : Header) (v : View) (key : Key) (flags : ℕ) (j : ℤ) (is : IsViewOf h v key flags (Key.Num j)) where
  walk_agrees : AgreeWithin (walk_scope h) v (view_of key flags [] (Key.Num j) false)
  walk_agrees = record {
    at_most = λ a b _ _. is.keys a b;
    flag = λ f below. is.flag f below;
    null = λ p below. absurd (omega arith);
    visited = λ asked. absurd (false≢true asked);
  }

  pub walk_value : (c : Condition) → condition_fits (walk_scope h) c ≡ true → value v c ≡ value_at c key flags j
  walk_value c fits = scoped_value (walk_scope h) v (view_of key flags [] (Key.Num j) false) walk_agrees c fits

  optional_value : (o : Option Condition) → optional_fits (walk_scope h) o ≡ true → option_map_or (value v) o false ≡ option_map_or (λ c. value_at c key flags j) o false
  optional_value None fits = refl
  optional_value (Some c) fits = walk_value c fits

  admits_at : (f : ℕ) (o : Option Pointer) → ((p : Pointer) → o ≡ Some p → optional_fits (walk_scope h) p.edge ≡ true) → option_map_or (λ q. option_map_or (value v) q.edge false) o false ≡ option_map_or (λ p. admits p key flags j) o false
  admits_at f None fits = refl
  admits_at f (Some p) fits = optional_value p.edge (fits p refl)

  pub view_admits_is : is_lawful_header h ≡ true → (f : ℕ) → view_admits h v f ≡ option_map_or (λ p. admits p key flags j) (slice_get h.pointers f) false
  view_admits_is lawful f = admits_at f (slice_get h.pointers f) (edge_fits h lawful f)

  freeze_agrees : AgreeWithin (freeze_scope h) v (view_of key flags [] (Key.Num j) false)
  freeze_agrees = record {
    at_most = λ a b _ _. is.keys a b;
    flag = λ f below. is.flag f below;
    null = λ p below. absurd (omega arith);
    visited = λ asked. absurd (false≢true asked);
  }

  freeze_at : (o : Option Condition) → optional_fits (freeze_scope h) o ≡ true → option_map_or (value v) o false ≡ option_map_or (λ c. value_at c key flags j) o false
  freeze_at None fits = refl
  freeze_at (Some c) fits = scoped_value (freeze_scope h) v (view_of key flags [] (Key.Num j) false) freeze_agrees c fits

  pub frozen_value : is_lawful_header h ≡ true → is_frozen_view h v ≡ is_frozen h key flags
  frozen_value lawful = freeze_at h.freeze (lawful_freeze h lawful) ∙ sym (frozen_at h key flags j lawful)

module _ (F : Frame) (S : Scene) (i x : ℕ) (below : i < F.names) (named : S.named i ≡ Some x) where
  fits_name : nat_lt i F.names ≡ true
  fits_name = lt-ltb i F.names below

  pub key_of_name : key_in F S (Term.Node i) ≡ (node_at S x).key
  key_of_name = ap (λ o. option_map_or (λ y. (node_at S y).key) o Key.Min) named

  term_fits_at : (k : KeyName) (t : KeyTerm) → term_fits F (term_at (Term.Node i) k t) ≡ true
  term_fits_at k KeyTerm.Node = fits_name
  term_fits_at k KeyTerm.Walked = refl
  term_fits_at k KeyTerm.Min = refl
  term_fits_at k KeyTerm.Max = refl

  term_key : (k : KeyName) (t : KeyTerm) → key_in F S (term_at (Term.Node i) k t) ≡ key_of_term (node_at S x).key (Key.Num (S.walked k)) t
  term_key k KeyTerm.Node = key_of_name
  term_key k KeyTerm.Walked = refl
  term_key k KeyTerm.Min = refl
  term_key k KeyTerm.Max = refl

  pub name_view : (k : KeyName) → IsViewOf F.header (node_view (shown F S) k i) (node_at S x).key (node_at S x).flags (Key.Num (S.walked k))
  name_view k = record {
    keys = λ a b. shown_says F S (Part.AtMost (term_at (Term.Node i) k a) (term_at (Term.Node i) k b)) (and_from _ _ (term_fits_at k a) (term_fits_at k b))
        ∙ ap (λ key. is_at_most key (key_in F S (term_at (Term.Node i) k b))) (term_key k a)
        ∙ ap (λ key. is_at_most (key_of_term (node_at S x).key (Key.Num (S.walked k)) a) key) (term_key k b);
    flag = λ f few. shown_says F S (Part.Flag i f) (and_from _ _ fits_name (lt-ltb f (length F.header.flags) few)) ∙ on_at (λ y. is_bit_set (node_at S y).flags f) named;
  }

  pub frozen_name : is_lawful_header F.header ≡ true → is_frozen_view F.header (node_view (shown F S) KeyName.Own i) ≡ is_frozen F.header (node_at S x).key (node_at S x).flags
  frozen_name lawful = frozen_value F.header (node_view (shown F S) KeyName.Own i) (node_at S x).key (node_at S x).flags (S.walked KeyName.Own) (name_view KeyName.Own) lawful

  -- ---- edges

  pub pointer_null : (f : ℕ) → f < length F.header.pointers → shown F S (Part.PointerNull (place i f)) ≡ is_none (leads S x f)
  pointer_null f few =
      shown_says F S (Part.PointerNull (place i f)) (and_from _ _ fits_name (lt-ltb f (length F.header.pointers) few)) ∙ on_at (λ y. is_none (leads S y f)) named

  module _ (lawful : is_lawful_header F.header ≡ true) (k : KeyName) where
    abbrev adm : Pointer → Bool
    adm p = admits p (node_at S x).key (node_at S x).flags (S.walked k)

    goes_is : (f : ℕ) → f < length F.header.pointers → goes F.header (shown F S) k i f ≡ goes_at adm F.header.pointers (node_at S x).pointers f
    goes_is f few =
        ap (λ b. not b && view_admits F.header (node_view (shown F S) k i) f) (pointer_null f few)
        ∙ ap (λ b. b && view_admits F.header (node_view (shown F S) k i) f) (not_none (leads S x f))
        ∙ ap (λ b. is_some (leads S x f) && b) (view_admits_is F.header (node_view (shown F S) k i) (node_at S x).key (node_at S x).flags (S.walked k) (name_view k) lawful f)

    -- the edge of the picture is the pointer that the walk goes through
    pub edge_some : (f : ℕ) → edge F.header (shown F S) k i ≡ Some f → (f < length F.header.pointers) × (next_from F.header (S.walked k) (node_at S x) ≡ leads S x f) × ((a : ℕ) × (leads S x f ≡ Some a))
    edge_some f e =
        let least = least_some (goes F.header (shown F S) k i) (length F.header.pointers) f e in
        let here : goes_at adm F.header.pointers (node_at S x).pointers f ≡ true = sym (goes_is f least.0) ∙ least.1 in (
          least.0,
          first_goes adm F.header.pointers (node_at S x).pointers f here
              (λ g before. let few : g < length F.header.pointers = (let b : f < length F.header.pointers = least.0 in omega arith) in
              sym (goes_is g few) ∙ least_first (goes F.header (shown F S) k i) (length F.header.pointers) f e g before),
          one_there (leads S x f) (and_parts _ _ here).0,
        )

    pub edge_none : edge F.header (shown F S) k i ≡ None → next_from F.header (S.walked k) (node_at S x) ≡ None
    edge_none e =
        none_goes adm F.header.pointers (node_at S x).pointers
        (λ g few. sym (goes_is g few) ∙ least_none (goes F.header (shown F S) k i) (length F.header.pointers) e g few)
