-- What is said of names and keys alone is the same wherever names and keys are.
use Rattle.std.proofs.Common.{◌≡◌, Bool, true, false, not, Option, Some, None, refl, sym, ◌∙◌, ap}
use Rattle.std.specs.Prelude.{◌&&◌, is_none, option_map}
use Rattle.std.specs.Option.{option_map_or}
use Rattle.std.proofs.lemmas.Bool.{true≢false}
use Rattle.std.proofs.Math.Path.{ap₂}
use Rattle.plank_base.specs.declared.keys.Key.{Key}
use Rattle.plank_base.specs.Keys.{is_at_most}
use Rattle.plank_prog.specs.declared.headers.Header.{Header}
use Rattle.plank_prog.specs.declared.blocks.Reference.{Reference}
use Rattle.plank_heap.specs.declared.nodes.Node.{Node}
use Rattle.plank_pic.specs.declared.literals.Literal.{Literal}
use Rattle.plank_fact.specs.Literals.{is_lasting}
use Rattle.plank_sound.specs.Sights.{Sight, same_target, at_node, at_nodes, lies_below, holds}

abbrev pub key_of_node : Sight → Reference → Option Key
key_of_node s r = option_map (λ (x : Node). x.key) (s.node r)

module _ (h : Header) (s t : Sight) (named : (r : Reference) → s.named r ≡ t.named r) (keys : (r : Reference) → key_of_node s r ≡ key_of_node t r) (key : s.key ≡ t.key) where
  by_key : (test : Key → Bool) (o : Option Node) → option_map_or (λ (x : Node). test x.key) o false ≡ option_map_or test (option_map (λ (x : Node). x.key) o) false
  by_key test None = refl
  by_key test (Some x) = refl

  by_keys : (test : Key → Key → Bool) (o p : Option Node) → option_map_or (λ (x : Node). option_map_or (λ (y : Node). test x.key y.key) p false) o false
      ≡ option_map_or (λ a. option_map_or (test a) (option_map (λ (y : Node). y.key) p) false) (option_map (λ (x : Node). x.key) o) false
  by_keys test None p = refl
  by_keys test (Some x) None = refl
  by_keys test (Some x) (Some y) = refl

  one_key : (q : Reference) (test : Key → Bool) → at_node s q (λ x. test x.key) ≡ at_node t q (λ x. test x.key)
  one_key q test = by_key test (s.node q) ∙ ap (λ o. option_map_or test o false) (keys q) ∙ sym (by_key test (t.node q))

  two_keys : (q r : Reference) (test : Key → Key → Bool) → at_nodes s q r (λ x y. test x.key y.key) ≡ at_nodes t q r (λ x y. test x.key y.key)
  two_keys q r test = by_keys test (s.node q) (s.node r) ∙ ap₂ (λ o p. option_map_or (λ a. option_map_or (test a) p false) o false) (keys q) (keys r) ∙ sym (by_keys test (t.node q) (t.node r))

  own_key : (q : Reference) (test : Key → Key → Bool) → at_node s q (λ x. test (Key.Num s.key) x.key) ≡ at_node t q (λ x. test (Key.Num t.key) x.key)
  own_key q test = one_key q (test (Key.Num s.key)) ∙ ap (λ j. at_node t q (λ x. test (Key.Num j) x.key)) key

  pub lasts : (L : Literal) → is_lasting L ≡ true → holds h s L ≡ holds h t L
  lasts (Literal.Same q r) e = ap₂ same_target (named q) (named r)
  lasts (Literal.Apart q r) e = ap not (ap₂ same_target (named q) (named r))
  lasts (Literal.Null q) e = ap is_none (named q)
  lasts (Literal.NotNull q) e = ap (λ o. not (is_none o)) (named q)
  lasts (Literal.KeyBelow q r) e = two_keys q r lies_below
  lasts (Literal.KeyAtMost q r) e = two_keys q r is_at_most
  lasts (Literal.BelowArgument q) e = own_key q (λ k a. lies_below a k)
  lasts (Literal.AtMostArgument q) e = own_key q (λ k a. is_at_most a k)
  lasts (Literal.AboveArgument q) e = own_key q lies_below
  lasts (Literal.AtLeastArgument q) e = own_key q is_at_most
  lasts (Literal.KeyIsMin q) e = one_key q (λ a. is_at_most a Key.Min && is_at_most Key.Min a)
  lasts (Literal.AboveMin q) e = one_key q (lies_below Key.Min)
  lasts (Literal.BelowMax q) e = one_key q (λ a. lies_below a Key.Max)
  lasts (Literal.KeyIsMax q) e = one_key q (λ a. is_at_most a Key.Max && is_at_most Key.Max a)
  lasts (Literal.Flag q f) e = absurd (true≢false (sym e))
  lasts (Literal.NoFlag q f) e = absurd (true≢false (sym e))
  lasts (Literal.Leads q f r) e = absurd (true≢false (sym e))
  lasts (Literal.LeadsNowhere q f) e = absurd (true≢false (sym e))
  lasts (Literal.Locked q) e = absurd (true≢false (sym e))
  lasts (Literal.Owned q) e = absurd (true≢false (sym e))
  lasts (Literal.Shared q) e = absurd (true≢false (sym e))
  lasts (Literal.Visited q) e = absurd (true≢false (sym e))
  lasts Literal.InSet e = absurd (true≢false (sym e))
  lasts Literal.NotInSet e = absurd (true≢false (sym e))
  lasts (Literal.Chain q r) e = absurd (true≢false (sym e))
  lasts Literal.Spent e = absurd (true≢false (sym e))
  lasts Literal.Unspent e = absurd (true≢false (sym e))
