-- Views with the same answers are one view; the order of key terms; and what conditions cannot tell apart.
use Rattle.std.proofs.Common.{◌≡◌, ℕ, ℤ, Bool, false, not, List, refl, sym, ◌∙◌, ap}
use Rattle.std.proofs.lemmas.Bool.{false≢true}
use Rattle.plank_base.specs.declared.keys.Key.{Key}
use Rattle.plank_base.specs.Keys.{is_at_most, is_ordinary}
use Rattle.plank_prog.specs.declared.conditions.KeyTerm.{KeyTerm}
use Rattle.plank_prog.specs.declared.conditions.Condition.{Condition}
use Rattle.plank_prog.specs.Conditions.{View, value, SameAnswers, IsTotalPreorder}
use Rattle.plank_prog.specs.Views.{key_of_term, view_of}
use Rattle.plank_base.proofs.KeyOrder.{not_below_itself, total_keys, transitive_keys}

-- views with the same answers are one view
pub same_view : {v w : View} → SameAnswers v w → v ≡ w
same_view s = λ i. record {
  at_most = λ a b. s.at_most a b i;
  flag = λ f. s.flag f i;
  null = λ p. s.null p i;
  visited = s.visited i;
}

pub same_value : {v w : View} (c : Condition) → SameAnswers v w → value v c ≡ value w c
same_value c s = ap (λ v. value v c) (same_view s)

-- at MIN or MAX, the order of key terms is the same for all ordinary keys
pub same_order_at_end : (key : Key) (i j : ℤ) → is_ordinary key ≡ false → (a b : KeyTerm) → is_at_most (key_of_term key (Key.Num i) a) (key_of_term key (Key.Num i) b) ≡ is_at_most (key_of_term key (Key.Num j) a) (key_of_term key (Key.Num j) b)
same_order_at_end (Key.Num k) i j end a b = absurd (false≢true (sym end))
same_order_at_end Key.Min i j end KeyTerm.Walked KeyTerm.Walked = ap not (not_below_itself i ∙ sym (not_below_itself j))
same_order_at_end Key.Max i j end KeyTerm.Walked KeyTerm.Walked = ap not (not_below_itself i ∙ sym (not_below_itself j))
same_order_at_end Key.Min i j end KeyTerm.Node KeyTerm.Node = refl
same_order_at_end Key.Min i j end KeyTerm.Node KeyTerm.Walked = refl
same_order_at_end Key.Min i j end KeyTerm.Node KeyTerm.Min = refl
same_order_at_end Key.Min i j end KeyTerm.Node KeyTerm.Max = refl
same_order_at_end Key.Min i j end KeyTerm.Walked KeyTerm.Node = refl
same_order_at_end Key.Min i j end KeyTerm.Walked KeyTerm.Min = refl
same_order_at_end Key.Min i j end KeyTerm.Walked KeyTerm.Max = refl
same_order_at_end Key.Min i j end KeyTerm.Min KeyTerm.Node = refl
same_order_at_end Key.Min i j end KeyTerm.Min KeyTerm.Walked = refl
same_order_at_end Key.Min i j end KeyTerm.Min KeyTerm.Min = refl
same_order_at_end Key.Min i j end KeyTerm.Min KeyTerm.Max = refl
same_order_at_end Key.Min i j end KeyTerm.Max KeyTerm.Node = refl
same_order_at_end Key.Min i j end KeyTerm.Max KeyTerm.Walked = refl
same_order_at_end Key.Min i j end KeyTerm.Max KeyTerm.Min = refl
same_order_at_end Key.Min i j end KeyTerm.Max KeyTerm.Max = refl
same_order_at_end Key.Max i j end KeyTerm.Node KeyTerm.Node = refl
same_order_at_end Key.Max i j end KeyTerm.Node KeyTerm.Walked = refl
same_order_at_end Key.Max i j end KeyTerm.Node KeyTerm.Min = refl
same_order_at_end Key.Max i j end KeyTerm.Node KeyTerm.Max = refl
same_order_at_end Key.Max i j end KeyTerm.Walked KeyTerm.Node = refl
same_order_at_end Key.Max i j end KeyTerm.Walked KeyTerm.Min = refl
same_order_at_end Key.Max i j end KeyTerm.Walked KeyTerm.Max = refl
same_order_at_end Key.Max i j end KeyTerm.Min KeyTerm.Node = refl
same_order_at_end Key.Max i j end KeyTerm.Min KeyTerm.Walked = refl
same_order_at_end Key.Max i j end KeyTerm.Min KeyTerm.Min = refl
same_order_at_end Key.Max i j end KeyTerm.Min KeyTerm.Max = refl
same_order_at_end Key.Max i j end KeyTerm.Max KeyTerm.Node = refl
same_order_at_end Key.Max i j end KeyTerm.Max KeyTerm.Walked = refl
same_order_at_end Key.Max i j end KeyTerm.Max KeyTerm.Min = refl
same_order_at_end Key.Max i j end KeyTerm.Max KeyTerm.Max = refl

pub total_order : (key walked : Key) (flags : ℕ) (nulls : List Bool) (visited : Bool) → IsTotalPreorder (view_of key flags nulls walked visited).at_most
total_order key walked flags nulls visited = record {
  total = λ a b. total_keys (key_of_term key walked a) (key_of_term key walked b);
  transitive = λ a b c. transitive_keys (key_of_term key walked a) (key_of_term key walked b) (key_of_term key walked c);
}

pub same_value_at_end : (key : Key) (flags : ℕ) (nulls : List Bool) (i j : ℤ) (visited : Bool) (c : Condition) → is_ordinary key ≡ false → value (view_of key flags nulls (Key.Num i) visited) c ≡ value (view_of key flags nulls (Key.Num j) visited) c
same_value_at_end key flags nulls i j visited c end =
    same_value c (record { at_most = same_order_at_end key i j end; flag = λ f. refl; null = λ p. refl; visited = refl })
