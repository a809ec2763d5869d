-- What a call knows in a picture: when a literal is true of it, by the picture's names of its root and variables. Facts
-- are claims of such literals.
use Rattle.std.specs.Prelude.{ℕ, Bool, not, ◌&&◌, ◌||◌, if◌then◌else◌}
use Rattle.std.specs.Bool.{beq}
use Rattle.plank_prog.specs.declared.blocks.Reference.{Reference}
use Rattle.plank_pic.specs.declared.parts.KeyName.{KeyName}
use Rattle.plank_pic.specs.declared.parts.Term.{Term}
use Rattle.plank_pic.specs.declared.parts.Place.{Place}
use Rattle.plank_pic.specs.declared.parts.Part.{Part}
use Rattle.plank_pic.specs.declared.literals.Literal.{Literal}
use Rattle.plank_pic.specs.Pictures.{Picture, place, same_key, is_below, holds_lock}

-- a call as a picture sees it: whether it is the own call or the other, and the picture's names of its root and variables
pub record Caller : Type 0 where
  pub own : Bool
  pub name : Reference → ℕ

-- the key of the call
abbrev pub argument : Caller → KeyName
argument c = if c.own then KeyName.Own else KeyName.Other

-- ---- nodes and pointers

-- two names have one value: one node, or null
abbrev pub same_value : Picture → ℕ → ℕ → Bool
same_value p i j = (p (Part.Null i) && p (Part.Null j)) || p (Part.Same i j)

-- a pointer has the value of a name
abbrev pub has_value : Picture → Place → ℕ → Bool
has_value p x j = (p (Part.PointerNull x) && p (Part.Null j)) || p (Part.Leads x j)

-- a node that is not shared is the call's thread's
abbrev pub is_owned : Picture → Bool → ℕ → Bool
is_owned p own i = not (p (Part.Shared i)) && beq (p (Part.Mine i)) own

-- ---- literals

-- what is said of a node: nothing of null
abbrev pub of_node : Picture → ℕ → Bool → Bool
of_node p i said = not (p (Part.Null i)) && said

abbrev pub of_nodes : Picture → ℕ → ℕ → Bool → Bool
of_nodes p i j said = not (p (Part.Null i)) && not (p (Part.Null j)) && said

-- how the key of a node lies to another
abbrev pub key_below : Picture → ℕ → Term → Bool
key_below p i t = of_node p i (is_below p (Term.Node i) t)

abbrev pub key_at_most : Picture → ℕ → Term → Bool
key_at_most p i t = of_node p i (p (Part.AtMost (Term.Node i) t))

abbrev pub key_above : Picture → ℕ → Term → Bool
key_above p i t = of_node p i (is_below p t (Term.Node i))

abbrev pub key_at_least : Picture → ℕ → Term → Bool
key_at_least p i t = of_node p i (p (Part.AtMost t (Term.Node i)))

abbrev pub key_is : Picture → ℕ → Term → Bool
key_is p i t = of_node p i (same_key p (Term.Node i) t)

-- whether the literal is true of the call
abbrev pub truth : Picture → Caller → Literal → Bool
truth p c (Literal.Same q r) = same_value p (c.name q) (c.name r)
truth p c (Literal.Apart q r) = not (same_value p (c.name q) (c.name r))
truth p c (Literal.Null q) = p (Part.Null (c.name q))
truth p c (Literal.NotNull q) = not (p (Part.Null (c.name q)))
truth p c (Literal.KeyBelow q r) = of_nodes p (c.name q) (c.name r) (is_below p (Term.Node (c.name q)) (Term.Node (c.name r)))
truth p c (Literal.KeyAtMost q r) = of_nodes p (c.name q) (c.name r) (p (Part.AtMost (Term.Node (c.name q)) (Term.Node (c.name r))))
truth p c (Literal.BelowArgument q) = key_below p (c.name q) (Term.Walked (argument c))
truth p c (Literal.AtMostArgument q) = key_at_most p (c.name q) (Term.Walked (argument c))
truth p c (Literal.AboveArgument q) = key_above p (c.name q) (Term.Walked (argument c))
truth p c (Literal.AtLeastArgument q) = key_at_least p (c.name q) (Term.Walked (argument c))
truth p c (Literal.KeyIsMin q) = key_is p (c.name q) Term.Min
truth p c (Literal.AboveMin q) = key_above p (c.name q) Term.Min
truth p c (Literal.BelowMax q) = key_below p (c.name q) Term.Max
truth p c (Literal.KeyIsMax q) = key_is p (c.name q) Term.Max
truth p c (Literal.Flag q f) = of_node p (c.name q) (p (Part.Flag (c.name q) f))
truth p c (Literal.NoFlag q f) = of_node p (c.name q) (not (p (Part.Flag (c.name q) f)))
truth p c (Literal.Leads q f r) = of_node p (c.name q) (has_value p (place (c.name q) f) (c.name r))
truth p c (Literal.LeadsNowhere q f) = of_node p (c.name q) (p (Part.PointerNull (place (c.name q) f)))
truth p c (Literal.Locked q) = of_node p (c.name q) (holds_lock p c.own (c.name q))
truth p c (Literal.Owned q) = of_node p (c.name q) (is_owned p c.own (c.name q))
truth p c (Literal.Shared q) = of_node p (c.name q) (p (Part.Shared (c.name q)))
truth p c (Literal.Visited q) = of_node p (c.name q) (p (Part.Visits (argument c) (c.name q)))
truth p c Literal.InSet = p (Part.InSet (argument c))
truth p c Literal.NotInSet = not (p (Part.InSet (argument c)))
truth p c (Literal.Chain q r) = of_nodes p (c.name q) (c.name r) (p (Part.Chain (c.name q) (c.name r)))
truth p c Literal.Spent = p Part.Spent
truth p c Literal.Unspent = not (p Part.Spent)
