-- Which literals ask for the thread's role: none that lasts, none of a field, and none that may be past.
use Rattle.std.proofs.Common.{◌≡◌, true, sym}
use Rattle.std.proofs.lemmas.Bool.{true≢false, false≢true}
use Rattle.plank_prog.specs.declared.blocks.Reference.{Reference}
use Rattle.plank_pic.specs.declared.literals.Literal.{Literal}
use Rattle.plank_fact.specs.Literals.{is_lasting, is_field_of, said_of, can_be_past}
use Rattle.plank_sound.proofs.Sights.Sighted.{asks_role}

pub lasting_asks_none : (L : Literal) → is_lasting L ≡ true → asks_role L ≡ true → ⊥
lasting_asks_none (Literal.Same q r) e d = false≢true d
lasting_asks_none (Literal.Apart q r) e d = false≢true d
lasting_asks_none (Literal.Null q) e d = false≢true d
lasting_asks_none (Literal.NotNull q) e d = false≢true d
lasting_asks_none (Literal.KeyBelow q r) e d = false≢true d
lasting_asks_none (Literal.KeyAtMost q r) e d = false≢true d
lasting_asks_none (Literal.BelowArgument q) e d = false≢true d
lasting_asks_none (Literal.AtMostArgument q) e d = false≢true d
lasting_asks_none (Literal.AboveArgument q) e d = false≢true d
lasting_asks_none (Literal.AtLeastArgument q) e d = false≢true d
lasting_asks_none (Literal.KeyIsMin q) e d = false≢true d
lasting_asks_none (Literal.AboveMin q) e d = false≢true d
lasting_asks_none (Literal.BelowMax q) e d = false≢true d
lasting_asks_none (Literal.KeyIsMax q) e d = false≢true d
lasting_asks_none (Literal.Flag q f) e d = false≢true d
lasting_asks_none (Literal.NoFlag q f) e d = false≢true d
lasting_asks_none (Literal.Leads q f r) e d = false≢true d
lasting_asks_none (Literal.LeadsNowhere q f) e d = false≢true d
lasting_asks_none (Literal.Locked q) e d = true≢false (sym e)
lasting_asks_none (Literal.Owned q) e d = true≢false (sym e)
lasting_asks_none (Literal.Shared q) e d = false≢true d
lasting_asks_none (Literal.Visited q) e d = false≢true d
lasting_asks_none Literal.InSet e d = false≢true d
lasting_asks_none Literal.NotInSet e d = false≢true d
lasting_asks_none (Literal.Chain q r) e d = false≢true d
lasting_asks_none Literal.Spent e d = false≢true d
lasting_asks_none Literal.Unspent e d = false≢true d

pub field_asks_none : (p : Reference) (L : Literal) → is_field_of p L ≡ true → asks_role L ≡ true → ⊥
field_asks_none p (Literal.Same q r) e d = false≢true d
field_asks_none p (Literal.Apart q r) e d = false≢true d
field_asks_none p (Literal.Null q) e d = false≢true d
field_asks_none p (Literal.NotNull q) e d = false≢true d
field_asks_none p (Literal.KeyBelow q r) e d = false≢true d
field_asks_none p (Literal.KeyAtMost q r) e d = false≢true d
field_asks_none p (Literal.BelowArgument q) e d = false≢true d
field_asks_none p (Literal.AtMostArgument q) e d = false≢true d
field_asks_none p (Literal.AboveArgument q) e d = false≢true d
field_asks_none p (Literal.AtLeastArgument q) e d = false≢true d
field_asks_none p (Literal.KeyIsMin q) e d = false≢true d
field_asks_none p (Literal.AboveMin q) e d = false≢true d
field_asks_none p (Literal.BelowMax q) e d = false≢true d
field_asks_none p (Literal.KeyIsMax q) e d = false≢true d
field_asks_none p (Literal.Flag q f) e d = false≢true d
field_asks_none p (Literal.NoFlag q f) e d = false≢true d
field_asks_none p (Literal.Leads q f r) e d = false≢true d
field_asks_none p (Literal.LeadsNowhere q f) e d = false≢true d
field_asks_none p (Literal.Locked q) e d = true≢false (sym e)
field_asks_none p (Literal.Owned q) e d = true≢false (sym e)
field_asks_none p (Literal.Shared q) e d = false≢true d
field_asks_none p (Literal.Visited q) e d = false≢true d
field_asks_none p Literal.InSet e d = false≢true d
field_asks_none p Literal.NotInSet e d = false≢true d
field_asks_none p (Literal.Chain q r) e d = false≢true d
field_asks_none p Literal.Spent e d = false≢true d
field_asks_none p Literal.Unspent e d = false≢true d

pub past_asks_none : (L : Literal) → can_be_past L ≡ true → asks_role L ≡ true → ⊥
past_asks_none (Literal.Same q r) e d = false≢true d
past_asks_none (Literal.Apart q r) e d = false≢true d
past_asks_none (Literal.Null q) e d = false≢true d
past_asks_none (Literal.NotNull q) e d = false≢true d
past_asks_none (Literal.KeyBelow q r) e d = false≢true d
past_asks_none (Literal.KeyAtMost q r) e d = false≢true d
past_asks_none (Literal.BelowArgument q) e d = false≢true d
past_asks_none (Literal.AtMostArgument q) e d = false≢true d
past_asks_none (Literal.AboveArgument q) e d = false≢true d
past_asks_none (Literal.AtLeastArgument q) e d = false≢true d
past_asks_none (Literal.KeyIsMin q) e d = false≢true d
past_asks_none (Literal.AboveMin q) e d = false≢true d
past_asks_none (Literal.BelowMax q) e d = false≢true d
past_asks_none (Literal.KeyIsMax q) e d = false≢true d
past_asks_none (Literal.Flag q f) e d = false≢true d
past_asks_none (Literal.NoFlag q f) e d = false≢true d
past_asks_none (Literal.Leads q f r) e d = false≢true d
past_asks_none (Literal.LeadsNowhere q f) e d = false≢true d
past_asks_none (Literal.Locked q) e d = true≢false (sym e)
past_asks_none (Literal.Owned q) e d = true≢false (sym e)
past_asks_none (Literal.Shared q) e d = false≢true d
past_asks_none (Literal.Visited q) e d = false≢true d
past_asks_none Literal.InSet e d = false≢true d
past_asks_none Literal.NotInSet e d = false≢true d
past_asks_none (Literal.Chain q r) e d = false≢true d
past_asks_none Literal.Spent e d = false≢true d
past_asks_none Literal.Unspent e d = false≢true d

-- the same of another name may be past as well
pub said_past : (q : Reference) (L : Literal) → can_be_past L ≡ true → can_be_past (said_of q L) ≡ true
said_past p (Literal.Same q r) e = e
said_past p (Literal.Apart q r) e = e
said_past p (Literal.Null q) e = e
said_past p (Literal.NotNull q) e = e
said_past p (Literal.KeyBelow q r) e = e
said_past p (Literal.KeyAtMost q r) e = e
said_past p (Literal.BelowArgument q) e = e
said_past p (Literal.AtMostArgument q) e = e
said_past p (Literal.AboveArgument q) e = e
said_past p (Literal.AtLeastArgument q) e = e
said_past p (Literal.KeyIsMin q) e = e
said_past p (Literal.AboveMin q) e = e
said_past p (Literal.BelowMax q) e = e
said_past p (Literal.KeyIsMax q) e = e
said_past p (Literal.Flag q f) e = e
said_past p (Literal.NoFlag q f) e = e
said_past p (Literal.Leads q f r) e = e
said_past p (Literal.LeadsNowhere q f) e = e
said_past p (Literal.Locked q) e = e
said_past p (Literal.Owned q) e = e
said_past p (Literal.Shared q) e = e
said_past p (Literal.Visited q) e = e
said_past p Literal.InSet e = e
said_past p Literal.NotInSet e = e
said_past p (Literal.Chain q r) e = e
said_past p Literal.Spent e = e
said_past p Literal.Unspent e = e
