-- Facts as a report writes them.
use Rattle.std.specs.Prelude.{ℕ, List, ◌++◌, codes}
use Rattle.plank_prog.specs.declared.headers.Header.{Header}
use Rattle.plank_prog.specs.declared.methods.Method.{Method}
use Rattle.plank_pic.specs.declared.literals.Literal.{Literal}
use Rattle.plank_fact.specs.declared.facts.Fact.{Fact}
use Rattle.plank_report.specs.Pieces.{inner_line}
use Rattle.plank_report.specs.Names.{node_name, flag_name, pointer_name}

abbrev pub literal_text : Header → Method → Literal → List ℕ
literal_text h m (Literal.Same q r) = node_name m q ++ codes " == " ++ node_name m r
literal_text h m (Literal.Apart q r) = node_name m q ++ codes " != " ++ node_name m r
literal_text h m (Literal.Null q) = node_name m q ++ codes " == null"
literal_text h m (Literal.NotNull q) = node_name m q ++ codes " != null"
literal_text h m (Literal.KeyBelow q r) = node_name m q ++ codes ".key < " ++ node_name m r ++ codes ".key"
literal_text h m (Literal.KeyAtMost q r) = node_name m q ++ codes ".key <= " ++ node_name m r ++ codes ".key"
literal_text h m (Literal.BelowArgument q) = node_name m q ++ codes ".key < " ++ m.arg
literal_text h m (Literal.AtMostArgument q) = node_name m q ++ codes ".key <= " ++ m.arg
literal_text h m (Literal.AboveArgument q) = m.arg ++ codes " < " ++ node_name m q ++ codes ".key"
literal_text h m (Literal.AtLeastArgument q) = m.arg ++ codes " <= " ++ node_name m q ++ codes ".key"
literal_text h m (Literal.KeyIsMin q) = node_name m q ++ codes ".key == MIN"
literal_text h m (Literal.AboveMin q) = codes "MIN < " ++ node_name m q ++ codes ".key"
literal_text h m (Literal.BelowMax q) = node_name m q ++ codes ".key < MAX"
literal_text h m (Literal.KeyIsMax q) = node_name m q ++ codes ".key == MAX"
literal_text h m (Literal.Flag q f) = node_name m q ++ codes "." ++ flag_name h f
literal_text h m (Literal.NoFlag q f) = codes "!" ++ node_name m q ++ codes "." ++ flag_name h f
literal_text h m (Literal.Leads q p r) = node_name m q ++ codes "." ++ pointer_name h p ++ codes " == " ++ node_name m r
literal_text h m (Literal.LeadsNowhere q p) = node_name m q ++ codes "." ++ pointer_name h p ++ codes " == null"
literal_text h m (Literal.Locked q) = node_name m q ++ codes " locked"
literal_text h m (Literal.Owned q) = node_name m q ++ codes " owned"
literal_text h m (Literal.Shared q) = node_name m q ++ codes " shared"
literal_text h m (Literal.Visited q) = m.arg ++ codes " in " ++ node_name m q
literal_text h m Literal.InSet = m.arg ++ codes " in set"
literal_text h m Literal.NotInSet = m.arg ++ codes " not in set"
literal_text h m (Literal.Chain q r) = codes "chain " ++ node_name m q ++ codes " " ++ node_name m r
literal_text h m Literal.Spent = codes "spent"
literal_text h m Literal.Unspent = codes "unspent"

abbrev pub fact_text : Header → Method → Fact → List ℕ
fact_text h m (Fact.Now L) = literal_text h m L
fact_text h m (Fact.Past L) = codes "past " ++ literal_text h m L

abbrev pub fact_line : Header → Method → Fact → List ℕ
fact_line h m fact = inner_line (fact_text h m fact)
