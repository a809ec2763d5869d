-- The parsers of words, as `clap` defines what they take: one for each command.
use Rattle.std.specs.Prelude.{ℕ, true, List, [], ◌∷◌, codes, Option, Some, None}
use Rattle.clap.specs.Words.{App, Kinds, Rule, Text, new_app, new_rule, with_rule, fault_of, first_of, matches_of}
use Rattle.plank_words.specs.declared.commands.Command.{Command}
use Rattle.plank_words.specs.declared.commands.Command.TheVariants.{Verify, Effects, Print, Trace}

-- a command with the option `--workers`, which has one value
abbrev pub workers_app : Text → App
workers_app name = with_rule (new_app name) (record (new_rule (codes "workers")) { long = Some (codes "workers") })

abbrev pub app_for : Command → App
app_for Verify = workers_app (codes "verify")
app_for Effects = workers_app (codes "effects")
app_for Print = new_app (codes "print")
app_for Trace = new_app (codes "trace")

-- `large`, with one argument, which it needs
abbrev pub large_app : App
large_app = with_rule (new_app (codes "large")) (record (new_rule (codes "n")) { required = true })

-- a value, where no fault is found
abbrev pub unless_faulty : {A : Type 0} → Kinds → A → Option A
unless_faulty [] x = Some x
unless_faulty (k ∷ ks) x = None

-- Where the parser takes the words, what they say of one argument; where it finds fault with them, nothing.
abbrev pub value_in : App → Text → List Text → Option (Option Text)
value_in app id words = unless_faulty (fault_of app words) (first_of id (matches_of app words))
