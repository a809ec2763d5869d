-- What the words of a command line ask for.
use Rattle.std.specs.Prelude.{ℕ, ◌≤◌, ⊤, if◌then◌else◌, List, [], ◌∷◌, codes, Option, Some, None, option_map, option_and_then}
use Rattle.std.specs.Str.{bytes_eq}
use Rattle.plank_words.specs.declared.commands.Command.{Command}
use Rattle.plank_words.specs.declared.commands.Command.TheVariants.{Verify, Effects, Print, Trace}
use Rattle.plank_words.specs.declared.commands.Asked.{Asked}
use Rattle.plank_words.specs.declared.commands.Asked.TheVariants.{Serve, Large}
use Rattle.plank_words.specs.Numbers.{number_between}
use Rattle.plank_words.specs.Parsers.{app_for, large_app, value_in}

-- the command that a word names
abbrev pub command_named : List ℕ → Option Command
command_named word =
    if bytes_eq word (codes "verify") then Some Verify
    else if bytes_eq word (codes "effects") then Some Effects
    else if bytes_eq word (codes "print") then Some Print
    else if bytes_eq word (codes "trace") then Some Trace
    else None

abbrev pub name_of : Command → List ℕ
name_of Verify = codes "verify"
name_of Effects = codes "effects"
name_of Print = codes "print"
name_of Trace = codes "trace"

-- the command judges
abbrev pub TakesWorkers : Command → Type 0
TakesWorkers Verify = ⊤
TakesWorkers Effects = ⊤
TakesWorkers Print = ⊥
TakesWorkers Trace = ⊥

-- 1 worker where the option is not given, else the number of its value, from 1 to 64
abbrev pub workers_said : Option (List ℕ) → Option ℕ
workers_said None = Some 1
workers_said (Some text) = number_between 1 64 text

-- the number of methods, from 2 to 16
abbrev pub methods_said : Option (List ℕ) → Option ℕ
methods_said None = None
methods_said (Some text) = number_between 2 16 text

-- what words ask for that begin with a command's name
abbrev pub served_by : Command → List (List ℕ) → Option Asked
served_by command words =
    option_map (Serve command) (option_and_then workers_said (value_in (app_for command) (codes "workers") words))

-- what words ask for that begin with `large`
abbrev pub made_by : List (List ℕ) → Option Asked
made_by words = option_map Large (option_and_then methods_said (value_in large_app (codes "n") words))

-- What the words ask for; nothing where the first names no command, where the command's parser finds fault with the
-- words, or where a number is out of its range.
abbrev pub asked_by : List (List ℕ) → Option Asked
asked_by [] = None
asked_by (word ∷ words) =
    if bytes_eq word (codes "large") then made_by (word ∷ words)
    else option_and_then (λ command. served_by command (word ∷ words)) (command_named word)

abbrev pub IsInRange : Asked → Type 0
IsInRange (Serve command workers) = (1 ≤ workers) × (workers ≤ 64)
IsInRange (Large methods) = (2 ≤ methods) × (methods ≤ 16)
