-- What the parsers make of words that commands take, with a digit and any text after it for the value.
use Rattle.std.proofs.Common.{◌≡◌, refl, ℕ, zero, suc, ◌≤◌, ◌<◌, ◌+◌, ◌-◌, List, [], ◌∷◌, ◌++◌, Bool, true, false, length, Option, Some, None, ◌∙◌, ap, sym, subst, arith, ◌==◌}
use Rattle.std.specs.Prelude.{codes, ◌&&◌, nat_le, if◌then◌else◌, option_map, option_and_then}
use Rattle.std.specs.List.{list_all}
use Rattle.std.specs.Cmp.{first_so, second_so}
use Rattle.std.specs.Str.Parse.{digits_value}
use Rattle.std.proofs.lemmas.Bool.{leb-true}
use Rattle.std.proofs.lemmas.Option.{none-some}
use Rattle.std.specs.Char.{is_ascii_digit}
use Rattle.clap.specs.Words.{Text, is_simple_and_free}
use Rattle.clap.proofs.OnLiterals.{clap_on_literals}
use Rattle.plank_words.specs.declared.commands.Command.{Command}
use Rattle.plank_words.specs.declared.commands.Command.TheVariants.{Verify, Effects, Print, Trace}
use Rattle.plank_words.specs.declared.commands.Asked.TheVariants.{Serve, Large}
use Rattle.plank_words.specs.Parsers.{app_for, large_app, value_in}
use Rattle.plank_words.specs.Words.{name_of, TakesWorkers, asked_by, served_by, made_by, workers_said, methods_said}
use Rattle.plank_words.specs.Numbers.{is_number, within, number_between}

pub alone : (command : Command) → asked_by (name_of command ∷ []) ≡ Some (Serve command 1)
unfolding clap_on_literals
alone Verify = refl
alone Effects = refl
alone Print = refl
alone Trace = refl

pub simple_for : (command : Command) → is_simple_and_free (app_for command) ≡ true
unfolding clap_on_literals
simple_for Verify = refl
simple_for Effects = refl
simple_for Print = refl
simple_for Trace = refl

-- a fact on digits, digit by digit
each_digit : (P : ℕ → Type 0) → P 48 → P 49 → P 50 → P 51 → P 52 → P 53 → P 54 → P 55 → P 56 → P 57 → (d : ℕ) → 48 ≤ d → d ≤ 57 → P d
each_digit P a b c d e f g h i j n low high = go (n - 48) refl
  where
    at : (m : ℕ) → n ≡ m → P m → P n
    at m is p = subst P (sym is) p

    go : (k : ℕ) → n - 48 ≡ k → P n
    go zero is = at 48 (omega arith) a
    go (suc zero) is = at 49 (omega arith) b
    go (suc (suc zero)) is = at 50 (omega arith) c
    go (suc (suc (suc zero))) is = at 51 (omega arith) d
    go (suc (suc (suc (suc zero)))) is = at 52 (omega arith) e
    go (suc (suc (suc (suc (suc zero))))) is = at 53 (omega arith) f
    go (suc (suc (suc (suc (suc (suc zero)))))) is = at 54 (omega arith) g
    go (suc (suc (suc (suc (suc (suc (suc zero))))))) is = at 55 (omega arith) h
    go (suc (suc (suc (suc (suc (suc (suc (suc zero)))))))) is = at 56 (omega arith) i
    go (suc (suc (suc (suc (suc (suc (suc (suc (suc zero))))))))) is = at 57 (omega arith) j
    go (suc (suc (suc (suc (suc (suc (suc (suc (suc (suc k)))))))))) is = absurd (omega arith)

-- the value of an option in two words
abbrev ValueApart : Command → List ℕ → ℕ → Type 0
ValueApart command ds d = value_in (app_for command) (codes "workers") (name_of command ∷ codes "--workers" ∷ (d ∷ ds) ∷ []) ≡ Some (Some (d ∷ ds))

value_apart : (command : Command) → TakesWorkers command → (ds : List ℕ) (d : ℕ) → 48 ≤ d → d ≤ 57 → ValueApart command ds d
unfolding clap_on_literals
value_apart Verify takes ds = each_digit (ValueApart Verify ds) refl refl refl refl refl refl refl refl refl refl
value_apart Effects takes ds = each_digit (ValueApart Effects ds) refl refl refl refl refl refl refl refl refl refl
value_apart Print takes ds = elim takes [ ]
value_apart Trace takes ds = elim takes [ ]

-- in one word
abbrev ValueJoined : Command → List ℕ → ℕ → Type 0
ValueJoined command ds d = value_in (app_for command) (codes "workers") (name_of command ∷ (codes "--workers=" ++ d ∷ ds) ∷ []) ≡ Some (Some (d ∷ ds))

value_joined : (command : Command) → TakesWorkers command → (ds : List ℕ) (d : ℕ) → 48 ≤ d → d ≤ 57 → ValueJoined command ds d
unfolding clap_on_literals
value_joined Verify takes ds = each_digit (ValueJoined Verify ds) refl refl refl refl refl refl refl refl refl refl
value_joined Effects takes ds = each_digit (ValueJoined Effects ds) refl refl refl refl refl refl refl refl refl refl
value_joined Print takes ds = elim takes [ ]
value_joined Trace takes ds = elim takes [ ]

-- of the argument of `large`
abbrev ValueLarge : List ℕ → ℕ → Type 0
ValueLarge ds d = value_in large_app (codes "n") (codes "large" ∷ (d ∷ ds) ∷ []) ≡ Some (Some (d ∷ ds))

value_large : (ds : List ℕ) (d : ℕ) → 48 ≤ d → d ≤ 57 → ValueLarge ds d
unfolding clap_on_literals
value_large ds = each_digit (ValueLarge ds) refl refl refl refl refl refl refl refl refl refl

-- ---- what the words ask for

asks : (command : Command) (rest : List Text) → asked_by (name_of command ∷ rest) ≡ served_by command (name_of command ∷ rest)
asks Verify rest = refl
asks Effects rest = refl
asks Print rest = refl
asks Trace rest = refl

served_at : (command : Command) (words : List Text) (text : Text) (n : ℕ) → value_in (app_for command) (codes "workers") words ≡ Some (Some text) → number_between 1 64 text ≡ Some n → served_by command words ≡ Some (Serve command n)
served_at command words text n value is =
    ap (λ (v : Option (Option Text)). option_map (Serve command) (option_and_then workers_said v)) value ∙ ap (option_map (Serve command)) is

made_at : (words : List Text) (text : Text) (n : ℕ) → value_in large_app (codes "n") words ≡ Some (Some text) → number_between 2 16 text ≡ Some n → made_by words ≡ Some (Large n)
made_at words text n value is =
    ap (λ (v : Option (Option Text)). option_map Large (option_and_then methods_said v)) value ∙ ap (option_map Large) is

-- ---- a text that says a number begins with a digit

number_is : (low high n : ℕ) (text : List ℕ) → number_between low high text ≡ Some n → is_number text ≡ true
number_is low high n text is = go (is_number text) refl is
  where
    go : (b : Bool) → is_number text ≡ b → option_and_then (within low high) (if b then Some (digits_value 10 text) else None) ≡ Some n → is_number text ≡ true
    go true e h = e
    go false e h = absurd (none-some n h)

leading : (d : ℕ) (ds : List ℕ) → is_number (d ∷ ds) ≡ true → is_ascii_digit d ≡ true
leading d ds is =
    first_so (is_ascii_digit d) (list_all is_ascii_digit ds)
    (second_so (nat_le (length (d ∷ ds)) 10) (list_all is_ascii_digit (d ∷ ds))
    (second_so (nat_le 1 (length (d ∷ ds))) (nat_le (length (d ∷ ds)) 10 && list_all is_ascii_digit (d ∷ ds)) is))

at_least : (d : ℕ) → is_ascii_digit d ≡ true → 48 ≤ d
at_least d is = leb-true 48 d (first_so (nat_le 48 d) (nat_le d 57) is)

at_most : (d : ℕ) → is_ascii_digit d ≡ true → d ≤ 57
at_most d is = leb-true d 57 (second_so (nat_le 48 d) (nat_le d 57) is)

pub apart : (command : Command) (text : List ℕ) (workers : ℕ) → TakesWorkers command → number_between 1 64 text ≡ Some workers → asked_by (name_of command ∷ codes "--workers" ∷ text ∷ []) ≡ Some (Serve command workers)
apart command [] workers takes is = absurd (none-some workers is)
apart command (d ∷ ds) workers takes is =
    let digit = leading d ds (number_is 1 64 workers (d ∷ ds) is) in
    asks command (codes "--workers" ∷ (d ∷ ds) ∷ [])
    ∙ served_at command (name_of command ∷ codes "--workers" ∷ (d ∷ ds) ∷ []) (d ∷ ds) workers (value_apart command takes ds d (at_least d digit) (at_most d digit)) is

pub joined : (command : Command) (text : List ℕ) (workers : ℕ) → TakesWorkers command → number_between 1 64 text ≡ Some workers → asked_by (name_of command ∷ (codes "--workers=" ++ text) ∷ []) ≡ Some (Serve command workers)
joined command [] workers takes is = absurd (none-some workers is)
joined command (d ∷ ds) workers takes is =
    let digit = leading d ds (number_is 1 64 workers (d ∷ ds) is) in
    asks command ((codes "--workers=" ++ d ∷ ds) ∷ [])
    ∙ served_at command (name_of command ∷ (codes "--workers=" ++ d ∷ ds) ∷ []) (d ∷ ds) workers (value_joined command takes ds d (at_least d digit) (at_most d digit)) is

pub large : (text : List ℕ) (methods : ℕ) → number_between 2 16 text ≡ Some methods → asked_by (codes "large" ∷ text ∷ []) ≡ Some (Large methods)
large [] methods is = absurd (none-some methods is)
large (d ∷ ds) methods is =
    let digit = leading d ds (number_is 2 16 methods (d ∷ ds) is) in
    made_at (codes "large" ∷ (d ∷ ds) ∷ []) (d ∷ ds) methods (value_large ds d (at_least d digit) (at_most d digit)) is
