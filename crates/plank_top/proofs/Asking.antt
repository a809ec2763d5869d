-- Words ask for one thing.
use Rattle.std.proofs.Common.{◌≡◌, sym, ◌∙◌, ℕ, subst}
use Rattle.std.specs.Prelude.{Option, Some, None}
use Rattle.std.proofs.lemmas.Option.{none-some}
use Rattle.plank_words.specs.declared.commands.Command.{Command}
use Rattle.plank_words.specs.declared.commands.Asked.{Asked}
use Rattle.plank_words.specs.declared.commands.Asked.TheVariants.{Serve, Large}
use Rattle.plank_top.specs.declared.status.Status.{Status}
use Rattle.plank_top.specs.Answers.{IsLargeAnswer}
use Rattle.plank_top.specs.Endings.{Told, Concludes, Serves}

pub not_nothing : (asked : Option Asked) (a : Asked) → asked ≡ Some a → asked ≡ None → ⊥
not_nothing asked a some none = none-some a (sym none ∙ some)

pub not_both : (asked : Option Asked) (command : Command) (workers methods : ℕ) → asked ≡ Some (Serve command workers) → asked ≡ Some (Large methods) → ⊥
not_both asked command workers methods serve large = cc

same_command : (asked : Option Asked) (a b : Command) (m n : ℕ) → asked ≡ Some (Serve a m) → asked ≡ Some (Serve b n) → a ≡ b
same_command asked a b m n x y = cc

pub serves_asked : (asked : Option Asked) (a b : Command) (m n : ℕ) (source sink : Told) (ended : Status) → asked ≡ Some (Serve a m) → asked ≡ Some (Serve b n) → Serves a source sink ended → Serves b source sink ended
serves_asked asked a b m n source sink ended x y serves = subst (λ (c : Command). Serves c source sink ended) (same_command asked a b m n x y) serves

same_number : (asked : Option Asked) (m n : ℕ) → asked ≡ Some (Large m) → asked ≡ Some (Large n) → m ≡ n
same_number asked m n x y = cc

pub concludes_asked : (asked : Option Asked) (m n : ℕ) (sink : Told) (ended : Status) → asked ≡ Some (Large m) → asked ≡ Some (Large n) → Concludes (IsLargeAnswer m) sink ended → Concludes (IsLargeAnswer n) sink ended
concludes_asked asked m n sink ended x y concludes = subst (λ (k : ℕ). Concludes (IsLargeAnswer k) sink ended) (same_number asked m n x y) concludes
