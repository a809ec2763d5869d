-- What a turn's list of writes leaves unwritten.
use Rattle.std.proofs.Common.{◌≡◌, ℕ, Bool, List, [], ◌∷◌, length, ◌==◌, refl, ◌∙◌, ap, arith}
use Rattle.std.proofs.lemmas.Bool.{ne_eqb}
use Rattle.std.specs.Prelude.{Option, is_none, option_map}
use Rattle.plank_prog.specs.declared.blocks.Write.{Write}
use Rattle.plank_pic.specs.Steps.{Change}
use Rattle.plank_pic.specs.Blocks.{Turn, change_by, put_flag, put_pointer, put_lock, value_name}
use Rattle.plank_reach.specs.Kept.{leaves_flag, leaves_pointer, leaves_lock}

flag_by : (s : Turn) (ws : List Write) (f : ℕ) → is_none (put_flag f ws) ≡ leaves_flag (change_by s ws) f
flag_by s [] f = refl
flag_by s (w ∷ ws) f = refl

pointer_by : (s : Turn) (ws : List Write) (f : ℕ) → is_none (option_map (value_name s) (put_pointer f ws)) ≡ leaves_pointer (change_by s ws) f
pointer_by s [] f = refl
pointer_by s (w ∷ ws) f = refl

lock_by : (s : Turn) (ws : List Write) → is_none (put_lock ws) ≡ leaves_lock (change_by s ws)
lock_by s [] = refl
lock_by s (w ∷ ws) = refl

nothing_by : (s : Turn) (ws : List Write) → (length ws == 0) ≡ is_none (change_by s ws)
nothing_by s [] = refl
nothing_by s (w ∷ ws) = ne_eqb (length (w ∷ ws)) 0 (λ e. absurd (omega (arith, e)))

pub flag_put : (s : Turn) (ws : List Write) (o : Option Change) (f : ℕ) (r : Option Bool) (b : Bool) → change_by s ws ≡ o → r ≡ put_flag f ws → b ≡ is_none r → b ≡ leaves_flag o f
flag_put s ws o f r b of put is = is ∙ ap is_none put ∙ flag_by s ws f ∙ ap (λ c. leaves_flag c f) of

pub pointer_put : (s : Turn) (ws : List Write) (o : Option Change) (f : ℕ) (r : Option (Option ℕ)) (b : Bool) → change_by s ws ≡ o → r ≡ option_map (value_name s) (put_pointer f ws) → b ≡ is_none r → b ≡ leaves_pointer o f
pointer_put s ws o f r b of put is = is ∙ ap is_none put ∙ pointer_by s ws f ∙ ap (λ c. leaves_pointer c f) of

pub lock_put : (s : Turn) (ws : List Write) (o : Option Change) (r : Option Bool) (b : Bool) → change_by s ws ≡ o → r ≡ put_lock ws → b ≡ is_none r → b ≡ leaves_lock o
lock_put s ws o r b of put is = is ∙ ap is_none put ∙ lock_by s ws ∙ ap leaves_lock of

pub nothing_put : (s : Turn) (ws : List Write) (o : Option Change) (b : Bool) → change_by s ws ≡ o → b ≡ (length ws == 0) → b ≡ is_none o
nothing_put s ws o b of is = is ∙ nothing_by s ws ∙ ap is_none of
