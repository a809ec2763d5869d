-- The entries of a tree map under numbers as keys, seen as a finite map: used by Pending.
use Rattle.std.proofs.Common.{◌≡◌, ℕ, cond, List, [], ◌∷◌, Option, Some, None, refl, sym, ap, ◌∙◌}
use Rattle.std.specs.Ordering.{nat_cmp}
use Rattle.std.specs.Cmp.{nat_cmp_total, eq_by_cmp_equiv}
use Rattle.std.specs.BTreeMap.{is_at}
use Rattle.std.specs.Map.{lookup}
use Rattle.std.specs.FinMap.{find, get, insert, remove, from_entries, get-from_entries, get-insert, get-remove, same_map, nat_cmp-IsAntisymmetric}

-- what a list of entries holds at a key
abbrev pub held_at : {X : Type 0} → List (ℕ × X) → ℕ → Option X
held_at es q = lookup (is_at (nat_cmp q)) es

find-held_at : {X : Type 0} (es : List (ℕ × X)) (q : ℕ) → find nat_cmp q es ≡ held_at es q
find-held_at [] q = refl
find-held_at (e ∷ es) q = ap (cond (is_at (nat_cmp q) e.0) (Some e.1)) (find-held_at es q)

-- what the finite map of the entries holds at a key
pub get-held_at : {X : Type 0} (es : List (ℕ × X)) (q : ℕ) → get (from_entries {R = nat_cmp} es) q ≡ held_at es q
get-held_at es q = get-from_entries nat_cmp_total es q ∙ find-held_at es q

-- entries that differ at one key alone make maps that differ there alone
pub held_more : {X : Type 0} (es fs : List (ℕ × X)) (k : ℕ) (x : X) → ((q : ℕ) → held_at fs q ≡ cond (is_at (nat_cmp k) q) (Some x) (held_at es q)) → from_entries {R = nat_cmp} fs ≡ insert (from_entries es) k x
held_more es fs k x h = same_map nat_cmp_total nat_cmp-IsAntisymmetric _ _ (λ q.
    get-held_at fs q ∙ h q ∙ ap (λ b. cond b (Some x) (held_at es q)) ((eq_by_cmp_equiv nat_cmp_total).symm k q)
    ∙ sym (get-insert nat_cmp_total (from_entries es) k x q ∙ ap (cond (is_at (nat_cmp q) k) (Some x)) (get-held_at es q)))

-- entries that lack one key make the map without it
pub held_less : {X : Type 0} (es fs : List (ℕ × X)) (k : ℕ) → ((q : ℕ) → held_at fs q ≡ cond (is_at (nat_cmp k) q) None (held_at es q)) → from_entries {R = nat_cmp} fs ≡ remove (from_entries es) k
held_less es fs k h = same_map nat_cmp_total nat_cmp-IsAntisymmetric _ _ (λ q.
    get-held_at fs q ∙ h q ∙ ap (λ b. cond b None (held_at es q)) ((eq_by_cmp_equiv nat_cmp_total).symm k q)
    ∙ sym (get-remove nat_cmp_total (from_entries es) k q ∙ ap (cond (is_at (nat_cmp q) k) None) (get-held_at es q)))
