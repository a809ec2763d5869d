-- The methods of a lawful program have few variables.
use Rattle.std.specs.Prelude.{◌≡◌, ℕ, ◌≤◌, ◌&&◌, nat_le, nat_lt, Bool, true, false, List, length, slice_get, Some, is_some, if◌then◌else◌}
use Rattle.std.specs.List.{list_all}
use Rattle.std.specs.Cmp.{first_so, second_so}
use Rattle.std.proofs.Common.{arith}
use Rattle.std.proofs.lemmas.Bool.{leb-true}
use Rattle.plank_base.specs.declared.limits.TheConstants.{VARIABLES_LIMIT, FROZEN_VARIABLES_LIMIT}
use Rattle.plank_prog.specs.declared.headers.Header.{Header}
use Rattle.plank_prog.specs.declared.methods.Method.{Method}
use Rattle.plank_prog.specs.Names.{all_pairs, names_differ}
use Rattle.plank_prog.specs.Methods.{variables_limit, is_lawful_location, is_lawful_method, are_methods_within_limits, are_lawful_methods}
use Rattle.plank_prog.proofs.HeaderFacts.{list_all_at}

limit_few : (frozen : Bool) → (if frozen then FROZEN_VARIABLES_LIMIT else VARIABLES_LIMIT) ≤ VARIABLES_LIMIT
limit_few true = omega arith
limit_few false = omega arith

pub few_variables : (h : Header) (methods : List Method) → are_lawful_methods h methods ≡ true → (m : ℕ) (method : Method) → slice_get methods m ≡ Some method
    → length method.variables ≤ VARIABLES_LIMIT
few_variables h methods lawful m method called =
    let every = second_so (are_methods_within_limits methods && all_pairs (λ m n. names_differ m.name n.name) methods) (list_all (is_lawful_method h) methods) lawful in
    let this : is_lawful_method h method ≡ true = list_all_at (is_lawful_method h) methods m method every called in
    let few = nat_le (length method.variables) (variables_limit h) in
    let others = list_all (names_differ method.arg) method.variables in
    let apart = all_pairs names_differ method.variables in
    let begins = nat_lt 0 (length method.locations) in
    let each = list_all (is_lawful_location h (length method.variables) (length method.locations)) method.locations in
    let so = first_so few others (first_so (few && others) apart (first_so (few && others && apart) begins (first_so (few && others && apart && begins) each this))) in
    let bound : length method.variables ≤ variables_limit h = leb-true (length method.variables) (variables_limit h) so in
    let most : variables_limit h ≤ VARIABLES_LIMIT = limit_few (is_some h.freeze) in
    omega arith
