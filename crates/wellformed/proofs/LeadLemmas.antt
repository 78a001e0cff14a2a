-- Scopes: where steps outward lead, how a scope grows, and how it goes back.
use Rattle.std.proofs.Common.{◌≡◌, ◌≢◌, ℕ, zero, suc, ◌<◌, ◌≤◌, Bool, true, false, if◌then◌else◌, refl, sym, ap, subst, arith, eq-eqb, eqb-true}
use Rattle.std.specs.Option.{option_map_or}
use Rattle.std.specs.Prelude.{List, Option, None, Some, option_and_then, option_map, slice_get, IfSome, IsSomeAnd}
use Rattle.source.specs.declared.place.Place.{Place}
use Rattle.program.specs.Methods.{VariableModel}
use Rattle.program.specs.Scopes as scopes
use Rattle.program.specs.Scopes.{AreNested, GoesBack, GrowsBy, LeadsOut, outer_of, outward}
use Rattle.program.specs.declared.method.Role.TheVariants as roles
use Rattle.program.specs.declared.number.VarId.{VarId}
use Rattle.resolving.specs.Locals.{forget, forget_of, number_of, same_last}

pub leads_here : (vs : List VariableModel) (a : Option VarId) → LeadsOut vs a a
leads_here vs a = record { steps = 0; is = refl }

leads_from : (vs : List VariableModel) (n : ℕ) (a b c : Option VarId) → outward vs n a ≡ b → LeadsOut vs b c → LeadsOut vs a c
leads_from vs zero a b c is leads = subst (λ x. LeadsOut vs x c) (sym is) leads
leads_from vs (suc n) a b c is leads = let further = leads_from vs n (option_and_then (outer_of vs) a) b c is leads in record { steps = suc further.steps; is = further.is }

pub leads_then : (vs : List VariableModel) (a b c : Option VarId) → LeadsOut vs a b → LeadsOut vs b c → LeadsOut vs a c
leads_then vs a b c first second = leads_from vs first.steps a b c first.is second

-- nothing is outside an empty scope
outward_none : (vs : List VariableModel) (n : ℕ) → outward vs n None ≡ None
outward_none vs zero = refl
outward_none vs (suc n) = outward_none vs n

pub leads_nowhere : (vs : List VariableModel) (v : VarId) → LeadsOut vs None (Some v) → ⊥
leads_nowhere vs v leads = let none = outward_none vs leads.steps in cc leads.is

outer_below : (vs : List VariableModel) (n : ℕ) (o : VarId) (x : Option VariableModel) → AreNested vs → slice_get vs n ≡ x → option_and_then (λ v. v.outer) x ≡ Some o → o.0 < n
outer_below vs n o None nested at is = cc
outer_below vs n o (Some v) nested at is = subst (λ y. IfSome y (λ i. i.0 < n)) is (nested.all n v at)

-- a variable that is no later than the one outside this one is no later than this one
outer_down : (vs : List VariableModel) (n : ℕ) (a b : VarId) (o : Option VarId) → AreNested vs → outer_of vs a ≡ o → outward vs n o ≡ Some b → IfSome o (λ x. b.0 ≤ x.0) → b.0 ≤ a.0
outer_down vs n a b None nested outer is down = let none = outward_none vs n in cc
outer_down vs n a b (Some o) nested outer is down = let before = outer_below vs a.0 o (slice_get vs a.0) nested refl outer in omega arith

outward_down : (vs : List VariableModel) (n : ℕ) (a : Option VarId) (b : VarId) → AreNested vs → outward vs n a ≡ Some b → IfSome a (λ x. b.0 ≤ x.0)
outward_down vs n None b nested is = tt
outward_down vs zero (Some a) b nested is = let same : a ≡ b = cc in subst (λ x. x.0 ≤ a.0) same (omega arith)
outward_down vs (suc n) (Some a) b nested is = outer_down vs n a b (outer_of vs a) nested refl is (outward_down vs n (outer_of vs a) b nested is)

-- steps outward lead to no later variable
pub leads_down : (vs : List VariableModel) → AreNested vs → (a b : VarId) → LeadsOut vs (Some a) (Some b) → b.0 ≤ a.0
leads_down vs nested a b leads = outward_down vs leads.steps (Some a) b nested leads.is

-- if nothing is in scope, nothing is outside it
nowhere : (vs : List VariableModel) (outer : Option ℕ) → LeadsOut vs None (option_map number_of outer) → None ≡ option_map number_of outer
nowhere vs None leads = refl
nowhere vs (Some n) leads = absurd (leads_nowhere vs (number_of n) leads)

last_alike : (last : ℕ) (outer : Option ℕ) → same_last last outer ≡ true → Some (number_of last) ≡ option_map number_of outer
last_alike last None same = cc
last_alike last (Some n) same = ap (λ k. Some (number_of k)) (eqb-true last n same)

last_apart : (last : ℕ) (outer : Option ℕ) → same_last last outer ≡ false → Some (number_of last) ≢ option_map number_of outer
last_apart last None apart same = cc
last_apart last (Some n) apart same = let is : last ≡ n = ap (λ x. option_map_or (λ v. v.0) x 0) same in let equal = eq-eqb last n is in cc

back_unless : (place : Place) (outer : Option ℕ) (last : ℕ) (same : Bool) → same_last last outer ≡ same
    → GoesBack (Some (number_of last)) (option_map number_of outer) (if same then None else Some (forget_of place outer last))
back_unless place outer last true is = last_alike last outer is
back_unless place outer last false is = (last_apart last outer is, (refl, refl))

-- the variables that go out of scope, if the last one that stays is outside them
pub goes_back : (vs : List VariableModel) (place : Place) (outer last : Option ℕ) → LeadsOut vs (option_map number_of last) (option_map number_of outer)
    → GoesBack (option_map number_of last) (option_map number_of outer) (forget place outer last)
goes_back vs place outer None leads = nowhere vs outer leads
goes_back vs place outer (Some last) leads = back_unless place outer last (same_last last outer) refl

-- one step outward, and the result of the steps after it
leads_one : (vs : List VariableModel) (P : Option VarId → Type 0) (before : Option VarId) (v : VarId) (o : Option VariableModel) → slice_get vs v.0 ≡ o
    → ((a : Option VarId) → P a → LeadsOut vs a before) → IsSomeAnd o (λ x. (x.role ≡ roles.Local) × P x.outer) → LeadsOut vs (Some v) before
leads_one vs P before v None is rest all = absurd all
leads_one vs P before v (Some x) is rest all =
    let further = rest x.outer all.1 in
    record { steps = suc further.steps; is = subst (λ o. outward vs further.steps (option_and_then (λ y. y.outer) o) ≡ before) (sym is) further.is }

grown_by : (vs : List VariableModel) (n : ℕ) (before after : Option VarId) → GrowsBy vs n before after → LeadsOut vs after before
grown_by vs zero before after grows = record { steps = 0; is = sym grows }
grown_by vs (suc n) before None grows = absurd grows
grown_by vs (suc n) before (Some v) grows = leads_one vs (GrowsBy vs n before) before v (slice_get vs v.0) refl (grown_by vs n before) grows

-- a scope that has grown leads to the one that it was
pub grown : (vs : List VariableModel) (before after : Option VarId) → scopes.Grows vs before after → LeadsOut vs after before
grown vs before after grows = grown_by vs grows.count before after grows.by

pub grows_none : (vs : List VariableModel) (a b : Option VarId) → a ≡ b → scopes.Grows vs a b
grows_none vs a b same = record { count = 0; by = same }

grows_one : (vs : List VariableModel) (P : Option VarId → Type 0) (before : Option VarId) (v : VarId) (o : Option VariableModel) → slice_get vs v.0 ≡ o
    → ((a : Option VarId) → P a → scopes.Grows vs before a) → IsSomeAnd o (λ x. (x.role ≡ roles.Local) × P x.outer) → scopes.Grows vs before (Some v)
grows_one vs P before v None is rest all = absurd all
grows_one vs P before v (Some x) is rest all =
    let further = rest x.outer all.1 in
    record { count = suc further.count; by = subst (λ o. IsSomeAnd o (λ y. (y.role ≡ roles.Local) × GrowsBy vs further.count before y.outer)) (sym is) (all.0, further.by) }

grows_by : (vs : List VariableModel) (n : ℕ) (a b c : Option VarId) → scopes.Grows vs a b → GrowsBy vs n b c → scopes.Grows vs a c
grows_by vs zero a b c first same = subst (scopes.Grows vs a) same first
grows_by vs (suc n) a b None first second = absurd second
grows_by vs (suc n) a b (Some v) first second = grows_one vs (GrowsBy vs n b) a v (slice_get vs v.0) refl (λ c. grows_by vs n a b c first) second

pub grows_on : (vs : List VariableModel) (a b c : Option VarId) → scopes.Grows vs a b → scopes.Grows vs b c → scopes.Grows vs a c
grows_on vs a b c first second = grows_by vs second.count a b c first second.by
