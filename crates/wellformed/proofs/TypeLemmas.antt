-- Types whose names are declared.
use Rattle.std.proofs.Common.{◌≡◌, ℕ, Bool, true, false, [], ◌∷◌, ap, refl, subst}
use Rattle.std.proofs.lemmas.Option.{same_Some}
use Rattle.std.specs.Prelude.{Option, None, Some, IsSomeAnd, if◌then◌else◌, option_and_then, option_map, slice_get}
use Rattle.source.specs.declared.token.Span.{Span}
use Rattle.tree.specs.Trees.{ContractTree, DefinitionTree, ItemTree, StructTree}
use Rattle.program.specs.declared.types.Side.{Side}
use Rattle.declarations.specs.Declarations.{first_among, is_declared, names_of_states, states_of}
use Rattle.declarations.specs.declared.mistake.Mistake.TheVariants.{Unknown}
use Rattle.declarations.specs.declared.mistake.NameSort.TheVariants as sort
use Rattle.declarations.specs.Types.{endpoint_type, endpoint_unknown, is_block, pointer_type, pointer_unknown}
use Rattle.declarations.specs.Program.{Numbered, ProgramText, as_contract, as_struct, contract_named, item_at, item_names, struct_named}
use Rattle.declarations.specs.declared.value_type.ValueType.TheVariants as ty
use Rattle.wellformed.proofs.Standing.{IsKnown}

-- an item that is looked up as some sort has the number of its index
numbered_so : {X : Type 0} (n : ℕ) (o : Option X) (y : ℕ × X) → option_map (λ x. (n, x)) o ≡ Some y → n ≡ y.0
numbered_so n None y is = cc
numbered_so n (Some x) y is = ap (λ z. z.0) (same_Some (n, x) y is)

pub item_number : {X : Type 0} (ty : DefinitionTree → Option X) (n : ℕ) (o : Option ItemTree) (y : ℕ × X) → option_and_then (λ i. option_map (λ x. (n, x)) (ty i.definition)) o ≡ Some y → n ≡ y.0
item_number ty n None y is = cc
item_number ty n (Some i) y is = numbered_so n (ty i.definition) y is

item_itself : {X : Type 0} (ty : DefinitionTree → Option X) (p : ProgramText) (n : ℕ) (y : ℕ × X) → item_at ty p n ≡ Some y → item_at ty p y.0 ≡ Some y
item_itself ty p n y is = subst (λ k. item_at ty p k ≡ Some y) (item_number ty n (slice_get p.items n) y is) is

found_itself : {X : Type 0} (ty : DefinitionTree → Option X) (p : ProgramText) (o : Option ℕ) (y : ℕ × X) → option_and_then (item_at ty p) o ≡ Some y → item_at ty p y.0 ≡ Some y
found_itself ty p None y is = cc
found_itself ty p (Some n) y is = item_itself ty p n y is

there_is : {X : Type 0} (o : Option X) (x : X) → o ≡ Some x → IsSomeAnd o (λ y. Unit {0})
there_is None x is = cc
there_is (Some y) x is = tt

-- the struct that a name means is at its index
pub struct_found : (p : ProgramText) (name : Span) (s : Numbered StructTree) → struct_named p name ≡ Some s → item_at as_struct p s.0 ≡ Some (s.0, s.1)
struct_found p name s named = found_itself as_struct p (first_among p.text (item_names p) name) s named

-- a type whose names are declared is known
pub pointer_known : (p : ProgramText) (name : Span) (o : Option _) → struct_named p name ≡ o → pointer_unknown o name ≡ [] → IsKnown p (pointer_type o)
pointer_known p name None is none = cc
pointer_known p name (Some s) is none = there_is (item_at as_struct p s.0) s (found_itself as_struct p (first_among p.text (item_names p) name) s is)

declared_known : (p : ProgramText) (c : ℕ × ContractTree) (end : Side) (state : Span) (b : Bool) → item_at as_contract p c.0 ≡ Some c → (if b then [] else Unknown state (sort.State (Some c.0)) ∷ []) ≡ [] → IsKnown p (if b then ty.Endpoint end c.0 else ty.Unknown)
declared_known p c end state true is none = there_is (item_at as_contract p c.0) c is
declared_known p c end state false is none = cc

pub endpoint_known : (p : ProgramText) (contract : Span) (end : Side) (state : Option Span) (o : Option (ℕ × ContractTree)) → contract_named p contract ≡ o → endpoint_unknown p.text o contract state ≡ [] → IsKnown p (endpoint_type p.text o end state)
endpoint_known p contract end state None is none = cc
endpoint_known p contract end None (Some c) is none = there_is (item_at as_contract p c.0) c (found_itself as_contract p (first_among p.text (item_names p) contract) c is)
endpoint_known p contract end (Some state) (Some c) is none =
    declared_known p c end state (is_declared p.text (names_of_states (states_of c.1)) state) (found_itself as_contract p (first_among p.text (item_names p) contract) c is) none

-- and of the exchange heap
pub pointer_block : {X : Type 0} (p : ProgramText) (o : Option (ℕ × X)) → IsKnown p (pointer_type o) → true ≡ is_block (pointer_type o)
pointer_block p None known = absurd known
pointer_block p (Some s) known = refl

declared_block : (p : ProgramText) (n : ℕ) (end : Side) (b : Bool) → IsKnown p (if b then ty.Endpoint end n else ty.Unknown) → true ≡ is_block (if b then ty.Endpoint end n else ty.Unknown)
declared_block p n end true known = refl
declared_block p n end false known = absurd known

pub endpoint_block : (p : ProgramText) (end : Side) (state : Option Span) (o : Option (ℕ × ContractTree)) → IsKnown p (endpoint_type p.text o end state) → true ≡ is_block (endpoint_type p.text o end state)
endpoint_block p end state None known = absurd known
endpoint_block p end None (Some c) known = refl
endpoint_block p end (Some state) (Some c) known = declared_block p c.0 end (is_declared p.text (names_of_states (states_of c.1)) state) known
