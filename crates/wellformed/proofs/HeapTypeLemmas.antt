-- Types whose names are declared, and what variables of them hold.
use Rattle.std.proofs.Common.{◌≡◌, ℕ, Bool, true, false, [], ap, refl, subst, sym, ◌∙◌, eq-eqb, eqb-true}
use Rattle.std.proofs.lemmas.Bool.{and_from, and_parts}
use Rattle.std.proofs.lemmas.Option.{same_Some}
use Rattle.std.specs.Prelude.{Option, None, Some, IsSomeAnd, ◌==◌, ◌||◌, not, if◌then◌else◌, option_and_then, option_map, slice_get}
use Rattle.source.specs.declared.token.Span.{Span}
use Rattle.tree.specs.Trees.{ContractTree, ItemTree, StructTree, contracts_of}
use Rattle.tree.specs.declared.types as type_nodes
use Rattle.tree.specs.declared.types.Heap.TheVariants as heap
use Rattle.program.specs.declared.types.Scalar.{Scalar}
use Rattle.program.specs.declared.types.Scalar.TheVariants as scalar
use Rattle.program.specs.declared.types.Side.{Side}
use Rattle.program.specs.declared.types.Side.TheVariants as side
use Rattle.tree.specs.declared.types.Type.TheVariants as type
use Rattle.declarations.specs.Types.{agree, alike, counts, is_silent, is_block, is_heap, is_unknown, type_meant, type_unknown}
use Rattle.program.specs.Types.{same_scalar, same_side}
use Rattle.declarations.specs.Program.{ProgramText, as_contract, as_struct, contract_named, item_at, struct_named}
use Rattle.program.specs.Parts.{ContractModel}
use Rattle.declarations.specs.Resolution.{resolved_contracts}
use Rattle.declarations.specs.declared.value_type as declared
use Rattle.declarations.specs.declared.value_type.ValueType.TheVariants as ty
use Rattle.program.specs.declared.number.StateId.{StateId}
use Rattle.program.specs.declared.types.HeapType.{HeapType}
use Rattle.program.specs.declared.types.HeapType.TheVariants as holds
use Rattle.resolving.specs.Counts.{contracts_before, structs_before}
use Rattle.resolving.specs.Types.{contract_at, contract_number, heap_type, state_of}
use Rattle.program.specs.WellFormed.{IsType, IsStateOf, same_type, contract_held}
use Rattle.wellformed.proofs.ContractLemmas.{contract_is_at, state_there}
use Rattle.wellformed.proofs.Standing.{IsKnown, IsHeld, IsHeldAs}
use Rattle.wellformed.proofs.TypeLemmas.{item_number, pointer_known, endpoint_known, pointer_block, endpoint_block}

pub known_loud : (p : ProgramText) (k : declared.ValueType.ValueType) → IsKnown p k → is_silent k ≡ false
known_loud p ty.Missing known = absurd known
known_loud p ty.Unknown known = absurd known
known_loud p k known = refl

pub known_certain : (p : ProgramText) (k : declared.ValueType.ValueType) → IsKnown p k → is_unknown k ≡ false
known_certain p ty.Missing known = absurd known
known_certain p ty.Unknown known = absurd known
known_certain p k known = refl

pub type_known : (p : ProgramText) (t : type_nodes.Type.Type) → type_unknown p t ≡ [] → IsKnown p (type_meant p t)
type_known p (type.Scalar s) none = tt
type_known p (type.Heap (heap.Pointer name bang)) none = pointer_known p name (struct_named p name) refl none
type_known p (type.Heap (heap.Array element bang)) none = tt
type_known p (type.Heap (heap.Endpoint contract end state bang in_heap)) none = endpoint_known p contract end state (contract_named p contract) refl none

pub heap_block : (p : ProgramText) (t : type_nodes.Type.Type) → type_unknown p t ≡ [] → is_heap t ≡ is_block (type_meant p t)
heap_block p (type.Scalar s) none = refl
heap_block p (type.Heap (heap.Pointer name bang)) none = pointer_block p (struct_named p name) (type_known p (type.Heap (heap.Pointer name bang)) none)
heap_block p (type.Heap (heap.Array element bang)) none = refl
heap_block p (type.Heap (heap.Endpoint contract end state bang in_heap)) none = endpoint_block p end state (contract_named p contract) (type_known p (type.Heap (heap.Endpoint contract end state bang in_heap)) none)

-- the contract of an endpoint whose names are declared
pub record HasContract (p : ProgramText) (n : ℕ) : Type 0 where
  pub tree : ContractTree
  pub is : item_at as_contract p n ≡ Some (n, tree)

contract_has : (p : ProgramText) (n : ℕ) (o : Option (ℕ × ContractTree)) → item_at as_contract p n ≡ o → IsSomeAnd o (λ c. Unit {0}) → HasContract p n
contract_has p n None is some = absurd some
contract_has p n (Some (k, c)) is some =
    let at : n ≡ k = item_number as_contract n (slice_get p.items n) (k, c) is in
    record { tree = c; is = is ∙ ap (λ m. Some (m, c)) (sym at) }

pub contract_known : (p : ProgramText) (n : ℕ) (side : Side) → IsKnown p (ty.Endpoint side n) → HasContract p n
contract_known p n side known = contract_has p n (item_at as_contract p n) refl known

-- the struct of a pointer whose name is declared
pub record HasStruct (p : ProgramText) (n : ℕ) : Type 0 where
  pub tree : StructTree
  pub is : item_at as_struct p n ≡ Some (n, tree)

struct_has : (p : ProgramText) (n : ℕ) (o : Option (ℕ × StructTree)) → item_at as_struct p n ≡ o → IsSomeAnd o (λ s. Unit {0}) → HasStruct p n
struct_has p n None is some = absurd some
struct_has p n (Some (k, s)) is some =
    let at : n ≡ k = item_number as_struct n (slice_get p.items n) (k, s) is in
    record { tree = s; is = is ∙ ap (λ m. Some (m, s)) (sym at) }

pub struct_known : (p : ProgramText) (n : ℕ) → IsKnown p (ty.Pointer n) → HasStruct p n
struct_known p n known = struct_has p n (item_at as_struct p n) refl known

-- a variable of a scalar type holds nothing of the exchange heap
pub scalar_holds : (p : ProgramText) (k : declared.ValueType.ValueType) (state : Option Span) → is_block k ≡ false → heap_type p k state ≡ None
scalar_holds p (ty.Scalar s) state scalar = refl
scalar_holds p (ty.Array element) state scalar = cc
scalar_holds p (ty.Pointer n) state scalar = cc
scalar_holds p (ty.Endpoint end n) state scalar = cc
scalar_holds p ty.Missing state scalar = refl
scalar_holds p ty.Unknown state scalar = refl

-- a variable of any other type does
pub record Holding (p : ProgramText) (k : declared.ValueType.ValueType) (state : Option Span) : Type 0 where
  pub held : HeapType
  pub is : heap_type p k state ≡ Some held

-- a struct by its number
abbrev pub struct_of : ℕ → HeapType
struct_of n = holds.Struct (record { 0 = n })

pointer_holds : (p : ProgramText) (n : ℕ) (state : Option Span) (o : Option ItemTree) → slice_get p.items n ≡ o → IsSomeAnd {T = ℕ × StructTree} (option_and_then (λ i. option_map (λ x. (n, x)) (as_struct i.definition)) o) (λ s. Unit {0}) → Holding p (ty.Pointer n) state
pointer_holds p n state None is known = absurd known
pointer_holds p n state (Some i) is known = record { held = _; is = ap (option_map (λ j. struct_of (structs_before p.items n))) is }

endpoint_holds : (p : ProgramText) (n : ℕ) (end : Side) (state : Option Span) (c : ContractModel) → contract_at p n ≡ Some c → Holding p (ty.Endpoint end n) state
endpoint_holds p n end state c is = record { held = _; is = ap (option_map (λ x. holds.Endpoint (contract_number p n) end (state_of p n x state))) is }

pub block_holds : (p : ProgramText) (k : declared.ValueType.ValueType) (state : Option Span) → IsKnown p k → is_block k ≡ true → Holding p k state
block_holds p (ty.Scalar s) state known block = cc
block_holds p (ty.Array element) state known block = record { held = holds.Array element; is = refl }
block_holds p (ty.Pointer n) state known block = pointer_holds p n state (slice_get p.items n) refl known
block_holds p (ty.Endpoint end n) state known block =
    let c : HasContract p n = contract_known p n end known in
    endpoint_holds p n end state _ (contract_is_at p n c.tree c.is).is
block_holds p ty.Missing state known block = absurd known
block_holds p ty.Unknown state known block = absurd known

as_held : (p : ProgramText) (k : declared.ValueType.ValueType) (state : Option Span) (o : Option HeapType) → heap_type p k state ≡ o → (o ≡ None → is_block k ≡ false) → IsHeldAs p k o
as_held p k state None is scalar = scalar refl
as_held p k state (Some held) is scalar = record { state = state; is = is }

held_none : (p : ProgramText) (k : declared.ValueType.ValueType) (state : Option Span) (b : Bool) → is_block k ≡ b → IsKnown p k → heap_type p k state ≡ None → is_block k ≡ false
held_none p k state false is known none = is
held_none p k state true is known none = let holding = block_holds p k state known is in let here = holding.is in cc

-- a type is of the exchange heap exactly if a variable of it holds something
pub held_as : (p : ProgramText) (k : declared.ValueType.ValueType) (state : Option Span) → IsKnown p k → IsHeldAs p k (heap_type p k state)
held_as p k state known = as_held p k state (heap_type p k state) refl (held_none p k state (is_block k) refl known)

pub loud_left : (a b : Bool) → a ≡ false → (a || b) ≡ true → b ≡ true
loud_left true b loud fits = cc
loud_left false b loud fits = fits

-- types that agree are alike
pub agree_alike : (p : ProgramText) (a b : declared.ValueType.ValueType) → IsKnown p a → IsKnown p b → agree a b ≡ true → alike a b ≡ true
agree_alike p a b known asked fits =
    loud_left (is_silent b) (alike a b) (known_loud p b asked) (loud_left (is_silent a) (is_silent b || alike a b) (known_loud p a known) fits)

pub alike_block : (a b : declared.ValueType.ValueType) → alike a b ≡ true → is_block a ≡ is_block b
alike_block (ty.Scalar s) (ty.Scalar t) fits = refl
alike_block (ty.Pointer m) (ty.Pointer n) fits = refl
alike_block (ty.Array s) (ty.Array t) fits = refl
alike_block (ty.Endpoint s m) (ty.Endpoint t n) fits = refl
alike_block a b fits = cc

mapped_is : {X Y : Type 0} (y z : Y) (o : Option X) → option_map (λ x. y) o ≡ Some z → z ≡ y
mapped_is y z None is = cc
mapped_is y z (Some x) is = sym (same_Some y z is)

pub pointer_held : (p : ProgramText) (n : ℕ) (held : HeapType) → IsHeld p (ty.Pointer n) held → held ≡ struct_of (structs_before p.items n)
pointer_held p n held is = mapped_is (struct_of (structs_before p.items n)) held (slice_get p.items n) is.is

pub array_held : (p : ProgramText) (element : Scalar) (held : HeapType) → IsHeld p (ty.Array element) held → held ≡ holds.Array element
array_held p element held is = sym (same_Some (holds.Array element) held is.is)

-- what an end of a channel holds
pub record HoldsEnd (p : ProgramText) (n : ℕ) (side : Side) (held : HeapType) : Type 0 where
  pub state : StateId
  pub is : held ≡ holds.Endpoint (contract_number p n) side state

-- the state is one of its contract
record HoldsState (p : ProgramText) (n : ℕ) (end : Side) (held : HeapType) : Type 0 where
  contract : ContractModel
  state : StateId
  there : contract_at p n ≡ Some contract
  of : IsStateOf contract state
  is : held ≡ holds.Endpoint (contract_number p n) end state

state_holds : (p : ProgramText) (n : ℕ) (end : Side) (held : HeapType) (state : Option Span) (o : Option ContractModel) → contract_at p n ≡ o
    → option_map (λ c. holds.Endpoint (contract_number p n) end (state_of p n c state)) o ≡ Some held → HoldsState p n end held
state_holds p n end held state None there is = cc
state_holds p n end held state (Some c) there is = record {
  contract = c;
  state = state_of p n c state;
  there = there;
  of = state_there p n c state there;
  is = sym (same_Some (holds.Endpoint (contract_number p n) end (state_of p n c state)) held is);
}

end_state : (p : ProgramText) (n : ℕ) (end : Side) (held : HeapType) → IsHeld p (ty.Endpoint end n) held → HoldsState p n end held
end_state p n end held is = state_holds p n end held is.state (contract_at p n) refl is.is

pub end_holds : (p : ProgramText) (n : ℕ) (side : Side) (held : HeapType) → IsHeld p (ty.Endpoint side n) held → HoldsEnd p n side held
end_holds p n side held is = let h : HoldsState p n side held = end_state p n side held is in record { state = h.state; is = h.is }

-- variables of like types hold blocks of one type
pub alike_held : (p : ProgramText) (a b : declared.ValueType.ValueType) (x y : HeapType) → alike a b ≡ true → IsHeld p a x → IsHeld p b y → same_type x y ≡ true
alike_held p (ty.Scalar s) (ty.Scalar t) x y fits left right = let none = left.is in cc
alike_held p (ty.Pointer m) (ty.Pointer n) x y fits left right =
    ap (λ z. same_type z y) (pointer_held p m x left) ∙ ap (same_type (struct_of (structs_before p.items m))) (pointer_held p n y right)
    ∙ eq-eqb (structs_before p.items m) (structs_before p.items n) (ap (structs_before p.items) (eqb-true m n fits))
alike_held p (ty.Array s) (ty.Array t) x y fits left right =
    ap (λ z. same_type z y) (array_held p s x left) ∙ ap (same_type (holds.Array s)) (array_held p t y right) ∙ fits
alike_held p (ty.Endpoint s m) (ty.Endpoint t n) x y fits left right =
    let h : HoldsEnd p m s x = end_holds p m s x left in
    let k : HoldsEnd p n t y = end_holds p n t y right in
    let parts = and_parts (m == n) (same_side s t) fits in
    ap (λ z. same_type z y) h.is ∙ ap (same_type (holds.Endpoint (contract_number p m) s h.state)) k.is
    ∙ and_from (contracts_before p.items m == contracts_before p.items n) (same_side s t)
    (eq-eqb (contracts_before p.items m) (contracts_before p.items n) (ap (contracts_before p.items) (eqb-true m n parts.0))) parts.1
alike_held p a b x y fits left right = cc

some_and : {X : Type 0} (P : X → Type 0) (o : Option X) (x : X) → o ≡ Some x → P x → IsSomeAnd o P
some_and P o x is holds = subst (λ q. IsSomeAnd q P) (sym is) holds

-- the contract and the state in what a variable holds exist
pub held_type : (p : ProgramText) (k : declared.ValueType.ValueType) (held : HeapType) → IsHeld p k held → IsType (resolved_contracts p.text (contracts_of p.items)) held
held_type p (ty.Scalar s) held is = let none = is.is in cc
held_type p (ty.Array element) held is = subst (IsType (resolved_contracts p.text (contracts_of p.items))) (sym (array_held p element held is)) tt
held_type p (ty.Pointer n) held is = subst (IsType (resolved_contracts p.text (contracts_of p.items))) (sym (pointer_held p n held is)) tt
held_type p (ty.Endpoint end n) held is =
    let h : HoldsState p n end held = end_state p n end held is in
    subst (IsType (resolved_contracts p.text (contracts_of p.items))) (sym h.is) (some_and (λ c. IsStateOf c h.state) (contract_at p n) h.contract h.there h.of)
held_type p ty.Missing held is = let none = is.is in cc
held_type p ty.Unknown held is = let none = is.is in cc

-- the contract of an endpoint
pub end_held : (p : ProgramText) (n : ℕ) (side : Side) (held : HeapType) → IsHeld p (ty.Endpoint side n) held
    → contract_held (resolved_contracts p.text (contracts_of p.items)) held ≡ contract_at p n
end_held p n side held is = ap (contract_held (resolved_contracts p.text (contracts_of p.items))) (end_holds p n side held is).is

count_self : (b : Bool) → (if b then b else not b) ≡ true
count_self true = refl
count_self false = refl

scalar_self : (s : Scalar) → same_scalar s s ≡ true
scalar_self scalar.Int = refl
scalar_self scalar.Byte = refl
scalar_self scalar.Bool = refl

side_self : (s : Side) → same_side s s ≡ true
side_self side.Imp = refl
side_self side.Exp = refl

-- variables of one type hold blocks of one type, and a type is like itself
pub alike_self : (p : ProgramText) (k : declared.ValueType.ValueType) → IsKnown p k → alike k k ≡ true
alike_self p (ty.Scalar s) known = count_self (counts s)
alike_self p (ty.Array element) known = scalar_self element
alike_self p (ty.Pointer n) known = eq-eqb n n refl
alike_self p (ty.Endpoint end n) known = and_from (n == n) (same_side end end) (eq-eqb n n refl) (side_self end)
alike_self p ty.Missing known = absurd known
alike_self p ty.Unknown known = absurd known

count_sym : (a b : Bool) → (if a then b else not b) ≡ true → (if b then a else not a) ≡ true
count_sym true true fits = refl
count_sym true false fits = cc
count_sym false true fits = cc
count_sym false false fits = refl

scalar_sym : (s t : Scalar) → same_scalar s t ≡ true → same_scalar t s ≡ true
scalar_sym scalar.Int scalar.Int fits = refl
scalar_sym scalar.Byte scalar.Byte fits = refl
scalar_sym scalar.Bool scalar.Bool fits = refl
scalar_sym s t fits = cc

side_sym : (s t : Side) → same_side s t ≡ true → same_side t s ≡ true
side_sym side.Imp side.Imp fits = refl
side_sym side.Exp side.Exp fits = refl
side_sym s t fits = cc

pub alike_sym : (a b : declared.ValueType.ValueType) → alike a b ≡ true → alike b a ≡ true
alike_sym (ty.Scalar s) (ty.Scalar t) fits = count_sym (counts s) (counts t) fits
alike_sym (ty.Pointer m) (ty.Pointer n) fits = eq-eqb n m (sym (eqb-true m n fits))
alike_sym (ty.Array s) (ty.Array t) fits = scalar_sym s t fits
alike_sym (ty.Endpoint s m) (ty.Endpoint t n) fits =
    let parts = and_parts (m == n) (same_side s t) fits in
    and_from (n == m) (same_side t s) (eq-eqb n m (sym (eqb-true m n parts.0))) (side_sym s t parts.1)
alike_sym a b fits = cc
