-- Scalars own nothing.
use Rattle.std.proofs.Common.{◌≡◌, ℕ, List, Bool, true, false, refl, if◌then◌else◌}
use Rattle.std.specs.Option.{option_map_or}
use Rattle.std.specs.Prelude.{Option, None, Some}
use Rattle.source.specs.declared.token.Span.{Span}
use Rattle.program.specs.declared.types.Scalar.{Scalar}
use Rattle.program.specs.declared.types.Side.{Side}
use Rattle.tree.specs.Trees.{ContractTree}
use Rattle.tree.specs.declared.class as made
use Rattle.tree.specs.declared.types as type_nodes
use Rattle.tree.specs.declared.types.Heap.TheVariants as heap
use Rattle.tree.specs.declared.types.Type.TheVariants as type
use Rattle.declarations.specs.Declarations.{is_declared, names_of_states, states_of}
use Rattle.declarations.specs.Types.{endpoint_type, is_heap, pointer_type, type_meant}
use Rattle.declarations.specs.Program.{ProgramText, contract_named, struct_named}
use Rattle.declarations.specs.declared.value_type.ValueType.{ValueType}
use Rattle.declarations.specs.declared.value_type.ValueType.TheVariants as ty
use Rattle.names.specs.Expressions.{InScope, field_of, field_type, owns}

no_pointer : {X : Type 0} (o : Option (ℕ × X)) (n : Scalar) → pointer_type o ≡ ty.Scalar n → ⊥
no_pointer None n is = cc
no_pointer (Some s) n is = cc

no_state : (declared : Bool) (end : Side) (contract : ℕ) (n : Scalar)
    → (if declared then ty.Endpoint end contract else ty.Unknown) ≡ ty.Scalar n → ⊥
no_state true end contract n is = cc
no_state false end contract n is = cc

no_endpoint : (text : List ℕ) (o : Option (ℕ × ContractTree)) (end : Side) (state : Option Span) (n : Scalar)
    → endpoint_type text o end state ≡ ty.Scalar n → ⊥
no_endpoint text None end state n is = cc
no_endpoint text (Some c) end None n is = cc
no_endpoint text (Some c) end (Some state) n is = no_state (is_declared text (names_of_states (states_of c.1)) state) end c.0 n is

scalar_type : (p : ProgramText) (t : type_nodes.Type.Type) (n : Scalar) → type_meant p t ≡ ty.Scalar n → is_heap t ≡ false
scalar_type p (type.Scalar s) n is = refl
scalar_type p (type.Heap (heap.Pointer name bang)) n is = absurd (no_pointer (struct_named p name) n is)
scalar_type p (type.Heap (heap.Array element bang)) n is = cc
scalar_type p (type.Heap (heap.Endpoint contract end state bang in_heap)) n is =
    absurd (no_endpoint p.text (contract_named p contract) end state n is)

scalar_field : (p : ProgramText) (o : Option made.Field.Field) (n : Scalar)
    → option_map_or (λ f. type_meant p f.ty) o ty.Unknown ≡ ty.Scalar n → option_map_or (λ f. is_heap f.ty) o false ≡ false
scalar_field p None n is = refl
scalar_field p (Some f) n is = scalar_type p f.ty n is

-- a scalar field owns nothing
pub scalar_owns : (s : InScope) (held : ValueType) (field : Span) (n : Scalar) → field_type s held field ≡ ty.Scalar n → owns s held field ≡ false
scalar_owns s (ty.Scalar t) field n is = refl
scalar_owns s (ty.Pointer place) field n is = scalar_field s.program (field_of s place field) n is
scalar_owns s (ty.Array t) field n is = refl
scalar_owns s (ty.Endpoint end c) field n is = refl
scalar_owns s ty.Missing field n is = refl
scalar_owns s ty.Unknown field n is = refl
