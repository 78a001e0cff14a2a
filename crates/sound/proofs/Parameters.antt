-- The parameters among variables, the checks of each argument, and the types of a variable's fields.
use Rattle.std.proofs.Common.{◌≡◌, [], ap}
use Rattle.std.specs.Prelude.{ℕ, List, None, Option, Some, flat_map, map, slice_get, zip}
use Rattle.std.specs.Option.{option_map_or}
use Rattle.std.specs.List.{filter}
use Rattle.program.specs.Methods.{MethodModel, VariableModel}
use Rattle.program.specs.Programs.{ProgramModel}
use Rattle.program.specs.WellFormed.{field_types, is_parameter}
use Rattle.program.specs.declared.call.Argument.{Argument}
use Rattle.program.specs.declared.number.VarId.{VarId}
use Rattle.program.specs.declared.types.HeapType.{HeapType}
use Rattle.program.specs.declared.statement.Mention.{Mention}
use Rattle.rules.specs.Arguments.{argument_checks, payload, taken_checks}
use Rattle.rules.specs.Endpoints.{field_of, fields_of, type_of}
use Rattle.rules.specs.Outcomes.{Check}
use Rattle.rules.specs.declared.breach.Reason.{Reason}
use Rattle.rows.specs.declared.row.Leaf.{Leaf}

-- the parameters among variables
abbrev pub parameters_of : List VariableModel → List VariableModel
parameters_of variables = filter (λ v. is_parameter v.role) variables

-- their types
abbrev pub types_among : List VariableModel → List HeapType
types_among variables = map (λ v. v.ty) (parameters_of variables)

module _ (m : MethodModel) where
  -- the checks of arguments for parameters of these types, except that none is given twice
  abbrev pub each_argument : List Leaf → List HeapType → List Argument → List Check
  each_argument row types arguments = flat_map (λ x. argument_checks m row x.0 x.1) (zip types arguments)

  -- the same for what goes into a message or the fields of a new block
  abbrev pub each_taken : List Leaf → (VarId → Reason) → List HeapType → List Mention → List Check
  each_taken row wrong types given = flat_map (λ x. taken_checks m row wrong x.0 x.1) (zip types (map payload given))

  -- the type of a variable that exists
  pub type_known : (v : ℕ) (x : VariableModel) → slice_get m.variables v ≡ Some x → type_of m v ≡ Some x.ty
  type_known v x there = ap (λ (o : Option VariableModel). option_map_or (λ y. Some y.ty) o None) there

  -- the types of its owning fields
  pub fields_known : (p : ProgramModel) (v : ℕ) (x : VariableModel) → slice_get m.variables v ≡ Some x
      → fields_of p m v ≡ field_types p.structs x.ty
  fields_known p v x there = ap (λ (o : Option HeapType). option_map_or (λ k. field_types p.structs k) o []) (type_known v x there)

  -- the type of one of these fields
  pub field_known : (p : ProgramModel) (v field : ℕ) (x : VariableModel) → slice_get m.variables v ≡ Some x
      → field_of p m v field ≡ slice_get (field_types p.structs x.ty) field
  field_known p v field x there = ap (λ (types : List HeapType). slice_get types field) (fields_known p v x there)
