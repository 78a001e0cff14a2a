-- The fields of the structs that pointers lead to.
use Rattle.std.proofs.Common.{◌≡◌, ℕ, List, [], ◌∷◌, refl, subst, if◌then◌else◌}
use Rattle.std.specs.Option.{option_map_or}
use Rattle.std.specs.Prelude.{Option, None, Some, Result, Ok, Err, IfOk, is_some}
use Rattle.source.specs.declared.fault.Memory.{Memory}
use Rattle.declarations.specs.declared.mistake.Mistake.{Mistake}
use Rattle.source.specs.declared.token.Span.{Span}
use Rattle.tree.specs.Trees.{StructTree}
use Rattle.names.specs.Expressions.{InScope, field_type, field_mistakes}
use Rattle.declarations.specs.Named.{field_named}
use Rattle.declarations.specs.Types.{type_meant}
use Rattle.declarations.specs.declared.mistake.Mistake.TheVariants.{Unknown}
use Rattle.declarations.specs.declared.mistake.NameSort.TheVariants as sort
use Rattle.names.specs.Mentions.{IsGiven, GivesIn}
use Rattle.declarations.specs.Program.{ProgramText, as_struct, item_at}
use Rattle.declarations.specs.Scopes.{IsScope, AreFieldsOf, IsStruct}
use Rattle.declarations.specs.declared.value_type.ValueType.{ValueType}
use Rattle.declarations.specs.declared.value_type.ValueType.TheVariants as ty
use Rattle.declarations.specs.declared.fields.Fields.{Fields}
use Rattle.declarations.specs.declared.scope.Scope.{Scope}

-- the type of a field of a struct that was found, and the mistake if the struct has no such field
abbrev InStruct : InScope → List ℕ → ℕ → Span → Fields → List Mistake → List Mistake → ValueType → Type 0
InStruct s text index field f old new k = (x : StructTree) → AreFieldsOf text x f → IsGiven (option_map_or (λ f. type_meant s.program f.ty) (field_named text x field) ty.Unknown) (if is_some (field_named text x field) then [] else Unknown field (sort.Field index) ∷ []) old new k

given_in : (s : InScope) (field : Span) (f : Fields) (old new : List Mistake) (k : ValueType) (index : ℕ) (o : Option (ℕ × StructTree)) → item_at as_struct s.program index ≡ o → IsStruct s.program.text o (Some (index, f)) → InStruct s s.program.text index field f old new k
    → IsGiven (field_type s (ty.Pointer index) field) (field_mistakes s (ty.Pointer index) field field) old new k
given_in s field f old new k index None is h all = absurd h
given_in s field f old new k index (Some x) is h all = rw is (all x.1 h.1)

pub given_pointed : (scope : Scope) (field : Span) (f : Fields) (old new : List Mistake) (index : ℕ) (r : Result ValueType Memory)
    → ((p : ProgramText) → IsScope p scope → IsStruct p.text (item_at as_struct p index) (Some (index, f)))
    → IfOk r (λ k. (s : InScope) (x : StructTree) → IsScope s.program scope → AreFieldsOf scope.text.now x f
    → IsGiven (option_map_or (λ f. type_meant s.program f.ty) (field_named scope.text.now x field) ty.Unknown) (if is_some (field_named scope.text.now x field) then [] else Unknown field (sort.Field index) ∷ []) old new k)
    → IfOk r (GivesIn scope (λ s. field_type s (ty.Pointer index) field) (λ s. field_mistakes s (ty.Pointer index) field field) old new)
given_pointed scope field f old new index (Err e) struct all = tt
given_pointed scope field f old new index (Ok k) struct all = record {
  all = λ s is_scope. given_in s field f old new k index _ (refl) (struct s.program is_scope)
      (subst (λ text. InStruct s text index field f old new k) is_scope.text_is (λ x. all s x is_scope));
}
