-- Findings that are added before those of a call that may fail.
use Rattle.std.proofs.Common.{◌≡◌, [], ℕ, List, ◌∷◌, ◌++◌, length, Option, Some, None, refl, sym, ap}
use Rattle.std.specs.Prelude.{Result, Ok, Err, OnOk, option_map}
use Rattle.std.specs.Option.{option_map_or}
use Rattle.declarations.specs.declared.mistake.Mistake.{Mistake}
use Rattle.tree.specs.Trees.{ClassTree, StructTree}
use Rattle.tree.specs.declared.class as made
use Rattle.declarations.specs.Mistakes.{Adds}
use Rattle.declarations.specs.Owning.{owning_fields}
use Rattle.declarations.specs.Scopes.{AreMethods, IsClass}
use Rattle.declarations.specs.declared.members.ClassMethods.{ClassMethods}
use Rattle.names.specs.Values.{Purpose, argument_mistakes, class_mistakes, send_mistakes}
use Rattle.names.specs.Expressions.{InScope}
use Rattle.declarations.specs.Types.{is_silent, unless}
use Rattle.names.specs.Shapes.{Shape}
use Rattle.declarations.specs.declared.value_type.ValueType.{ValueType}
use Rattle.declarations.specs.declared.value_type.ValueType.TheVariants as ty
use Rattle.source.specs.declared.token.Span.{Span}
use Rattle.program.specs.declared.types.Side.{Side}
use Rattle.declarations.specs.declared.mistake.Demand.TheVariants as demand
use Rattle.declarations.specs.declared.mistake.Mistake.TheVariants.{Unknown}
use Rattle.declarations.specs.declared.mistake.NameSort.TheVariants as sort
use Rattle.declarations.specs.declared.mistake.Mismatch.TheVariants.{Given}
use Rattle.declarations.proofs.AddLemmas.{adds_then}

pub on_adds : {T E : Type 0} (r : Result T E) (old mid new : List Mistake) (a b : List Mistake) → Adds old mid a → OnOk r (Adds mid new b) → OnOk r (Adds old new (a ++ b))
on_adds (Ok x) old mid new a b first second = adds_then first second
on_adds (Err e) old mid new a b first second = second

-- a call of a method of an unknown class
pub no_class : (s : InScope) (text : List ℕ) (o : Option (ℕ × ClassTree)) (purpose : Purpose) (class name : Span) (es : List Shape) → IsClass text o None → class_mistakes s o purpose class name es ≡ Unknown class (sort.Front (length s.variables)) ∷ argument_mistakes s [] es
no_class s text None purpose class name es h = refl
no_class s text (Some c) purpose class name es h = absurd h

-- a call on a variable that is no endpoint
pub no_send : (s : InScope) (k : ValueType) (purpose : Purpose) (variable word : Span) (arguments : List Shape) → ((end : Side) (n : ℕ) → k ≡ ty.Endpoint end n → ⊥) → send_mistakes s k purpose variable word arguments ≡ unless (is_silent k) variable.place (Given demand.Endpoint k) ++ argument_mistakes s [] arguments
no_send s (ty.Scalar t) purpose variable word arguments other = refl
no_send s (ty.Pointer n) purpose variable word arguments other = refl
no_send s (ty.Array t) purpose variable word arguments other = refl
no_send s (ty.Endpoint end n) purpose variable word arguments other = absurd (other end n refl)
no_send s ty.Missing purpose variable word arguments other = refl
no_send s ty.Unknown purpose variable word arguments other = refl

-- a struct that was looked up, with its owning fields
abbrev owning_of : Option (ℕ × StructTree) → Option (ℕ × List made.Field.Field)
owning_of o = option_map (λ s. (s.0, owning_fields s.1)) o

pub record Structured (o : Option (ℕ × StructTree)) (index : ℕ) (fields : List made.Field.Field) : Type 0 where
  pub structure : StructTree
  pub is : o ≡ Some (index, structure)
  pub owning : fields ≡ owning_fields structure

pub structured : (o : Option (ℕ × StructTree)) (index : ℕ) (fields : List made.Field.Field) → owning_of o ≡ Some (index, fields) → Structured o index fields
structured None index fields is = cc
structured (Some s) index fields is =
    let here : s.0 ≡ index = ap (λ (o : Option (ℕ × List made.Field.Field)). option_map_or (λ x. x.0) o 0) is in
    record {
      structure = s.1;
      is = ap (λ n. Some (n, s.1)) here;
      owning = ap (λ (o : Option (ℕ × List made.Field.Field)). option_map_or (λ x. x.1) o []) (sym is);
    }

pub no_struct : (o : Option (ℕ × StructTree)) → owning_of o ≡ None → o ≡ None
no_struct None is = refl
no_struct (Some s) is = cc

-- a class that was looked up
pub record Classed (text : List ℕ) (o : Option (ℕ × ClassTree)) (m : ClassMethods) : Type 0 where
  pub class : ℕ × ClassTree
  pub is : o ≡ Some class
  pub methods : AreMethods text class.1 m

pub classed : (text : List ℕ) (o : Option (ℕ × ClassTree)) (m : ClassMethods) → IsClass text o (Some m) → Classed text o m
classed text None m h = absurd h
classed text (Some c) m h = record { class = c; is = refl; methods = h }
