-- The type of an expression, and the mistakes with names and types in it.
use Rattle.std.specs.Prelude.{ℕ, Bool, false, ◌||◌, not, List, [], ◌∷◌, ◌++◌, codes, length, if◌then◌else◌}
use Rattle.std.specs.Prelude.{Option, is_some, option_and_then}
use Rattle.std.specs.Option.{option_map_or}
use Rattle.source.specs.declared.place.Place.{Place}
use Rattle.source.specs.declared.token.Span.{Span}
use Rattle.program.specs.declared.types.Scalar.TheVariants as scalar
use Rattle.declarations.specs.declared.mistake.Mistake.{Mistake}
use Rattle.declarations.specs.declared.mistake.Mistake.TheVariants.{Unknown}
use Rattle.declarations.specs.declared.mistake.NameSort.TheVariants as sort
use Rattle.declarations.specs.declared.mistake.Demand.TheVariants as demand
use Rattle.declarations.specs.declared.mistake.Mismatch.TheVariants.{Given, FieldOwns}
use Rattle.declarations.specs.Named.{field_named}
use Rattle.declarations.specs.Types.{agree, is_silent, is_unknown, is_number, is_truth, is_block, is_heap, type_meant, unless}
use Rattle.declarations.specs.Program.{ProgramText, as_struct, item_at}
use Rattle.names.specs.Shapes.{Shape, Number, Truth, Mention, Field, Element, Parens, Signed}
use Rattle.names.specs.Shapes.{Joined, Joint, Logic, Likeness, Sum}
use Rattle.tree.specs.declared.class as made
use Rattle.tree.specs.declared.expression.PrefixOperator.{PrefixOperator}
use Rattle.tree.specs.declared.expression.PrefixOperator.TheVariants.{Not, Negate}
use Rattle.names.specs.Variables.{ScopeVariable, variable_named}
use Rattle.tables.specs.Words.{word_at, same_word}
use Rattle.declarations.specs.declared.value_type.ValueType.{ValueType}
use Rattle.declarations.specs.declared.value_type.ValueType.TheVariants as ty

-- what is in scope: a program, and variables
pub record InScope : Type 0 where
  pub program : ProgramText
  pub variables : List ScopeVariable

-- the variable that a name means
abbrev pub variable_of : InScope → Span → Option ScopeVariable
variable_of s name = variable_named s.program.text s.variables name

-- whether a field is `Length`
abbrev pub is_length : InScope → Span → Bool
is_length s name = same_word (word_at s.program.text name) (codes "Length")

-- where an expression begins
abbrev pub place_of : Shape → Place
place_of (Number place) = place
place_of (Truth place) = place
place_of (Mention name) = name.place
place_of (Field name field) = name.place
place_of (Element name index) = name.place
place_of (Parens place inner) = place
place_of (Signed sign place inner) = place
place_of (Joined joint left right) = place_of left

-- the field of this name in the struct that is item `n`
abbrev pub field_of : InScope → ℕ → Span → Option made.Field.Field
field_of s n field = option_and_then (λ x. field_named s.program.text x.1 field) (item_at as_struct s.program n)

-- whether the field of a variable of this type owns a block: it is of the exchange heap, even if the names in its type are not declared
abbrev pub owns : InScope → ValueType → Span → Bool
owns s (ty.Pointer n) field = option_map_or (λ f. is_heap f.ty) (field_of s n field) false
owns s _ field = false

-- the type of this field of a variable of this type; unknown if there is no such field, missing if the type has no fields
abbrev pub field_type : InScope → ValueType → Span → ValueType
field_type s (ty.Array element) field = if is_length s field then ty.Scalar scalar.Int else ty.Unknown
field_type s (ty.Pointer n) field = option_map_or (λ f. type_meant s.program f.ty) (field_of s n field) ty.Unknown
field_type s ty.Unknown field = ty.Unknown
field_type s _ field = ty.Missing

-- the type of an element; `lost` says that the type of the index is unknown
abbrev pub element_type : ValueType → Bool → ValueType
element_type ty.Unknown lost = ty.Unknown
element_type (ty.Array element) lost = if lost then ty.Unknown else ty.Scalar element
element_type _ lost = if lost then ty.Unknown else ty.Missing

-- the type of the variable that a name means; unknown if it is not declared
abbrev pub type_named : InScope → Span → ValueType
type_named s name = option_map_or (λ v. v.ty) (variable_of s name) ty.Unknown

-- the type that operators of this kind give
abbrev pub joined_type : Joint → ValueType
joined_type Sum = ty.Scalar scalar.Int
joined_type _ = ty.Scalar scalar.Bool

-- the type that a prefix gives
abbrev pub signed_type : PrefixOperator → ValueType
signed_type Not = ty.Scalar scalar.Bool
signed_type Negate = ty.Scalar scalar.Int

-- the type of an expression: that of its outermost operator, or unknown if an operand's is
abbrev pub type_of : InScope → Shape → ValueType
type_of s (Number place) = ty.Scalar scalar.Int
type_of s (Truth place) = ty.Scalar scalar.Bool
type_of s (Mention name) = type_named s name
type_of s (Field name field) = field_type s (type_named s name) field
type_of s (Element name index) = element_type (type_named s name) (is_unknown (type_of s index))
type_of s (Parens place inner) = type_of s inner
type_of s (Signed sign place inner) = if is_unknown (type_of s inner) then ty.Unknown else signed_type sign
type_of s (Joined joint left right) = if is_unknown (type_of s left) || is_unknown (type_of s right) then ty.Unknown else joined_type joint

-- a mistake, unless the type is a number, missing or unknown
abbrev pub asked_number : ValueType → Place → List Mistake
asked_number k place = unless (is_silent k || is_number k) place (Given demand.Number k)

-- a mistake, unless the type is `bool`, missing or unknown
abbrev pub asked_truth : ValueType → Place → List Mistake
asked_truth k place = unless (is_silent k || is_truth k) place (Given demand.Truth k)

-- a mistake, unless the type is a scalar, missing or unknown
abbrev pub asked_either : ValueType → Place → List Mistake
asked_either k place = unless (is_silent k || (is_number k || is_truth k)) place (Given demand.Scalar k)

-- a mistake, unless the type is of the exchange heap, missing or unknown
abbrev pub block_asked : ValueType → Place → List Mistake
block_asked k place = unless (is_silent k || is_block k) place (Given demand.Block k)

-- a mistake, unless the type agrees with the one that is asked for
abbrev pub type_asked : ValueType → ValueType → Place → List Mistake
type_asked asked k place = unless (agree k asked) place (Given (demand.OfType asked) k)

-- a mistake, unless the right operand of `==` or `!=` fits the left one: a number if that is one, a `bool` if that is one, else any scalar
abbrev pub asked_like : ValueType → ValueType → Place → List Mistake
asked_like left k place = if is_number left then asked_number k place
    else (if is_truth left then asked_truth k place else asked_either k place)

-- the mistake of a left operand
abbrev pub left_asked : Joint → ValueType → Place → List Mistake
left_asked Logic k place = asked_truth k place
left_asked Likeness k place = asked_either k place
left_asked _ k place = asked_number k place

-- the mistake of a right operand
abbrev pub right_asked : Joint → ValueType → ValueType → Place → List Mistake
right_asked Likeness left k place = asked_like left k place
right_asked joint left k place = left_asked joint k place

-- the mistake of the operand of a prefix
abbrev pub sign_asked : PrefixOperator → ValueType → Place → List Mistake
sign_asked Not k place = asked_truth k place
sign_asked Negate k place = asked_number k place

-- a name that no variable in scope has
abbrev pub variable_mistakes : InScope → Span → List Mistake
variable_mistakes s name = if is_some (variable_of s name) then [] else Unknown name (sort.Variable (length s.variables)) ∷ []

-- the mistakes of a variable within an expression: it is not declared, or of the exchange heap
abbrev pub mention_mistakes : InScope → Span → List Mistake
mention_mistakes s name = variable_mistakes s name
    ++ unless (not (is_block (type_named s name))) name.place (Given demand.NoBlock (type_named s name))

-- the mistake of an element of what is not an array
abbrev pub element_mistakes : ValueType → Span → List Mistake
element_mistakes (ty.Array element) name = []
element_mistakes k name = unless (is_silent k) name.place (Given demand.Array k)

-- the mistake of a field that is not there: a struct has its own, an array its length, anything else none
abbrev pub field_mistakes : InScope → ValueType → Span → Span → List Mistake
field_mistakes s (ty.Array element) name field = if is_length s field then [] else Unknown field sort.Length ∷ []
field_mistakes s (ty.Pointer n) name field =
    option_map_or (λ x. if is_some (field_named s.program.text x.1 field) then [] else Unknown field (sort.Field n) ∷ [])
    (item_at as_struct s.program n) []
field_mistakes s k name field = unless (is_silent k) name.place (Given demand.Fields k)

-- the mistakes in an expression
abbrev pub expression_mistakes : InScope → Shape → List Mistake
expression_mistakes s (Number place) = []
expression_mistakes s (Truth place) = []
expression_mistakes s (Mention name) = mention_mistakes s name
expression_mistakes s (Field name field) =
    variable_mistakes s name ++ (field_mistakes s (type_named s name) name field
    ++ unless (not (owns s (type_named s name) field)) name.place FieldOwns)
expression_mistakes s (Element name index) =
    expression_mistakes s index ++ (asked_number (type_of s index) (place_of index)
    ++ (variable_mistakes s name ++ element_mistakes (type_named s name) name))
expression_mistakes s (Parens place inner) = expression_mistakes s inner
expression_mistakes s (Signed sign place inner) = expression_mistakes s inner ++ sign_asked sign (type_of s inner) (place_of inner)
expression_mistakes s (Joined joint left right) =
    expression_mistakes s left ++ (expression_mistakes s right
    ++ (left_asked joint (type_of s left) (place_of left) ++ right_asked joint (type_of s left) (type_of s right) (place_of right)))

-- the mistakes in an expression that is a whole value, argument or result, which may be just a variable of the exchange heap
abbrev pub whole_mistakes : InScope → Shape → List Mistake
whole_mistakes s (Mention name) = variable_mistakes s name
whole_mistakes s e = expression_mistakes s e

-- the mistakes in an expression that is to be a `bool`
abbrev pub truth_mistakes : InScope → Shape → List Mistake
truth_mistakes s e = expression_mistakes s e ++ asked_truth (type_of s e) (place_of e)

-- the mistakes in an expression that is to be a number
abbrev pub number_mistakes : InScope → Shape → List Mistake
number_mistakes s e = expression_mistakes s e ++ asked_number (type_of s e) (place_of e)
