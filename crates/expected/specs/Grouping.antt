-- Kinds of tokens that a message names by one word.
use Rattle.std.specs.Prelude.{ℕ, Bool, List, [], ◌∷◌, map, filter, not, ◌||◌, codes, Some, if◌then◌else◌}
use Rattle.std.specs.List.{list_any, list_all}
use denote.Enum.Bare.{sameb}
use Rattle.source.specs.contracts.kind.Kind.{the_type}
use Rattle.source.specs.declared.kind.Kind.{Kind}
use Rattle.source.specs.declared.kind.Kind.TheVariants.{Bool as BoolWord, Byte, Int, Internal, Private, Public, Star, EqualEqual, NotEqual}
use Rattle.source.specs.declared.kind.Kind.TheVariants.{Less, LessEqual, Greater, GreaterEqual, Plus, Minus, AndAnd, OrOr}
use Rattle.source.specs.declared.kinds.TheConstants.{ALL_KINDS}
use Rattle.syntax.specs.ExpressionReads.{opens_expression}
use Rattle.syntax.specs.StatementFirsts.{opens_statement}
use Rattle.syntax.specs.ValueReads.{opens_value}
use Rattle.expected.specs.declared.groups.Group.{Group}
use Rattle.expected.specs.declared.groups.Group.TheVariants.{Statement, Value, Expression, Operator, Scalar, Access}
use Rattle.expected.specs.KindWords.{word_of}

-- what a message calls a group
abbrev pub word_of_group : Group → List ℕ
word_of_group Statement = codes "a statement"
word_of_group Value = codes "a value"
word_of_group Expression = codes "an expression"
word_of_group Operator = codes "an operator"
word_of_group Scalar = codes "a type"
word_of_group Access = codes "an access modifier"

-- whether a kind is one of these
abbrev pub has : List Kind → Kind → Bool
has kinds kind = list_any (λ other. sameb the_type other kind) kinds

-- Whether a kind is of a group: a statement, a value or an expression begins with it, or it is an operator between operands, a scalar type,
-- or an access modifier.
abbrev pub is_of : Kind → Group → Bool
is_of kind Statement = opens_statement (Some kind)
is_of kind Value = opens_value (Some kind)
is_of kind Expression = opens_expression (Some kind)
is_of kind Operator = has
    (Star ∷ EqualEqual ∷ NotEqual ∷ Less ∷ LessEqual ∷ Greater ∷ GreaterEqual ∷ Plus ∷ Minus ∷ AndAnd ∷ OrOr ∷ []) kind
is_of kind Scalar = has (BoolWord ∷ Byte ∷ Int ∷ []) kind
is_of kind Access = has (Internal ∷ Private ∷ Public ∷ []) kind

-- whether these are all kinds of a group, and perhaps more
unfoldable pub has_all : List Kind → Group → Bool
has_all kinds group = list_all (λ kind. not (is_of kind group) || has kinds kind) ALL_KINDS

-- these kinds, without those of a group
abbrev pub without : Group → List Kind → List Kind
without group kinds = filter (λ kind. not (is_of kind group)) kinds

-- The words for these kinds: a group's for all of its kinds, if none of them was named before, and then each other kind's own.
unfoldable pub items_of : List Group → List Kind → List (List ℕ)
items_of [] kinds = map word_of kinds
items_of (g ∷ gs) kinds =
    if has_all kinds g then word_of_group g ∷ items_of gs (without g kinds) else items_of gs kinds
