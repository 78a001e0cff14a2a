-- Which tokens are operators, level by level.
use Rattle.std.specs.Prelude.{Bool, ◌||◌, Option, Some, None, is_some}
use Rattle.source.specs.declared.kind.Kind.{Kind}
use Rattle.source.specs.declared.kind.Kind.TheVariants as kind
use Rattle.tree.specs.Symbols.{kind_is}
use Rattle.tree.specs.Operators.{Operators, Or, And, Equal, Compare, Add, Multiply, Level, Single, Joined}
use Rattle.tree.specs.declared.expression as tree
use Rattle.tree.specs.declared.expression.EqualityOperator.TheVariants as equality
use Rattle.tree.specs.declared.expression.RelationOperator.TheVariants as relation
use Rattle.tree.specs.declared.expression.PrefixOperator.TheVariants as prefixes

-- the equality of this kind, if it is one
abbrev pub equality_of : Option Kind → Option tree.EqualityOperator.EqualityOperator
equality_of (Some kind.EqualEqual) = Some equality.Equal
equality_of (Some kind.NotEqual) = Some equality.NotEqual
equality_of _ = None

-- the relation of this kind, if it is one
abbrev pub relation_of : Option Kind → Option tree.RelationOperator.RelationOperator
relation_of (Some kind.Less) = Some relation.Less
relation_of (Some kind.LessEqual) = Some relation.LessEqual
relation_of (Some kind.Greater) = Some relation.Greater
relation_of (Some kind.GreaterEqual) = Some relation.GreaterEqual
relation_of _ = None

-- the prefix of this kind, if it is one
abbrev pub prefix_of : Option Kind → Option tree.PrefixOperator.PrefixOperator
prefix_of (Some kind.Bang) = Some prefixes.Not
prefix_of (Some kind.Minus) = Some prefixes.Negate
prefix_of _ = None

-- whether it is "+" or "-"
abbrev pub opens_sum : Option Kind → Bool
opens_sum k = kind_is kind.Plus k || kind_is kind.Minus k

-- whether it is a prefix
abbrev pub opens_prefix : Option Kind → Bool
opens_prefix k = is_some (prefix_of k)

-- whether it is an operator of this level
abbrev pub joins : Operators → Option Kind → Bool
joins Or = kind_is kind.OrOr
joins And = kind_is kind.AndAnd
joins Equal = λ k. is_some (equality_of k)
joins Compare = λ k. is_some (relation_of k)
joins Add = opens_sum
joins Multiply = kind_is kind.Star

-- whether it is an operator between two factors of a sum: "*", "+" or "-"
abbrev pub joins_factors : Option Kind → Bool
joins_factors k = joins Multiply k || joins Add k

-- whether it is an operator that binds less than a sum
abbrev pub behind_sum : Option Kind → Bool
behind_sum k = ((joins Compare k || joins Equal k) || joins And k) || joins Or k

-- whether a token continues a target that is only a name so far
abbrev pub opens_rest : Option Kind → Bool
opens_rest k = kind_is kind.Dot k || kind_is kind.OpenBracket k

-- whether some term, sum, relation and so on could continue with a token: one that continues a target, or an
-- operator that binds no less

abbrev pub after_term : Option Kind → Bool
after_term k = opens_rest k || joins Multiply k

abbrev pub after_sum : Option Kind → Bool
after_sum k = after_term k || joins Add k

abbrev pub after_relation : Option Kind → Bool
after_relation k = after_sum k || joins Compare k

abbrev pub after_equality : Option Kind → Bool
after_equality k = after_relation k || joins Equal k

abbrev pub after_conjunction : Option Kind → Bool
after_conjunction k = after_equality k || joins And k

abbrev pub after_expression : Option Kind → Bool
after_expression k = after_conjunction k || joins Or k

-- the same for a level
abbrev pub goes_on : Level → Option Kind → Bool
goes_on Single = opens_rest
goes_on (Joined Multiply) = after_term
goes_on (Joined Add) = after_sum
goes_on (Joined Compare) = after_relation
goes_on (Joined Equal) = after_equality
goes_on (Joined And) = after_conjunction
goes_on (Joined Or) = after_expression
