-- The tokens with which rules begin.
use Rattle.std.specs.Prelude.{Bool, ◌||◌, Option, Some, None, is_some}
use Rattle.source.specs.declared.kind.Kind.{Kind}
use Rattle.source.specs.declared.kind.Kind.TheVariants as kind
use Rattle.tree.specs.Symbols.{kind_is}
use Rattle.tree.specs.declared.item as item_nodes
use Rattle.program.specs.declared.contract as sign_nodes
use Rattle.program.specs.declared.types as kind_nodes
use Rattle.tree.specs.declared.item.Access.TheVariants as access
use Rattle.program.specs.declared.contract.Direction.TheVariants as direction
use Rattle.program.specs.declared.contract.Sign.TheVariants as sign
use Rattle.program.specs.declared.types.Scalar.TheVariants as scalar
use Rattle.program.specs.declared.types.Side.TheVariants as side

-- the access word of this kind, if it is one
abbrev pub access_of : Option Kind → Option item_nodes.Access.Access
access_of (Some kind.Public) = Some access.Public
access_of (Some kind.Private) = Some access.Private
access_of (Some kind.Internal) = Some access.Internal
access_of _ = None

-- the direction of this kind, if it is one
abbrev pub direction_of : Option Kind → Option sign_nodes.Direction.Direction
direction_of (Some kind.In) = Some direction.In
direction_of (Some kind.Out) = Some direction.Out
direction_of _ = None

-- the sign of this kind, if it is one
abbrev pub sign_of : Option Kind → Option sign_nodes.Sign.Sign
sign_of (Some kind.Bang) = Some sign.Send
sign_of (Some kind.Question) = Some sign.Receive
sign_of _ = None

-- the scalar of this kind, if it is one
abbrev pub scalar_of : Option Kind → Option kind_nodes.Scalar.Scalar
scalar_of (Some kind.Int) = Some scalar.Int
scalar_of (Some kind.Bool) = Some scalar.Bool
scalar_of (Some kind.Byte) = Some scalar.Byte
scalar_of _ = None

-- the side of this kind, if it is one
abbrev pub side_of : Option Kind → Option kind_nodes.Side.Side
side_of (Some kind.Imp) = Some side.Imp
side_of (Some kind.Exp) = Some side.Exp
side_of _ = None

-- whether a message begins with this token
abbrev pub opens_message : Option Kind → Bool
opens_message k = is_some (direction_of k)

-- whether a token is a sign
abbrev pub opens_sign : Option Kind → Bool
opens_sign k = is_some (sign_of k)

-- whether a token is an end of a channel
abbrev pub opens_side : Option Kind → Bool
opens_side k = is_some (side_of k)

-- whether a type begins with this token
abbrev pub opens_type : Option Kind → Bool
opens_type k = is_some (scalar_of k) || kind_is kind.Name k

-- whether a member begins with this token
abbrev pub opens_member : Option Kind → Bool
opens_member k = opens_message k || kind_is kind.State k

-- whether a token is an access word
abbrev pub opens_access : Option Kind → Bool
opens_access k = is_some (access_of k)

-- whether a field begins with this token
abbrev pub opens_field : Option Kind → Bool
opens_field k = opens_access k || opens_type k

-- whether a parameter of a method begins with this token
abbrev pub opens_parameter : Option Kind → Bool
opens_parameter k = kind_is kind.OpenBracket k || opens_type k

-- whether a method begins with this token
abbrev pub opens_method : Option Kind → Bool
opens_method k = opens_access k || kind_is kind.Static k

-- whether an item begins with this token
abbrev pub opens_item : Option Kind → Bool
opens_item k = opens_access k || ((kind_is kind.Contract k || kind_is kind.Rep k) || kind_is kind.Class k)
