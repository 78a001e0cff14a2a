-- Expressions that are only a name.
use Rattle.std.proofs.Common.{◌≡◌, [], ◌∷◌}
use Rattle.std.specs.Prelude.{Some}
use Rattle.source.specs.declared.token.Span.{Span}
use Rattle.tree.specs.Alone.{atom_name, lone_name}
use Rattle.tree.specs.Expressions as trees
use Rattle.tree.specs.Expressions.{LevelTree, StepTrees, AtomTree}
use Rattle.tree.specs.Operators.{Level, Operators}
use Rattle.names.specs.Shapes as shapes
use Rattle.names.specs.Shapes.{Shape, shape, joined, joint_of, atom_shape}

atom_lone : (a : AtomTree) (name : Span) → atom_name a ≡ Some name → atom_shape a ≡ shapes.Mention name
atom_lone (trees.Target (trees.Variable word)) name is = cc
atom_lone (trees.Target (trees.Field word field)) name is = absurd (cc)
atom_lone (trees.Target (trees.Element word index)) name is = absurd (cc)
atom_lone (trees.Number span) name is = absurd (cc)
atom_lone (trees.True span) name is = absurd (cc)
atom_lone (trees.False span) name is = absurd (cc)
atom_lone (trees.Parens left inner) name is = absurd (cc)

atom_not_lone : (a : AtomTree) (name : Span) → atom_shape a ≡ shapes.Mention name → atom_name a ≡ Some name
atom_not_lone (trees.Target (trees.Variable word)) name is = cc
atom_not_lone (trees.Target (trees.Field word field)) name is = absurd (cc)
atom_not_lone (trees.Target (trees.Element word index)) name is = absurd (cc)
atom_not_lone (trees.Number span) name is = absurd (cc)
atom_not_lone (trees.True span) name is = absurd (cc)
atom_not_lone (trees.False span) name is = absurd (cc)
atom_not_lone (trees.Parens left inner) name is = absurd (cc)

-- an expression with operators is no lone name
steps_mention : {l : Operators} → (so_far : Shape) (xs : StepTrees l) (name : Span) → joined so_far xs ≡ shapes.Mention name → so_far ≡ shapes.Mention name
steps_mention so_far (trees.Done l) name is = is
steps_mention so_far (trees.More l o x xs) name is =
    let wrong : shapes.Joined (joint_of l) so_far (shape x) ≡ shapes.Mention name = steps_mention (shapes.Joined (joint_of l) so_far (shape x)) xs name is in
    absurd (cc)

-- the shape of a lone name is a mention
pub lone_shape : {l : Level} → (e : LevelTree l) (name : Span) → lone_name e ≡ Some name → shape e ≡ shapes.Mention name
lone_shape (trees.Unary [] a) name is = atom_lone a name is
lone_shape (trees.Unary (x ∷ prefixes) a) name is = absurd (cc)
lone_shape (trees.Chain l first (trees.Done _)) name is = lone_shape first name is
lone_shape (trees.Chain l first (trees.More _ o x xs)) name is = absurd (cc)

pub not_lone : {l : Level} → (e : LevelTree l) (name : Span) → shape e ≡ shapes.Mention name → lone_name e ≡ Some name
not_lone (trees.Unary [] a) name is = atom_not_lone a name is
not_lone (trees.Unary (x ∷ prefixes) a) name is = absurd (cc)
not_lone (trees.Chain l first (trees.Done _)) name is = not_lone first name is
not_lone (trees.Chain l first (trees.More _ o x xs)) name is =
    let wrong : shapes.Joined (joint_of l) (shape first) (shape x) ≡ shapes.Mention name = steps_mention (shapes.Joined (joint_of l) (shape first) (shape x)) xs name is in
    absurd (cc)
