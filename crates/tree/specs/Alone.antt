-- Expressions that are just an atom or just a name.
use Rattle.std.specs.Prelude.{[], ◌∷◌, Option, Some, None, option_and_then}
use Rattle.source.specs.declared.token.Span.{Span}
use Rattle.tree.specs.Operators.{Level}
use Rattle.tree.specs.Expressions as trees
use Rattle.tree.specs.Expressions.{LevelTree, AtomTree}

-- the atom that is the whole expression, if it is just an atom
abbrev pub lone_atom : {l : Level} → LevelTree l → Option AtomTree
lone_atom (trees.Unary [] a) = Some a
lone_atom (trees.Unary (p ∷ prefixes) a) = None
lone_atom (trees.Chain l first (trees.Done _)) = lone_atom first
lone_atom (trees.Chain l first (trees.More _ o x xs)) = None

-- the name that is the whole atom, if it is just a name
abbrev pub atom_name : AtomTree → Option Span
atom_name (trees.Target (trees.Variable name)) = Some name
atom_name _ = None

-- the name that is the whole expression, if it is just a name
abbrev pub lone_name : {l : Level} → LevelTree l → Option Span
lone_name e = option_and_then atom_name (lone_atom e)
