-- Edges that show why a condition is broken.
use Rattle.std.proofs.Common.{◌≡◌, List, [], ◌∷◌, ◌++◌, refl, sym, ◌∙◌}
use Rattle.std.specs.Prelude.{Contains}
use Rattle.contracts.specs.Walks.{IsWalk}
use Rattle.program.specs.declared.contract.Edge.{Edge}
use Rattle.program.specs.declared.number.StateId.{StateId}

-- one more edge at the end of a walk
pub walk_more : (edges : List Edge) (p q : StateId) (walk : List Edge) (e : Edge) → IsWalk edges p walk q → Contains edges e → e.from ≡ q → IsWalk edges p (walk ++ e ∷ []) e.to
walk_more edges p q [] e is has from = (has, from ∙ sym is, refl)
walk_more edges p q (f ∷ walk) e is has from = (is.0, is.1, walk_more edges f.to q walk e is.2 has from)
