use Rattle.std.proofs.Common.{drop}
use Rattle.names.specs.Cases.{binds_turn}
use Rattle.names.specs.Frames.{IsNameFrame}
use Rattle.declarations.specs.Program.{ProgramText}
use Rattle.declarations.specs.Scopes.{IsScope}
use Rattle.names.specs.Variables.{NameFrame}
use Rattle.names.proofs.TurnLemmas.{Ongoing}
use Rattle.names.proofs.binds.judge_bound.Given as goal

abbrev pub invariant-loop-index : goal.invariant-loop-index
invariant-loop-index l = (p : ProgramText) (f : NameFrame) → IsScope p l.scope → IsNameFrame p.text f l.fn.variables
    → Ongoing p.text l.fn.found.items l.found.items l.variables (binds_turn p l.parameters l.binds f) (binds_turn p (drop l.index l.parameters) (drop l.index l.binds))
