use Rattle.std.proofs.Common.{take}
use Rattle.names.specs.Frames.{IsNameFrame, Turned}
use Rattle.names.specs.Methods.{parameters_turn}
use Rattle.declarations.specs.Program.{ProgramText}
use Rattle.declarations.specs.Scopes.{IsScope}
use Rattle.names.specs.Variables.{NameFrame}
use Rattle.names.proofs.methods.judge_parameters.Given as goal

abbrev pub invariant-loop-parameter : goal.invariant-loop-parameter
invariant-loop-parameter l = (p : ProgramText) (f : NameFrame) → IsScope p l.scope → IsNameFrame p.text f l.fn.variables → Turned p.text l.fn.found.items l.found.items l.variables (parameters_turn p (take l.parameter-index l.params) f)
