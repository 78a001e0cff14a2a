use Rattle.std.proofs.Common.{◌≡◌, drop}
use Rattle.machine.specs.Views.{StillTakes, variables_model}
use Rattle.machine.specs.World.{let_go}
use Rattle.machine.proofs.mentions.lets_go.Given as goal

abbrev pub invariant-loop-argument : goal.invariant-loop-argument
invariant-loop-argument l = record {
  gone : let_go (variables_model l.variables) (drop l.argument-index l.arguments) ≡ let_go (variables_model l.fn.variables) l.arguments;
  still : StillTakes l.fn.variables l.variables;
}
