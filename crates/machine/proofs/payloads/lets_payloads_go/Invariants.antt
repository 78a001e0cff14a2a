use Rattle.std.proofs.Common.{◌≡◌, drop}
use Rattle.machine.specs.Frames.{payloads_claimed}
use Rattle.machine.specs.Views.{StillTakes, variables_model}
use Rattle.machine.specs.World.{let_go}
use Rattle.machine.proofs.payloads.lets_payloads_go.Given as goal

abbrev pub invariant-loop-mention : goal.invariant-loop-mention
invariant-loop-mention l = record {
  gone : let_go (variables_model l.variables) (payloads_claimed (drop l.mention-index l.payloads))
      ≡ let_go (variables_model l.fn.variables) (payloads_claimed l.payloads);
  still : StillTakes l.fn.variables l.variables;
}
