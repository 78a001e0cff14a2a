-- A command with one more argument, or one more subcommand.
use Rattle.std.proofs.Common.{◌≡◌, ◌||◌, Bool, false, ap, ap₂, ◌∙◌}
use Rattle.clap.specs.Built.{AddsArg, AddsSubcommand}
use Rattle.clap.specs.Words.{App, Rule, rule_of, with_rule, with_subcommand}
use Rattle.clap.specs.declared.builder.arg.Arg.{Arg}
use Rattle.clap.specs.declared.builder.command.Command.{Command}
use Rattle.command_line.specs.Asking.{IsCommand}

pub with_arg : (app : App) (rule : Rule) (old new : Command) (a : Arg) → IsCommand app old → rule_of a ≡ rule → a.global ≡ false → AddsArg old a new → IsCommand (with_rule app rule) new
with_arg app rule old new a is its local adds = record {
  same = adds.shape local ∙ ap₂ with_rule is.same its;
  local = adds.globals ∙ ap₂ (λ (x y : Bool). x || y) is.local local;
}

pub with_command : (app sub : App) (old new below : Command) → IsCommand app old → IsCommand sub below → AddsSubcommand old below new → IsCommand (with_subcommand app sub.top) new
with_command app sub old new below is its adds = record {
  same = adds.shape its.local ∙ ap₂ with_subcommand is.same (ap (λ (a : App). a.top) its.same);
  local = adds.globals ∙ ap₂ (λ (x y : Bool). x || y) is.local its.local;
}
