use Rattle.std.proofs.Common.{true, ◌∙◌, ap}
use Rattle.std.proofs.lemmas.Result.{IfOk-weaker}
use Rattle.clap.specs.Words.{with_subcommand}
use Rattle.clap.specs.Simple.{app_of_fields, on_top}
use Rattle.clap.specs.declared.builder.command.Command.{Command}
use Rattle.clap.specs.declared.builder.command.Command.TheOpen.{Command-F}
use Rattle.command_line.specs.Asking.{IsCommand, bare_command, bounds_command, check_command, explore_command, judging_command, replay_command}
use Rattle.command_line.specs.Asking.{run_command, why_command}
use Rattle.command_line.proofs.CommandLemmas.{with_command}
use Rattle.command_line.proofs.commands.whole_of.Goals as goal

pub returns : goal.returns
returns c =
    let has = λ (f : Command-F Command). f.has_globals in
    let bare : IsCommand bare_command c.in_ok-bin_name.field-0 = record {
      same = ap app_of_fields c.in_ok-bin_name.ensures.0
          ∙ ap app_of_fields c.arg_required_else_help.ensures
          ∙ ap (on_top (λ s. record s { arg_required_else_help = true })) (ap app_of_fields c.subcommand_required.ensures
          ∙ ap (on_top (λ s. record s { subcommand_required = true })) (ap app_of_fields c.after_help.ensures ∙ ap app_of_fields c.version.ensures
          ∙ ap (on_top (λ s. record s { has_version = true })) (ap app_of_fields c.about.ensures ∙ c.new.ensures.app)));
      local = ap has c.in_ok-bin_name.ensures.0 ∙ ap has c.arg_required_else_help.ensures ∙ ap has c.subcommand_required.ensures
          ∙ ap has c.after_help.ensures ∙ ap has c.version.ensures ∙ ap has c.about.ensures ∙ c.new.ensures.local;
    } in
    let first = with_command bare_command bounds_command c.in_ok-bin_name.field-0 c.in_ok-subcommand.field-0 c.in_ok-bounds_of.field-0 bare c.in_ok-bounds_of.ensures c.in_ok-subcommand.ensures in
    let second = with_command (with_subcommand bare_command bounds_command.top) check_command c.in_ok-subcommand.field-0 c.in_ok-subcommand-2.field-0 c.in_ok-check_of.field-0 first c.in_ok-check_of.ensures c.in_ok-subcommand-2.ensures in
    let two = with_subcommand (with_subcommand bare_command bounds_command.top) check_command.top in
    let third = with_command two replay_command c.in_ok-subcommand-2.field-0 c.in_ok-subcommand-3.field-0 c.in_ok-replay_of.field-0 second c.in_ok-replay_of.ensures c.in_ok-subcommand-3.ensures in
    let fourth = with_command (with_subcommand two replay_command.top) why_command c.in_ok-subcommand-3.field-0 c.in_ok-subcommand-4.field-0 c.in_ok-why_of.field-0 third c.in_ok-why_of.ensures c.in_ok-subcommand-4.ensures in
    let fifth = with_command judging_command run_command c.in_ok-subcommand-4.field-0 c.in_ok-subcommand-5.field-0 c.in_ok-run_of.field-0 fourth c.in_ok-run_of.ensures c.in_ok-subcommand-5.ensures in
    IfOk-weaker c.subcommand-6.result _ _ (λ r h. with_command (with_subcommand judging_command run_command.top) explore_command c.in_ok-subcommand-5.field-0 r c.in_ok-explore_of.field-0 fifth c.in_ok-explore_of.ensures h) c.subcommand-6.ensures
