use Rattle.std.proofs.Common.{◌∙◌, ap, codes}
use Rattle.std.proofs.lemmas.Result.{IfOk-weaker}
use Rattle.clap.specs.Words.{App, new_app, with_rule}
use Rattle.clap.specs.Simple.{app_of_fields}
use Rattle.clap.specs.declared.builder.command.Command.{Command}
use Rattle.clap.specs.declared.builder.command.Command.TheOpen.{Command-F}
use Rattle.command_line.specs.Asking.{IsCommand, flag_rule, number_rule, option_rule, text_rule}
use Rattle.command_line.proofs.CommandLemmas.{with_arg}
use Rattle.command_line.proofs.commands.run_of.Goals as goal

pub returns : goal.returns
returns c =
    let bare : IsCommand (new_app (codes "run")) c.after_help.result = record {
      same = ap app_of_fields c.after_help.ensures ∙ ap app_of_fields c.about.ensures ∙ c.new.ensures.app;
      local = ap (λ (f : Command-F Command). f.has_globals) c.after_help.ensures ∙ ap (λ (f : Command-F Command). f.has_globals) c.about.ensures ∙ c.new.ensures.local;
    } in
    let s0 = with_arg (new_app (codes "run")) (text_rule (codes "FILE")) c.after_help.result c.in_ok-arg.field-0 c.file_of.result bare c.file_of.ensures.rule c.file_of.ensures.local c.in_ok-arg.ensures in
    let a0 : App = with_rule (new_app (codes "run")) (text_rule (codes "FILE")) in
    let s1 = with_arg a0 (text_rule (codes "ENTRY")) c.in_ok-arg.field-0 c.in_ok-arg-2.field-0 c.entry_argument.result s0 c.entry_argument.ensures.rule c.entry_argument.ensures.local c.in_ok-arg-2.ensures in
    let a1 : App = with_rule a0 (text_rule (codes "ENTRY")) in
    let s2 = with_arg a1 (number_rule (codes "seed")) c.in_ok-arg-2.field-0 c.in_ok-arg-3.field-0 c.number_of.result s1 c.number_of.ensures.rule c.number_of.ensures.local c.in_ok-arg-3.ensures in
    let a2 : App = with_rule a1 (number_rule (codes "seed")) in
    let s3 = with_arg a2 (number_rule (codes "steps")) c.in_ok-arg-3.field-0 c.in_ok-arg-4.field-0 c.number_of-2.result s2 c.number_of-2.ensures.rule c.number_of-2.ensures.local c.in_ok-arg-4.ensures in
    let a3 : App = with_rule a2 (number_rule (codes "steps")) in
    let s4 = with_arg a3 (number_rule (codes "runs")) c.in_ok-arg-4.field-0 c.in_ok-arg-5.field-0 c.number_of-3.result s3 c.number_of-3.ensures.rule c.number_of-3.ensures.local c.in_ok-arg-5.ensures in
    let a4 : App = with_rule a3 (number_rule (codes "runs")) in
    let s5 = with_arg a4 (flag_rule (codes "all")) c.in_ok-arg-5.field-0 c.in_ok-arg-6.field-0 c.all_argument.result s4 c.all_argument.ensures.rule c.all_argument.ensures.local c.in_ok-arg-6.ensures in
    let a5 : App = with_rule a4 (flag_rule (codes "all")) in
    IfOk-weaker c.arg-7.result _ _ (λ r h. with_arg a5 (option_rule (codes "schedule")) c.in_ok-arg-6.field-0 r c.schedule_argument.result s5 c.schedule_argument.ensures.rule c.schedule_argument.ensures.local h) c.arg-7.ensures
