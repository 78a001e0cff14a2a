use Rattle.std.proofs.Common.{◌∙◌, ap, codes}
use Rattle.std.proofs.lemmas.Result.{IfOk-weaker}
use Rattle.clap.specs.Words.{new_app}
use Rattle.clap.specs.Simple.{app_of_fields}
use Rattle.clap.specs.declared.builder.command.Command.{Command}
use Rattle.clap.specs.declared.builder.command.Command.TheOpen.{Command-F}
use Rattle.command_line.specs.Asking.{IsCommand, text_rule}
use Rattle.command_line.proofs.CommandLemmas.{with_arg}
use Rattle.command_line.proofs.commands.bounds_of.Goals as goal

pub returns : goal.returns
returns c =
    let bare : IsCommand (new_app (codes "bounds")) c.after_help.result = record {
      same = ap app_of_fields c.after_help.ensures ∙ ap app_of_fields c.about.ensures ∙ c.new.ensures.app;
      local = ap (λ (f : Command-F Command). f.has_globals) c.after_help.ensures ∙ ap (λ (f : Command-F Command). f.has_globals) c.about.ensures ∙ c.new.ensures.local;
    } in
    IfOk-weaker c.arg.result _ _ (λ r h. with_arg (new_app (codes "bounds")) (text_rule (codes "FILE")) c.after_help.result r c.file_of.result bare c.file_of.ensures.rule c.file_of.ensures.local h) c.arg.ensures
