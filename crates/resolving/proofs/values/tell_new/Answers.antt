use Rattle.std.proofs.Common.{List, ◌++◌, ap, ◌∙◌}
use Rattle.tree.specs.Values.{made_tree}
use Rattle.program.specs.Statements as seen
use Rattle.program.specs.declared.statement.Mention.{Mention}
use Rattle.resolving.specs.Around.{program_in}
use Rattle.resolving.specs.Plain.{made_reads}
use Rattle.resolving.proofs.FormTwins.{new_is}
use Rattle.resolving.proofs.values.tell_new.Goals as goal

pub returns : goal.returns
returns c = λ items own. record {
  all = λ f frame.
      let makes = λ (reads : List Mention) (given : List Mention). seen.New (record { reads = reads; target = c.args.target; arguments = given }) in
      let p = program_in c.args.text.now items in
      let made = made_reads p own f (made_tree c.args.made.now) in
      let given = c.in_ok-made_arguments.field-0.items in
      new_is _ ∙ ap (λ reads. makes reads given) ((c.in_ok-add_made_reads.ensures items own).all f frame)
      ∙ ap (λ before. makes (before ++ made) given) c.new-reads.ensures.items ∙ ap (makes made) (c.in_ok-made_arguments.ensures items own f frame);
}
