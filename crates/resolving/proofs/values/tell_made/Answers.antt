use Rattle.std.proofs.Common.{◌∙◌, ap}
use Rattle.program.specs.Statements as seen
use Rattle.resolving.proofs.values.tell_made.Goals as goal

pub returns : goal.returns
returns c = λ items own. record {
  all = λ f frame. c.simple_statement.ensures ∙ ap (λ reads. seen.Simple reads c.args.effect) ((c.in_ok-add_made_reads.ensures items own).all f frame);
}
