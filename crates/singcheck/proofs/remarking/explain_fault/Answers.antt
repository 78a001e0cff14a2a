use Rattle.singcheck.proofs.RemarkLemmas.{faulty}
use Rattle.singcheck.proofs.remarking.explain_fault.Goals as goal

pub returns : goal.returns
returns c = λ text known.
    faulty c.args.named text c.args.fault c.in_ok-finding.finding c.in_ok-said.said (known c.in_ok-finding.ensures.fault) c.in_ok-finding.ensures.told c.in_ok-said.ensures
    c.explained_by.result c.explained_by.ensures.finding c.explained_by.ensures.lines
