use Rattle.std.proofs.Common.{subst}
use Rattle.std.specs.Prelude.{◌≢◌, IfErr}
use Rattle.source.specs.Faults.{IsFault}
use Rattle.source.specs.declared.fault.TextFault.TheVariants.{Memory}
use Rattle.singcheck.proofs.front.tree_of.Goals as goal

pub returns-in-Err-clause-refused : goal.returns-in-Err-clause-refused
returns-in-Err-clause-refused c = subst (λ r. IfErr r (λ fault. fault ≢ Memory → IsFault c.args.text.now fault)) c.in-Err.is c.lex.ensures.fault
