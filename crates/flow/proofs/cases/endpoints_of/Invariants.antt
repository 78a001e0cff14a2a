use Rattle.flow.proofs.EndpointLemmas.{Named}
use Rattle.flow.proofs.cases.endpoints_of.Given as goal

abbrev pub invariant-loop-case : goal.invariant-loop-case
invariant-loop-case l = Named l.seen l.cases l.case-index l.endpoints.items
