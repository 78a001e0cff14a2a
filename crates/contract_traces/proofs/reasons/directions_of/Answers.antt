use Rattle.std.proofs.Common.{map, refl, subst}
use Rattle.std.specs.Ordering.{nat_cmp}
use Rattle.program.specs.Parts.{contract_parts, message_model}
use Rattle.contract_traces.specs.Tables.{HasMessage, IsTableOf}
use Rattle.contract_traces.proofs.TableLemmas.{direction_step}
use Rattle.contract_traces.proofs.reasons.directions_of.Goals as goal

pub loop-edge-preserved : goal.loop-edge-preserved
loop-edge-preserved c =
    let parts = contract_parts c.args.contract.now in
    let n = c.loop-edge.edge-index in
    direction_step parts c.deref-edge-items.result.now parts.edges n _ _ c.in_ok-messages.messages c.loop-edge.directions c.note_direction.new.directions c.deref-edge-items.ensures.value c.loop-edge-test.true
    (subst (λ l. IsTableOf nat_cmp (HasMessage (map message_model l)) c.in_ok-messages.messages) c.deref.ensures.value c.in_ok-messages.ensures)
    c.in_ok-note_direction.ensures c.loop-edge.invariant refl
