use Rattle.std.proofs.Common.{◌≡◌, ◌+◌, ◌∙◌, ◌++◌, ap, get_or, length, map, refl, sym, subst, arith}
use Rattle.std.specs.Prelude.{codes}
use Rattle.std.specs.Str.Lossy.{utf8_lossy}
use Rattle.std.proofs.lemmas.Bool.{true≢false}
use Rattle.std.proofs.lemmas.Option.{slice_get_read}
use Rattle.source.specs.declared.finding.Code.TheVariants.{C02}
use Rattle.contracts.specs.Conditions.{finding_model}
use Rattle.contracts.specs.Found.{FoundBelow}
use Rattle.contracts.specs.Orders.{HasEarlier}
use Rattle.contracts.specs.Parts.{message_model}
use Rattle.contracts.proofs.ConditionLemmas.{TwiceAt, parts_are, pushed, twice_all, twice_more, twice_same}
use Rattle.contracts.proofs.OrderLemmas.{order_within}
use Rattle.contracts.proofs.PartLemmas.{contains_map}
use Rattle.contracts.proofs.conditions.twice_in_states.Goals as goal
use Rattle.contracts.proofs.conditions.twice_in_states.Goals.{then-is_second+in_ok-finding+in_ok-push, else-is_second}

pub loop-at-preserved : goal.loop-at-preserved
loop-at-preserved c =
    let messages = map message_model c.args.contract.now.messages.items in
    let edges = c.args.contract.now.edges.items in
    let order = c.args.order.now in
    let k = c.loop-at.at in
    let place = get_or order k 0 in
    elim c.if-is_second.branch [
      | then-is_second+in_ok-finding+in_ok-push w ↦
          let e = w.index-edge.result.now in
          let m = message_model w.message_of-message.result.now in
          let at = slice_get_read edges (length edges) place e refl (order_within edges order c.requires.ordered k c.loop-at-test.true) w.index-edge.ensures in
          let listed = contains_map message_model c.args.contract.now.messages.items w.message_of-message.result.now w.message_of-message.ensures.listed in
          subst (FoundBelow (TwiceAt messages edges order) (k + 1)) (sym (ap (λ v. map finding_model v.items) w.found-is
          ∙ pushed c.loop-at.found.items _ _ _ w.in_ok-push.ensures.items (parts_are w.in_ok-finding.finding e.place C02 (utf8_lossy m.name ++ codes " twice in a state") w.in_ok-finding.ensures.place w.in_ok-finding.ensures.code (w.in_ok-finding.ensures.text ∙ ap (λ l. utf8_lossy l ++ codes " twice in a state") w.as_bytes.ensures.value))))
          (twice_more messages edges order k e m (map finding_model c.loop-at.found.items) c.requires.whole.messages_once at listed w.message_of-message.ensures.its
          (subst (λ l. HasEarlier l place) c.deref.ensures.value (c.is_second.ensures.0 w.if-is_second.true)) c.loop-at.invariant)
      | else-is_second w ↦
          subst (λ v. FoundBelow (TwiceAt messages edges order) (k + 1) (map finding_model v.items)) (sym w.found-is)
          (twice_same messages edges order k (map finding_model c.loop-at.found.items)
          (λ has. true≢false (sym (c.is_second.ensures.1 (subst (λ l. HasEarlier l place) (sym c.deref.ensures.value) has)) ∙ w.if-is_second.false)) c.loop-at.invariant)
    ]

pub returns : goal.returns
returns c =
    let messages = map message_model c.args.contract.now.messages.items in
    let edges = c.args.contract.now.edges.items in
    let order = c.args.order.now in
    let stop = c.loop-at-test.false in
    let most = c.loop-at.auto.at-end in
    let done : c.loop-at.at ≡ length order = omega (arith, stop, most) in
    record {
      found = twice_all messages edges order (map finding_model c.loop-at.found.items) c.requires.ordered
          (subst (λ n. FoundBelow (TwiceAt messages edges order) n (map finding_model c.loop-at.found.items)) done c.loop-at.invariant);
    }
