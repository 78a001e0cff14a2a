use Rattle.std.proofs.Common.{◌≡◌, ◌+◌, ◌∙◌, ◌++◌, ap, sym, subst, length, map, get_or, Some, arith}
use Rattle.std.specs.Prelude.{codes, slice_get, Contains}
use Rattle.std.specs.Str.Lossy.{utf8_lossy}
use Rattle.std.proofs.lemmas.Option.{slice_get-get_or}
use Rattle.source.specs.declared.finding.Code.TheVariants.{C01}
use Rattle.program.specs.declared.contract.Sign.TheVariants.{Send}
use Rattle.program.specs.declared.contract.Edge.{Edge}
use Rattle.contracts.specs.Conditions.{IsAgainst, finding_model}
use Rattle.contracts.specs.Found.{FoundBelow}
use Rattle.contracts.specs.Parts.{message_model}
use Rattle.contracts.proofs.ConditionLemmas.{against_more, against_same, parts_are, pushed}
use Rattle.contracts.proofs.FoundLemmas.{found_none}
use Rattle.contracts.proofs.PartLemmas.{at_place, contains_map}
use Rattle.contracts.proofs.SignLemmas.{differ, agree}
use Rattle.contracts.proofs.conditions.against_directions.Goals as goal
use Rattle.contracts.proofs.conditions.against_directions.Goals.{then-ne+in_ok-finding+in_ok-push, else-ne}

pub loop-edge-init : goal.loop-edge-init
loop-edge-init c = subst (λ l. FoundBelow (IsAgainst (map message_model c.args.contract.now.messages.items) c.args.contract.now.edges.items) 0 (map finding_model l)) (sym c.new-found.ensures.items) (found_none _)

pub message_of-message-requires-clause-listed : goal.message_of-message-requires-clause-listed
message_of-message-requires-clause-listed c =
    let none : Edge = record { from = record { 0 = 0 }; message = record { 0 = 0 }; sign = Send; to = record { 0 = 0 }; place = record { line = 0; col = 0 } } in
    c.requires.whole.message (get_or c.deref-edge-items.result.now c.loop-edge.edge-index none) (subst (λ l. Contains l (get_or c.deref-edge-items.result.now c.loop-edge.edge-index none)) c.deref-edge-items.ensures.value (at_place c.deref-edge-items.result.now c.loop-edge.edge-index none c.loop-edge-test.true))

pub loop-edge-preserved : goal.loop-edge-preserved
loop-edge-preserved c =
    let messages = map message_model c.args.contract.now.messages.items in
    let edges = c.args.contract.now.edges.items in
    let i = c.loop-edge.edge-index in
    let none : Edge = record { from = record { 0 = 0 }; message = record { 0 = 0 }; sign = Send; to = record { 0 = 0 }; place = record { line = 0; col = 0 } } in
    let e = get_or c.deref-edge-items.result.now i none in
    let at : slice_get edges i ≡ Some e = ap (λ l. slice_get l i) (sym c.deref-edge-items.ensures.value) ∙ slice_get-get_or c.deref-edge-items.result.now i none c.loop-edge-test.true in
    let m = message_model c.message_of-message.result.now in
    let listed = contains_map message_model c.args.contract.now.messages.items c.message_of-message.result.now c.message_of-message.ensures.listed in
    let sign = c.sign_of.ensures in
    elim c.if-ne.branch [
      | then-ne+in_ok-finding+in_ok-push w ↦
          subst (FoundBelow (IsAgainst messages edges) (i + 1)) (sym (ap (λ v. map finding_model v.items) w.found-is
          ∙ pushed c.loop-edge.found.items _ _ _ w.in_ok-push.ensures.items (parts_are w.in_ok-finding.finding e.place C01 (utf8_lossy m.name ++ codes " against its direction") w.in_ok-finding.ensures.place w.in_ok-finding.ensures.code (w.in_ok-finding.ensures.text ∙ ap (λ l. utf8_lossy l ++ codes " against its direction") w.as_bytes.ensures.value))))
          (against_more messages edges i e m (map finding_model c.loop-edge.found.items) c.requires.whole.messages_once at listed c.message_of-message.ensures.its (λ same. differ _ _ (sym c.ne.ensures ∙ w.if-ne.true) (same ∙ sym sign)) c.loop-edge.invariant)
      | else-ne w ↦
          subst (λ v. FoundBelow (IsAgainst messages edges) (i + 1) (map finding_model v.items)) (sym w.found-is)
          (against_same messages edges i e m (map finding_model c.loop-edge.found.items) c.requires.whole.messages_once at listed c.message_of-message.ensures.its (agree _ _ (sym c.ne.ensures ∙ w.if-ne.false) ∙ sign) c.loop-edge.invariant)
    ]

pub returns : goal.returns
returns c =
    let size = ap length c.deref-edge-items.ensures.value in
    let stop = c.loop-edge-test.false in
    let most = c.loop-edge.auto.edge-index-end in
    let end : c.loop-edge.edge-index ≡ length c.args.contract.now.edges.items = omega (arith, size, stop, most) in
    record { found = subst (λ n. FoundBelow (IsAgainst (map message_model c.args.contract.now.messages.items) c.args.contract.now.edges.items) n (map finding_model c.loop-edge.found.items)) end c.loop-edge.invariant }
