use Rattle.std.proofs.Common.{◌≡◌, ◌<◌, ◌+◌, ◌∙◌, ◌++◌, true, ap, sym, refl, subst, length, map, get_or, Some, arith, ⊎_elim}
use Rattle.std.specs.Prelude.{codes, slice_get, option_map, string_bytes}
use Rattle.std.specs.Str.Lossy.{utf8_lossy}
use Rattle.std.proofs.lemmas.Bool.{or_cases, or_parts, true≢false}
use Rattle.std.proofs.lemmas.List.{length-map}
use Rattle.std.proofs.lemmas.Option.{slice_get_read, slice_get-map}
use Rattle.source.specs.declared.finding.Code.TheVariants.{C04}
use Rattle.program.specs.declared.contract.Sign.TheVariants.{Send, Receive}
use Rattle.contracts.specs.Conditions.{IsRound, finding_model}
use Rattle.contracts.specs.Found.{FoundBelow}
use Rattle.contracts.specs.Parts.{state_model}
use Rattle.contracts.specs.Walks.{IsRoundBy}
use Rattle.contracts.proofs.ConditionLemmas.{parts_are, pushed}
use Rattle.contracts.proofs.GraphLemmas.{state_number}
use Rattle.contracts.proofs.PartLemmas.{get_again, numbers_once}
use Rattle.contracts.proofs.RoundLemmas.{round_more, round_same}
use Rattle.contracts.proofs.SignLemmas.{each_sign}
use Rattle.contracts.proofs.WalkLemmas.{ring_round, round_ring}
use Rattle.contracts.proofs.conditions.one_direction.Goals as goal
use Rattle.contracts.proofs.conditions.one_direction.Goals.{then-index+in_ok-finding+in_ok-push, else-index}

pub loop-i-preserved : goal.loop-i-preserved
loop-i-preserved c =
    let edges = c.args.contract.now.edges.items in
    let all = c.args.contract.now.states.items in
    let names = string_bytes c.args.contract.now.state_names in
    let states = map (state_model names) all in
    let numbers = map (λ s. s.id.0) all in
    let i = c.loop-i.i in
    let size = c.args.contract.now.states.ok in
    let end = c.len-i-end.ensures in
    let test = c.loop-i-test.true in
    let lt : i < length all = omega (arith, size.0, end, test) in
    let long = length-map all (λ s. s.id.0) in
    let sends = c.requires.drawing.sends.graph in
    let receives = c.requires.drawing.receives.graph in
    let send_rings = c.requires.drawing.sends.rings in
    let receive_rings = c.requires.drawing.receives.rings in
    let long_sends = c.requires.drawing.sends.drawn.long in
    let long_receives = c.requires.drawing.receives.drawn.long in
    let long_sending = send_rings.long in
    let long_receiving = receive_rings.long in
    let send_tells = send_rings.tells i (omega (arith, lt, long, long_sends)) in
    let receive_tells = receive_rings.tells i (omega (arith, lt, long, long_receives)) in
    let sending : c.index.result.now ≡ get_or c.args.drawing.now.sends.rings.items i true = c.index.ensures ∙ get_again c.args.drawing.now.sends.rings.items i true c.index.result.now (omega (arith, lt, long, long_sends, long_sending)) in
    let receiving : c.index-in-loop-i.result.now ≡ get_or c.args.drawing.now.receives.rings.items i true = c.index-in-loop-i.ensures ∙ get_again c.args.drawing.now.receives.rings.items i true c.index-in-loop-i.result.now (omega (arith, lt, long, long_receives, long_receiving)) in
    elim c.if-index.branch [
      | then-index+in_ok-finding+in_ok-push w ↦
          let state = w.index-state.result.now in
          let s = state_model names state in
          let at : slice_get states i ≡ Some s = slice_get-map (state_model names) all i ∙ ap (option_map (state_model names)) (slice_get_read all (length all) i state refl lt w.index-state.ensures) in
          let number = state_number names all i s at in
          let is = ap (λ v. map finding_model v.items) w.found-is
          ∙ pushed c.loop-i.found.items _ _ _ w.in_ok-push.ensures.items (parts_are w.in_ok-finding.finding s.place C04 (codes "one direction round " ++ utf8_lossy s.name) w.in_ok-finding.ensures.place w.in_ok-finding.ensures.code (w.in_ok-finding.ensures.text ∙ ap (λ l. codes "one direction round " ++ utf8_lossy l) w.state_name.ensures)) in
          subst (FoundBelow (IsRound states edges) (i + 1)) (sym is) (⊎_elim
          (λ on. round_more states edges i s Send (map finding_model c.loop-i.found.items) at (ring_round numbers edges Send sends c.requires.drawing.sends.drawn i s.id number (send_tells.yes (sym sending ∙ on))) c.loop-i.invariant)
          (λ on. round_more states edges i s Receive (map finding_model c.loop-i.found.items) at (ring_round numbers edges Receive receives c.requires.drawing.receives.drawn i s.id number (receive_tells.yes (sym receiving ∙ on))) c.loop-i.invariant)
          (or_cases c.index.result.now c.index-in-loop-i.result.now w.if-index.true))
      | else-index w ↦
          let once = numbers_once names all c.requires.whole.states_once in
          let neither = or_parts c.index.result.now c.index-in-loop-i.result.now w.if-index.false in
          subst (λ v. FoundBelow (IsRound states edges) (i + 1) (map finding_model v.items)) (sym w.found-is)
          (round_same states edges i (map finding_model c.loop-i.found.items)
          (λ s sign at. each_sign (λ x. IsRoundBy edges x s.id → ⊥)
          (λ by. true≢false (sym (send_tells.no (round_ring numbers edges Send sends once c.requires.drawing.sends.drawn i s.id (omega (arith, lt, long)) (state_number names all i s at) by)) ∙ sym sending ∙ neither.0))
          (λ by. true≢false (sym (receive_tells.no (round_ring numbers edges Receive receives once c.requires.drawing.receives.drawn i s.id (omega (arith, lt, long)) (state_number names all i s at) by)) ∙ sym receiving ∙ neither.1))
          sign)
          c.loop-i.invariant)
    ]

pub returns : goal.returns
returns c =
    let size = c.args.contract.now.states.ok in
    let end = c.len-i-end.ensures in
    let stop = c.loop-i-test.false in
    let most = c.loop-i.auto.i-end in
    let done : c.loop-i.i ≡ length c.args.contract.now.states.items = omega (arith, size.0, end, stop, most) in
    record { found = subst (λ n. FoundBelow (IsRound (map (state_model (string_bytes c.args.contract.now.state_names)) c.args.contract.now.states.items) c.args.contract.now.edges.items) n (map finding_model c.loop-i.found.items)) done c.loop-i.invariant }
