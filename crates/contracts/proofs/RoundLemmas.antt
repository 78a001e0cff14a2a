-- States from which edges of one sign lead back, and all findings together.
use Rattle.std.proofs.Common.{◌≡◌, ℕ, ◌+◌, List, [], ◌∷◌, ◌++◌, length, map, Some, sym, refl, ap, ◌∙◌, ⊎_elim, inl, inr, arith}
use Rattle.std.specs.Prelude.{slice_get, codes, string_bytes}
use Rattle.std.specs.Str.Lossy.{utf8_lossy}
use Rattle.std.proofs.lemmas.Option.{slice_get_within, slice_get_cases}
use Rattle.std.proofs.lemmas.List.Elements.{Contains-append_cases, Contains-append_left, Contains-append_right}
use Rattle.source.specs.declared.finding.Code.TheVariants.{C04}
use Rattle.program.specs.declared.contract.Sign.{Sign}
use Rattle.program.specs.declared.contract.Edge.{Edge}
use Rattle.contracts.specs.Parts.{Parts, StateModel, contract_parts, state_model}
use Rattle.contracts.specs.Conditions.{FindingModel, IsAgainst, IsTwice, IsBoth, IsRound, IsFlaw, AreExactly, IsSound}
use Rattle.contracts.specs.Found.{FoundBelow}
use Rattle.contracts.specs.Walks.{IsRoundBy}
use Rattle.contracts.proofs.ConditionLemmas.{one_of}
use Rattle.contracts.proofs.FoundLemmas.{found_same, found_more}
use Rattle.std.proofs.lemmas.List.{length-map}
use Rattle.program.specs.declared.contract.State.{State}
use Rattle.program.specs.declared.contract.Contract.{Contract}
use Rattle.contracts.specs.Arcs.{IsDrawn}
use Rattle.contracts.specs.Graphs.{OnRing}
use Rattle.contracts.proofs.GraphLemmas.{state_number}
use Rattle.contracts.proofs.Rings.{in_row}
use Rattle.contracts.proofs.WalkLemmas.{ring_round}

abbrev pub round : StateModel → FindingModel
round s = record { place = s.place; code = C04; text = codes "one direction round " ++ utf8_lossy s.name }

pub round_more : (states : List StateModel) (edges : List Edge) (i : ℕ) (s : StateModel) (sign : Sign) (found : List FindingModel)
    → slice_get states i ≡ Some s → IsRoundBy edges sign s.id
    → FoundBelow (IsRound states edges) i found → FoundBelow (IsRound states edges) (i + 1) (found ++ record { place = s.place; code = C04; text = codes "one direction round " ++ utf8_lossy s.name } ∷ [])
round_more states edges i s sign found at by h = found_more (IsRound states edges) i found (round s) h
    (record { state = s; at = at; sign = sign; round = by; is = refl })
    (λ f is. let same : s ≡ is.state = one_of s is.state (sym at ∙ is.at) in ap round same ∙ sym is.is)

pub round_same : (states : List StateModel) (edges : List Edge) (i : ℕ) (found : List FindingModel)
    → ((s : StateModel) (sign : Sign) → slice_get states i ≡ Some s → IsRoundBy edges sign s.id → ⊥)
    → FoundBelow (IsRound states edges) i found → FoundBelow (IsRound states edges) (i + 1) found
round_same states edges i found none h = found_same (IsRound states edges) i found h (λ f is. none is.state is.sign is.at is.round)

-- the findings of the four conditions together
pub all_found : (parts : Parts) (a b c d : List FindingModel)
    → FoundBelow (IsAgainst parts.messages parts.edges) (length parts.edges) a
    → FoundBelow (IsTwice parts.messages parts.edges) (length parts.edges) b
    → FoundBelow (IsBoth parts.states parts.edges) (length parts.states) c
    → FoundBelow (IsRound parts.states parts.edges) (length parts.states) d
    → AreExactly (IsFlaw parts) (((a ++ b) ++ c) ++ d)
all_found parts a b c d in_a in_b in_c in_d = record {
  right = λ f is. ⊎_elim
      (λ abc. ⊎_elim
      (λ ab. ⊎_elim
      (λ x. let r = in_a.right f x in (r.0, inl r.2))
      (λ x. let r = in_b.right f x in (r.0, inr (inl r.2)))
      (Contains-append_cases a b f ab))
      (λ x. let r = in_c.right f x in (r.0, inr (inr (inl r.2))))
      (Contains-append_cases (a ++ b) c f abc))
      (λ x. let r = in_d.right f x in (r.0, inr (inr (inr r.2))))
      (Contains-append_cases (a ++ b ++ c) d f is);
  all = λ f fault. ⊎_elim
      (λ x. Contains-append_left (a ++ b ++ c) d f (Contains-append_left (a ++ b) c f (Contains-append_left a b f (in_a.all fault.0 f (slice_get_within parts.edges fault.0 x.edge x.at) x))))
      (λ more. ⊎_elim
      (λ x. Contains-append_left (a ++ b ++ c) d f (Contains-append_left (a ++ b) c f (Contains-append_right a b f (in_b.all fault.0 f (slice_get_within parts.edges fault.0 x.edge x.at) x))))
      (λ most. ⊎_elim
      (λ x. Contains-append_left (a ++ b ++ c) d f (Contains-append_right (a ++ b) c f (in_c.all fault.0 f (slice_get_within parts.states fault.0 x.state x.at) x)))
      (λ x. Contains-append_right (a ++ b ++ c) d f (in_d.all fault.0 f (slice_get_within parts.states fault.0 x.state x.at) x))
      most)
      more)
      fault.1;
}

-- in a sound contract no vertex of a sign's graph is on a ring
pub no_rings : (e : Contract) (sign : Sign) (graph : List (List ℕ)) → IsSound (contract_parts e) → IsDrawn (map (λ (s : State). s.id.0) e.states.items) e.edges.items (λ x. x.sign ≡ sign) graph → (v : ℕ) → OnRing graph v → ⊥
no_rings e sign graph sound drawn v ring =
    let names = string_bytes e.state_names in
    let states = map (state_model names) e.states.items in
    let numbers = map (λ (s : State). s.id.0) e.states.items in
    let lt = in_row graph v ring.1.0 ring.1.1 in
    let long = drawn.long in
    let size = length-map e.states.items (λ (s : State). s.id.0) in
    let size_states = length-map e.states.items (state_model names) in
    ⊎_elim
    (λ there. let s = there.0 in
    let by = ring_round numbers e.edges.items sign graph drawn v s.id (state_number names e.states.items v s there.2) ring in
    sound (round s) (v, inr (inr (inr (record { state = s; at = there.2; sign = sign; round = by; is = refl })))))
    (λ past. let le = past.0 in absurd (omega (arith, le, lt, long, size, size_states)))
    (slice_get_cases states v).1
