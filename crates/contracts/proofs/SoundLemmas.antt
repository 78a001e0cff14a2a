-- What soundness implies for two edges of a state.
use Rattle.std.proofs.Common.{◌≡◌, ℕ, ◌<◌, List, length, get_or, Some, sym, refl, ap, ◌∙◌, inl, inr, ⊎_elim}
use Rattle.std.specs.Prelude.{Contains, slice_get}
use Rattle.std.proofs.lemmas.Bool.{cases_order}
use Rattle.std.proofs.lemmas.Option.{slice_get_read}
use Rattle.program.specs.declared.contract.Sign.{Sign}
use Rattle.program.specs.declared.contract.Sign.TheVariants.{Send, Receive}
use Rattle.program.specs.declared.contract.Edge.{Edge}
use Rattle.program.specs.declared.number.MessageId.{MessageId}
use Rattle.program.specs.declared.number.StateId.{StateId}
use Rattle.contracts.specs.Conditions.{IsSound}
use Rattle.contracts.specs.Parts.{Parts, StateModel, MessageModel, IsWhole}
use Rattle.contracts.specs.TwoEnds.{Leads}
use Rattle.contracts.proofs.ConditionLemmas.{both, twice}
use Rattle.contracts.proofs.PartLemmas.{get_again}
use Rattle.contracts.proofs.ListLemmas.{made_from}

pub record IsDirected (edges : List Edge) : Type 0 where
  pub one_way : (q : StateId) (m n : MessageId) (s t : Sign) (u v : StateId) → Leads edges q m s u → Leads edges q n t v → s ≡ t
  pub one_end : (q : StateId) (m : MessageId) (s : Sign) (u v : StateId) → Leads edges q m s u → Leads edges q m s v → u ≡ v

-- no edge is before another with its state and its message
repeats : (parts : Parts) → IsWhole parts → IsSound parts → (i j : ℕ) (d e : Edge) → i < j → slice_get parts.edges i ≡ Some d → slice_get parts.edges j ≡ Some e → Contains parts.edges e → d.from ≡ e.from → d.message ≡ e.message → ⊥
repeats parts whole sound i j d e less at_d at_e c from message =
    let m = made_from (λ (x : MessageModel). x.id) parts.messages e.message (whole.message e c) in
    sound (twice e m.0) (j, inr (inl (record { edge = e; at = at_e; index = i; before = less; earlier = d; there = at_d; state = from; same = message; message = m.0; listed = m.1; its = m.2; is = refl })))

-- no state has edges of both signs
mixed : (parts : Parts) → IsWhole parts → IsSound parts → (d e : Edge) → Contains parts.edges d → Contains parts.edges e → d.from ≡ e.from → d.sign ≡ Send → e.sign ≡ Receive → ⊥
mixed parts whole sound d e in_d in_e from send receive =
    let s = made_from (λ (x : StateModel). x.id) parts.states e.from (whole.from e in_e) in
    let at = slice_get_read parts.states (length parts.states) s.1.0 s.0 refl s.1.1 (sym s.1.2) in
    sound (both s.0) (s.1.0, inr (inr (inl (record { state = s.0; at = at; sends = d; sends_in = in_d; sends_from = from ∙ sym s.2; sends_sign = send; receives = e; receives_in = in_e; receives_from = sym s.2; receives_sign = receive; is = refl }))))

pub same_sign : (parts : Parts) → IsWhole parts → IsSound parts → (d e : Edge) → Contains parts.edges d → Contains parts.edges e → d.from ≡ e.from → (s t : Sign) → d.sign ≡ s → e.sign ≡ t → s ≡ t
same_sign parts whole sound d e in_d in_e from Send Send a b = refl
same_sign parts whole sound d e in_d in_e from Receive Receive a b = refl
same_sign parts whole sound d e in_d in_e from Send Receive a b = absurd (mixed parts whole sound d e in_d in_e from a b)
same_sign parts whole sound d e in_d in_e from Receive Send a b = absurd (mixed parts whole sound e d in_e in_d (sym from) b a)

-- two edges of a state on a message are one
pub same_edge : (parts : Parts) → IsWhole parts → IsSound parts → (d e : Edge) → Contains parts.edges d → Contains parts.edges e → d.from ≡ e.from → d.message ≡ e.message → d ≡ e
same_edge parts whole sound d e in_d in_e from message =
    let edges = parts.edges in
    let at_d = slice_get_read edges (length edges) in_d.0 d refl in_d.1 (sym in_d.2) in
    let at_e = slice_get_read edges (length edges) in_e.0 e refl in_e.1 (sym in_e.2) in
    ⊎_elim
    (λ equal. sym in_d.2 ∙ ap (λ k. get_or edges k d) equal ∙ get_again edges in_e.0 e d in_e.1 ∙ in_e.2)
    (λ either. ⊎_elim
    (λ less. absurd (repeats parts whole sound in_d.0 in_e.0 d e less at_d at_e in_e from message))
    (λ more. absurd (repeats parts whole sound in_e.0 in_d.0 e d more at_e at_d in_d (sym from) (sym message)))
    either)
    (cases_order in_d.0 in_e.0)

-- a sound contract is deterministic and has one direction in a state
pub directed : (parts : Parts) → IsWhole parts → IsSound parts → IsDirected parts.edges
directed parts whole sound = record {
  one_way = λ q m n s t u v a b. same_sign parts whole sound a.0 b.0 a.1 b.1 (a.2 ∙ sym b.2) s t a.4 b.4;
  one_end = λ q m s u v a b. sym a.5 ∙ ap (λ (x : Edge). x.to) (same_edge parts whole sound a.0 b.0 a.1 b.1 (a.2 ∙ sym b.2) (a.3 ∙ sym b.3)) ∙ b.5;
}
