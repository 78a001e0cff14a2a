-- Walks of a graph and walks of the edges that it is drawn from.
use Rattle.std.proofs.Common.{◌≡◌, ℕ, zero, suc, ◌<◌, List, [], ◌∷◌, length, get_or, sym, refl, ap, ◌∙◌, subst}
use Rattle.std.specs.Prelude.{All}
use Rattle.std.proofs.lemmas.List.Elements.{All-nil, All-cons, All-head, All-tail}
use Rattle.program.specs.declared.contract.Sign.{Sign}
use Rattle.program.specs.declared.contract.Edge.{Edge}
use Rattle.program.specs.declared.number.StateId.{StateId}
use Rattle.contracts.specs.Arcs.{IsDrawn}
use Rattle.contracts.specs.Graphs.{HasEdge, Walk, OnRing}
use Rattle.contracts.specs.Walks.{IsWalk, IsRoundBy}
use Rattle.contracts.proofs.PartLemmas.{IsOnce}

abbrev id_of : ℕ → StateId
id_of n = record { 0 = n }

-- the edges of a walk of the graph
pub record Spelt (numbers : List ℕ) (edges : List Edge) (Has : Edge → Type 0) (p : StateId) (w n : ℕ) : Type 0 where
  pub walk : List Edge
  pub to : StateId
  pub leads : IsWalk edges p walk to
  pub has : All Has walk
  pub long : length walk ≡ n
  pub at : get_or numbers w 0 ≡ to.0

pub spelt : (numbers : List ℕ) (edges : List Edge) (Has : Edge → Type 0) (graph : List (List ℕ)) → IsDrawn numbers edges Has graph → (n v w : ℕ) (p : StateId) → get_or numbers v 0 ≡ p.0 → Walk graph v w n → Spelt numbers edges Has p w n
spelt numbers edges Has graph d zero v w p at walk = record { walk = []; to = p; leads = refl; has = All-nil Has; long = refl; at = ap (λ x. get_or numbers x 0) (sym walk) ∙ at }
spelt numbers edges Has graph d (suc n) v w p at walk =
    let r = d.right v walk.0 walk.1 in
    let rest = spelt numbers edges Has graph d n walk.0 w r.0.to r.3.to walk.2 in
    record {
      walk = r.0 ∷ rest.walk;
      to = rest.to;
      leads = (r.1, ap id_of (sym r.3.from ∙ at), rest.leads);
      has = All-cons Has r.0 rest.walk r.2 rest.has;
      long = ap suc rest.long;
      at = rest.at;
    }

-- the vertices of a walk of edges
pub record Traced (numbers : List ℕ) (graph : List (List ℕ)) (v : ℕ) (q : StateId) (n : ℕ) : Type 0 where
  pub to : ℕ
  pub within : to < length numbers
  pub at : get_or numbers to 0 ≡ q.0
  pub walk : Walk graph v to n

pub traced : (numbers : List ℕ) (edges : List Edge) (Has : Edge → Type 0) (graph : List (List ℕ)) → IsOnce numbers → IsDrawn numbers edges Has graph → (walk : List Edge) (p q : StateId) (v : ℕ) → v < length numbers → get_or numbers v 0 ≡ p.0 → IsWalk edges p walk q → All Has walk → Traced numbers graph v q (length walk)
traced numbers edges Has graph once d [] p q v lt at leads has = record { to = v; within = lt; at = at ∙ ap (λ (x : StateId). x.0) leads; walk = refl }
traced numbers edges Has graph once d (e ∷ walk) p q v lt at leads has =
    let r = d.all e leads.0 (All-head Has e walk has) in
    let same : r.0 ≡ v = once.same r.0 v r.1.2.v_in lt (r.1.2.from ∙ ap (λ (x : StateId). x.0) leads.1 ∙ sym at) in
    let rest = traced numbers edges Has graph once d walk e.to q r.1.0 r.1.2.w_in r.1.2.to leads.2 (All-tail Has e walk has) in
    record { to = rest.to; within = rest.within; at = rest.at; walk = (r.1.0, subst (λ x. HasEdge graph x r.1.0) same r.1.1, rest.walk) }

-- a ring of the graph is a closed walk of edges
pub ring_round : (numbers : List ℕ) (edges : List Edge) (sign : Sign) (graph : List (List ℕ)) → IsDrawn numbers edges (λ e. e.sign ≡ sign) graph → (v : ℕ) (q : StateId) → get_or numbers v 0 ≡ q.0 → OnRing graph v → IsRoundBy edges sign q
ring_round numbers edges sign graph d v q at ring =
    let r = d.right v ring.1.0 ring.1.1 in
    let rest = spelt numbers edges (λ e. e.sign ≡ sign) graph d ring.0 ring.1.0 v r.0.to r.3.to ring.1.2 in
    let back : rest.to ≡ q = ap id_of (sym rest.at ∙ at) in
    record {
      first = r.0;
      others = rest.walk;
      walk = (r.1, ap id_of (sym r.3.from ∙ at), subst (λ x. IsWalk edges r.0.to rest.walk x) back rest.leads);
      one_sign = All-cons (λ (e : Edge). e.sign ≡ sign) r.0 rest.walk r.2 rest.has;
    }

pub round_ring : (numbers : List ℕ) (edges : List Edge) (sign : Sign) (graph : List (List ℕ)) → IsOnce numbers → IsDrawn numbers edges (λ e. e.sign ≡ sign) graph → (v : ℕ) (q : StateId) → v < length numbers → get_or numbers v 0 ≡ q.0 → IsRoundBy edges sign q → OnRing graph v
round_ring numbers edges sign graph once d v q lt at round =
    let t = traced numbers edges (λ e. e.sign ≡ sign) graph once d (round.first ∷ round.others) q q v lt at round.walk round.one_sign in
    let back : t.to ≡ v = once.same t.to v t.within lt (t.at ∙ sym at) in
    (length round.others, subst (λ x. Walk graph v x (suc (length round.others))) back t.walk)
