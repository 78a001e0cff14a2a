-- Bounds of a contract from the longest walks of its graphs.
use Rattle.std.proofs.Common.{◌≡◌, ℕ, ◌<◌, List, length, get_or, Bool, refl, sym, subst, ◌∙◌, ⊎_elim}
use Rattle.std.specs.Prelude.{All, Contains}
use Rattle.std.proofs.lemmas.List.Elements.{Contains-append_cases, Contains-append_left, Contains-append_right}
use Rattle.program.specs.declared.contract.Sign.{Sign}
use Rattle.program.specs.declared.contract.Sign.TheVariants.{Send, Receive}
use Rattle.program.specs.declared.contract.Edge.{Edge}
use Rattle.program.specs.declared.number.StateId.{StateId}
use Rattle.contracts.specs.Arcs.{IsDrawn, Joins}
use Rattle.contracts.specs.Bounds.{IsBound}
use Rattle.contracts.specs.Graphs.{HasEdge, group_at}
use Rattle.contracts.specs.Reached.{AreReached, IsLongest, union}
use Rattle.contracts.proofs.JoinLemmas.{joined_length, joined_row}
use Rattle.contracts.proofs.PartLemmas.{IsOnce}
use Rattle.contracts.proofs.SignLemmas.{each_sign}
use Rattle.contracts.proofs.WalkLemmas.{spelt, traced}

abbrev Any : Edge → Type 0
Any e = Unit {0}

abbrev Leaves : List ℕ → Edge → List (List ℕ) → Type 0
Leaves numbers e graph = (v : ℕ) × ((w : ℕ) × HasEdge graph v w × Joins numbers e v w)

-- the graphs of both signs draw all edges
any_drawn : (numbers : List ℕ) (edges : List Edge) (sends receives : List (List ℕ))
    → IsDrawn numbers edges (λ e. e.sign ≡ Send) sends → IsDrawn numbers edges (λ e. e.sign ≡ Receive) receives
    → IsDrawn numbers edges Any (union sends receives)
any_drawn numbers edges sends receives drawn_a drawn_b = record {
  long = joined_length sends receives (drawn_b.long ∙ sym drawn_a.long) ∙ drawn_a.long;
  right = λ v w edge. ⊎_elim
      (λ x. let r = drawn_a.right v w x in (r.0, r.1, tt, r.3))
      (λ x. let r = drawn_b.right v w x in (r.0, r.1, tt, r.3))
      (Contains-append_cases (group_at sends v) (group_at receives v) w (subst (λ l. Contains l w) (joined_row sends receives v) edge));
  all = λ e c _. each_sign (λ s. e.sign ≡ s → Leaves numbers e (union sends receives))
      (λ is. let r = drawn_a.all e c is in (r.0, (r.1.0, subst (λ l. Contains l r.1.0) (sym (joined_row sends receives r.0)) (Contains-append_left (group_at sends r.0) (group_at receives r.0) r.1.0 r.1.1), r.1.2)))
      (λ is. let r = drawn_b.all e c is in (r.0, (r.1.0, subst (λ l. Contains l r.1.0) (sym (joined_row sends receives r.0)) (Contains-append_right (group_at sends r.0) (group_at receives r.0) r.1.0 r.1.1), r.1.2)))
      e.sign refl;
}

any_all : (walk : List Edge) → All Any walk
any_all walk = λ k d lt. tt

-- the longest walk of a sign's graph is as long as the bound of that sign
pub bound_is : (numbers : List ℕ) (edges : List Edge) (sign : Sign) (sends receives graph : List (List ℕ)) (marks : List Bool) (first : StateId) (v n : ℕ)
    → IsOnce numbers → v < length numbers → get_or numbers v 0 ≡ first.0
    → IsDrawn numbers edges (λ e. e.sign ≡ Send) sends → IsDrawn numbers edges (λ e. e.sign ≡ Receive) receives
    → AreReached sends receives v marks
    → IsDrawn numbers edges (λ e. e.sign ≡ sign) graph → IsLongest graph marks n → IsBound edges first sign n
bound_is numbers edges sign sends receives graph marks first v n once lt at drawn_a drawn_b reached drawn longest =
    let whole = any_drawn numbers edges sends receives drawn_a drawn_b in
    let way = reached.right longest.from longest.marked in
    let there = spelt numbers edges Any (union sends receives) whole way.0 v longest.from first at way.1 in
    let onward = spelt numbers edges (λ e. e.sign ≡ sign) graph drawn n longest.from longest.to there.to there.at longest.walk in
    record {
      most = λ p q path walk leads more one_sign.
          let t = traced numbers edges Any (union sends receives) once whole path first p v lt at leads (any_all path) in
          let u = traced numbers edges (λ e. e.sign ≡ sign) graph once drawn walk p q t.to t.within t.at more one_sign in
          longest.most t.to u.to (length walk) (reached.all t.to (length path) t.walk) u.walk;
      from = there.to;
      to = onward.to;
      way = there.walk;
      walk = onward.walk;
      reached = there.leads;
      leads = onward.leads;
      one_sign = onward.has;
      long = onward.long;
    }
