use Rattle.std.proofs.Common.{◌≡◌, ◌<◌, ◌∙◌, ℕ, get_or, length, map, sym, subst, refl, arith}
use Rattle.std.specs.Prelude.{Contains, string_bytes}
use Rattle.std.proofs.lemmas.List.{length-map}
use Rattle.contracts.specs.Marking.{IsMarked}
use Rattle.contracts.specs.Reached.{IsLongest}
use Rattle.program.specs.declared.contract.Sign.TheVariants.{Send, Receive}
use Rattle.contracts.specs.Graphs.{OnRing, groups}
use Rattle.contracts.proofs.BoundLemmas.{bound_is}
use Rattle.contracts.proofs.RoundLemmas.{no_rings}
use Rattle.contracts.proofs.PartLemmas.{numbers_once, state_number_in}
use Rattle.contracts.proofs.bounds.bounds_of.Goals as goal

pub position-first-requires : goal.position-first-requires
position-first-requires c = subst (λ l. Contains l c.args.contract.now.first.0) (sym c.states_of.ensures) (state_number_in (string_bytes c.args.contract.now.state_names) c.args.contract.now.states.items c.args.contract.now.first c.requires.whole.first)

pub reached_from-requires : goal.reached_from-requires
reached_from-requires c =
    let all = c.args.contract.now.states.items in
    let within = subst (λ l. c.position-first.result < length l) c.states_of.ensures c.position-first.ensures.within in
    let size = length-map all (λ s. s.id.0) in
    let long = c.requires.sends.drawn.long in
    record {
      same = c.requires.receives.drawn.long ∙ sym long;
      sends = c.requires.sends.range;
      receives = c.requires.receives.range;
      first = omega (arith, within, size, long);
    }

pub longest-to_imp-requires-clause-start : goal.longest-to_imp-requires-clause-start
longest-to_imp-requires-clause-start c = subst (λ m. (s : ℕ) × IsMarked m s) (sym c.deref.ensures.value) (c.position-first.result, c.in_ok-reached.ensures.reached.all c.position-first.result 0 refl)

pub longest-to_exp-requires-clause-start : goal.longest-to_exp-requires-clause-start
longest-to_exp-requires-clause-start c = subst (λ m. (s : ℕ) × IsMarked m s) (sym c.deref-2.ensures.value) (c.position-first.result, c.in_ok-reached.ensures.reached.all c.position-first.result 0 refl)

pub returns : goal.returns
returns c =
    let all = c.args.contract.now.states.items in
    let n = map (λ s. s.id.0) all in
    let once = numbers_once (string_bytes c.args.contract.now.state_names) all c.requires.whole.states_once in
    let edges = c.args.contract.now.edges.items in
    let first = c.args.contract.now.first in
    let v = c.position-first.result in
    let within = subst (λ l. v < length l) c.states_of.ensures c.position-first.ensures.within in
    let at = subst (λ l. get_or l v 0 ≡ first.0) c.states_of.ensures c.position-first.ensures.at in
    let sends = groups c.args.sends.now.groups in
    let receives = groups c.args.receives.now.groups in
    let marks = c.in_ok-reached.reached.items in
    let reached = c.in_ok-reached.ensures.reached in
    let to_imp = subst (λ m. ((x : ℕ) → OnRing sends x → ⊥) → IsLongest sends m c.longest-to_imp.result) c.deref.ensures.value c.longest-to_imp.ensures.longest in
    let to_exp = subst (λ m. ((x : ℕ) → OnRing receives x → ⊥) → IsLongest receives m c.longest-to_exp.result) c.deref-2.ensures.value c.longest-to_exp.ensures.longest in
    record {
      to_imp = λ sound. bound_is n edges Send sends receives sends marks first v c.longest-to_imp.result once within at c.requires.sends.drawn c.requires.receives.drawn reached c.requires.sends.drawn
          (to_imp (no_rings c.args.contract.now Send sends sound c.requires.sends.drawn));
      to_exp = λ sound. bound_is n edges Receive sends receives receives marks first v c.longest-to_exp.result once within at c.requires.sends.drawn c.requires.receives.drawn reached c.requires.receives.drawn
          (to_exp (no_rings c.args.contract.now Receive receives sound c.requires.receives.drawn));
    }
