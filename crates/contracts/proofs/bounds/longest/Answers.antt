use Rattle.std.proofs.Common.{◌≡◌, ◌<◌, ◌≤◌, ℕ, length, get_or, false, subst, arith, ⊎_elim}
use Rattle.std.specs.Prelude.{◌⊎◌}
use Rattle.contracts.specs.Graphs.{groups, height_at}
use Rattle.contracts.specs.Reached.{counted_height}
use Rattle.contracts.proofs.HeightLemmas.{counted_below, known, longest_is}
use Rattle.contracts.proofs.MarkLemmas.{marked_in}
use Rattle.contracts.proofs.bounds.longest.Goals as goal

pub returns : goal.returns
returns c =
    let graph = groups c.args.graph.now.groups in
    let marks = c.args.reached.now in
    let heights = c.args.graph.now.heights.items in
    let n = c.tallest_of.result in
    let count = c.requires.heights.long in
    let long = c.requires.reached in
    let most = subst (λ h. (v : ℕ) → v < length h → counted_height (height_at h v) (get_or marks v false) ≤ n) c.deref.ensures.value c.tallest_of.ensures.most in
    let some = subst (λ h. (n ≡ 0) ⊎ ((v : ℕ) × (v < length h) × (counted_height (height_at h v) (get_or marks v false) ≡ n))) c.deref.ensures.value c.tallest_of.ensures.some in
    let start = c.requires.start in
    let here = marked_in marks start.0 start.1 in
    record {
      longest = λ quiet. longest_is graph heights marks start.0 n long start.1 (known graph heights c.requires.range c.requires.heights.settled quiet) c.requires.heights.right
          (λ v lt. most v (omega (arith, lt, count)))
          (subst (λ m. (n ≡ 0) ⊎ ((v : ℕ) × (v < m) × (counted_height (height_at heights v) (get_or marks v false) ≡ n))) count some);
      below = ⊎_elim
          (λ none. omega (arith, none, here, long))
          (λ v. let at = v.1 in
          let is = v.2 in
          let less = counted_below (height_at heights v.0) (get_or marks v.0 false) (length graph) (omega (arith, here, long)) (c.requires.heights.below v.0) in
          omega (arith, less, is))
          some;
    }
