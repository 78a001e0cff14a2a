use Rattle.std.proofs.Common.{◌≡◌, ◌+◌, ◌-◌, ◌<◌, ◌∙◌, ℕ, length, get_or, sym, subst, arith}
use Rattle.std.proofs.Math.ListN.{set, length-set}
use Rattle.std.proofs.lemmas.Grind.{get_or_default_zero}
use Rattle.contracts.specs.Arcs.{arc}
use Rattle.contracts.specs.Chains.{AreChained, start_at}
use Rattle.contracts.proofs.ChainLemmas.{chained_more}
use Rattle.contracts.proofs.grouping.chains_of.Goals as goal

pub loop-i-preserved : goal.loop-i-preserved
loop-i-preserved c =
    let arcs = c.args.arcs.now in
    let i = c.loop-i.i in
    let test = c.loop-i-test.true in
    let k : ℕ = length arcs - 1 - i in
    let lt : k < length arcs = omega (arith, test) in
    let count = c.loop-i.invariant.count in
    let begins = c.requires.starts k (arc 0 0) lt in
    let within : start_at arcs k < length c.loop-i.firsts.items = omega (arith, begins, count) in
    let before : length arcs - i ≡ k + 1 = omega (arith, test) in
    let after : k ≡ length arcs - (i + 1) = omega (arith, test) in
    let first : get_or c.loop-i.firsts.items (start_at arcs k) 0 ≡ c.index.result.now = sym (c.index.ensures ∙ get_or_default_zero c.loop-i.firsts.items (start_at arcs k) c.index.result.now within) in
    record {
      count = length-set c.loop-i.firsts.items (start_at arcs k) k ∙ count;
      chained = subst (λ j. AreChained arcs j (set c.loop-i.firsts.items (start_at arcs k) k) (set c.loop-i.nexts.items k c.index.result.now)) after
          (subst (λ f. AreChained arcs k (set c.loop-i.firsts.items (start_at arcs k) k) (set c.loop-i.nexts.items k f)) first
          (chained_more arcs k c.loop-i.firsts.items c.loop-i.nexts.items lt within (subst (λ j. AreChained arcs j c.loop-i.firsts.items c.loop-i.nexts.items) before c.loop-i.invariant.chained)));
    }
