use Rattle.std.proofs.Common.{◌≡◌, ◌+◌, ◌∙◌, ◌++◌, ◌∷◌, [], ℕ, sym, subst, arith}
use Rattle.contracts.specs.Orders.{AreEntries, key_at}
use Rattle.contracts.proofs.OrderLemmas.{key_here}
use Rattle.contracts.proofs.OrderMade.{entries_more, no_entries}
use Rattle.contracts.proofs.order.keyed_indices.Goals as goal

pub loop-i-init : goal.loop-i-init
loop-i-init c = subst (AreEntries c.args.edges.now 0) (sym c.in_ok-entries.ensures.items) (no_entries c.args.edges.now)

pub loop-i-preserved : goal.loop-i-preserved
loop-i-preserved c =
    let edges = c.args.edges.now in
    let i = c.loop-i.i in
    let key_is : c.key_of.result ≡ key_at edges i = c.key_of.ensures ∙ sym (key_here edges i _ c.loop-i-test.true) in
    subst (AreEntries edges (i + 1)) (sym c.in_ok-push.ensures.items)
    (subst (λ (k : ℕ × ℕ). AreEntries edges (i + 1) (c.loop-i.entries.items ++ (k, i) ∷ [])) (sym key_is)
    (entries_more edges i c.loop-i.entries.items c.loop-i.invariant))

pub returns : goal.returns
returns c =
    let end = c.loop-i-test.false in
    let most = c.loop-i.auto.i-end in
    subst (λ n. AreEntries c.args.edges.now n c.loop-i.entries.items) (omega (arith, end, most)) c.loop-i.invariant
