use Rattle.std.proofs.Common.{◌≡◌, ◌∙◌, map, ap, sym, subst}
use Rattle.std.proofs.lemmas.Result.{IfOk-weaker}
use Rattle.contracts.specs.Orders.{IsOrder}
use Rattle.contracts.proofs.OrderMade.{order_made, place}
use Rattle.contracts.proofs.order.order_of.Goals as goal

pub returns : goal.returns
returns c =
    let edges = c.args.edges.now in
    let sorted = c.sort_unstable.new.self.items in
    let made = order_made edges c.in_ok-entries.entries.items sorted c.in_ok-entries.ensures c.sort_unstable.ensures.permutation c.sort_unstable.ensures.sorted in
    IfOk-weaker c.indices_of.result (λ indices. indices.items ≡ map place c.deref.result.now) (λ order. IsOrder edges order.items)
    (λ order is. subst (IsOrder edges) (sym (is ∙ ap (map place) c.deref.ensures.value)) made) c.indices_of.ensures
