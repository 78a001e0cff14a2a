use Rattle.std.proofs.Common.{rules, ◌≡◌, ◌∙◌, ℕ, get_or, sym, arith}
use Rattle.std.proofs.Props.{props}
use Rattle.std.proofs.Math.Logic.{∥∥₁_elim}
use Rattle.std.proofs.lemmas.Bool.{true≢false}
use Rattle.std.proofs.lemmas.List.Sorted.{IsPartitionPoint-from_clause}
use Rattle.contracts.specs.Orders.{IsOrder, is_below, key_at}
use Rattle.contracts.proofs.OrderLemmas.{IsParted, equal_keys, first_nowhere, first_there, key_here, keys_equal, order_within, parted}
use Rattle.contracts.proofs.order.first_on.Goals as goal
use Rattle.contracts.proofs.order.first_on.Goals.{After-partition_point-at, After-eq, else-at-order-via-then-at-order+else-eq, else-at-order-via-else-at-order}

parted_at : (c : After-partition_point-at) → IsOrder c.args.edges.now c.args.order.now → IsParted c.args.edges.now c.args.order.now (c.args.state.0, c.args.message.0) c.partition_point-at.result
parted_at c is =
    let key : ℕ × ℕ = (c.args.state.0, c.args.message.0) in
    let point = IsPartitionPoint-from_clause (λ i. is_below c.args.edges.now i key) c.args.order.now c.partition_point-at.result c.partition_point-at.ensures.partitioned
    (parted c.args.edges.now c.args.order.now key is) (λ a r q k. search rules) in
    record {
      low = λ k lt. point.0 k 0 (omega arith) lt;
      high = λ k from lt. point.1 k 0 from lt;
    }

pub bounds-edges-order : goal.bounds-edges-order
bounds-edges-order c = ∥∥₁_elim c.requires.ordered (Prim.hlevel props) (λ is. order_within c.args.edges.now c.args.order.now is c.partition_point-at.result c.if-at-order.true)

pub offset_bounds-edges-order : goal.offset_bounds-edges-order
offset_bounds-edges-order c = let lt = bounds-edges-order c in search rules

key_is : (c : After-eq) → IsOrder c.args.edges.now c.args.order.now → c.key_of.result ≡ key_at c.args.edges.now (get_or c.args.order.now c.partition_point-at.result 0)
key_is c is = c.key_of.ensures ∙ sym (key_here c.args.edges.now _ _ (order_within c.args.edges.now c.args.order.now is c.partition_point-at.result c.if-at-order.true))

pub returns-then-eq : goal.returns-then-eq
returns-then-eq c =
    let before = (goal.at.returns-then-eq c).After-eq in
    ∥∥₁_elim c.requires.ordered (Prim.hlevel props) (λ is.
    sym (first_there c.args.edges.now c.args.order.now (c.args.state.0, c.args.message.0) c.partition_point-at.result is
    (parted_at (goal.at.returns-then-eq c).After-partition_point-at is) c.if-at-order.true
    (sym (key_is before is) ∙ keys_equal _ _ (sym c.eq.ensures ∙ c.if-eq.true))))

pub returns-else-at-order : goal.returns-else-at-order
returns-else-at-order c =
    let before = (goal.at.returns-else-at-order c).After-partition_point-at in
    let key : ℕ × ℕ = (c.args.state.0, c.args.message.0) in
    ∥∥₁_elim c.requires.ordered (Prim.hlevel props) (λ is.
    sym (first_nowhere c.args.edges.now c.args.order.now key c.partition_point-at.result is (parted_at before is)
    (λ lt same. elim c.else-at-order.branch [
      | else-at-order-via-then-at-order+else-eq w ↦ true≢false (sym (w.eq.ensures ∙ equal_keys w.key_of.result key
          (w.key_of.ensures ∙ sym (key_here c.args.edges.now _ _ (order_within c.args.edges.now c.args.order.now is c.partition_point-at.result lt)) ∙ same)) ∙ w.if-eq.false)
      | else-at-order-via-else-at-order w ↦ let past = w.if-at-order.false in omega (arith, lt, past)
    ])))
