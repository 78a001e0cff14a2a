use Rattle.std.proofs.Common.{◌≡◌, ◌-◌, ◌∙◌, get_or, sym, arith}
use Rattle.std.proofs.lemmas.Bool.{ltb-true}
use Rattle.contracts.specs.Orders.{key_at}
use Rattle.contracts.proofs.OrderLemmas.{after_its_like, equal_keys, its_like_before, key_here, keys_equal, order_within}
use Rattle.contracts.proofs.order.is_second.Goals as goal
use Rattle.contracts.proofs.order.is_second.Goals.{After-eq}

first_is : (c : After-eq) → c.key_of.result ≡ key_at c.args.edges.now (get_or c.args.order.now (c.args.at - 1) 0)
first_is c = let at = c.requires.at in c.key_of.ensures ∙ sym (key_here c.args.edges.now _ _ (order_within c.args.edges.now c.args.order.now c.requires.ordered (c.args.at - 1) (omega (arith, at))))

second_is : (c : After-eq) → c.key_of-then-at-gt0.result ≡ key_at c.args.edges.now (get_or c.args.order.now c.args.at 0)
second_is c = c.key_of-then-at-gt0.ensures ∙ sym (key_here c.args.edges.now _ _ (order_within c.args.edges.now c.args.order.now c.requires.ordered c.args.at c.requires.at))

pub returns-then-at-gt0 : goal.returns-then-at-gt0
returns-then-at-gt0 c = (
  λ same. after_its_like c.args.edges.now c.args.order.now c.args.at c.requires.ordered c.if-at-gt0.true c.requires.at
      (sym (first_is c) ∙ keys_equal _ _ (sym c.eq.ensures ∙ same) ∙ second_is c),
  λ has. c.eq.ensures ∙ equal_keys _ _ (first_is c ∙ (its_like_before c.args.edges.now c.args.order.now c.args.at c.requires.ordered c.requires.at has).1 ∙ sym (second_is c)),
)

pub returns-else-at-gt0 : goal.returns-else-at-gt0
returns-else-at-gt0 c = (
  λ more. let first = c.if-at-gt0.false in absurd (let lt = ltb-true 0 c.args.at more in omega (arith, lt, first)),
  λ has. let first = c.if-at-gt0.false in absurd (let some = (its_like_before c.args.edges.now c.args.order.now c.args.at c.requires.ordered c.requires.at has).0 in omega (arith, some, first)),
)
