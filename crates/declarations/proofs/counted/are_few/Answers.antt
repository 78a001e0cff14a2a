use Rattle.std.proofs.Common.{◌≡◌, length, get_or, ap, sym, ◌∙◌, arith}
use Rattle.std.specs.List.{flat_map}
use Rattle.std.proofs.lemmas.List.Folds.{length-flat_map-take}
use Rattle.declarations.specs.Scopes.{declared_among}
use Rattle.declarations.specs.declared.members.Declared.{Declared}
use Rattle.declarations.specs.declared.members.Members.{Members}
use Rattle.declarations.proofs.counted.are_few.Goals as goal

pub returns-in-None : goal.returns-in-None
returns-in-None c =
    let states = λ (m : Members). flat_map (λ (d : Declared). d.counted.all.items) (declared_among m) in
    let items = c.args.items.now in
    let i = c.loop-item.item-index in
    let all = length-flat_map-take states items i c.item-item.result c.loop-item-test.true in
    let here : length (states (get_or items i c.item-item.result)) ≡ c.state_count.result = ap (λ m. length (states m)) (sym c.item-item.is) ∙ sym c.state_count.ensures in
    (λ h. absurd (cc), λ few. absurd (omega (arith, all, here, few, c.loop-item.invariant, c.in-None.ensures)))
