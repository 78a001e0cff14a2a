use Rattle.std.proofs.Common.{◌≡◌, ℕ, List, Some, sym, subst, ◌∙◌}
use Rattle.std.specs.Prelude.{OnOk, Option, None, option_map, Result}
use Rattle.std.specs.Option.{option_map_or}
use Rattle.source.specs.declared.fault.Memory.{Memory}
use Rattle.source.specs.declared.token.Span.{Span}
use Rattle.tree.specs.Trees.{ContractTree}
use Rattle.declarations.specs.Mistakes.{Adds}
use Rattle.declarations.specs.Program.{contract_named}
use Rattle.declarations.specs.declared.mistake.Mistake.{Mistake}
use Rattle.declarations.specs.declared.value_type.ValueType.{ValueType}
use Rattle.names.specs.Bodies.{ends_mistakes}
use Rattle.names.specs.Expressions.{type_named}
use Rattle.names.specs.Operands.{in_frame}
use Rattle.names.proofs.plain.judge_new_ends.Goals as goal

-- the ends of a contract that is found
known : (r : Result (Unit {0}) Memory) (old new none : List Mistake) (o : Option (ℕ × ContractTree)) (index : ℕ) (a b : ValueType) (first second : Span)
    → Some index ≡ option_map (λ c. c.0) o → OnOk r (Adds old new (ends_mistakes index a b first second))
    → OnOk r (Adds old new (option_map_or (λ c. ends_mistakes c.0 a b first second) o none))
known r old new none None index a b first second is adds = cc
known r old new none (Some c) index a b first second is adds =
    subst (λ o. OnOk r (Adds old new (option_map_or (λ n. ends_mistakes n a b first second) o none))) is adds

pub returns-in-Some : goal.returns-in-Some
returns-in-Some c = λ p f scope frame.
    let s = in_frame p f in
    let channel = c.args.channel in
    let old = c.args.found.now.items in
    let new = c.judge_ends.new.found.items in
    let index = c.in-Some.index in
    let r = c.judge_ends.result in
    let left = subst (λ k. OnOk r (Adds old new (ends_mistakes index k c.held_type-right.result channel.first channel.second)))
    (c.held_type-left.ensures p f scope frame) c.judge_ends.ensures in
    let both = subst (λ k. OnOk r (Adds old new (ends_mistakes index (type_named s channel.first) k channel.first channel.second)))
    (c.held_type-right.ensures p f scope frame) left in
    known r old new _ (contract_named p channel.contract) index (type_named s channel.first) (type_named s channel.second) channel.first channel.second
    (sym c.in-Some.is ∙ c.contract_index.ensures p scope) both
