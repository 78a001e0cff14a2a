use Rattle.std.proofs.Common.{Bor}
use Rattle.std.specs.Prelude.{option_map}
use Rattle.tree.specs.declared.contract.MessageParameter.{MessageParameter}
use Rattle.resolving.specs.Around.{program_in}
use Rattle.resolving.proofs.BindLemmas.{declared_bound}
use Rattle.resolving.proofs.cases.declare_bind.Goals as goal

pub returns : goal.returns
returns c = λ items own f around frame.
    let p = program_in c.args.text.now items in
    let param = option_map (λ (x : Bor MessageParameter). x.now) c.args.param in
    declared_bound p param c.args.bind f c.bind_declaration-declaration.result c.next_number-number.result c.args.targets.now.items c.add_number.new.targets.items c.declare.new.self c.declare.result
    (c.bind_declaration-declaration.ensures p own around) (c.next_number-number.ensures p.text f frame) c.in_ok-add_number.ensures (c.declare.ensures f frame)
