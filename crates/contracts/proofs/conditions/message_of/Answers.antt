use Rattle.std.proofs.Common.{◌∙◌, ◌<◌, ap, sym, subst, length, get_or, arith}
use Rattle.std.specs.Prelude.{Contains}
use Rattle.std.proofs.lemmas.List.{length-map, get_or-map}
use Rattle.program.specs.declared.number.MessageId.{MessageId}
use Rattle.contracts.proofs.PartLemmas.{message_number_in}
use Rattle.contracts.proofs.conditions.message_of.Goals as goal
use Rattle.contracts.proofs.conditions.message_of.Goals.{After-position}

pub position-requires : goal.position-requires
position-requires c = subst (λ l. Contains l c.args.id.0) (sym c.requires.numbers) (message_number_in c.args.contract.now.messages.items c.args.id c.requires.listed)

within : (c : After-position) → c.position.result < length c.args.contract.now.messages.items
within c =
    let a = c.position.ensures.within in
    let b = ap length c.requires.numbers in
    let d = length-map c.args.contract.now.messages.items (λ m. m.id.0) in
    omega (arith, a, b, d)

pub index-requires : goal.index-requires
index-requires c = let lt = within (goal.at.index-requires c).After-position in let size = c.args.contract.now.messages.ok in omega (arith, lt, size.0)

pub returns : goal.returns
returns c =
    let lt = within (goal.at.returns c).After-position in
    let messages = c.args.contract.now.messages.items in
    let i = c.position.result in
    let is = c.index.ensures in
    let number = sym c.position.ensures.at ∙ ap (λ l. get_or l i 0) c.requires.numbers ∙ get_or-map (λ m. m.id.0) messages i c.index.result.now 0 lt ∙ ap (λ m. m.id.0) (sym is) in
    record {
      its = ap (λ n. let id : MessageId = record { 0 = n } in id) (sym number);
      listed = (i, lt, sym is);
    }
