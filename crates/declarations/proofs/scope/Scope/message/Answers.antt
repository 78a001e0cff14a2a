use Rattle.std.proofs.Common.{sym, ap, ◌∙◌}
use Rattle.std.specs.Prelude.{option_and_then}
use Rattle.tree.specs.Trees.{ContractTree}
use Rattle.declarations.specs.Named.{message_written}
use Rattle.declarations.specs.Program.{Numbered, as_contract, item_at}
use Rattle.tables.specs.Words.{word_at}
use Rattle.declarations.proofs.ScopeLemmas.{looked_contract}
use Rattle.declarations.proofs.scope.Scope.message.Goals as goal

pub returns : goal.returns
returns c = λ p scope.
    let name = c.args.name in
    let looked = looked_contract p.text (item_at as_contract p c.args.contract) c.args.contract c.in_ok-declared.declared.now (c.in_ok-declared.ensures p scope) in
    c.message.ensures p.text looked.contract looked.declared
    ∙ ap (message_written p.text looked.contract) (c.slice.ensures ∙ ap (λ t. word_at t name) scope.text_is)
    ∙ ap (option_and_then (λ (k : Numbered ContractTree). message_written p.text k.1 (word_at p.text name))) (sym looked.is)
