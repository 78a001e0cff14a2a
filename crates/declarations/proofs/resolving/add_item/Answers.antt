use Rattle.std.proofs.Common.{[], All, subst}
use Rattle.std.proofs.lemmas.List.Elements.{All-head}
use Rattle.declarations.specs.Ready.{IsReady}
use Rattle.declarations.specs.Scopes.{declared_among}
use Rattle.declarations.proofs.resolving.add_item.Goals as goal

pub add_contract-requires-clause-ready : goal.add_contract-requires-clause-ready
add_contract-requires-clause-ready c =
    All-head (IsReady c.args.text.now) c.in-Contract.declared []
    (subst (λ item. All (IsReady c.args.text.now) (declared_among item)) c.in-Contract.is c.requires.ready)
