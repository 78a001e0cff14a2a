use Rattle.std.proofs.Common.{◌∙◌, ap, subst, sym, arith}
use Rattle.std.specs.Prelude.{All}
use Rattle.tree.specs.Trees.{contracts_of}
use Rattle.declarations.specs.Ready.{IsReady, all_resolved, declared_in, declared_messages, declared_states}
use Rattle.declarations.specs.Scopes.{program_of_scope}
use Rattle.declarations.proofs.ApartLemmas.{seen_apart}
use Rattle.declarations.proofs.ReadyLemmas.{cleared}
use Rattle.declarations.proofs.WholeLemmas.{seen_whole}
use Rattle.declarations.proofs.resolving.resolve_contracts.Goals as goal

pub resolve_members-requires-clause-ready : goal.resolve_members-requires-clause-ready
resolve_members-requires-clause-ready c =
    let scope = c.args.scope.now in
    let clear = cleared (program_of_scope scope) scope c.requires.scope c.requires.clean in
    subst (λ l. All (IsReady scope.text.now) (declared_in l)) (sym c.deref.ensures.value) clear.ready

pub resolve_members-requires-clause-messages : goal.resolve_members-requires-clause-messages
resolve_members-requires-clause-messages c =
    let scope = c.args.scope.now in
    let clear = cleared (program_of_scope scope) scope c.requires.scope c.requires.clean in
    let shown = ap (λ l. declared_messages (declared_in l)) c.deref.ensures.value in
    omega (arith, shown, clear.messages, c.requires.few)

pub resolve_members-requires-clause-states : goal.resolve_members-requires-clause-states
resolve_members-requires-clause-states c =
    let scope = c.args.scope.now in
    let clear = cleared (program_of_scope scope) scope c.requires.scope c.requires.clean in
    let shown = ap (λ l. declared_states (declared_in l)) c.deref.ensures.value in
    omega (arith, shown, clear.states)

pub returns-clause-resolved : goal.returns-clause-resolved
returns-clause-resolved c =
    let scope = c.args.scope.now in
    let clear = cleared (program_of_scope scope) scope c.requires.scope c.requires.clean in
    let shown = ap (λ l. all_resolved scope.text.now (declared_in l)) c.deref.ensures.value in
    c.in_ok-contracts.ensures ∙ shown ∙ clear.resolved

pub returns-clause-apart : goal.returns-clause-apart
returns-clause-apart c =
    let scope = c.args.scope.now in
    let p = program_of_scope scope in
    let clear = cleared p scope c.requires.scope c.requires.clean in
    let shown = ap (λ l. all_resolved scope.text.now (declared_in l)) c.deref.ensures.value in
    seen_apart p.text (contracts_of p.items) c.in_ok-contracts.contracts.items (c.in_ok-contracts.ensures ∙ shown ∙ clear.resolved)

pub returns-clause-whole : goal.returns-clause-whole
returns-clause-whole c =
    let scope = c.args.scope.now in
    let p = program_of_scope scope in
    let clear = cleared p scope c.requires.scope c.requires.clean in
    let shown = ap (λ l. all_resolved scope.text.now (declared_in l)) c.deref.ensures.value in
    seen_whole p c.in_ok-contracts.contracts.items (c.in_ok-contracts.ensures ∙ shown ∙ clear.resolved) c.requires.clean
