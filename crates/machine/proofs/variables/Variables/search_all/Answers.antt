use Rattle.std.proofs.Common.{rules}
use Rattle.std.proofs.lemmas.List.Sorted.{answers_always}
use Rattle.machine.proofs.BindingLemmas.{search_absent, search_found}
use Rattle.machine.proofs.variables.Variables.search_all.Goals as goal

pub returns-clause-found : goal.returns-clause-found
returns-clause-found c =
    let facts = c.binary_search_by_key.ensures in
    let by_key = facts.position (λ b. b.variable) (answers_always _ _ _ (λ f a r g called. search rules)) in
    rw (← c.deref.ensures.value) (search_found c.args.self.now.count c.deref.result.now (rw c.deref.ensures.value c.args.self.now.kept) c.args.v.0 c.binary_search_by_key.result facts.bound by_key)

pub returns-clause-absent : goal.returns-clause-absent
returns-clause-absent c =
    let facts = c.binary_search_by_key.ensures in
    let by_key = facts.position (λ b. b.variable) (answers_always _ _ _ (λ f a r g called. search rules)) in
    rw (← c.deref.ensures.value) (search_absent c.args.self.now.count c.deref.result.now (rw c.deref.ensures.value c.args.self.now.kept) c.args.v.0 c.binary_search_by_key.result facts.bound by_key)
