use Rattle.std.proofs.Common.{arith}
use Rattle.declarations.proofs.SeenLemmas.{as_many}
use Rattle.declarations.proofs.resolving.add_contract.Goals as goal

pub overflow_cast-before : goal.overflow_cast-before
overflow_cast-before c =
    let many = as_many c.args.text.now c.args.before.now.messages c.args.before.now.states c.args.declared.now c.in_ok-contract.contract c.in_ok-contract.ensures in
    omega (arith, many.messages, c.requires.messages, c.len.ensures, c.in_ok-contract.contract.messages.ok.0)

pub overflow_add-before : goal.overflow_add-before
overflow_add-before c =
    let many = as_many c.args.text.now c.args.before.now.messages c.args.before.now.states c.args.declared.now c.in_ok-contract.contract c.in_ok-contract.ensures in
    omega (arith, many.messages, c.requires.messages, c.len.ensures, c.in_ok-contract.contract.messages.ok.0)

pub overflow_cast-before-2 : goal.overflow_cast-before-2
overflow_cast-before-2 c =
    let many = as_many c.args.text.now c.args.before.now.messages c.args.before.now.states c.args.declared.now c.in_ok-contract.contract c.in_ok-contract.ensures in
    omega (arith, many.states, c.requires.states, c.len-2.ensures, c.in_ok-contract.contract.states.ok.0)

pub overflow_add-before-2 : goal.overflow_add-before-2
overflow_add-before-2 c =
    let many = as_many c.args.text.now c.args.before.now.messages c.args.before.now.states c.args.declared.now c.in_ok-contract.contract c.in_ok-contract.ensures in
    omega (arith, many.states, c.requires.states, c.len-2.ensures, c.in_ok-contract.contract.states.ok.0)

pub returns-clause-messages : goal.returns-clause-messages
returns-clause-messages c =
    let many = as_many c.args.text.now c.args.before.now.messages c.args.before.now.states c.args.declared.now c.in_ok-contract.contract c.in_ok-contract.ensures in
    omega (arith, many.messages, c.requires.messages, c.len.ensures, c.in_ok-contract.contract.messages.ok.0)

pub returns-clause-states : goal.returns-clause-states
returns-clause-states c =
    let many = as_many c.args.text.now c.args.before.now.messages c.args.before.now.states c.args.declared.now c.in_ok-contract.contract c.in_ok-contract.ensures in
    omega (arith, many.states, c.requires.states, c.len-2.ensures, c.in_ok-contract.contract.states.ok.0)
