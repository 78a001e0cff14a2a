use Rattle.std.proofs.Common.{length, map, reverse}
use Rattle.std.specs.Option.{option_map}
use Rattle.program.specs.Statements.{statement_model, statement_sequence, block_model, test_model, other_sequence}
use Rattle.program.specs.declared.statement as made
use Rattle.flow.specs.Cases.{entrance_model}
use Rattle.flow.specs.Growths.{LaysEnd, CasesBehind}
use Rattle.flow.specs.Lowering.{statements, others}
use Rattle.flow.proofs.CaseLemmas.{laid_cases}
use Rattle.flow.proofs.lowering.+statements.Given as goal

abbrev pub invariant-lay_if-loop-test : goal.invariant-lay_if-loop-test
invariant-lay_if-loop-test l =
    LaysEnd (made.If.out-If l.branches).others.items l.test-iterator.iter.rest.now (map (λ t. t.now) (reverse l.yielded)) l.fn.instructions.items l.instructions.items l.other
    (λ done. others (other_sequence (map test_model done) (option_map block_model (made.If.out-If l.branches).otherwise)) l.exits.end l.exits.again (length l.fn.instructions.items) l.next)

abbrev pub invariant-lay_statements-loop-statement : goal.invariant-lay_statements-loop-statement
invariant-lay_statements-loop-statement l =
    LaysEnd l.statements l.statement-iterator.iter.rest.now (map (λ s. s.now) (reverse l.yielded)) l.fn.instructions.items l.instructions.items l.entry
    (λ done. statements (statement_sequence (map statement_model done)) l.exits.end l.exits.again (length l.fn.instructions.items) l.next)

abbrev pub invariant-lay_switch-loop-case : goal.invariant-lay_switch-loop-case
invariant-lay_switch-loop-case l =
    CasesBehind l.cases l.case-iterator.iter.rest.now (map (λ c. c.now) (reverse l.yielded)) l.fn.instructions.items l.instructions.items (map entrance_model l.entrances.items)
    (laid_cases l.next l.again (length l.fn.instructions.items) l.next)
