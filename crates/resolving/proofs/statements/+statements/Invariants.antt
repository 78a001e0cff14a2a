use Rattle.std.proofs.Common.{ℕ, ◌<◌, List, drop, map, take}
use Rattle.tree.specs.StatementTrees.{MoreCases, statement_tree, test_tree, case_tree, case_sequence}
use Rattle.tree.specs.declared.statement as stated
use Rattle.tree.specs.Trees.{ItemTree}
use Rattle.program.specs.Statements.{statement_model, test_model, case_model}
use Rattle.resolving.specs.Around.{IsAround, program_in}
use Rattle.resolving.specs.Frames.{IsLocalFrame, staying_model}
use Rattle.resolving.specs.Locals.{LocalFrame}
use Rattle.resolving.specs.Steps.{IsResolvedPiece, pieces_in_order}
use Rattle.resolving.specs.Told.{statement_told, test_told}
use Rattle.resolving.proofs.CaseLemmas.{CasesGo}
use Rattle.resolving.proofs.statements.+statements.Given as goal

abbrev pub invariant-tell_statements-loop-statement : goal.invariant-tell_statements-loop-statement
invariant-tell_statements-loop-statement l = (items : List ItemTree) (own : ℕ) (f : LocalFrame) → IsAround (program_in l.text items) own l.around → IsLocalFrame l.text f l.fn.locals
    → IsResolvedPiece l.text (pieces_in_order (λ s. statement_told (program_in l.text items) own (staying_model l.stays) (statement_tree s)) (take l.statement-index l.statements) f) (map statement_model l.told.items) l.locals

abbrev pub invariant-tell_tests-loop-test : goal.invariant-tell_tests-loop-test
invariant-tell_tests-loop-test l = (items : List ItemTree) (own : ℕ) (f : LocalFrame) → IsAround (program_in l.text items) own l.around → IsLocalFrame l.text f l.fn.locals
    → IsResolvedPiece l.text (pieces_in_order (λ t. test_told (program_in l.text items) own (staying_model l.stays) (test_tree t)) (take l.test-index l.tests) f) (map test_model l.told.items) l.locals

abbrev pub invariant-tell_cases-loop-next : goal.invariant-tell_cases-loop-next
invariant-tell_cases-loop-next l = record {
  inside : stated.Case.size-Case l.case < stated.Switch.size-Switch l.switch;
  cases : (items : List ItemTree) (own : ℕ) (f : LocalFrame) → IsAround (program_in l.text items) own l.around → IsLocalFrame l.text f l.fn.locals
      → CasesGo (program_in l.text items) own (staying_model l.stays) (stated.Switch.out-Switch l.switch).close.place f (MoreCases (case_tree (stated.Switch.out-Switch l.switch).first) (case_sequence (map case_tree (stated.Switch.out-Switch l.switch).others.items)))
      (map case_model l.told.items) (case_tree l.case) (case_sequence (map case_tree (drop l.next-index (stated.Switch.out-Switch l.switch).others.items))) l.locals;
}
