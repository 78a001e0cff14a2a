use Rattle.std.proofs.Common.{◌≡◌, ◌<◌, ◌++◌, drop, map}
use Rattle.std.specs.Option.{option_map}
use Rattle.nearest.specs.Locals.{case_names, cases_names, others_names, statements_names, test_names}
use Rattle.tree.specs.StatementTrees.{behind_case, block_tree, case_sequence, case_tree, if_tree, other_sequence, statement_sequence, statement_tree, switch_tree, test_tree}
use Rattle.tree.specs.declared.statement as made
use Rattle.nearest.proofs.locals.+bodies.Given as goal

-- In each loop, the names added and those left are all that were to be added.

abbrev pub invariant-add_statements-loop-statement : goal.invariant-add_statements-loop-statement
invariant-add_statements-loop-statement l =
    l.names.items ++ statements_names l.place (statement_sequence (map statement_tree (drop l.statement-index l.statements)))
    ≡ l.fn.names.items ++ statements_names l.place (statement_sequence (map statement_tree l.statements))

abbrev pub invariant-add_branches-loop-test : goal.invariant-add_branches-loop-test
invariant-add_branches-loop-test l =
    l.names.items ++ others_names l.place (other_sequence (map test_tree (drop l.test-index l.test-items)) (option_map block_tree (made.If.out-If l.branches).otherwise))
    ≡ l.fn.names.items ++ (test_names l.place (if_tree l.branches).first ++ others_names l.place (if_tree l.branches).others)

abbrev pub invariant-add_cases-loop-next : goal.invariant-add_cases-loop-next
invariant-add_cases-loop-next l = record {
  smaller : made.Case.size-Case l.case < made.Switch.size-Switch l.switch;
  added : l.names.items ++ (case_names l.place (behind_case (case_sequence (map case_tree (drop l.next-index l.next-items))) (switch_tree l.switch).close.place) (case_tree l.case)
      ++ cases_names l.place (switch_tree l.switch).close.place (case_sequence (map case_tree (drop l.next-index l.next-items))))
      ≡ l.fn.names.items ++ (case_names l.place (behind_case (case_sequence (switch_tree l.switch).others) (switch_tree l.switch).close.place) (switch_tree l.switch).first
      ++ cases_names l.place (switch_tree l.switch).close.place (case_sequence (switch_tree l.switch).others));
}
