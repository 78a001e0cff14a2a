-- Sequences of statements and of cases, as trees and as lists.
use Rattle.std.proofs.Common.{◌≡◌, List, [], ◌∷◌, ◌++◌, refl, ap}
use Rattle.std.specs.List.{flat_map}
use Rattle.tree.specs.StatementTrees.{StatementTree, StatementTrees, NoStatement, MoreStatements, CaseTree, CaseTrees, NoCase, MoreCases, statement_sequence, case_sequence}
use Rattle.tree.specs.StatementGrammar.{statement, statements, case, cases}
use Rattle.syntax.specs.StatementFirsts.{statement_list, case_list}

pub list_sequence : (xs : StatementTrees) → statement_sequence (statement_list xs) ≡ xs
list_sequence NoStatement = refl
list_sequence (MoreStatements x xs) = ap (λ t. MoreStatements x t) (list_sequence xs)

pub sequence_list : (xs : List StatementTree) → statement_list (statement_sequence xs) ≡ xs
sequence_list [] = refl
sequence_list (x ∷ xs) = ap (λ t. x ∷ t) (sequence_list xs)

pub list_spelled : (xs : StatementTrees) → flat_map statement (statement_list xs) ≡ statements xs
list_spelled NoStatement = refl
list_spelled (MoreStatements x xs) = ap (λ t. statement x ++ t) (list_spelled xs)

pub case_list_sequence : (xs : CaseTrees) → case_sequence (case_list xs) ≡ xs
case_list_sequence NoCase = refl
case_list_sequence (MoreCases x xs) = ap (λ t. MoreCases x t) (case_list_sequence xs)

pub case_sequence_list : (xs : List CaseTree) → case_list (case_sequence xs) ≡ xs
case_sequence_list [] = refl
case_sequence_list (x ∷ xs) = ap (λ t. x ∷ t) (case_sequence_list xs)

pub case_sequence_spelled : (xs : List CaseTree) → cases (case_sequence xs) ≡ flat_map case xs
case_sequence_spelled [] = refl
case_sequence_spelled (x ∷ xs) = ap (λ t. case x ++ t) (case_sequence_spelled xs)
