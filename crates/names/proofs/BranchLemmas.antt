-- Statements, the branches of an `if` and the cases of a switch, one after another.
use Rattle.std.proofs.Common.{◌≡◌, ℕ, zero, suc, ◌+◌, ◌<◌, ◌≤◌, List, [], ◌∷◌, ◌++◌, length, map, take, drop, get_or, Option, None, Some, sym, ap, ◌∙◌, subst, arith, add-one}
use Rattle.std.specs.Prelude.{slice_get}
use Rattle.std.specs.Option.{option_map}
use Rattle.std.proofs.Math.ListN.{get_or-map}
use Rattle.std.proofs.Math.Seq.{drop-cons}
use Rattle.std.proofs.lemmas.List.{drop_all}
use Rattle.declarations.specs.declared.mistake.Mistake.{Mistake}
use Rattle.tree.specs.StatementTrees as trees
use Rattle.tree.specs.StatementTrees.{BlockTree, CaseTree, statement_tree, statement_sequence, block_tree, test_tree, case_tree, case_sequence, other_sequence, switch_tree}
use Rattle.tree.specs.declared.statement as made
use Rattle.names.specs.Bodies.{Surroundings, statement_turn, statements_turn, block_turn, others_turn, test_turn, case_turn, cases_turn, head_of, heads_of}
use Rattle.names.specs.Cases.{Head}
use Rattle.names.specs.Variables.{NameFrame, CheckedPiece, turn, follow}
use Rattle.names.specs.declared.variables.ScopeVariables.{ScopeVariables}
use Rattle.names.proofs.TurnLemmas.{Ongoing}

-- the next statement, and the rest after it
pub next_statement : (m : Surroundings) (xs : List made.Statement.Statement) (i : ℕ) (x : made.Statement.Statement) → i < length xs → x ≡ get_or xs i x
    → statements_turn m (statement_sequence (map statement_tree (drop i xs))) ≡ (λ f. follow (statement_turn m (statement_tree x) f) (statements_turn m (statement_sequence (map statement_tree (drop (i + 1) xs)))))
next_statement m xs i x lt is =
    let behind : ℕ → NameFrame → CheckedPiece = λ n f. follow (statement_turn m (statement_tree x) f) (statements_turn m (statement_sequence (map statement_tree (drop n xs)))) in
    ap (λ l. statements_turn m (statement_sequence (map statement_tree l))) (drop-cons xs i x lt ∙ ap (λ k. k ∷ drop (suc i) xs) (sym is)) ∙ ap behind (sym (add-one i))

-- after the last statement, nothing is left
pub no_statement : {text : List ℕ} {old mid : List Mistake} {v : ScopeVariables} {whole : CheckedPiece} (m : Surroundings) (xs : List made.Statement.Statement) (i : ℕ) → length xs ≤ i
    → Ongoing text old mid v whole (statements_turn m (statement_sequence (map statement_tree (drop i xs)))) → Ongoing text old mid v whole (turn [])
no_statement {text = text} {old = old} {mid = mid} {v = v} {whole = whole} m xs i past o =
    subst (λ rest. Ongoing text old mid v whole (statements_turn m (statement_sequence (map statement_tree rest)))) (drop_all i xs past) o

-- after the last test of an `if`, its last block is left
pub last_branch : {text : List ℕ} {old mid : List Mistake} {v : ScopeVariables} {whole : CheckedPiece} (m : Surroundings) (ts : List made.Test.Test) (i : ℕ) (otherwise : Option made.Block.Block) (block : made.Block.Block) → length ts ≤ i → otherwise ≡ Some block
    → Ongoing text old mid v whole (others_turn m (other_sequence (map test_tree (drop i ts)) (option_map block_tree otherwise))) → Ongoing text old mid v whole (block_turn m (block_tree block))
last_branch {text = text} {old = old} {mid = mid} {v = v} {whole = whole} m ts i otherwise block past is o =
    subst (λ last. Ongoing text old mid v whole (others_turn m (other_sequence [] (option_map block_tree last)))) is
    (subst (λ rest. Ongoing text old mid v whole (others_turn m (other_sequence (map test_tree rest) (option_map block_tree otherwise)))) (drop_all i ts past) o)

-- after the last test of an `if` without a last block, nothing is left
pub no_branch : {text : List ℕ} {old mid : List Mistake} {v : ScopeVariables} {whole : CheckedPiece} (m : Surroundings) (ts : List made.Test.Test) (i : ℕ) (otherwise : Option made.Block.Block) → length ts ≤ i → otherwise ≡ None
    → Ongoing text old mid v whole (others_turn m (other_sequence (map test_tree (drop i ts)) (option_map block_tree otherwise))) → Ongoing text old mid v whole (turn [])
no_branch {text = text} {old = old} {mid = mid} {v = v} {whole = whole} m ts i otherwise past is o =
    subst (λ last. Ongoing text old mid v whole (others_turn m (other_sequence [] (option_map block_tree last)))) is
    (subst (λ rest. Ongoing text old mid v whole (others_turn m (other_sequence (map test_tree rest) (option_map block_tree otherwise)))) (drop_all i ts past) o)

-- the next test of an `if`, and the rest after it
pub next_test : (m : Surroundings) (ts : List made.Test.Test) (i : ℕ) (x : made.Test.Test) (last : Option BlockTree) → i < length ts → x ≡ get_or ts i x
    → others_turn m (other_sequence (map test_tree (drop i ts)) last) ≡ (λ f. follow (test_turn m (test_tree x) f) (others_turn m (other_sequence (map test_tree (drop (i + 1) ts)) last)))
next_test m ts i x last lt is =
    let behind : ℕ → NameFrame → CheckedPiece = λ n f. follow (test_turn m (test_tree x) f) (others_turn m (other_sequence (map test_tree (drop n ts)) last)) in
    ap (λ l. others_turn m (other_sequence (map test_tree l) last)) (drop-cons ts i x lt ∙ ap (λ k. k ∷ drop (suc i) ts) (sym is)) ∙ ap behind (sym (add-one i))

-- the head at an index is that of the case there
head_found : (cases : List CaseTree) (i : ℕ) (x : CaseTree) → i < length cases → x ≡ get_or cases i x → slice_get (heads_of (case_sequence cases)) i ≡ Some (head_of x)
head_found [] i x lt is = absurd (omega (arith, lt))
head_found (c ∷ cases) zero x lt is = ap (λ k. Some (head_of k)) (sym is)
head_found (c ∷ cases) (suc i) x lt is = head_found cases i x (omega (arith, lt)) is

-- the heads before a case, and then its own
heads_taken : (h : Head) (cases : List CaseTree) (i : ℕ) (x : CaseTree) → i < length cases → x ≡ get_or cases i x → take (suc i) (h ∷ heads_of (case_sequence cases)) ++ head_of x ∷ [] ≡ take (suc (suc i)) (h ∷ heads_of (case_sequence cases))
heads_taken h [] i x lt is = absurd (omega (arith, lt))
heads_taken h (c ∷ cases) zero x lt is = ap (λ k. h ∷ head_of k ∷ []) is
heads_taken h (c ∷ cases) (suc i) x lt is = ap (λ l. h ∷ l) (heads_taken (head_of c) cases i x (omega (arith, lt)) is)

-- a case of a switch after the first one
pub record Next (m : Surroundings) (h : Head) (cases : List CaseTree) (i : ℕ) (x : CaseTree) : Type 0 where
  pub head : slice_get (h ∷ heads_of (case_sequence cases)) (i + 1) ≡ Some (head_of x)
  pub rest : cases_turn m (h ∷ heads_of (case_sequence cases)) (take (i + 1) (h ∷ heads_of (case_sequence cases))) (case_sequence (drop i cases))
      ≡ (λ f. follow (case_turn m (h ∷ heads_of (case_sequence cases)) (take (i + 1) (h ∷ heads_of (case_sequence cases))) x f) (cases_turn m (h ∷ heads_of (case_sequence cases)) (take (i + 1 + 1) (h ∷ heads_of (case_sequence cases))) (case_sequence (drop (i + 1) cases))))

pub next_case : (m : Surroundings) (h : Head) (cases : List CaseTree) (i : ℕ) (x : CaseTree) → i < length cases → x ≡ get_or cases i x → Next m h cases i x
next_case m h cases i x lt is =
    let all : List Head = h ∷ heads_of (case_sequence cases) in
    let go : ℕ → ℕ → NameFrame → CheckedPiece = λ k n f. follow (case_turn m all (take (i + 1) all) x f) (cases_turn m all (take k all) (case_sequence (drop n cases))) in
    let left : case_sequence (drop i cases) ≡ trees.MoreCases x (case_sequence (drop (suc i) cases)) = ap case_sequence (drop-cons cases i x lt ∙ ap (λ k. k ∷ drop (suc i) cases) (sym is)) in
    let taken : take (i + 1) all ++ head_of x ∷ [] ≡ take (suc (suc i)) all = ap (λ n. take n all ++ head_of x ∷ []) (add-one i) ∙ heads_taken h cases i x lt is in
    let behind : List Head → NameFrame → CheckedPiece = λ earlier f. follow (case_turn m all (take (i + 1) all) x f) (cases_turn m all earlier (case_sequence (drop (suc i) cases))) in
    record {
      head = ap (slice_get all) (add-one i) ∙ head_found cases i x lt is;
      rest = ap (cases_turn m all (take (i + 1) all)) left
          ∙ ap behind taken
          ∙ ap (λ k. go k (suc i)) (sym (ap (λ n. n + 1) (add-one i) ∙ add-one (suc i)))
          ∙ ap (λ n. go (i + 1 + 1) n) (sym (add-one i));
    }

-- the case at an index in memory is the one at that index in the tree
pub case_there : (s : made.Switch.Switch) (i : ℕ) (x : made.Case.Case) → (switch_tree s).others ≡ map case_tree (made.Switch.out-Switch s).others.items → x ≡ get_or (made.Switch.out-Switch s).others.items i x → case_tree x ≡ get_or (switch_tree s).others i (case_tree x)
case_there s i x others is = ap case_tree is ∙ sym (get_or-map case_tree (made.Switch.out-Switch s).others.items i x) ∙ ap (λ l. get_or l i (case_tree x)) (sym others)

-- after the last case, nothing is left
pub last_case : (m : Surroundings) (all earlier : List Head) (cases : List CaseTree) (i : ℕ) → length cases ≤ i → cases_turn m all earlier (case_sequence (drop i cases)) ≡ turn []
last_case m all earlier cases i past = ap (λ l. cases_turn m all earlier (case_sequence l)) (drop_all i cases past)
