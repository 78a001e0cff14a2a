-- A method continues only at points of its graph.
use Rattle.std.proofs.Common.{◌≡◌, ℕ, ◌<◌, length, length-append, arith, subst, sym}
use Rattle.program.specs.Methods.{MethodModel}
use Rattle.program.specs.Statements as stated
use Rattle.program.specs.Statements.{StatementModel, StatementsModel, BlockModel, TestModel, OthersModel, CasesModel}
use Rattle.flow.specs.Graphs.{GraphModel}
use Rattle.flow.specs.Lowering.{Lays, one, parts, reads, forgets, lay_effect, statement, statements, block, condition, others, cases, method, ending, graph_of}
use Rattle.flow.specs.Within.{IsClosed}
use Rattle.flow.proofs.CaseLemmas.{CasesStay, none_stay, case_stays, waits_stay}
use Rattle.flow.proofs.WithinLemmas.{AllBelow, StaysBelow, nothing_stays, both_stay, parts_stay, turns_stay, reads_stay, forgets_stay, ending_stays, called_stay, started_stay, new_stays, sent_stays, effect_stays}

mutual
  -- a statement stays below a bound if the end of its loop and the condition are below it
  statement_stays : (x : StatementModel) (n exit again : ℕ) → exit < n → again < n → StaysBelow n (statement x exit again)
  statement_stays (stated.Simple mentions does) n exit again e a = both_stay n (reads mentions) (lay_effect does exit again) (reads_stay n mentions) (effect_stays n does exit again e a)
  statement_stays (stated.New x) n exit again e a = new_stays n x
  statement_stays (stated.Call c) n exit again e a = called_stay n c
  statement_stays (stated.Start c) n exit again e a = started_stay n c
  statement_stays (stated.Send s) n exit again e a = sent_stays n s
  statement_stays (stated.Block b) n exit again e a = block_stays b n exit again e a
  statement_stays (stated.If first rest) n exit again e a = condition_stays first n (others rest exit again) exit again e a (others_stay rest n exit again e a)
  statement_stays (stated.While (stated.Test place mentions w body)) n exit again e a = turns_stay n place w (reads mentions) (block body) (reads_stay n mentions) (block_stays body n)
  statement_stays (stated.Switch place cs) n exit again e a = waits_stay n place (λ end. cases cs end again) (λ end h. cases_stay cs n end again h a)

  -- statements in order
  statements_stay : (xs : StatementsModel) (n exit again : ℕ) → exit < n → again < n → StaysBelow n (statements xs exit again)
  statements_stay stated.NoStatement n exit again e a = nothing_stays n
  statements_stay (stated.MoreStatements x xs) n exit again e a = both_stay n (statement x exit again) (statements xs exit again) (statement_stays x n exit again e a) (statements_stay xs n exit again e a)

  -- a block
  block_stays : (b : BlockModel) (n exit again : ℕ) → exit < n → again < n → StaysBelow n (block b exit again)
  block_stays (stated.Braces xs f) n exit again e a = both_stay n (statements xs exit again) (forgets f) (statements_stay xs n exit again e a) (forgets_stay n f)

  -- a condition with its block, if what follows a false condition stays below
  condition_stays : (t : TestModel) (n : ℕ) (otherwise : Lays) (exit again : ℕ) → exit < n → again < n → StaysBelow n otherwise → StaysBelow n (condition t otherwise exit again)
  condition_stays (stated.Test place mentions w body) n otherwise exit again e a o =
      both_stay n (reads mentions) (parts place w (block body exit again) otherwise) (reads_stay n mentions) (parts_stay n place w (block body exit again) otherwise (block_stays body n exit again e a) o)

  -- what follows the first block of an `if`
  others_stay : (x : OthersModel) (n exit again : ℕ) → exit < n → again < n → StaysBelow n (others x exit again)
  others_stay stated.NoOther n exit again e a = nothing_stays n
  others_stay (stated.Else b) n exit again e a = block_stays b n exit again e a
  others_stay (stated.ElseIf t rest) n exit again e a = condition_stays t n (others rest exit again) exit again e a (others_stay rest n exit again e a)

  -- the cases of a switch
  cases_stay : (cs : CasesModel) (n exit again : ℕ) → exit < n → again < n → CasesStay n (cases cs exit again)
  cases_stay stated.NoCase n exit again e a = none_stay n
  cases_stay (stated.MoreCases (stated.Case endpoint awaited targets body) rest) n exit again e a =
      case_stays n endpoint awaited targets (block body exit again) (cases rest exit again) (block_stays body n exit again e a) (cases_stay rest n exit again e a)

-- The graph of a method is closed. Outside of loops a `break` and a `continue` would continue at point 0, the end
-- of the method.
pub closed : (m : MethodModel) → IsClosed (graph_of m)
closed m =
    let last = one (λ next. ending m) in
    let body = statements m.statements 0 0 in
    let n = length (method m 0 0).instructions in
    let some_point : 0 < n = omega (arith, length-append (last 0 0).instructions (body 1 0).instructions) in
    let all : AllBelow n (method m 0 0) = (both_stay n body last (statements_stay m.statements n 0 0 some_point some_point) (ending_stays n m)).stays 0 0 some_point (omega arith) in
    record { begins = all.begins; within = all.within }

-- a graph that equals that of a method is closed
pub closed_as : (g : GraphModel) (m : MethodModel) → g ≡ graph_of m → IsClosed g
closed_as g m is = subst IsClosed (sym is) (closed m)
