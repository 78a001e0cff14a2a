-- Blocks and loops in memory, laid after others.
use Rattle.std.proofs.Common.{◌≡◌, ℕ, List, [], ◌∷◌, ◌++◌, length, map, sym, subst}
use Rattle.std.specs.Prelude.{slice_set}
use Rattle.program.specs.Statements as stated
use Rattle.program.specs.Statements.{StatementModel, BlockModel, CaseModel, IfModel, TestModel, statement_model, block_model, test_model, statement_step, block_step, case_step, if_step, test_step, statement_sequence}
use Rattle.program.specs.declared.statement as made
use Rattle.program.specs.declared.statement.Mention.{Mention}
use Rattle.program.specs.declared.statement.Statement.TheFolds as folds
use Rattle.flow.specs.declared.graph.Branches.{Branches}
use Rattle.flow.specs.declared.graph.Instr.{Instr}
use Rattle.flow.specs.declared.graph.Instr.TheVariants as instr
use Rattle.flow.specs.Growths.{Grew}
use Rattle.flow.specs.Lowering.{Lays, branches, reads, forgets, statement, statements, block}
use Rattle.flow.proofs.LoopLemmas.{grew_turns}
use Rattle.flow.proofs.GrowthLemmas.{grew_both}

-- the model of a block is made of the models of its parts
block_is : (b : made.Block.Block) → block_model b ≡ stated.Braces (statement_sequence (map statement_model b.statements.items)) b.forget
block_is = folds.fold_out-Block StatementModel BlockModel CaseModel IfModel TestModel statement_step block_step case_step if_step test_step

-- the model of a condition is made of the models of its parts
test_is : (t : made.Test.Test) → test_model t ≡ stated.Test t.place t.reads.items t.ways (block_model t.body)
test_is = folds.fold_out-Test StatementModel BlockModel CaseModel IfModel TestModel statement_step block_step case_step if_step test_step

-- a block: first its Forget is laid, then its statements
pub block_laid : (b : made.Block.Block) (ss : List made.Statement.Statement) (old mid new : List Instr) (exit again behind entry next : ℕ) → ss ≡ b.statements.items → Grew old mid behind (forgets b.forget (length old) next) → Grew mid new entry (statements (statement_sequence (map statement_model ss)) exit again (length mid) behind) → Grew old new entry (block (block_model b) exit again (length old) next)
block_laid b ss old mid new exit again behind entry next same g h =
    let row : Lays = statements (statement_sequence (map statement_model b.statements.items)) exit again in
    let top : Grew mid new entry (row (length mid) behind) = subst (λ xs. Grew mid new entry (statements (statement_sequence (map statement_model xs)) exit again (length mid) behind)) same h in
    subst (λ x. Grew old new entry (block x exit again (length old) next)) (sym (block_is b))
    (grew_both old mid new row (forgets b.forget) behind entry next g top)

-- a loop
pub loop_laid : (t : made.Test.Test) (ms : List Mention) (old mid top inner new : List Instr) (blank : Branches) (exit again branch head body next : ℕ) → ms ≡ t.reads.items → mid ≡ old ++ instr.Branch t.place blank ∷ [] → branch ≡ length old → Grew mid top head (reads ms (length mid) branch) → Grew top inner body (block (block_model t.body) next head (length top) head) → new ≡ slice_set inner branch (instr.Branch t.place (branches t.ways body next)) → Grew old new head (statement (stated.While (test_model t)) exit again (length old) next)
loop_laid t ms old mid top inner new blank exit again branch head body next same is at r h set =
    let asks : Grew mid top head (reads t.reads.items (length mid) branch) = subst (λ xs. Grew mid top head (reads xs (length mid) branch)) same r in
    subst (λ x. Grew old new head (statement (stated.While x) exit again (length old) next)) (sym (test_is t))
    (grew_turns old mid top inner new t.place t.ways blank (reads t.reads.items) (block (block_model t.body)) branch head body next is at asks h set)
