-- Statements as plain values, without their layout in memory.
use Rattle.std.specs.Prelude.{List, [], ◌∷◌, Option, Some, None}
use Rattle.source.specs.declared.place.Place.{Place}
use Rattle.program.specs.declared.number.MessageId.{MessageId}
use Rattle.program.specs.declared.call as called
use Rattle.program.specs.declared.call.Argument.{Argument}
use Rattle.program.specs.declared.number.MethodId.{MethodId}
use Rattle.program.specs.declared.number.VarId.{VarId}
use Rattle.program.specs.declared.statement as made
use Rattle.program.specs.declared.statement.Awaited.{Awaited}
use Rattle.program.specs.declared.statement.Effect.{Effect}
use Rattle.program.specs.declared.statement.Forget.{Forget}
use Rattle.program.specs.declared.statement.Mention.{Mention}
use Rattle.program.specs.declared.statement.Ways.{Ways}
use Rattle.program.specs.declared.statement.Statement.TheOpen as layer

-- a new block: what the length of an array reads, the variable that takes the block, and the variables given for owning fields
pub record NewModel : Type 0 where
  pub reads : List Mention
  pub target : Mention
  pub arguments : List Mention

abbrev pub new_model : made.New.New → NewModel
new_model n = record { reads = n.reads.items; target = n.target; arguments = n.arguments.items }

-- a call or a start: what its arguments read, its place, the method, the arguments, the variable
-- that takes the block that is returned, and what the assignment of a scalar result to a field or
-- an element uses
pub record CallModel : Type 0 where
  pub reads : List Mention
  pub place : Place
  pub method : MethodId
  pub arguments : List Argument
  pub target : Option Mention
  pub behind : List Mention

abbrev pub call_model : called.Call.Call → CallModel
call_model c = record {
  reads = c.reads.items;
  place = c.place;
  method = c.method;
  arguments = c.arguments.items;
  target = c.target;
  behind = c.behind.items;
}

-- a send: what its arguments read, its place, the endpoint, the message, and the variables that go into it
pub record SendModel : Type 0 where
  pub reads : List Mention
  pub place : Place
  pub endpoint : Mention
  pub message : MessageId
  pub payloads : List Mention

abbrev pub send_model : called.Send.Send → SendModel
send_model s = record { reads = s.reads.items; place = s.place; endpoint = s.endpoint; message = s.message; payloads = s.payloads.items }

mutual
  -- a statement; a simple one reads some variables and then has one effect
  pub data StatementModel : Type 0 where
    Simple : List Mention → Effect → StatementModel
    New : NewModel → StatementModel
    Call : CallModel → StatementModel
    Start : CallModel → StatementModel
    Send : SendModel → StatementModel
    Block : BlockModel → StatementModel
    If : TestModel → OthersModel → StatementModel
    While : TestModel → StatementModel
    Switch : Place → CasesModel → StatementModel

  -- statements in order
  pub data StatementsModel : Type 0 where
    NoStatement : StatementsModel
    MoreStatements : StatementModel → StatementsModel → StatementsModel

  -- a block of statements: the statements in order, and the variables that go out of scope after them
  pub data BlockModel : Type 0 where
    Braces : StatementsModel → Option Forget → BlockModel

  -- a condition with its block: its place, what it reads, which ways it can go, and the block
  pub data TestModel : Type 0 where
    Test : Place → List Mention → Ways → BlockModel → TestModel

  -- what follows the first block of an `if`
  pub data OthersModel : Type 0 where
    NoOther : OthersModel
    Else : BlockModel → OthersModel
    ElseIf : TestModel → OthersModel → OthersModel

  -- a case of a switch: its endpoint, what it awaits, the variables that it binds, and its block
  pub data CaseModel : Type 0 where
    Case : Mention → Awaited → List VarId → BlockModel → CaseModel

  -- cases in order
  pub data CasesModel : Type 0 where
    NoCase : CasesModel
    MoreCases : CaseModel → CasesModel → CasesModel

-- the parts of an `if`
pub record IfModel : Type 0 where
  pub first : TestModel
  pub others : OthersModel

-- lists as sequences

abbrev pub statement_sequence : List StatementModel → StatementsModel
statement_sequence [] = NoStatement
statement_sequence (x ∷ xs) = MoreStatements x (statement_sequence xs)

-- the last block, if there is one
abbrev pub last_other : Option BlockModel → OthersModel
last_other None = NoOther
last_other (Some b) = Else b

-- further conditions in order, and then the last block
abbrev pub other_sequence : List TestModel → Option BlockModel → OthersModel
other_sequence [] last = last_other last
other_sequence (t ∷ ts) last = ElseIf t (other_sequence ts last)

abbrev pub case_sequence : List CaseModel → CasesModel
case_sequence [] = NoCase
case_sequence (c ∷ cs) = MoreCases c (case_sequence cs)

-- One layer in memory as a value, with the values of what it contains in place.

abbrev pub simple_model : made.Simple.Simple → StatementModel
simple_model s = Simple s.reads.items s.effect

abbrev pub statement_step : layer.Statement-F StatementModel BlockModel CaseModel IfModel TestModel → StatementModel
statement_step (layer.Simple s) = simple_model s
statement_step (layer.New n) = New (new_model n)
statement_step (layer.Call c) = Call (call_model c.value)
statement_step (layer.Start c) = Start (call_model c.value)
statement_step (layer.Send s) = Send (send_model s)
statement_step (layer.Block b) = Block b
statement_step (layer.If i) = If i.value.first i.value.others
statement_step (layer.While t) = While t.value
statement_step (layer.Switch place cases) = Switch place (case_sequence cases.items)

abbrev pub block_step : layer.Block-F StatementModel BlockModel CaseModel IfModel TestModel → BlockModel
block_step b = Braces (statement_sequence b.statements.items) b.forget

abbrev pub if_step : layer.If-F StatementModel BlockModel CaseModel IfModel TestModel → IfModel
if_step i = record { first = i.first; others = other_sequence i.others.items i.otherwise }

abbrev pub test_step : layer.Test-F StatementModel BlockModel CaseModel IfModel TestModel → TestModel
test_step t = Test t.place t.reads.items t.ways t.body

abbrev pub case_step : layer.Case-F StatementModel BlockModel CaseModel IfModel TestModel → CaseModel
case_step c = Case c.endpoint c.awaited c.targets.items c.body

-- Whole statements in memory, as values.

abbrev pub statement_model : made.Statement.Statement → StatementModel
statement_model = made.Statement.fold-Statement StatementModel BlockModel CaseModel IfModel TestModel
    statement_step block_step case_step if_step test_step

abbrev pub block_model : made.Block.Block → BlockModel
block_model
    = made.Block.fold-Block StatementModel BlockModel CaseModel IfModel TestModel statement_step block_step case_step if_step test_step

abbrev pub if_model : made.If.If → IfModel
if_model = made.If.fold-If StatementModel BlockModel CaseModel IfModel TestModel statement_step block_step case_step if_step test_step

abbrev pub test_model : made.Test.Test → TestModel
test_model = made.Test.fold-Test StatementModel BlockModel CaseModel IfModel TestModel statement_step block_step case_step if_step test_step

abbrev pub case_model : made.Case.Case → CaseModel
case_model = made.Case.fold-Case StatementModel BlockModel CaseModel IfModel TestModel statement_step block_step case_step if_step test_step
