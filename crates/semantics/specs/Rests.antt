-- What a frame has still to do: its next instruction, and what follows it.
use Rattle.std.specs.Prelude.{List, [], ◌∷◌, Option, None, Some, if◌then◌else◌}
use Rattle.source.specs.declared.place.Place.{Place}
use Rattle.program.specs.Methods.{MethodModel}
use Rattle.program.specs.Statements as stated
use Rattle.program.specs.Statements.{BlockModel, CasesModel, OthersModel, StatementModel, StatementsModel, TestModel}
use Rattle.program.specs.declared.call.Argument.{Argument}
use Rattle.program.specs.declared.number.MessageId.{MessageId}
use Rattle.program.specs.declared.number.MethodId.{MethodId}
use Rattle.program.specs.declared.number.VarId.{VarId}
use Rattle.program.specs.declared.statement as made
use Rattle.program.specs.declared.statement.Action.{Action}
use Rattle.program.specs.declared.statement.Action.TheVariants.{Use}
use Rattle.program.specs.declared.statement.Awaited.{Awaited}
use Rattle.program.specs.declared.statement.Effect.{Effect}
use Rattle.program.specs.declared.statement.Effect.TheVariants as effects
use Rattle.program.specs.declared.statement.Mention.{Mention}
use Rattle.program.specs.declared.statement.Ways.{Ways}

mutual
  -- An instruction and what the method does after it. A While stands at the Branch of its loop, whose reads are done.
  pub data Rest : Type 0 where
    Act : (action : Action) (next : Rest) → Rest
    New : (target : Mention) (arguments : List Mention) (next : Rest) → Rest
    Send : (place : Place) (endpoint : Mention) (message : MessageId) (payloads : List Mention) (next : Rest) → Rest
    Switch : (place : Place) (arms : Arms) → Rest
    If : (place : Place) (ways : Ways) (inside past : Rest) → Rest
    While : (test : TestModel) (next : Rest) → Rest
    Forget : (forget : made.Forget.Forget) (next : Rest) → Rest
    Call : (place : Place) (method : MethodId) (arguments : List Argument) (target : Option Mention) (next : Rest) → Rest
    Start : (place : Place) (method : MethodId) (arguments : List Argument) (next : Rest) → Rest
    Return : (place : Place) (value : Option Mention) (scope : Option VarId) → Rest
    Stop : (place : Place) → Rest
    -- of a method that does not exist
    Missing : Rest

  -- the cases of a switch: for each its endpoint, what it awaits, the variables that it binds, and what the method does then
  pub data Arms : Type 0 where
    NoArm : Arms
    MoreArms : (endpoint : Mention) (awaited : Awaited) (targets : List VarId) (body : Rest) (others : Arms) → Arms

-- a Use for each mention, and then the rest
abbrev pub reads : List Mention → Rest → Rest
reads [] next = next
reads (m ∷ ms) next = Act (Use m) (reads ms next)

-- variables go out of scope, if there are any
abbrev pub forgets : Option made.Forget.Forget → Rest → Rest
forgets None next = next
forgets (Some f) next = Forget f next

-- the effect of a simple statement; a `break` continues at `exit`, a `continue` at `again`
abbrev pub effect : Effect → (exit again next : Rest) → Rest
effect effects.Nothing exit again next = next
effect (effects.Act action) exit again next = Act action next
effect (effects.Break f) exit again next = forgets f exit
effect (effects.Continue f) exit again next = forgets f again
effect (effects.Return place value scope) exit again next = Return place value scope

-- a loop: what its condition reads, and then its Branch
abbrev pub loop : TestModel → (next : Rest) → Rest
loop (stated.Test place mentions ways body) next = reads mentions (While (stated.Test place mentions ways body) next)

abbrev mutual
  -- a statement, with what follows it
  pub statement : StatementModel → (exit again next : Rest) → Rest
  statement (stated.Simple mentions does) exit again next = reads mentions (effect does exit again next)
  statement (stated.New n) exit again next = reads n.reads (New n.target n.arguments next)
  statement (stated.Call c) exit again next = reads c.reads (Call c.place c.method c.arguments c.target (reads c.behind next))
  statement (stated.Start c) exit again next = reads c.reads (Start c.place c.method c.arguments next)
  statement (stated.Send s) exit again next = reads s.reads (Send s.place s.endpoint s.message s.payloads next)
  statement (stated.Block b) exit again next = block b exit again next
  statement (stated.If first rest) exit again next = condition first (others rest exit again next) exit again next
  statement (stated.While test) exit again next = loop test next
  statement (stated.Switch place cs) exit again next = Switch place (arms cs next again next)

  -- statements in order
  pub statements : StatementsModel → (exit again next : Rest) → Rest
  statements stated.NoStatement exit again next = next
  statements (stated.MoreStatements s ss) exit again next = statement s exit again (statements ss exit again next)

  -- the statements of a block, and then what goes out of scope
  pub block : BlockModel → (exit again next : Rest) → Rest
  block (stated.Braces ss f) exit again next = statements ss exit again (forgets f next)

  -- a condition: its block if it is true, and this if it is false
  pub condition : TestModel → (past : Rest) → (exit again next : Rest) → Rest
  condition (stated.Test place mentions ways body) past exit again next = reads mentions (If place ways (block body exit again next) past)

  -- what follows the first block of an `if`
  pub others : OthersModel → (exit again next : Rest) → Rest
  others stated.NoOther exit again next = next
  others (stated.Else b) exit again next = block b exit again next
  others (stated.ElseIf t rest) exit again next = condition t (others rest exit again next) exit again next

  -- the cases of a switch
  pub arms : CasesModel → (exit again next : Rest) → Arms
  arms stated.NoCase exit again next = NoArm
  arms (stated.MoreCases (stated.Case endpoint awaited targets body) rest) exit again next =
      MoreArms endpoint awaited targets (block body exit again next) (arms rest exit again next)

-- a turn of a loop: its block, which continues at its condition
abbrev pub turn : TestModel → (next : Rest) → Rest
turn (stated.Test place mentions ways body) next =
    let head = loop (stated.Test place mentions ways body) next in block body next head head

-- the end of a method
abbrev pub ending : MethodModel → Rest
ending m = if m.gives then Stop m.close else Return m.close None m.scope

-- a whole method
abbrev pub rest_of : MethodModel → Rest
rest_of m = statements m.statements (ending m) (ending m) (ending m)
