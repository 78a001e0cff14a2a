-- What a step of the walk adds, and what it yields, for all variables in scope.
use Rattle.std.specs.Prelude.{◌≡◌, ℕ, List, [], ◌∷◌, ◌++◌, Option, option_map, Result, IfOk}
use Rattle.declarations.specs.Program.{ProgramText}
use Rattle.tree.specs.Trees.{ItemTree}
use Rattle.program.specs.Statements.{CallModel, SendModel, StatementModel, call_model, send_model, statement_model}
use Rattle.program.specs.declared.statement.Mention.{Mention}
use Rattle.program.specs.declared.statement.Statement.{Statement}
use Rattle.program.specs.declared.call.Call.{Call}
use Rattle.program.specs.declared.call.Send.{Send}
use Rattle.program.specs.declared.number.VarId.{VarId}
use Rattle.resolving.specs.Around.{IsAround, program_in}
use Rattle.resolving.specs.Frames.{IsLocalFrame}
use Rattle.resolving.specs.Locals.{LocalFrame}
use Rattle.resolving.specs.Told.{ResolvedPiece, follow}
use Rattle.resolving.specs.declared.around.Around.{Around}
use Rattle.resolving.specs.declared.locals.Locals.{Locals}

-- the new list is the old one with these mentions after it
pub record AddsReads (text : List ℕ) (locals : Locals) (read : LocalFrame → List Mention) (old new : List Mention) : Type 0 where
  pub all : (f : LocalFrame) → IsLocalFrame text f locals → new ≡ old ++ read f

-- the statement is the expected one
pub record TellsStatement (text : List ℕ) (locals : Locals) (told : LocalFrame → StatementModel) (s : Statement) : Type 0 where
  pub all : (f : LocalFrame) → IsLocalFrame text f locals → statement_model s ≡ told f

-- the call, if there is one, is the expected one
pub record TellsCall (text : List ℕ) (locals : Locals) (told : LocalFrame → Option CallModel) (c : Option Call) : Type 0 where
  pub all : (f : LocalFrame) → IsLocalFrame text f locals → option_map call_model c ≡ told f

-- the send, if there is one, is the expected one
pub record TellsSend (text : List ℕ) (locals : Locals) (told : LocalFrame → Option SendModel) (s : Option Send) : Type 0 where
  pub all : (f : LocalFrame) → IsLocalFrame text f locals → option_map send_model s ≡ told f

-- the numbers of the piece are added, and its frame is in scope now
pub record AddsBinds (text : List ℕ) (old new : List VarId) (locals : Locals) (t : ResolvedPiece (List VarId)) : Type 0 where
  pub adds : new ≡ old ++ t.what
  pub frame : IsLocalFrame text t.frame locals

-- the piece is the expected one, and its frame is in scope now
pub record IsResolvedPiece (text : List ℕ) {X : Type 0} (t : ResolvedPiece X) (what : X) (locals : Locals) : Type 0 where
  pub is : what ≡ t.what
  pub frame : IsLocalFrame text t.frame locals

-- For all items of the program and all variables in scope: the piece is the expected one, and its frame is in scope afterwards.
abbrev pub TellsPiece : {X Y E : Type 0} → (text : List ℕ) → Around → (old new : Locals) → (X → Y) → Result X E →
    (ProgramText → ℕ → LocalFrame → ResolvedPiece Y) → Type 0
TellsPiece text around old new model answer told =
    (items : List ItemTree) (own : ℕ) (f : LocalFrame) → IsAround (program_in text items) own around → IsLocalFrame text f old
    → IfOk answer (λ x. IsResolvedPiece text (told (program_in text items) own f) (model x) new)

-- what these pieces yield in order, each in the frame of those before it
abbrev pub pieces_in_order : {T X : Type 0} → (T → LocalFrame → ResolvedPiece X) → List T → LocalFrame → ResolvedPiece (List X)
pieces_in_order go [] f = record { what = []; frame = f }
pieces_in_order go (t ∷ ts) f = follow (λ x xs. x ∷ xs) (go t f) (pieces_in_order go ts)
