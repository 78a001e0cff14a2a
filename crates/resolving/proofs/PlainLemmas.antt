-- What plain statements resolve to.
use Rattle.std.proofs.Common.{◌≡◌, ℕ, List, [], ◌++◌, refl, ap, ◌∙◌}
use Rattle.std.specs.Prelude.{Result, Ok, Err, IfOk, Option, None, Some, option_map}
use Rattle.std.specs.Option.{option_map_or}
use Rattle.std.specs.declared.alloc.AllocError.{AllocError}
use Rattle.source.specs.declared.place.Place.{Place}
use Rattle.source.specs.declared.token.Span.{Span}
use Rattle.tree.specs.Values.{ValueTree}
use Rattle.tree.specs.Expressions.{ExpressionTree}
use Rattle.program.specs.Statements.{StatementModel, CallModel, statement_model, call_model}
use Rattle.program.specs.declared.call.Call.{Call}
use Rattle.program.specs.declared.number.VarId.{VarId}
use Rattle.program.specs.declared.statement.Effect.TheVariants.{Nothing, Return}
use Rattle.program.specs.declared.statement.Mention.{Mention}
use Rattle.program.specs.declared.statement.Statement.{Statement}
use Rattle.declarations.specs.Program.{ProgramText}
use Rattle.resolving.specs.Frames.{IsLocalFrame}
use Rattle.resolving.specs.Locals.{LocalFrame, mention_of, number_of}
use Rattle.resolving.specs.Reads.{reads}
use Rattle.resolving.specs.Steps.{TellsStatement, TellsCall}
use Rattle.program.specs.Statements as seen
use Rattle.resolving.specs.Plain.{lone, return_statement, assign_statement, first_value}
use Rattle.resolving.specs.declared.locals.Locals.{Locals}

-- the expression of a `return` is read, or is a lone variable of the exchange heap
pub returned_told : (p : ProgramText) (own : ℕ) (locals : Locals) (place : Place) (e : ExpressionTree) (value : Option Mention) (scope : Option VarId) (before : List Mention) (r : Result Statement AllocError)
    → before ≡ [] → ((f : LocalFrame) → IsLocalFrame p.text f locals → value ≡ lone p own f e) → ((f : LocalFrame) → IsLocalFrame p.text f locals → scope ≡ option_map number_of f.last)
    → IfOk r (TellsStatement p.text locals (λ f. seen.Simple (before ++ reads p.text f.locals e) (Return place value scope))) → IfOk r (TellsStatement p.text locals (λ f. return_statement p own f place (Some e)))
returned_told p own locals place e value scope before (Err x) none is last h = tt
returned_told p own locals place e value scope before (Ok s) none is last h = record {
  all = λ f frame. h.all f frame
      ∙ ap (λ l. seen.Simple (l ++ reads p.text f.locals e) (Return place value scope)) none
      ∙ ap (λ v. seen.Simple (reads p.text f.locals e) (Return place v scope)) (is f frame)
      ∙ ap (λ n. seen.Simple (reads p.text f.locals e) (Return place (lone p own f e) n)) (last f frame);
}

-- a statement that resolves to a model resolves to any equal one
pub told_as : (text : List ℕ) (locals : Locals) (r : Result Statement AllocError) (now want : LocalFrame → StatementModel) → ((f : LocalFrame) → IsLocalFrame text f locals → now f ≡ want f) → IfOk r (TellsStatement text locals now) → IfOk r (TellsStatement text locals want)
told_as text locals (Err e) now want same h = tt
told_as text locals (Ok s) now want same h = record { all = λ f frame. h.all f frame ∙ same f frame }

-- a statement that is a call, or that does nothing if there is no call
pub call_said : (text : List ℕ) (locals : Locals) (wrap : CallModel → StatementModel) (want : LocalFrame → Option CallModel) (o : Option Call) (s : Statement)
    → statement_model s ≡ option_map_or wrap (option_map call_model o) (seen.Simple [] Nothing) → TellsCall text locals want o → TellsStatement text locals (λ f. option_map_or wrap (want f) (seen.Simple [] Nothing)) s
call_said text locals wrap want o s is h = record { all = λ f frame. is ∙ ap (λ w. option_map_or wrap w (seen.Simple [] Nothing)) (h.all f frame) }

-- a declaration assigns its value
pub first_assigned : (p : ProgramText) (own : ℕ) (f : LocalFrame) (name : Span) (number : Option ℕ) (v : ValueTree) → assign_statement p own f (option_map (mention_of name) number) v ≡ first_value p own f name number (Some v)
first_assigned p own f name None v = refl
first_assigned p own f name (Some n) v = refl
