-- A program in numbers whose method exchanges the field of a struct in a loop.
use Rattle.std.specs.Prelude.{ℕ, List, [], ◌∷◌, Option, Some, None, false}
use Rattle.source.specs.declared.place.Place.{Place}
use Rattle.program.specs.Methods.{MethodModel, VariableModel}
use Rattle.program.specs.Statements.{StatementModel, Simple, New, While, Test, Braces, statement_sequence}
use Rattle.program.specs.declared.types.HeapType.{HeapType}
use Rattle.program.specs.declared.types.HeapType.TheVariants.{Struct}
use Rattle.program.specs.declared.method.Role.TheVariants.{Local}
use Rattle.program.specs.declared.number.VarId.{VarId}
use Rattle.program.specs.declared.statement.Action.{Action}
use Rattle.program.specs.declared.statement.Action.TheVariants as does
use Rattle.program.specs.declared.statement.Effect.TheVariants as effects
use Rattle.program.specs.declared.statement.Mention.{Mention}
use Rattle.program.specs.declared.statement.Ways.TheVariants.{Either}

-- one place for everything
abbrev pub at : Place
at = record { line = 1; col = 1 }

abbrev pub mention : ℕ → Mention
mention v = record { variable = record { 0 = v }; place = at }

-- struct 0 has no owning fields, struct 1 has one that holds a struct 0
abbrev pub structs : List (List HeapType)
structs = [] ∷ (Struct record { 0 = 0 } ∷ []) ∷ []

-- variable 0 is of struct 0, variable 1 of struct 1
abbrev pub variable : ℕ → Option VarId → VariableModel
variable n outer = record { name = []; ty = Struct record { 0 = n }; role = Local; outer = outer }

abbrev pub new : ℕ → List Mention → StatementModel
new target arguments = New record { reads = []; target = mention target; arguments = arguments }

abbrev pub acts : Action → StatementModel
acts action = Simple [] (effects.Act action)

abbrev pub deletes : ℕ → StatementModel
deletes v = acts (does.Delete (mention v))

abbrev pub exchange : StatementModel
exchange = acts (does.Exchange record { place = at; holder = mention 1; field = 0; given = mention 0 })

-- A new block goes into the field, and the one that comes out of it is deleted.
abbrev pub turns : StatementModel
turns = While (Test at [] Either (Braces (statement_sequence (new 0 [] ∷ exchange ∷ deletes 0 ∷ [])) None))

abbrev pub method : MethodModel
method = record {
  name = at;
  takes = false;
  gives = false;
  result = None;
  variables = variable 0 None ∷ variable 1 (Some record { 0 = 0 }) ∷ [];
  statements = statement_sequence (new 0 [] ∷ new 1 (mention 0 ∷ []) ∷ turns ∷ deletes 1 ∷ []);
  scope = Some record { 0 = 1 };
  close = at;
}
