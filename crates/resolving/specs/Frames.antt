-- The variables in scope, as the code has them.
use Rattle.std.specs.Prelude.{◌≡◌, ℕ, List, map, Option, option_map}
use Rattle.tables.specs.Scoped.{entries_of, declared_in}
use Rattle.program.specs.Methods.{variable_model}
use Rattle.program.specs.declared.number.VarId.{VarId}
use Rattle.resolving.specs.Locals as model
use Rattle.resolving.specs.Locals.{LocalFrame, number_of}
use Rattle.resolving.specs.declared.locals.Local.{Local}
use Rattle.resolving.specs.Staying as told
use Rattle.resolving.specs.declared.locals.Locals.{Locals}
use Rattle.resolving.specs.declared.staying.Staying.{Staying}

-- a number without its type
abbrev pub number_model : Option VarId → Option ℕ
number_model number = option_map (λ v. v.0) number

-- what the name of a variable in scope means, as the code has it
abbrev pub local_of : model.Local → Local
local_of l = record { ty = l.ty; number = option_map number_of l.number }

-- these are the variables in scope, the last of the exchange heap, and all of the exchange heap
pub record IsLocalFrame (text : List ℕ) (f : LocalFrame) (l : Locals) : Type 0 where
  pub names : entries_of l.names ≡ declared_in text (λ x. x.name) local_of f.locals
  pub last : number_model l.last ≡ f.last
  pub variables : map variable_model l.variables.items ≡ f.variables

-- what stays in scope when a loop or a switch is left
abbrev pub staying_model : Staying → told.Staying
staying_model s = record { at_break = number_model s.at_break; at_continue = number_model s.at_continue }
