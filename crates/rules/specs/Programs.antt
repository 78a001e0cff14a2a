-- The methods with which `replay` may begin.
use Rattle.std.specs.Prelude.{Bool, not, ◌&&◌}
use Rattle.program.specs.Methods.{MethodModel}
use Rattle.program.specs.Programs.{ProgramModel, program_model}
use Rattle.rules.specs.declared.lowered.Program.{Program}

abbrev pub model_of : Program → ProgramModel
model_of p = program_model p.methods

-- whether `replay` may begin with a method: it returns nothing and has no parameter of any type
abbrev pub is_entry : MethodModel → Bool
is_entry m = not m.gives && not m.takes
