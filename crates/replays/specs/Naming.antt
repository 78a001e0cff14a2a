-- For proofs within the crate: where names come from, as the code has it.
use Rattle.std.specs.Prelude.{map, string_bytes}
use Rattle.rules.specs.Programs.{model_of}
use Rattle.replays.specs.Names.{Words}
use Rattle.replays.specs.declared.naming.Naming.{Naming}

abbrev pub words_of : Naming → Words
words_of n = record { program = model_of n.program.now; structs = map string_bytes n.structs.now }
