-- The program of a text, with all names resolved to numbers.
use Rattle.tree.specs.Trees.{contracts_of}
use Rattle.declarations.specs.Program.{ProgramText}
use Rattle.declarations.specs.Resolution.{resolved_contracts}
use Rattle.program.specs.Programs.{ProgramModel}
use Rattle.resolving.specs.Brought.{messages_told}
use Rattle.resolving.specs.Fields.{structs_told}
use Rattle.resolving.specs.Methods.{methods_told}

-- the program that a text yields
abbrev pub program_told : ProgramText → ProgramModel
program_told p = record {
  contracts = resolved_contracts p.text (contracts_of p.items);
  messages = messages_told p;
  structs = structs_told p;
  methods = methods_told p;
}
