-- How the program ends after a failed run.
use Rattle.std.specs.Prelude.{ℕ, List, ◌++◌, codes}
use Rattle.std.specs.Fmt.{decimal}
use Rattle.devices.specs.declared.fault.RunFault.{RunFault}
use Rattle.devices.specs.declared.fault.RunFault.TheVariants.{Read, Write, Workers, Slots, Entry, Schedule, Memory}

-- the exit status: 2 if a request is refused, 3 for a device, 4 if out of memory
abbrev pub status_of : RunFault → ℕ
status_of (Read input) = 3
status_of Write = 3
status_of Workers = 2
status_of Slots = 2
status_of Entry = 2
status_of (Schedule line) = 2
status_of Memory = 4

-- the line that is written, given the name of the file or the entry
abbrev pub line_of : RunFault → List ℕ → List ℕ
line_of (Read input) name = codes "singcheck: cannot read " ++ (name ++ codes "\n")
line_of Write name = codes "singcheck: cannot write\n"
line_of Workers name = codes "singcheck: workers not 1 to 64\n"
line_of Slots name = codes "singcheck: slots not 1 to 16777216\n"
line_of Entry name = codes "singcheck: no entry " ++ (name ++ codes "\n")
line_of (Schedule line) name = codes "singcheck: schedule line " ++ (decimal line ++ codes "\n")
line_of Memory name = codes "singcheck: out of memory\n"
