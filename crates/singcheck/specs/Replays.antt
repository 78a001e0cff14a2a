-- What `replay` returns for a text, an entry and a schedule.
use Rattle.std.specs.Prelude.{◌≡◌, ◌≢◌, ℕ, List, [], ◌∷◌, ◌++◌, map, take, Option, Some, IsSomeAnd, slice_get, true, codes}
use Rattle.std.specs.List.{flat_map}
use Rattle.std.specs.Option.{option_map_or}
use Rattle.source.specs.declared.token.Span.{Span}
use Rattle.tree.specs.Trees.{DefinitionTree, Struct, Class, ItemTree, MethodTree}
use Rattle.declarations.specs.Resolution.{printed_name}
use Rattle.tables.specs.Words.{word_at}
use Rattle.program.specs.Lists.{Each}
use Rattle.program.specs.Programs.{ProgramModel}
use Rattle.rules.specs.Programs.{is_entry}
use Rattle.machine.specs.Outcomes.{QueueBounds}
use Rattle.machine.specs.Runs.{AreBounds}
use Rattle.machine.specs.declared.halts.Event.{Event}
use Rattle.machine.specs.declared.halts.Halt.{Halt}
use Rattle.replays.specs.Names.{Words}
use Rattle.replays.specs.Schedules.{IsFirstMalformed, IsSchedule}
use Rattle.replays.specs.WorldLines.{replay_lines}
use Rattle.semantics.specs.Places.{position}
use Rattle.semantics.specs.Replays.{IsReplay}
use Rattle.semantics.specs.Worlds.{World}
use Rattle.devices.specs.declared.fault.Status.{Status}
use Rattle.devices.specs.declared.fault.Status.TheVariants.{Empty, Found}
use Rattle.singcheck.specs.Answers.{AreFindings}
use Rattle.singcheck.specs.Reports.{IsReportOf}
use Rattle.singcheck.specs.Checks.{HasProgram}

-- `Class.Method`
abbrev pub full_name : List ℕ → Span → MethodTree → List ℕ
full_name text class m = word_at text class ++ (codes "." ++ word_at text m.name)

-- the names of the methods of a class; none for any other item
abbrev pub names_in : List ℕ → DefinitionTree → List (List ℕ)
names_in text (Class c) = map (full_name text c.name) c.methods
names_in text _ = []

-- the names of all methods, in order of the text
abbrev pub method_names : List ℕ → List ItemTree → List (List ℕ)
method_names text items = flat_map (λ i. names_in text i.definition) items

-- the name of a struct; none for any other item
abbrev pub struct_in : List ℕ → DefinitionTree → List (List ℕ)
struct_in text (Struct s) = printed_name text s.name ∷ []
struct_in text _ = []

-- the names of all structs, in order of the text
abbrev pub struct_names : List ℕ → List ItemTree → List (List ℕ)
struct_names text items = flat_map (λ i. struct_in text i.definition) items

-- the first of these names that is this one has the index `n`
abbrev pub IsFirstAt : List (List ℕ) → List ℕ → ℕ → Type 0
IsFirstAt names name n = (slice_get names n ≡ Some name) × Each (λ x. x ≢ name) (take n names)

-- the entry is the name of this method, with which `replay` may begin
pub record IsEntryAt (text entry : List ℕ) (items : List ItemTree) (p : ProgramModel) (n : ℕ) : Type 0 where
  pub named : IsFirstAt (method_names text items) entry n
  pub begins : IsSomeAnd (slice_get p.methods n) (λ m. is_entry m ≡ true)

-- there are no findings before the methods, and the entry is the name of this method, with which `replay` may begin
pub record HasEntry (text entry : List ℕ) (p : ProgramModel) (n : ℕ) : Type 0 where
  pub has : HasProgram text p
  pub at : IsEntryAt text entry has.resolved.items p n

-- there are no findings before the methods, and the entry is the name of a method with which `replay` may begin
abbrev pub HasSomeEntry : (text entry : List ℕ) → Type 0
HasSomeEntry text entry = (p : ProgramModel) × (n : ℕ) × HasEntry text entry p n

-- there are no findings before the methods, and the entry is the name of no method with which `replay` may begin
pub record LacksEntry (text entry : List ℕ) : Type 0 where
  pub program : ProgramModel
  pub has : HasProgram text program
  pub none : (n : ℕ) → ¬ IsEntryAt text entry has.resolved.items program n

-- `replay` may begin, and this line of the schedule is the first malformed one
pub record LacksSchedule (text entry schedule : List ℕ) (line : ℕ) : Type 0 where
  pub program : ProgramModel
  pub n : ℕ
  pub entered : HasEntry text entry program n
  pub malformed : IsFirstMalformed schedule line

-- the status of a replay: `Found` if it stopped at an event that is no step
abbrev pub stop_status : Option Halt → Status
stop_status halt = option_map_or (λ why. Found) halt Empty

-- the first of these events lead from the method to a world, where the replay stops for this reason, and the bytes are what is
-- printed of that
pub record IsPrinted (words : Words) (bound : QueueBounds) (n : ℕ) (events : List Event) (steps : ℕ) (halt : Option Halt) (bytes : List ℕ)
    : Type 0 where
  pub world : World
  pub replayed : IsReplay words.program bound n events steps halt world
  pub are : bytes ≡ replay_lines words events steps halt (map position world.processes) world.blocks

-- the events of the schedule were replayed from the entry, with the bounds of the contracts, and the bytes are what is printed of that
pub record IsRan (entry schedule text bytes : List ℕ) (status : Status) : Type 0 where
  pub program : ProgramModel
  pub n : ℕ
  pub entered : HasEntry text entry program n
  pub events : List Event
  pub told : IsSchedule schedule events
  pub steps : ℕ
  pub halt : Option Halt
  pub led : (bound : QueueBounds) → AreBounds program bound
      → IsPrinted (record { program = program; structs = struct_names text entered.has.resolved.items }) bound n events steps halt bytes
  pub is : status ≡ stop_status halt

-- what `replay` returns: the findings before the methods, or the replay of the schedule
pub data Replays (entry schedule text bytes : List ℕ) (status : Status) : Type 0 where
  OfFindings : IsReportOf (AreFindings text) bytes → status ≡ Found → Replays entry schedule text bytes status
  OfRun : IsRan entry schedule text bytes status → Replays entry schedule text bytes status

-- the outcome of a run of `replay` if no device fails and memory suffices: an answer, no entry, or a malformed line
pub data ComesTo (entry schedule text : List ℕ) : Type 0 where
  Answered : (bytes : List ℕ) (status : Status) → Replays entry schedule text bytes status → ComesTo entry schedule text
  NoEntry : LacksEntry text entry → ComesTo entry schedule text
  NoSchedule : (line : ℕ) → LacksSchedule text entry schedule line → ComesTo entry schedule text
