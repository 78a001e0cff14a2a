-- The lines of a path through a method: one for each choice that it makes, and one for each change of a watched variable.
use Rattle.std.specs.Prelude.{ℕ, ◌==◌, Bool, ◌&&◌, ◌||◌, List, [], ◌∷◌, ◌++◌, Option, Some, None, filter, flat_map, map}
use Rattle.std.specs.Prelude.{slice_get, codes, if◌then◌else◌}
use Rattle.std.specs.List.{list_all}
use Rattle.std.specs.Option.{option_map_or}
use Rattle.source.specs.declared.place.Place.{Place}
use Rattle.program.specs.Methods.{MethodModel}
use Rattle.program.specs.Programs.{ProgramModel}
use Rattle.explanations.specs.Lines.{LineModel, line, name_of_state}
use Rattle.program.specs.declared.types.HeapType.{HeapType}
use Rattle.program.specs.declared.types.HeapType.TheVariants.{Endpoint}
use Rattle.program.specs.declared.statement.Awaited.{Awaited}
use Rattle.program.specs.declared.statement.Awaited.TheVariants.{Message, Closed}
use Rattle.program.specs.declared.statement.Mention.{Mention}
use Rattle.contracts.specs.Leaving.{end_on}
use Rattle.flow.specs.Cases.{EntranceModel, first_mentions}
use Rattle.program.specs.declared.statement.Action.TheVariants.{Move, Delete, Exchange, NewChannel}
use Rattle.flow.specs.Graphs.{Instruction, Act, New, Send, Switch, Branch, Call, Start}
use Rattle.flow.specs.Lowering.{graph_of}
use Rattle.flow.specs.declared.graph.Branches.{Branches}
use Rattle.flow.specs.declared.graph.Branches.TheVariants.{Either, Only}
use Rattle.rules.specs.Endpoints.{edges_in, in_state, type_of, message_name}
use Rattle.rules.specs.Mentions.{name_of}
use Rattle.rules.specs.Outcomes.{Pair}
use Rattle.rows.specs.Rows.{is_owned, leaf_at}
use Rattle.rows.specs.contracts.row.LeafPartialEq.TheImpl.{eq-value as same_leaf}
use Rattle.rows.specs.declared.row.Leaf.{Leaf}
use Rattle.rows.specs.declared.row.Leaf.TheVariants.{Nothing, Block, CutOff, State}

abbrev pub takes : (who what : List ℕ) → List ℕ
takes who what = who ++ (codes " takes " ++ what)

-- where a condition continued, unless it continues at the same point either way
abbrev pub branch_lines : Place → Branches → ℕ → List LineModel
branch_lines place (Only point) next = []
branch_lines place (Either inside past) next =
    if inside == past then [] else (line place (if next == inside then codes "condition true" else codes "condition false") ∷ [])

-- how a state of the contract of an endpoint is printed
abbrev pub state_name : ProgramModel → Option HeapType → ℕ → List ℕ
state_name p (Some (Endpoint contract side state)) q =
    option_map_or (λ c. name_of_state c.parts q) (slice_get p.contracts contract.0) []
state_name p _ q = []

-- the target and the source of a move, if the instruction is one
abbrev pub move_in : Instruction → Option (Mention × Mention)
move_in (Act (Move target source) next) = Some (target, source)
move_in _ = None

-- whether a variable has what it had
abbrev pub keeps : (before after : List Leaf) → ℕ → Bool
keeps before after v = same_leaf.it (leaf_at before v) (leaf_at after v)

module _ (p : ProgramModel) (m : MethodModel) where
  abbrev pub name : Mention → List ℕ
  name x = name_of m x.variable.0

  -- what a variable has
  abbrev pub has : ℕ → Leaf → List ℕ
  has v Nothing = name_of m v ++ codes " has nothing"
  has v Block = name_of m v ++ codes " has a block"
  has v CutOff = name_of m v ++ codes " is cut off"
  has v (State q) = name_of m v ++ (codes " in " ++ state_name p (type_of m v) q)

  -- the line for an instruction after which a variable has this leaf; for a switch, `came` is the place of its case
  abbrev pub change : (came : Place) → Instruction → ℕ → Leaf → List LineModel
  change came (New at arguments next) v Nothing = line at.place (takes (name at) (name_of m v)) ∷ []
  change came (New at arguments next) v leaf = line at.place (name_of m v ++ codes " new") ∷ []
  change came (Act (Delete at) next) v leaf = line at.place (name_of m v ++ codes " deleted") ∷ []
  change came (Act (Exchange e) next) v leaf = line e.place (has v leaf) ∷ []
  change came (Act (NewChannel c) next) v leaf = line c.place (has v leaf) ∷ []
  change came (Send place e message payloads next) v Nothing =
      line place (name_of m v
      ++ (codes " sent as " ++ (message_name p (type_of m e.variable.0) message.0 ++ (codes " on " ++ name e)))) ∷ []
  change came (Send place e message payloads next) v leaf = line place (has v leaf) ∷ []
  change came (Switch place cases) v leaf = line came (has v leaf) ∷ []
  change came (Call place method arguments target next) v Nothing = line place (takes (codes "the call") (name_of m v)) ∷ []
  change came (Call place method arguments target next) v leaf = line place (has v leaf) ∷ []
  change came (Start place method arguments next) v leaf = line place (takes (codes "the process") (name_of m v)) ∷ []
  change came _ v leaf = []

  -- a line for each watched variable that has something else after the instruction; only one for a move, which changes two
  abbrev pub changes_with : Option (Mention × Mention) → (came : Place) → Instruction → (watched : List ℕ) → (before after : List Leaf)
      → List LineModel
  changes_with (Some (target, source)) came instruction watched before after =
      if list_all (keeps before after) watched then [] else (line target.place (takes (name target) (name source)) ∷ [])
  changes_with None came instruction watched before after =
      flat_map (λ v. if keeps before after v then [] else change came instruction v (leaf_at after v)) watched

  abbrev pub changes : (came : Place) → Instruction → (watched : List ℕ) → (before after : List Leaf) → List LineModel
  changes came instruction = changes_with (move_in instruction) came instruction

  -- what an endpoint has once what is awaited there has arrived, from what it had before
  abbrev pub awaited_leaf : ℕ → Awaited → Leaf → Leaf
  awaited_leaf e Closed before = CutOff
  awaited_leaf e (Message id) before = in_state before (λ q. option_map_or State (end_on (edges_in p (type_of m e) q) id.0) Nothing) Nothing

  -- Whether a step led to this pair by the case: it continues there, its endpoint has what its message or close leaves, and the other
  -- endpoints have what they had.
  abbrev pub came_by : List Mention → (before after : Pair) → EntranceModel → Bool
  came_by endpoints before after c =
      (c.next == after.0)
      && (same_leaf.it (awaited_leaf c.endpoint.variable.0 c.awaited (leaf_at before.1 c.endpoint.variable.0))
      (leaf_at after.1 c.endpoint.variable.0)
      && list_all (λ e. (e.variable.0 == c.endpoint.variable.0) || keeps before.1 after.1 e.variable.0) endpoints)

  abbrev pub awaited_name : ℕ → Awaited → List ℕ
  awaited_name e Closed = codes "ChannelClosed"
  awaited_name e (Message id) = message_name p (type_of m e) id.0

  abbrev pub case_line : (front : List ℕ) → EntranceModel → LineModel
  case_line front c = line c.endpoint.place (front ++ (name c.endpoint ++ (codes "." ++ awaited_name c.endpoint.variable.0 c.awaited)))

  -- the lines of the cases by which a step continued; several if more than one leads to the pair
  abbrev pub case_lines : List EntranceModel → List LineModel
  case_lines [] = []
  case_lines (c ∷ cases) = case_line (codes "case ") c ∷ map (case_line (codes "or case ")) cases

  -- the cases by which a step of a switch continued
  abbrev pub cases_taken : List EntranceModel → (before after : Pair) → List EntranceModel
  cases_taken cases before after = filter (came_by (first_mentions [] cases) before after) cases

  -- the place of the first of them, or that of the switch if there is none
  abbrev pub case_place : Place → List EntranceModel → Place
  case_place place [] = place
  case_place place (c ∷ cases) = c.endpoint.place

  -- the choice that a step makes
  abbrev pub choice : Instruction → (before after : Pair) → List LineModel
  choice (Branch place branches) before after = branch_lines place branches after.0
  choice (Switch place cases) before after = case_lines (cases_taken cases before after)
  choice _ before after = []

  -- the place where a switch continued; not used for other instructions
  abbrev pub came_at : Instruction → (before after : Pair) → Place
  came_at (Switch place cases) before after = case_place place (cases_taken cases before after)
  came_at _ before after = m.close

  abbrev pub step_lines : Option Instruction → (watched : List ℕ) → (before after : Pair) → List LineModel
  step_lines None watched before after = []
  step_lines (Some instruction) watched before after =
      choice instruction before after ++ changes (came_at instruction before after) instruction watched before.1 after.1

  -- the lines of a path, from its first pair on
  abbrev pub path_lines : (watched : List ℕ) → List Pair → List LineModel
  path_lines watched [] = []
  path_lines watched (a ∷ []) = []
  path_lines watched (a ∷ b ∷ pairs) =
      step_lines (slice_get (graph_of m).instructions a.0) watched a b ++ path_lines watched (b ∷ pairs)

  -- a line for each watched variable that has something when the method begins
  abbrev pub start_lines : (watched : List ℕ) → List Leaf → List LineModel
  start_lines watched row = flat_map (λ v. if is_owned row v then (line m.name (has v (leaf_at row v)) ∷ []) else []) watched
