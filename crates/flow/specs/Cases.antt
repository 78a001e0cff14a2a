-- The cases of a switch: their endpoints, and the case for what arrives at one of them.
use Rattle.std.specs.Prelude.{◌≡◌, ℕ, ◌==◌, Bool, true, false, ◌&&◌, List, [], ◌∷◌, Option, Some, None, map, if◌then◌else◌}
use Rattle.std.specs.BTreeMap.{BTreeMap, get}
use Rattle.std.specs.Option.{option_cmp}
use Rattle.std.specs.Ordering.{nat_cmp, ordering_then}
use Rattle.std.specs.declared.cmp.Ordering.{Ordering}
use Rattle.lemmas.specs.Places.{first_position}
use Rattle.program.specs.Lists.{is_among}
use Rattle.program.specs.declared.number.VarId.{VarId}
use Rattle.program.specs.declared.statement.Awaited.{Awaited}
use Rattle.program.specs.declared.statement.Awaited.TheVariants.{Message, Closed}
use Rattle.program.specs.declared.statement.Mention.{Mention}
use Rattle.flow.specs.declared.graph.Entrance.{Entrance}

-- a case of a switch: its endpoint, what it awaits, the variables that it binds, and the point at which the method continues
pub record EntranceModel : Type 0 where
  pub endpoint : Mention
  pub awaited : Awaited
  pub targets : List VarId
  pub next : ℕ

abbrev pub entrance_model : Entrance → EntranceModel
entrance_model e = record { endpoint = e.endpoint; awaited = e.awaited; targets = e.targets.items; next = e.next }

-- the endpoints of cases, each where it is named first, without those already seen
abbrev pub first_mentions : List ℕ → List EntranceModel → List Mention
first_mentions seen [] = []
first_mentions seen (c ∷ cases) =
    if is_among seen c.endpoint.variable.0 then first_mentions seen cases
    else (c.endpoint ∷ first_mentions (c.endpoint.variable.0 ∷ seen) cases)

-- whether a case awaits this message, or the close if there is no message
abbrev pub awaits : Awaited → Option ℕ → Bool
awaits (Message id) (Some message) = id.0 == message
awaits Closed None = true
awaits _ _ = false

-- the first case at this endpoint that awaits this message, or the close if there is no message
abbrev pub case_for : List EntranceModel → ℕ → Option ℕ → Option EntranceModel
case_for [] endpoint message = None
case_for (c ∷ cases) endpoint message = if (c.endpoint.variable.0 == endpoint) && awaits c.awaited message then Some c
    else case_for cases endpoint message

-- the key of a case: the number of its endpoint, and that of the message if it awaits one
abbrev pub CaseKey : Type 0
CaseKey = ℕ × Option ℕ

abbrev pub awaited_number : Awaited → Option ℕ
awaited_number (Message id) = Some id.0
awaited_number Closed = None

abbrev pub key_of : EntranceModel → CaseKey
key_of c = (c.endpoint.variable.0, awaited_number c.awaited)

-- the order of keys
abbrev pub key_cmp : CaseKey → CaseKey → Ordering
key_cmp x y = ordering_then (nat_cmp x.0 y.0) (option_cmp nat_cmp x.1 y.1)

-- the map has for each key the position of the first case with it
abbrev pub AreCasePositions : List EntranceModel → BTreeMap CaseKey ℕ → Type 0
AreCasePositions cases positions = (k : CaseKey) → get key_cmp positions k ≡ first_position key_cmp (map key_of cases) k
