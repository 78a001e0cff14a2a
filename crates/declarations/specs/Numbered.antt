-- The names at which states are counted, as the code has them.
use Rattle.std.specs.Prelude.{ℕ, List, [], ◌∷◌, length, map}
use Rattle.std.specs.List.{flat_map}
use Rattle.source.specs.declared.token.Span.{Span}
use Rattle.tree.specs.Trees.{StateTree}
use Rattle.declarations.specs.Declarations.{paths_of, unnamed_of, counted_states}
use Rattle.declarations.specs.Resolution.{UnnumberedState, each_behind, named_state, unnamed_state}
use Rattle.declarations.specs.declared.state_names.StateName.{StateName}
use Rattle.declarations.specs.declared.state_names.StateName.TheVariants.{Named, Unnamed}

-- what is counted at such a name
abbrev pub counted_as : List ℕ → StateName → UnnumberedState
counted_as text (Named name) = named_state text name
counted_as text (Unnamed message) = unnamed_state text message

-- the names of the unnamed states of these messages
abbrev pub unnamed_names : List Span → List StateName
unnamed_names messages = map (λ m. Unnamed m) messages

-- the name of a state, then those of the unnamed states of its paths
abbrev pub names_in : StateTree → List StateName
names_in s = Named s.name ∷ unnamed_names (flat_map unnamed_of (paths_of s.body))

-- the index of each named state among all states
abbrev pub indices_named : List StateTree → List ℕ
indices_named states = each_behind (λ before s. length (counted_states before) ∷ []) [] states
