-- Contracts whose edges use declared names only.
use Rattle.std.specs.Prelude.{◌≡◌, ℕ, List, [], ◌∷◌, length}
use Rattle.std.specs.List.{flat_map}
use Rattle.declarations.specs.Declarations.{names_of_messages, names_of_states, counted_states}
use Rattle.declarations.specs.ContractMistakes.{state_mistakes}
use Rattle.declarations.specs.Numbered.{names_in, indices_named}
use Rattle.declarations.specs.Outlines.{outlined_messages, outlined_states}
use Rattle.program.specs.Parts.{ContractModel}
use Rattle.declarations.specs.Resolution.{each_behind, resolved_contract}
use Rattle.tables.specs.Tables.{IsTable}
use Rattle.tables.specs.Words.{words_at}
use Rattle.declarations.specs.Scopes.{declared_among}
use Rattle.declarations.specs.declared.members.Declared.{Declared}
use Rattle.declarations.specs.declared.members.Members.{Members}

-- the tables and the states are those of its declarations, and there are no mistakes in the names of its edges
pub record IsReady (text : List ℕ) (d : Declared) : Type 0 where
  pub messages : IsTable (words_at text (names_of_messages (outlined_messages d.outline))) d.messages
  pub states : IsTable (words_at text (names_of_states (outlined_states d.outline))) d.states
  pub all : d.counted.all.items ≡ flat_map names_in (outlined_states d.outline)
  pub named : d.counted.named.items ≡ indices_named (outlined_states d.outline)
  pub clean : flat_map (state_mistakes text (names_of_messages (outlined_messages d.outline))
      (names_of_states (outlined_states d.outline))) (outlined_states d.outline) ≡ []

-- what the contracts among the items declare, in order
abbrev pub declared_in : List Members → List Declared
declared_in items = flat_map declared_among items

-- how many messages and how many states these have
abbrev pub declared_messages : List Declared → ℕ
declared_messages declared = length (flat_map (λ d. outlined_messages d.outline) declared)

abbrev pub declared_states : List Declared → ℕ
declared_states declared = length (flat_map (λ d. counted_states (outlined_states d.outline)) declared)

-- a contract as it is resolved, with its messages and states numbered from these numbers
abbrev pub resolved_declared : List ℕ → ℕ → ℕ → Declared → ContractModel
resolved_declared text message state d =
    resolved_contract text message state d.outline.name (outlined_messages d.outline) (outlined_states d.outline)

-- contracts as they are resolved, in order
abbrev pub all_resolved : List ℕ → List Declared → List ContractModel
all_resolved text declared =
    each_behind (λ before d. resolved_declared text (declared_messages before) (declared_states before) d ∷ []) [] declared
