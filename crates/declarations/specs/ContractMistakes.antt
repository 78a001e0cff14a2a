-- Mistakes with the names in a contract. What a node of the tree adds depends on that node and on what is declared, not on other mistakes.
use Rattle.std.specs.Prelude.{ℕ, List, ◌++◌, map}
use Rattle.std.specs.List.{flat_map}
use Rattle.source.specs.declared.token.Span.{Span}
use Rattle.tree.specs.Trees.{ContractTree, MessageTree, StateTree, PathTree}
use Rattle.tree.specs.declared.contract.MessageParameter.{MessageParameter}
use Rattle.declarations.specs.Declarations.{messages_of, states_of, paths_of, names_of_messages, names_of_states}
use Rattle.declarations.specs.declared.mistake.Limit.TheVariants as limit
use Rattle.declarations.specs.declared.mistake.Mistake.{Mistake}
use Rattle.declarations.specs.Types.{type_unknown}
use Rattle.declarations.specs.Listed.{twice_among, past_limit, asked_message, asked_state}
use Rattle.declarations.specs.Program.{ProgramText}

-- the names of parameters
abbrev pub param_names : List MessageParameter → List Span
param_names params = map (λ p. p.name) params

-- the mistakes in the parameters of a message: types not declared, names declared twice, and too many of them
abbrev pub message_mistakes : ProgramText → MessageTree → List Mistake
message_mistakes p m = flat_map (λ x. type_unknown p x.ty) m.params
    ++ (twice_among p.text (param_names m.params) ++ past_limit limit.Parameters (param_names m.params))

-- the messages and the state of a path that its contract does not declare
abbrev pub path_mistakes : List ℕ → List Span → List Span → PathTree → List Mistake
path_mistakes text messages states p = asked_message text messages p.first.message
    ++ (flat_map (λ e. asked_message text messages e.message) p.others ++ asked_state text states p.target)

-- the mistakes in a state, which are those in its paths
abbrev pub state_mistakes : List ℕ → List Span → List Span → StateTree → List Mistake
state_mistakes text messages states s = flat_map (path_mistakes text messages states) (paths_of s.body)

-- the mistakes in a contract of these messages and states
abbrev pub inner_mistakes : ProgramText → List MessageTree → List StateTree → List Mistake
inner_mistakes p messages states =
    twice_among p.text (names_of_messages messages) ++ (twice_among p.text (names_of_states states)
    ++ (flat_map (message_mistakes p) messages
    ++ flat_map (state_mistakes p.text (names_of_messages messages) (names_of_states states)) states))

-- the mistakes in a contract
abbrev pub contract_mistakes : ProgramText → ContractTree → List Mistake
contract_mistakes p c = inner_mistakes p (messages_of c) (states_of c)
