-- What a contract declares, in order of the text.
use Rattle.std.specs.Prelude.{◌≡◌, List, map}
use Rattle.tree.specs.Trees.{ContractTree, MessageTree, StateTree, message_tree, state_tree}
use Rattle.declarations.specs.Declarations.{messages_of, states_of}
use Rattle.declarations.specs.declared.outline.Outline.{Outline}

-- the messages and the states of an outline
abbrev pub outlined_messages : Outline → List MessageTree
outlined_messages o = map (λ m. message_tree m.now) o.messages.items

abbrev pub outlined_states : Outline → List StateTree
outlined_states o = map (λ s. state_tree s.now) o.states.items

-- it is the outline of this contract
pub record IsOutline (c : ContractTree) (o : Outline) : Type 0 where
  pub name : o.name ≡ c.name
  pub messages : outlined_messages o ≡ messages_of c
  pub states : outlined_states o ≡ states_of c
