-- Calls, starts, sends and new blocks: the checks of what is given, and the row after it.
use Rattle.std.specs.Prelude.{ℕ, Bool, true, false, ◌&&◌, List, [], ◌∷◌, ◌++◌, Option, Some, None}
use Rattle.std.specs.Prelude.{flat_map, is_none, set, zip, if◌then◌else◌}
use Rattle.std.specs.Option.{option_map_or}
use Rattle.program.specs.Lists.{is_among}
use Rattle.program.specs.Methods.{MethodModel}
use Rattle.program.specs.Programs.{ProgramModel}
use Rattle.program.specs.declared.call.Argument.{Argument}
use Rattle.program.specs.declared.number.MessageId.{MessageId}
use Rattle.program.specs.declared.number.VarId.{VarId}
use Rattle.program.specs.declared.types.HeapType.{HeapType}
use Rattle.program.specs.declared.statement.Mention.{Mention}
use Rattle.contracts.specs.Leaving.{end_on}
use Rattle.rules.specs.Endpoints.{declared_leaf, edges_out, in_state, is_wrong}
use Rattle.rules.specs.Mentions.{require_empty, require_owned, is_lent, require_not_lent}
use Rattle.rules.specs.Outcomes.{Check, breach_at, refuse_if}
use Rattle.rows.specs.Rows.{leaf_at}
use Rattle.rules.specs.declared.breach.Reason.{Reason}
use Rattle.rules.specs.declared.breach.Reason.TheVariants.{Lent, Twice, WrongFor, WrongForCall, WrongForField}
use Rattle.rows.specs.declared.row.Leaf.{Leaf}
use Rattle.rows.specs.declared.row.Leaf.TheVariants.{Nothing, State}

-- the row after arguments: what is claimed is gone
abbrev pub after_claims : List Leaf → List Argument → List Leaf
after_claims row [] = row
after_claims row (a ∷ arguments) = after_claims (if a.claimed then set row a.mention.variable.0 Nothing else row) arguments

-- a variable given with a message or for a field, which is always claimed
abbrev pub payload : Mention → Argument
payload x = record { mention = x; claimed = true }

-- the row after a result: a variable takes what the method returns, if that is of the exchange heap
abbrev pub given_leaf : List Leaf → Option HeapType → Option Mention → List Leaf
given_leaf row (Some ty) (Some target) = set row target.variable.0 (declared_leaf ty)
given_leaf row _ _ = row

-- the leaf of a variable of this type after its endpoint sends the message; unchanged if no edge allows that, or if it is cut off
abbrev pub sent_leaf : ProgramModel → Option HeapType → ℕ → Leaf → Leaf
sent_leaf p ty message leaf = in_state leaf (λ q. option_map_or State (end_on (edges_out p ty q) message) leaf) leaf

-- whether an endpoint is in a state that has no edge on which it sends the message; one that is cut off lacks none
abbrev pub lacks_edge : ProgramModel → Option HeapType → ℕ → Leaf → Bool
lacks_edge p ty message leaf = in_state leaf (λ q. is_none (end_on (edges_out p ty q) message)) false

-- the checks that no variable is given twice, and that none of those in `earlier` is given
abbrev pub given_before : List ℕ → List Argument → List Check
given_before earlier [] = []
given_before earlier (a ∷ arguments) =
    refuse_if (is_among earlier a.mention.variable.0) (breach_at a.mention.place (Twice a.mention.variable))
    ∷ given_before (a.mention.variable.0 ∷ earlier) arguments

module _ (m : MethodModel) where
  -- The checks of an argument: it has something, is not lent if it is claimed, and is in the state that the parameter asks for.
  abbrev pub argument_checks : List Leaf → HeapType → Argument → List Check
  argument_checks row ty a =
      require_owned row a.mention
      ∷ refuse_if (a.claimed && is_lent m a.mention.variable.0) (breach_at a.mention.place (Lent a.mention.variable))
      ∷ refuse_if (is_wrong ty (leaf_at row a.mention.variable.0)) (breach_at a.mention.place (WrongForCall a.mention.variable))
      ∷ []

  -- the checks of all arguments, for parameters of these types
  abbrev pub all_arguments : List Leaf → List HeapType → List Argument → List Check
  all_arguments row types arguments = given_before [] arguments ++ flat_map (λ x. argument_checks row x.0 x.1) (zip types arguments)

  -- The checks of what goes into a message or a field: it is not lent, has something, and is in the
  -- state that is asked for; `wrong` is the reason if it is in another.
  abbrev pub taken_checks : List Leaf → (wrong : VarId → Reason) → HeapType → Argument → List Check
  taken_checks row wrong ty a =
      require_not_lent m a.mention ∷ require_owned row a.mention
      ∷ refuse_if (is_wrong ty (leaf_at row a.mention.variable.0)) (breach_at a.mention.place (wrong a.mention.variable))
      ∷ []

  -- the checks of all that goes there at once: nothing twice, none of `besides`, and then the checks of each
  abbrev pub all_taken : (besides : List ℕ) → List Leaf → (wrong : VarId → Reason) → List HeapType → List Argument → List Check
  all_taken besides row wrong types given = given_before besides given ++ flat_map (λ x. taken_checks row wrong x.0 x.1) (zip types given)

  -- the checks of what goes into a message
  abbrev pub payload_checks : List Leaf → (endpoint : VarId) → MessageId → HeapType → Argument → List Check
  payload_checks row endpoint message = taken_checks row (λ v. WrongFor v endpoint message)

  -- the checks of all that goes into a message
  abbrev pub all_payloads : List Leaf → (endpoint : VarId) → MessageId → List HeapType → List Argument → List Check
  all_payloads row endpoint message = all_taken (endpoint.0 ∷ []) row (λ v. WrongFor v endpoint message)

  -- the checks of what goes into a field
  abbrev pub field_checks : List Leaf → HeapType → Argument → List Check
  field_checks row = taken_checks row WrongForField

  -- the checks of all that goes into the owning fields of a new block
  abbrev pub all_fields : List Leaf → List HeapType → List Argument → List Check
  all_fields row = all_taken [] row WrongForField

  -- the checks of a variable that takes a block: it is not lent, and has nothing
  abbrev pub target_checks : List Leaf → Option Mention → List Check
  target_checks row None = []
  target_checks row (Some v) = require_not_lent m v ∷ require_empty row v ∷ []
