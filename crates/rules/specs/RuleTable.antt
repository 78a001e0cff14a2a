-- The rule table: the checks of each instruction in order, and the row after it. The first check that fails is the breach.
use Rattle.std.specs.Prelude.{ℕ, Bool, false, ◌&&◌, List, [], ◌∷◌, ◌++◌, length, Option, Some, None, map, set}
use Rattle.std.specs.List.{range_with_len}
use Rattle.std.specs.Option.{option_map_or}
use Rattle.source.specs.declared.place.Place.{Place}
use Rattle.program.specs.Methods.{MethodModel}
use Rattle.program.specs.Programs.{ProgramModel}
use Rattle.program.specs.declared.types.HeapType.{HeapType}
use Rattle.program.specs.declared.statement as stated
use Rattle.program.specs.declared.statement.Mention.{Mention}
use Rattle.program.specs.declared.statement.Action.TheVariants.{Use, Move, Delete, Exchange, NewChannel}
use Rattle.flow.specs.Graphs.{Instruction, Act, New, Send, Switch, Branch, Forget, Call, Start}
use Rattle.flow.specs.Graphs.{Return, Stop}
use Rattle.flow.specs.declared.graph.Branches.{Branches}
use Rattle.flow.specs.declared.graph.Branches.TheVariants.{Either, Only}
use Rattle.rules.specs.Arguments.{all_arguments, all_fields, all_payloads, after_claims, field_checks, given_leaf, lacks_edge, payload}
use Rattle.rules.specs.Arguments.{sent_leaf, target_checks}
use Rattle.rules.specs.Endpoints.{payload_types, declared_leaf, field_of, fields_of, first_state, is_wrong, type_of}
use Rattle.rules.specs.Endpoints.{parameter_types, result_of}
use Rattle.rules.specs.Mentions.{given_back, require_empty, require_owned, require_another, is_lent, require_not_lent}
use Rattle.rules.specs.Outcomes.{Step, Goes, Fails, Pair, Check, after_checks, breach_at, refuse_if}
use Rattle.rows.specs.Rows.{leaf_at}
use Rattle.rules.specs.Scopes.{declared_between}
use Rattle.rules.specs.Switches.{switch_checks, switch_pairs}
use Rattle.rules.specs.declared.breach.Breach.{Breach}
use Rattle.rules.specs.declared.breach.Reason.TheVariants.{NoResult, NotBack, NotSent, WrongForResult}
use Rattle.rows.specs.declared.row.Leaf.{Leaf}
use Rattle.rows.specs.declared.row.Leaf.TheVariants.{Nothing, Block, State}

-- where a condition continues
abbrev pub ways : Branches → List Leaf → List Pair
ways (Either inside past) row = (inside, row) ∷ (past, row) ∷ []
ways (Only point) row = (point, row) ∷ []

module _ (p : ProgramModel) (m : MethodModel) where
  -- the checks of a returned value: it is not lent, has something, and is in the state of the result
  abbrev pub value_checks : List Leaf → Option Mention → List Check
  value_checks row None = []
  value_checks row (Some v) =
      require_not_lent m v ∷ require_owned row v
      ∷ refuse_if (option_map_or (λ ty. is_wrong ty (leaf_at row v.variable.0)) m.result false)
      (breach_at v.place (WrongForResult v.variable)) ∷ []

  -- whether a lent endpoint is neither cut off nor in its declared state
  abbrev pub is_not_back : List Leaf → ℕ → Bool
  is_not_back row v = is_lent m v && option_map_or (λ ty. is_wrong ty (leaf_at row v)) (type_of m v) false

  -- the checks of lent endpoints, in order: each is cut off, or back in its declared state
  abbrev pub back_checks : List Leaf → Place → List Check
  back_checks row place =
      map (λ v. refuse_if (is_not_back row v) (breach_at place (NotBack record { 0 = v }))) (range_with_len 0 (length m.variables))

  -- The outcome of an exchange with a field of this type. The variable then has what was in the
  -- field, in the state that the field asks for.
  abbrev pub after_exchange : List Leaf → stated.Exchange.Exchange → ℕ → Option HeapType → Step Pair Breach
  after_exchange row e next ty =
      after_checks (require_another e.holder e.given ∷ require_owned row e.holder
      ∷ option_map_or (λ ty. field_checks m row ty (payload e.given)) ty [])
      ((next, set row e.given.variable.0 (option_map_or declared_leaf ty Nothing)) ∷ [])

  -- for each instruction its checks in order, and the row after it
  abbrev pub instruction_outcome : Instruction → List Leaf → Step Pair Breach
  instruction_outcome (Act (Use v) next) row = after_checks (require_owned row v ∷ []) ((next, row) ∷ [])
  instruction_outcome (Act (Exchange e) next) row = after_exchange row e next (field_of p m e.holder.variable.0 e.field)
  instruction_outcome (Act (NewChannel c) next) row =
      after_checks
      (require_not_lent m c.first ∷ require_empty row c.first ∷ require_not_lent m c.second ∷ require_empty row c.second ∷ [])
      (let first = State (first_state p c.contract.0) in (next, set (set row c.first.variable.0 first) c.second.variable.0 first) ∷ [])
  instruction_outcome (Act (Move v w) next) row =
      after_checks
      (require_another v w ∷ require_not_lent m w ∷ require_owned row w ∷ require_not_lent m v ∷ require_empty row v ∷ [])
      ((next, set (set row v.variable.0 (leaf_at row w.variable.0)) w.variable.0 Nothing) ∷ [])
  instruction_outcome (Act (Delete v) next) row =
      after_checks (require_not_lent m v ∷ require_owned row v ∷ []) ((next, set row v.variable.0 Nothing) ∷ [])
  instruction_outcome (New v arguments next) row =
      let given = map payload arguments in
      after_checks (all_fields m row (fields_of p m v.variable.0) given ++ target_checks m (after_claims row given) (Some v))
      ((next, set (after_claims row given) v.variable.0 Block) ∷ [])
  instruction_outcome (Send place e message payloads next) row =
      let ty = type_of m e.variable.0 in
      let leaf = leaf_at row e.variable.0 in
      after_checks
      (require_owned row e
      ∷ (all_payloads m row e.variable message (payload_types p message.0) (map payload payloads)
      ++ refuse_if (lacks_edge p ty message.0 leaf) (breach_at place (NotSent e.variable message)) ∷ []))
      ((next, set (after_claims row (map payload payloads)) e.variable.0 (sent_leaf p ty message.0 leaf)) ∷ [])
  instruction_outcome (Switch place cases) row = after_checks (switch_checks p m row place cases) (switch_pairs p m row cases)
  instruction_outcome (Call place method arguments target next) row =
      after_checks (all_arguments m row (parameter_types p method.0) arguments ++ target_checks m (after_claims row arguments) target)
      ((next, given_leaf (after_claims row arguments) (result_of p method.0) target) ∷ [])
  instruction_outcome (Start place method arguments next) row =
      after_checks (all_arguments m row (parameter_types p method.0) arguments) ((next, after_claims row arguments) ∷ [])
  instruction_outcome (Branch place branches) row = Goes (ways branches row)
  instruction_outcome (Forget f next) row =
      after_checks (given_back m row f.place None (declared_between m f.outer (Some f.last))) ((next, row) ∷ [])
  instruction_outcome (Return place value scope) row =
      after_checks (value_checks row value ++ (given_back m row place value (declared_between m None scope) ++ back_checks row place)) []
  instruction_outcome (Stop place) row = Fails (breach_at place NoResult)
