-- Rows with a leaf for each variable.
use Rattle.std.proofs.Common.{◌≡◌, ℕ, Bool, true, false, List, [], ◌∷◌, ◌++◌, length, map, flat_map, set, slice_get, Option, None, Some, if◌then◌else◌, refl, sym, ap, subst, ◌∙◌}
use Rattle.std.specs.List.{All}
use Rattle.std.specs.Option.{option_map_or}
use Rattle.std.proofs.lemmas.List.{length-map, length-set}
use Rattle.std.proofs.lemmas.List.Elements.{All-append, All-nil, All-cons}
use Rattle.program.specs.declared.statement.Action.TheVariants.{Use, Move, Delete, Exchange, NewChannel}
use Rattle.flow.specs.Graphs.{Instruction, Act, New, Send, Switch, Branch, Forget, Call, Start, Return, Stop}
use Rattle.flow.specs.Lowering.{graph_of}
use Rattle.flow.specs.declared.graph.Branches.{Branches}
use Rattle.flow.specs.declared.graph.Branches.TheVariants.{Either, Only}
use Rattle.flow.specs.Cases.{EntranceModel, case_for, first_mentions}
use Rattle.program.specs.Methods.{MethodModel}
use Rattle.program.specs.Programs.{ProgramModel}
use Rattle.program.specs.declared.contract.Edge.{Edge}
use Rattle.program.specs.declared.types.HeapType.{HeapType}
use Rattle.program.specs.declared.number.VarId.{VarId}
use Rattle.rules.specs.Endpoints.{payload_types, declared_leaf, field_of, fields_of, first_state, type_of, parameter_types, result_of}
use Rattle.rules.specs.Switches.{awaited_edges, bound_leaves, close_pairs, comes_at, pair_at, receive_pairs, switch_checks, switch_pairs}
use Rattle.program.specs.declared.call.Argument.{Argument}
use Rattle.program.specs.declared.statement.Mention.{Mention}
use Rattle.rows.specs.Rows.{IsRowOf, leaf_at}
use Rattle.rules.specs.Breaches.{breach_in}
use Rattle.rules.specs.Arguments.{all_arguments, all_fields, all_payloads, after_claims, field_checks, given_leaf, lacks_edge, payload, sent_leaf, target_checks}
use Rattle.rules.specs.Mentions.{given_back, require_empty, require_owned, require_another, require_not_lent}
use Rattle.rules.specs.Outcomes.{Check, Fails, Goes, Pair, Step, after_checks, breach_at, refuse_if}
use Rattle.rules.specs.RuleTable.{back_checks, instruction_outcome, value_checks, ways}
use Rattle.rules.specs.Scopes.{declared_between}
use Rattle.rules.specs.declared.breach.Breach.{Breach}
use Rattle.rules.specs.declared.breach.Reason.TheVariants.{NotSent}
use Rattle.rules.specs.Steps.{entry_leaf, method_entry, method_outcome, outcome, point_outcome, step_at}
use Rattle.rows.specs.declared.row.Leaf.{Leaf}
use Rattle.rows.specs.declared.row.Leaf.TheVariants.{Nothing, Block, CutOff, State}
use Rattle.rules.proofs.ProgramLemmas.{outcome_is}
use Rattle.rules.proofs.StepLemmas.{said_goes}

pub claimed_size : (row : List Leaf) (arguments : List Argument) → length (after_claims row arguments) ≡ length row
claimed_size row [] = refl
claimed_size row (a ∷ arguments) =
    claimed_size (if a.claimed then set row a.mention.variable.0 Nothing else row) arguments ∙ one a.claimed
  where
    one : (b : Bool) → length (if b then set row a.mention.variable.0 Nothing else row) ≡ length row
    one true = length-set row a.mention.variable.0 Nothing
    one false = refl

given_size : (row : List Leaf) (ty : Option HeapType) (target : Option Mention) → length (given_leaf row ty target) ≡ length row
given_size row None None = refl
given_size row None (Some v) = refl
given_size row (Some ty) None = refl
given_size row (Some ty) (Some v) = length-set row v.variable.0 (declared_leaf ty)

bound_size : (row : List Leaf) (bound : List VarId) (types : List HeapType) → length (bound_leaves row bound types) ≡ length row
bound_size row [] types = refl
bound_size row (v ∷ bound) [] = refl
bound_size row (v ∷ bound) (ty ∷ types) = bound_size (set row v.0 (declared_leaf ty)) bound types ∙ length-set row v.0 (declared_leaf ty)

same_goes : (a b : List Pair) → Path (Step Pair Breach) (Goes a) (Goes b) → a ≡ b
same_goes a b e = cc

-- if the checks pass, the step leads to the pairs after them
goes_on : (checks : List Check) (after to : List Pair) → after_checks checks after ≡ Goes to → after ≡ to
goes_on [] after to e = same_goes after to e
goes_on (None ∷ checks) after to e = goes_on checks after to e
goes_on (Some finding ∷ checks) after to e = absurd (no_step finding e)
  where
    no_step : (f : Breach) → Path (Step Pair Breach) (Fails f) (Goes to) → ⊥
    no_step f k = cc

module _ (p : ProgramModel) (m : MethodModel) where
  abbrev AreRows : List Pair → Type 0
  AreRows to = All (λ x. IsRowOf m x.1) to

  no_rows : AreRows []
  no_rows = All-nil (λ x. IsRowOf m x.1)

  one_row : (next : ℕ) (row : List Leaf) (rest : List Pair) → IsRowOf m row → AreRows rest → AreRows ((next, row) ∷ rest)
  one_row next row rest is all = All-cons (λ x. IsRowOf m x.1) (next, row) rest is all

  leads_on : (checks : List Check) (next : ℕ) (row : List Leaf) (to : List Pair)
      → IsRowOf m row → after_checks checks ((next, row) ∷ []) ≡ Goes to → AreRows to
  leads_on checks next row to is e = subst AreRows (goes_on checks ((next, row) ∷ []) to e) (one_row next row [] is no_rows)

  ways_on : (branches : Branches) (row : List Leaf) → IsRowOf m row → AreRows (ways branches row)
  ways_on (Either inside past) row is = one_row inside row ((past, row) ∷ []) is (one_row past row [] is no_rows)
  ways_on (Only point) row is = one_row point row [] is no_rows

  both_rows : (a b : List Pair) → AreRows a → AreRows b → AreRows (a ++ b)
  both_rows a b first second = All-append (λ x. IsRowOf m x.1) a b first second

  each_row : {X : Type 0} (f : X → List Pair) (xs : List X) → ((x : X) → AreRows (f x)) → AreRows (flat_map f xs)
  each_row f [] all = no_rows
  each_row f (x ∷ xs) all = both_rows (f x) (flat_map f xs) (all x) (each_row f xs all)

  case_sequence : (o : Option EntranceModel) (after : EntranceModel → List Leaf) → ((c : EntranceModel) → IsRowOf m (after c)) → AreRows (pair_at o after)
  case_sequence None after is = no_rows
  case_sequence (Some c) after is = one_row c.next (after c) [] (is c) no_rows

  received_on : (row : List Leaf) (cases : List EntranceModel) (e : ℕ) (d : Edge) → IsRowOf m row → AreRows (receive_pairs p m row cases e d)
  received_on row cases e d is =
      case_sequence (case_for cases e (Some d.message.0)) (λ c. bound_leaves (set row e (State d.to.0)) c.targets (payload_types p d.message.0))
      (λ c. bound_size (set row e (State d.to.0)) c.targets (payload_types p d.message.0) ∙ length-set row e (State d.to.0) ∙ is)

  closed_on : (row : List Leaf) (cases : List EntranceModel) (e : ℕ) → IsRowOf m row → AreRows (close_pairs p m row cases e)
  closed_on row cases e is = case_sequence (case_for cases e None) (λ c. set row e CutOff) (λ c. length-set row e CutOff ∙ is)

  switch_on : (row : List Leaf) (cases : List EntranceModel) → IsRowOf m row → AreRows (switch_pairs p m row cases)
  switch_on row cases is =
      each_row (comes_at p m row cases) (first_mentions [] cases)
      (λ e. both_rows (flat_map (receive_pairs p m row cases e.variable.0) (awaited_edges p m row e)) (close_pairs p m row cases e.variable.0)
      (each_row (receive_pairs p m row cases e.variable.0) (awaited_edges p m row e) (λ d. received_on row cases e.variable.0 d is))
      (closed_on row cases e.variable.0 is))

  instruction_on : (i : Instruction) (row : List Leaf) (to : List Pair)
      → IsRowOf m row → instruction_outcome p m i row ≡ Goes to → AreRows to
  instruction_on (Act (Use v) next) row to is e = leads_on (require_owned row v ∷ []) next row to is e
  instruction_on (Act (Exchange x) next) row to is e =
      let ty = field_of p m x.holder.variable.0 x.field in
      let leaf = option_map_or declared_leaf ty Nothing in
      leads_on (require_another x.holder x.given ∷ require_owned row x.holder ∷ option_map_or (λ ty. field_checks m row ty (payload x.given)) ty [])
      next (set row x.given.variable.0 leaf) to (length-set row x.given.variable.0 leaf ∙ is) e
  instruction_on (Act (NewChannel c) next) row to is e =
      let first = State (first_state p c.contract.0) in
      let one = set row c.first.variable.0 first in
      let checks = require_not_lent m c.first ∷ require_empty row c.first ∷ require_not_lent m c.second ∷ require_empty row c.second ∷ [] in
      leads_on checks next (set one c.second.variable.0 first) to (length-set one c.second.variable.0 first ∙ length-set row c.first.variable.0 first ∙ is) e
  instruction_on (Act (Move v w) next) row to is e =
      let moved = set row v.variable.0 (leaf_at row w.variable.0) in
      let checks = require_another v w ∷ require_not_lent m w ∷ require_owned row w ∷ require_not_lent m v ∷ require_empty row v ∷ [] in
      let size = length-set moved w.variable.0 Nothing ∙ length-set row v.variable.0 (leaf_at row w.variable.0) ∙ is in
      leads_on checks next (set moved w.variable.0 Nothing) to size e
  instruction_on (Act (Delete v) next) row to is e =
      let freed = set row v.variable.0 Nothing in
      leads_on (require_not_lent m v ∷ require_owned row v ∷ []) next freed to (length-set row v.variable.0 Nothing ∙ is) e
  instruction_on (New v arguments next) row to is e =
      let given = map payload arguments in
      let left = after_claims row given in
      leads_on (all_fields m row (fields_of p m v.variable.0) given ++ target_checks m left (Some v)) next (set left v.variable.0 Block) to
      (length-set left v.variable.0 Block ∙ claimed_size row given ∙ is) e
  instruction_on (Send place x message payloads next) row to is e =
      let gone = after_claims row (map payload payloads) in
      let leaf = sent_leaf p (type_of m x.variable.0) message.0 (leaf_at row x.variable.0) in
      let leaf_now = leaf_at row x.variable.0 in
      let ty = type_of m x.variable.0 in
      leads_on
      (require_owned row x ∷ (all_payloads m row x.variable message (payload_types p message.0) (map payload payloads) ++ refuse_if (lacks_edge p ty message.0 leaf_now) (breach_at place (NotSent x.variable message)) ∷ []))
      next (set gone x.variable.0 leaf) to (length-set gone x.variable.0 leaf ∙ claimed_size row (map payload payloads) ∙ is) e
  instruction_on (Switch place cases) row to is e =
      subst AreRows (goes_on (switch_checks p m row place cases) (switch_pairs p m row cases) to e) (switch_on row cases is)
  instruction_on (Call place method arguments target next) row to is e =
      let after = after_claims row arguments in
      let ty = result_of p method.0 in
      leads_on (all_arguments m row (parameter_types p method.0) arguments ++ target_checks m after target) next (given_leaf after ty target) to (given_size after ty target ∙ claimed_size row arguments ∙ is) e
  instruction_on (Start place method arguments next) row to is e =
      leads_on (all_arguments m row (parameter_types p method.0) arguments) next (after_claims row arguments) to (claimed_size row arguments ∙ is) e
  instruction_on (Branch place branches) row to is e = subst AreRows (same_goes (ways branches row) to e) (ways_on branches row is)
  instruction_on (Forget f next) row to is e =
      leads_on (given_back m row f.place None (declared_between m f.outer (Some f.last))) next row to is e
  instruction_on (Return place value scope) row to is e =
      subst AreRows (goes_on (value_checks p m row value ++ (given_back m row place value (declared_between m None scope) ++ back_checks p m row place)) [] to e) no_rows
  instruction_on (Stop place) row to is e = absurd (no_step e)
    where
      no_step : {f : Breach} → Path (Step Pair Breach) (Fails f) (Goes to) → ⊥
      no_step k = cc

  point_on : (o : Option Instruction) (row : List Leaf) (to : List Pair)
      → IsRowOf m row → point_outcome p m row o ≡ Goes to → AreRows to
  point_on None row to is e = subst AreRows (same_goes [] to e) no_rows
  point_on (Some i) row to is e = instruction_on i row to is e

-- a step from a row with a leaf for each variable leads to such rows
pub step_on : (p : ProgramModel) (n : ℕ) (m : MethodModel) (pair : Pair) (to : List Pair)
    → slice_get p.methods n ≡ Some m → IsRowOf m pair.1 → outcome p n pair ≡ Goes to → All (λ x. IsRowOf m x.1) to
step_on p n m pair to there is e =
    let here = ap (λ o. method_outcome p o pair) (sym there) ∙ sym (outcome_is p n pair) ∙ said_goes (breach_in p n) (step_at p n pair) to e in
    point_on p m (slice_get (graph_of m).instructions pair.0) pair.1 to is here

-- a method begins with such a row
pub entry_on : (p : ProgramModel) (n : ℕ) (m : MethodModel)
    → slice_get p.methods n ≡ Some m → IsRowOf m (method_entry (slice_get p.methods n)).1
entry_on p n m there = subst (λ o. IsRowOf m (method_entry o).1) (sym there) (length-map m.variables (λ v. entry_leaf v.role v.ty))
