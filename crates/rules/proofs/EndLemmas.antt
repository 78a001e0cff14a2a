-- The contracts of a program by number, and the numbers in the leaves that its types declare.
use Rattle.std.proofs.Common.{◌≡◌, ℕ, zero, suc, ◌<◌, List, [], ◌∷◌, map, slice_get, Option, Some, None, IfSome, IsSomeAnd, refl, sym, ap, subst, ◌∙◌, arith}
use Rattle.std.specs.Prelude.{All}
use Rattle.std.specs.Coded.{le_prop}
use Rattle.std.specs.Option.{option_map, option_map_or}
use Rattle.std.proofs.Math.Logic.{∥∥₁_elim}
use Rattle.std.proofs.lemmas.List.{length-map}
use Rattle.std.proofs.lemmas.List.Elements.{All-cons, All-get_or, All-nil}
use Rattle.std.proofs.lemmas.Option.{get_or_from_slice_get, slice_get-map, slice_get_within}
use Rattle.contracts.specs.Sounds.{sound_parts}
use Rattle.contracts.specs.declared.sound.Sound.{Sound}
use Rattle.program.specs.Lists.{Each}
use Rattle.program.specs.Methods.{VariableModel, variable_model}
use Rattle.program.specs.declared.method.Variable.{Variable}
use Rattle.program.specs.Parts.{ContractModel, IsWhole, Parts, StateModel, state_ids}
use Rattle.program.specs.WellFormed.{IsType, IsStateOf}
use Rattle.program.specs.declared.types.HeapType.{HeapType}
use Rattle.program.specs.declared.types.HeapType.TheVariants.{Struct, Array, Endpoint}
use Rattle.program.specs.declared.limits.TheConstants.{MOST_STATES}
use Rattle.program.specs.declared.number.StateId.{StateId}
use Rattle.program.specs.Programs.{ProgramModel}
use Rattle.program.specs.declared.types.Side.{Side}
use Rattle.program.specs.declared.number.ContractId.{ContractId}
use Rattle.contracts.specs.Bounds.{sign_to}
use Rattle.contracts.specs.Leaving.{edges_from, name_among, sign_from}
use Rattle.rules.specs.Ends.{IsEndOf, IsNoEnd}
use Rattle.rules.specs.Endpoints.{declared_leaf}
use Rattle.rows.specs.Leaves.{IsNumbered}

-- a sound contract is whole
whole_at : (sounds : List Sound) (contracts : List ContractModel) (n : ℕ) (c : ContractModel) → map sound_parts sounds ≡ map (λ (x : ContractModel). x.parts) contracts → slice_get contracts n ≡ Some c → ∥ IsWhole c.parts ∥₁
whole_at [] [] n c same there = absurd (cc)
whole_at [] (d ∷ contracts) n c same there = absurd (cc)
whole_at (s ∷ sounds) [] n c same there = absurd (cc)
whole_at (s ∷ sounds) (d ∷ contracts) zero c same there =
    let head : sound_parts s ≡ d.parts = cc in
    let here : d ≡ c = cc in
    subst (λ parts. ∥ IsWhole parts ∥₁) (head ∙ ap (λ (x : ContractModel). x.parts) here) s.whole
whole_at (s ∷ sounds) (d ∷ contracts) (suc n) c same there = whole_at sounds contracts n c (cc) there

-- the number of a contract's state is below the limit
state_numbered : (c : ContractModel) (state : StateId) → ∥ IsWhole c.parts ∥₁ → IsStateOf c state → state.0 < MOST_STATES
state_numbered c state whole is =
    ∥∥₁_elim whole le_prop (λ w.
    let within = slice_get_within c.parts.states is.index is.state is.there in
    let size = length-map c.parts.states (λ (s : StateModel). s.id) in
    let at = All-get_or (λ (q : StateId). q.0 < MOST_STATES) (state_ids c.parts) is.index state (omega (arith, within, size)) w.numbered in
    let read = slice_get-map (λ (s : StateModel). s.id) c.parts.states is.index ∙ ap (option_map (λ (s : StateModel). s.id)) is.there in
    subst (λ (q : StateId). q.0 < MOST_STATES) (get_or_from_slice_get (state_ids c.parts) is.index is.state.id state read ∙ is.is) at)

-- and so is that in a leaf that a type declares
pub type_numbered : (sounds : List Sound) (contracts : List ContractModel) (ty : HeapType) → map sound_parts sounds ≡ map (λ (x : ContractModel). x.parts) contracts → IsType contracts ty → IsNumbered (declared_leaf ty)
type_numbered sounds contracts (Struct n) same is = tt
type_numbered sounds contracts (Array element) same is = tt
type_numbered sounds contracts (Endpoint contract side state) same is = endpoint (slice_get contracts contract.0) refl is
  where
    endpoint : (o : Option ContractModel) → slice_get contracts contract.0 ≡ o → IsSomeAnd o (λ c. IsStateOf c state) → state.0 < MOST_STATES
    endpoint None there h = absurd h
    endpoint (Some c) there h = state_numbered c state (whole_at sounds contracts contract.0 c same there) h

pub option_numbered : (sounds : List Sound) (contracts : List ContractModel) (ty : Option HeapType) → map sound_parts sounds ≡ map (λ (x : ContractModel). x.parts) contracts → IfSome ty (IsType contracts) → IfSome ty (λ k. IsNumbered (declared_leaf k))
option_numbered sounds contracts None same is = tt
option_numbered sounds contracts (Some ty) same is = type_numbered sounds contracts ty same is

-- and in the leaves that these types declare
pub types_numbered : (sounds : List Sound) (contracts : List ContractModel) (types : List HeapType) → map sound_parts sounds ≡ map (λ (x : ContractModel). x.parts) contracts → Each (IsType contracts) types → All (λ ty. IsNumbered (declared_leaf ty)) types
types_numbered sounds contracts [] same are = All-nil (λ ty. IsNumbered (declared_leaf ty))
types_numbered sounds contracts (ty ∷ types) same are =
    All-cons (λ k. IsNumbered (declared_leaf k)) ty types (type_numbered sounds contracts ty same are.0) (types_numbered sounds contracts types same are.1)

-- and in those that these variables declare
pub variables_numbered : (sounds : List Sound) (contracts : List ContractModel) (variables : List Variable) → map sound_parts sounds ≡ map (λ (x : ContractModel). x.parts) contracts → Each (λ (v : VariableModel). IsType contracts v.ty) (map variable_model variables)
    → All (λ (v : Variable). IsNumbered (declared_leaf v.ty)) variables
variables_numbered sounds contracts [] same are = All-nil (λ (v : Variable). IsNumbered (declared_leaf v.ty))
variables_numbered sounds contracts (v ∷ variables) same are =
    All-cons (λ (x : Variable). IsNumbered (declared_leaf x.ty)) v variables (type_numbered sounds contracts v.ty same are.0) (variables_numbered sounds contracts variables same are.1)

-- the parts of a contract of the program
pub parts_there : (sounds : List Sound) (contracts : List ContractModel) (n : ℕ) (s : Sound) → map sound_parts sounds ≡ map (λ (x : ContractModel). x.parts) contracts → slice_get sounds n ≡ Some s
    → option_map (λ (c : ContractModel). c.parts) (slice_get contracts n) ≡ Some (sound_parts s)
parts_there sounds contracts n s same there =
    sym (slice_get-map (λ (c : ContractModel). c.parts) contracts n) ∙ ap (λ l. slice_get l n) (sym same) ∙ slice_get-map sound_parts sounds n ∙ ap (option_map sound_parts) there

none_there : (o : Option ContractModel) → option_map (λ (c : ContractModel). c.parts) o ≡ None → o ≡ None
none_there None none = refl
none_there (Some c) none = absurd (cc)

-- there is no contract past the last
pub parts_past : (sounds : List Sound) (contracts : List ContractModel) (n : ℕ) → map sound_parts sounds ≡ map (λ (x : ContractModel). x.parts) contracts → slice_get sounds n ≡ None → slice_get contracts n ≡ None
parts_past sounds contracts n same none =
    none_there (slice_get contracts n)
    (sym (slice_get-map (λ (c : ContractModel). c.parts) contracts n) ∙ ap (λ l. slice_get l n) (sym same) ∙ slice_get-map sound_parts sounds n ∙ ap (option_map sound_parts) none)

-- a value read from the parts
pub read_parts : {X : Type 0} (f : Parts → X) (other : X) (o : Option ContractModel) (parts : Parts) → option_map (λ (c : ContractModel). c.parts) o ≡ Some parts → option_map_or (λ (c : ContractModel). f c.parts) o other ≡ f parts
read_parts f other None parts is = absurd (cc)
read_parts f other (Some c) parts is = let same : c.parts ≡ parts = cc in ap f same

-- the endpoint of a type is a side of its contract
pub end_there : (p : ProgramModel) (contract : ContractId) (side : Side) (state : StateId) (parts : Parts) → option_map (λ (c : ContractModel). c.parts) (slice_get p.contracts contract.0) ≡ Some parts
    → IsEndOf p (Some (Endpoint contract side state)) parts side
end_there p contract side state parts is =
    let edges = read_parts (λ (x : Parts). x.edges) [] (slice_get p.contracts contract.0) parts is in
    record {
      sends = λ q. ap (λ l. edges_from l (sign_from side) q) edges;
      receives = λ q. ap (λ l. edges_from l (sign_to side) q) edges;
      says = λ message. read_parts (λ (x : Parts). name_among x.messages message) [] (slice_get p.contracts contract.0) parts is;
    }

-- it is no endpoint if there is no such contract
pub end_nowhere : (p : ProgramModel) (contract : ContractId) (side : Side) (state : StateId) → slice_get p.contracts contract.0 ≡ None → IsNoEnd p (Some (Endpoint contract side state))
end_nowhere p contract side state none =
    let edges = ap (λ o. option_map_or (λ (c : ContractModel). c.parts.edges) o []) none in
    record {
      sends = λ q. ap (λ l. edges_from l (sign_from side) q) edges;
      receives = λ q. ap (λ l. edges_from l (sign_to side) q) edges;
      says = λ message. ap (λ o. option_map_or (λ (c : ContractModel). name_among c.parts.messages message) o []) none;
    }

-- what holds of each element holds of the one at an index
pub each_at : {X : Type 0} (P : X → Type 0) (xs : List X) (n : ℕ) (x : X) → Each P xs → slice_get xs n ≡ Some x → P x
each_at P [] n x all there = absurd (cc)
each_at P (y ∷ xs) zero x all there = let same : y ≡ x = cc in subst P same all.0
each_at P (y ∷ xs) (suc n) x all there = each_at P xs n x all.1 there
