-- Switches, endpoint by endpoint and edge by edge.
use Rattle.std.proofs.Common.{◌≡◌, ℕ, ◌+◌, ◌<◌, ◌≤◌, List, [], ◌∷◌, ◌++◌, length, drop, map, flat_map, slice_index_or, Some, sym, ap, ◌∙◌, append-nil, append_assoc, refl, set, ◌⊎◌, inl, inr}
use Rattle.std.specs.Prelude.{is_none}
use Rattle.std.proofs.lemmas.List.{at_drop_all, at_drop_more}
use Rattle.flow.specs.Cases.{EntranceModel, case_for}
use Rattle.program.specs.declared.contract.Edge.{Edge}
use Rattle.program.specs.declared.statement.Mention.{Mention}
use Rattle.rules.specs.Outcomes.{Check, breach_at, refuse_if}
use Rattle.rules.specs.Switches.{bound_leaves}
use Rattle.rules.specs.declared.breach.Reason.TheVariants.{NotCovered}
use Rattle.rows.specs.declared.row.Leaf.{Leaf}
use Rattle.rules.specs.Endpoints.{declared_leaf}
use Rattle.program.specs.declared.types.HeapType.{HeapType}
use Rattle.program.specs.declared.number.VarId.{VarId}

-- the checks that the message of each of these edges has a case at the endpoint
abbrev pub edge_checks : List EntranceModel → Mention → List Edge → List Check
edge_checks cases e edges =
    map (λ d. refuse_if (is_none (case_for cases e.variable.0 (Some d.message.0))) (breach_at e.place (NotCovered e.variable d.message))) edges

-- the list so far and what the rest will add are the whole list
pub record Adds {X Y : Type 0} (one : X → List Y) (old : List Y) (xs : List X) (now : List Y) (done : ℕ) : Type 0 where
  pub all : now ++ flat_map one (drop done xs) ≡ old ++ flat_map one xs

pub adds_first : {X Y : Type 0} (one : X → List Y) (old now : List Y) (xs : List X) → now ≡ old → Adds one old xs now 0
adds_first one old now xs is = record { all = ap (λ l. l ++ flat_map one xs) is }

pub adds_more : {X Y : Type 0} (one : X → List Y) (old now more : List Y) (xs : List X) (done : ℕ) (d : X) → done < length xs → more ≡ now ++ one (slice_index_or xs done d) → Adds one old xs now done → Adds one old xs more (done + 1)
adds_more one old now more xs done d lt is h =
    let x = slice_index_or xs done d in
    let rest = flat_map one (drop (done + 1) xs) in
    record { all = ap (λ l. l ++ rest) is ∙ append_assoc now (one x) rest ∙ ap (λ l. now ++ l) (sym (at_drop_more (flat_map one) xs done d lt)) ∙ h.all }

pub adds_all : {X Y : Type 0} (one : X → List Y) (old now : List Y) (xs : List X) (done : ℕ) → length xs ≤ done → Adds one old xs now done → now ≡ old ++ flat_map one xs
adds_all one old now xs done le h = sym (ap (λ l. now ++ l) (at_drop_all (flat_map one) xs done le) ∙ append-nil now) ∙ h.all

-- nothing more is bound
pub bound_none : (row : List Leaf) (bound : List VarId) (types : List HeapType) (n : ℕ) → (length bound ≤ n) ⊎ (length types ≤ n) → bound_leaves row (drop n bound) (drop n types) ≡ row
bound_none row bound types n (inl le) = at_drop_all (λ l. bound_leaves row l (drop n types)) bound n le ∙ no_bound (drop n types)
  where
    no_bound : (ks : List HeapType) → bound_leaves row [] ks ≡ row
    no_bound [] = refl
    no_bound (k ∷ ks) = refl
bound_none row bound types n (inr le) = at_drop_all (bound_leaves row (drop n bound)) types n le ∙ no_type (drop n bound)
  where
    no_type : (vs : List VarId) → bound_leaves row vs [] ≡ row
    no_type [] = refl
    no_type (v ∷ vs) = refl

-- one more is bound
pub bound_more : (row less : List Leaf) (bound : List VarId) (types : List HeapType) (n : ℕ) (d : VarId) (e : HeapType) → n < length bound → n < length types → less ≡ set row (slice_index_or bound n d).0 (declared_leaf (slice_index_or types n e))
    → bound_leaves less (drop (n + 1) bound) (drop (n + 1) types) ≡ bound_leaves row (drop n bound) (drop n types)
bound_more row less bound types n d e first second is =
    sym (at_drop_more (λ l. bound_leaves row l (drop n types)) bound n d first
    ∙ at_drop_more (bound_leaves row (slice_index_or bound n d ∷ drop (n + 1) bound)) types n e second
    ∙ ap (λ r. bound_leaves r (drop (n + 1) bound) (drop (n + 1) types)) (sym is))
