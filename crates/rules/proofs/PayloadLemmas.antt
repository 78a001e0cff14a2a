-- Payloads of a message or of fields: the one that is given again, and the checks of each.
use Rattle.std.proofs.Common.{◌≡◌, ℕ, ◌+◌, ◌<◌, ◌≤◌, Bool, true, false, ◌||◌, ◌==◌, List, [], ◌∷◌, length, drop, take, map, zip, slice_index_or, None, Some, if◌then◌else◌, refl, sym, ap, ◌∙◌, ◌⊎◌, inl, inr}
use Rattle.std.specs.List.{list_any}
use Rattle.std.proofs.lemmas.List.{at_drop_all, at_drop_more}
use Rattle.std.proofs.lemmas.List.Folds.{list_any_more}
use Rattle.program.specs.Lists.{is_among}
use Rattle.program.specs.declared.types.HeapType.{HeapType}
use Rattle.program.specs.declared.statement.Mention.{Mention}
use Rattle.rules.specs.Arguments.{after_claims, payload}
use Rattle.rules.specs.Repeats.{first_again}
use Rattle.rows.specs.declared.row.Leaf.{Leaf}
use Rattle.rules.proofs.ArgumentLemmas.{zip_nil}

-- whether q is in `besides` or is the variable of one of the first payloads
abbrev pub is_taken : List ℕ → List Mention → ℕ → ℕ → Bool
is_taken besides payloads done q = is_among besides q || list_any (λ x. x.variable.0 == q) (take done payloads)

-- the first `done` payloads were looked at: their variables and `besides` are known, and none was given before
pub record Taken (besides : List ℕ) (payloads : List Mention) (done : ℕ) : Type 0 where
  pub same : (earlier : List ℕ) × ((q : ℕ) → is_among earlier q ≡ is_taken besides payloads done q) × (first_again besides (map payload payloads) ≡ first_again earlier (map payload (drop done payloads)))

or_false : (b : Bool) → b ≡ (b || false)
or_false true = refl
or_false false = refl

-- no payload was looked at
pub taken_first : (besides : List ℕ) (payloads : List Mention) → Taken besides payloads 0
taken_first besides payloads = record { same = (besides, λ q. or_false (is_among besides q), refl) }

again_at : (payloads : List Mention) (done : ℕ) (d : Mention) (earlier : List ℕ) (b : Bool) → done < length payloads → is_among earlier (slice_index_or payloads done d).variable.0 ≡ b
    → first_again earlier (map payload (drop done payloads))
    ≡ (if b then Some (slice_index_or payloads done d) else first_again ((slice_index_or payloads done d).variable.0 ∷ earlier) (map payload (drop (done + 1) payloads)))
again_at payloads done d earlier b lt is =
    let x = slice_index_or payloads done d in
    at_drop_more (λ l. first_again earlier (map payload l)) payloads done d lt
    ∙ ap (λ (t : Bool). if t then Some x else first_again (x.variable.0 ∷ earlier) (map payload (drop (done + 1) payloads))) is

-- the next one was given before
pub taken_again : (besides : List ℕ) (payloads : List Mention) (done : ℕ) (d : Mention) → done < length payloads → is_taken besides payloads done (slice_index_or payloads done d).variable.0 ≡ true
    → Taken besides payloads done → Some (slice_index_or payloads done d) ≡ first_again besides (map payload payloads)
taken_again besides payloads done d lt is h =
    sym (h.same.2 ∙ again_at payloads done d h.same.0 true lt (h.same.1 (slice_index_or payloads done d).variable.0 ∙ is))

one_more : (v e l : Bool) → (v || (e || l)) ≡ (e || (l || v))
one_more true true l = refl
one_more true false true = refl
one_more true false false = refl
one_more false true l = refl
one_more false false true = refl
one_more false false false = refl

-- the next one was not
pub taken_more : (besides : List ℕ) (payloads : List Mention) (done : ℕ) (d : Mention) → done < length payloads → is_taken besides payloads done (slice_index_or payloads done d).variable.0 ≡ false
    → Taken besides payloads done → Taken besides payloads (done + 1)
taken_more besides payloads done d lt is h =
    let v = (slice_index_or payloads done d).variable.0 in
    record {
      same = (
        v ∷ h.same.0,
        λ q. ap (λ b. (v == q) || b) (h.same.1 q) ∙ one_more (v == q) (is_among besides q) (list_any (λ x. x.variable.0 == q) (take done payloads))
            ∙ ap (λ b. is_among besides q || b) (sym (list_any_more (λ (x : Mention). x.variable.0 == q) payloads done d lt)),
        h.same.2 ∙ again_at payloads done d h.same.0 false lt (h.same.1 v ∙ is),
      );
    }

-- all were looked at
pub taken_all : (besides : List ℕ) (payloads : List Mention) (done : ℕ) → length payloads ≤ done → Taken besides payloads done → None ≡ first_again besides (map payload payloads)
taken_all besides payloads done le h = sym (h.same.2 ∙ at_drop_all (λ l. first_again h.same.0 (map payload l)) payloads done le)

-- types and payloads in pairs, from index i on
pub taken_side : (types : List HeapType) (payloads : List Mention) (i : ℕ) (d : HeapType) (e : Mention) → i < length types → i < length payloads
    → zip (drop i types) (map payload (drop i payloads)) ≡ (slice_index_or types i d, payload (slice_index_or payloads i e)) ∷ zip (drop (i + 1) types) (map payload (drop (i + 1) payloads))
taken_side types payloads i d e first second =
    at_drop_more (λ l. zip l (map payload (drop i payloads))) types i d first
    ∙ at_drop_more (λ l. zip (slice_index_or types i d ∷ drop (i + 1) types) (map payload l)) payloads i e second

-- one of the lists is at its end
pub taken_none : (types : List HeapType) (payloads : List Mention) (i : ℕ) → (length types ≤ i) ⊎ (length payloads ≤ i) → zip (drop i types) (map payload (drop i payloads)) ≡ []
taken_none types payloads i (inl le) = at_drop_all (λ l. zip l (map payload (drop i payloads))) types i le
taken_none types payloads i (inr le) = at_drop_all (λ l. zip (drop i types) (map payload l)) payloads i le ∙ zip_nil (drop i types) [] refl

-- one more payload is gone
pub taken_gone : (row less : List Leaf) (payloads : List Mention) (done : ℕ) (d : Mention) → done < length payloads → less ≡ after_claims row (payload (slice_index_or payloads done d) ∷ [])
    → after_claims less (map payload (drop (done + 1) payloads)) ≡ after_claims row (map payload (drop done payloads))
taken_gone row less payloads done d lt is =
    sym (at_drop_more (λ l. after_claims row (map payload l)) payloads done d lt ∙ ap (λ r. after_claims r (map payload (drop (done + 1) payloads))) (sym is))
