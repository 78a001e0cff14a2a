-- The statuses of vertices in a search.
use Rattle.std.proofs.Common.{◌≡◌, ℕ, suc, ◌+◌, ◌<◌, List, [], ◌∷◌, length, cond, refl, ap, ◌∙◌, arith, inl, inr, ⊎_elim, false}
use Rattle.std.specs.Prelude.{◌⊎◌, Contains, count_by}
use Rattle.std.proofs.Math.ListN.{set}
use Rattle.std.proofs.lemmas.List.{get_or-set_same, get_or-set_other, get_or_past, set_past}
use Rattle.std.proofs.lemmas.List.Sums.{sum_by-set, sum_by-cons}
use Rattle.std.proofs.lemmas.Bool.{cases_eq, cases_lt}
use Rattle.contracts.specs.declared.components.VertexStatus.{VertexStatus}
use Rattle.contracts.specs.declared.components.VertexStatus.TheVariants.{New, Pending, Complete}
use Rattle.contracts.specs.Searches.{is_new, status_at, set_at_each}

pub status_cases : (s : VertexStatus) → (s ≡ New) ⊎ (((p : ℕ) × (s ≡ Pending p)) ⊎ (s ≡ Complete))
status_cases New = inl refl
status_cases (Pending p) = inr (inl (p, refl))
status_cases Complete = inr (inr refl)

-- only a vertex of the list is pending
pub pending_there : (statuses : List VertexStatus) (v p : ℕ) → status_at statuses v ≡ Pending p → v < length statuses
pending_there statuses v p is = ⊎_elim
    (λ lt. lt)
    (λ past. let e = get_or_past statuses v New past in absurd (cc))
    (cases_lt v (length statuses))

pub pending_same : (p q : ℕ) → Pending p ≡ Pending q → p ≡ q
pending_same p q same = cc

-- the number of new vertices stays the same, if none was new at these indices
pub written_new : (statuses : List VertexStatus) (vs : List ℕ) (x : VertexStatus) → is_new x ≡ false → ((v : ℕ) → Contains vs v → is_new (status_at statuses v) ≡ false) → count_by is_new (set_at_each statuses vs x) ≡ count_by is_new statuses
written_new statuses [] x old met = refl
written_new statuses (v ∷ vs) x old met = ⊎_elim
    (λ lt. let e = sum_by-set f statuses v x New lt in
    let none : f x ≡ 0 = ap (λ b. cond b 1 0) old in
    let had : f (status_at statuses v) ≡ 0 = ap (λ b. cond b 1 0) (met v (0, omega arith, refl)) in
    let rest = written_new (set statuses v x) vs x old (λ u c. ⊎_elim
    (λ same. ap is_new (ap (status_at (set statuses v x)) same ∙ get_or-set_same statuses v x New lt) ∙ old)
    (λ other. ap is_new (get_or-set_other statuses v u x New other) ∙ met u (let k = c.1 in (suc c.0, omega (arith, k), c.2)))
    (cases_eq u v)) in
    omega (arith, e, none, had, rest))
    (λ past. let same = set_past statuses v x past in
    ap (λ l. count_by is_new (set_at_each l vs x)) same ∙ written_new statuses vs x old (λ u c. met u (let k = c.1 in (suc c.0, omega (arith, k), c.2))))
    (cases_lt v (length statuses))
  where
    f : VertexStatus → ℕ
    f s = cond (is_new s) 1 0

-- if no vertex is new, their number is 0
pub none_new : (statuses : List VertexStatus) → ((v : ℕ) → v < length statuses → is_new (status_at statuses v) ≡ false) → count_by is_new statuses ≡ 0
none_new [] all = refl
none_new (x ∷ xs) all =
    let f : VertexStatus → ℕ = λ s. cond (is_new s) 1 0 in
    let e : count_by is_new (x ∷ xs) ≡ f x + count_by is_new xs = sum_by-cons f x xs in
    let first : f x ≡ 0 = ap (λ b. cond b 1 0) (all 0 (omega arith)) in
    let rest = none_new xs (λ v lt. all (suc v) (omega (arith, lt))) in
    omega (arith, e, first, rest)
