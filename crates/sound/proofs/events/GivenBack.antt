-- When a method ends, its caller has back what it lent.
use Rattle.std.proofs.Common.{◌≡◌, ◌≢◌, ◌==◌, ℕ, zero, suc, ◌+◌, ◌<◌, Bool, true, false, List, [], ◌∷◌, Some, None, length, map, refl}
use Rattle.std.proofs.Common.{sym, ap, ◌∙◌, subst, arith, inl, inr, ⊎_elim}
use Rattle.std.proofs.lemmas.Bool.{cases_Bool, cases_eq, cases_lt, eqb-true}
use Rattle.std.specs.List.{range_with_len}
use Rattle.std.proofs.lemmas.Bool.{cases_lt}
use Rattle.std.specs.Prelude.{◌≤◌}
use Rattle.std.specs.Prelude.{Option, ◌⊎◌, ◌||◌, slice_get, if◌then◌else◌}
use Rattle.program.specs.Lists.{Each, is_among}
use Rattle.program.specs.Methods.{VariableModel}
use Rattle.program.specs.WellFormed.{is_parameter}
use Rattle.program.specs.declared.call.Argument.{Argument}
use Rattle.program.specs.declared.types.HeapType.{HeapType}
use Rattle.program.specs.declared.method.Role.TheVariants as role
use Rattle.program.specs.declared.method.Role.{Role}
use Rattle.rules.specs.Arguments.{after_claims}
use Rattle.rules.specs.Endpoints.{declared_leaf}
use Rattle.sound.proofs.Parameters.{parameters_of}
use Rattle.rules.specs.Mentions.{is_lent_role}
use Rattle.rules.specs.Outcomes.{Check}
use Rattle.rows.specs.Rows.{leaf_at}
use Rattle.rows.specs.declared.row.Leaf.TheVariants as leaf
use Rattle.rows.specs.declared.row.Leaf.{Leaf}
use Rattle.machine.specs.World.{Block, read, let_go}
use Rattle.sound.specs.Operands.{AreArguments}
use Rattle.sound.proofs.Arguments.{NotClaimed, standing_of, go_long, go_other, numbers, row_other, or_false}
use Rattle.sound.proofs.Checks.{Passed, number}
use Rattle.sound.proofs.events.Entering.{WasGood}
use Rattle.sound.proofs.Invariant.{HasLeaf, LeafFits, RowFits, one_at, standing, as_claimed, AreLent, IsLent, by_role, with_first}
use Rattle.sound.proofs.Quiet.{fits_type, type_same}
use Rattle.rules.proofs.RowLemmas.{claimed_size}
use Rattle.machine.proofs.ChangeLemmas.{eqb_same, true≢false}

-- ---- checks over lists
pub passed_range : (F : ℕ → Check) (a n v : ℕ) → Passed (map F (range_with_len a n)) → a ≤ v → v < a + n → F v ≡ None
passed_range F a zero v h from less = absurd (omega arith)
passed_range F a (suc n) v h from less =
    ⊎_elim (λ e. ap F e ∙ h.0)
    (λ apart. let next : a + 1 ≤ v = above apart in let short : v < a + 1 + n = omega arith in passed_range F (a + 1) n v h.1 next short)
    (cases_eq v a)
  where
    above : v ≢ a → a + 1 ≤ v
    above apart = ⊎_elim (λ short. omega arith) (λ most. absurd (apart (omega arith))) (cases_lt a v)

-- a property of each argument's number, for a number among them
pub each_number : (P : ℕ → Type 0) (arguments : List Argument) (u : ℕ) → Each (λ a. P (number a)) arguments
    → is_among (numbers arguments) u ≡ true → P u
each_number P [] u h k = absurd (cc)
each_number P (a ∷ arguments) u h k =
    ⊎_elim (λ e. subst P (eqb-true (number a) u e) h.0)
    (λ e. each_number P arguments u h.1 (sym (ap (λ (b : Bool). b || is_among (numbers arguments) u) e) ∙ k)) (cases_Bool (number a == u))

pub passed_has : (F : ℕ → Check) (xs : List ℕ) (v : ℕ) → Passed (map F xs) → is_among xs v ≡ true → F v ≡ None
passed_has F [] v h has = absurd (cc)
passed_has F (x ∷ xs) v h has =
    ⊎_elim (λ e. ap F (sym (eqb-true x v e)) ∙ h.0) (λ n. passed_has F xs v h.1 (sym (ap (λ (b : Bool). b || is_among xs v) n) ∙ has))
    (cases_Bool (x == v))

pub away : (arguments : List Argument) (u : ℕ) → is_among (numbers arguments) u ≡ false → NotClaimed (as_claimed arguments) u
away [] u h = tt
away (a ∷ arguments) u h =
    let k = or_false (number a == u) (is_among (numbers arguments) u) h in
    ((λ c same. true≢false (eqb_same (number a) u same) k.0), away arguments u k.1)

abbrev pub FitsAt : List Block → List VariableModel → List (Option ℕ) → List Leaf → ℕ → Type 0
FitsAt bs variables vs row u = (y : VariableModel) → slice_get variables u ≡ Some y → LeafFits bs y.ty (read vs u) (leaf_at row u)

pub put_back : (bs : List Block) (variables : List VariableModel) (vs : List (Option ℕ)) (row : List Leaf) (arguments : List Argument)
    → RowFits bs variables (let_go vs (as_claimed arguments)) (after_claims row (as_claimed arguments))
    → Each (λ a. FitsAt bs variables vs row (number a)) arguments → RowFits bs variables vs row
put_back bs variables vs row arguments h back = record {
  long = sym (go_long vs (as_claimed arguments)) ∙ h.long;
  row_long = sym (claimed_size row (as_claimed arguments)) ∙ h.row_long;
  each = λ u y there. by u y there (cases_Bool (is_among (numbers arguments) u));
}
  where
    by : (u : ℕ) (y : VariableModel) → slice_get variables u ≡ Some y
        → (is_among (numbers arguments) u ≡ true) ⊎ (is_among (numbers arguments) u ≡ false)
        → LeafFits bs y.ty (read vs u) (leaf_at row u)
    by u y there (inl has) = each_number (FitsAt bs variables vs row) arguments u back has y there
    by u y there (inr out) =
        subst (λ (x : Option ℕ). LeafFits bs y.ty x (leaf_at row u)) (go_other vs (as_claimed arguments) u (away arguments u out))
        (subst (λ (l : Leaf). LeafFits bs y.ty (read (let_go vs (as_claimed arguments)) u) l)
        (row_other row (as_claimed arguments) u (away arguments u out)) (h.each u y there))

-- a lent parameter has its declared leaf when its method ends
abbrev pub LentEnds : List Block → List VariableModel → List (Option ℕ) → Type 0
LentEnds bs xs ys = (u : ℕ) (x : VariableModel) (at : ℕ) → slice_get xs u ≡ Some x → is_lent_role x.role ≡ true → read ys u ≡ Some at
    → HasLeaf bs x.ty at (declared_leaf x.ty)

-- the variable of an argument, after the call
pub record GivenBack (bs : List Block) (variables : List VariableModel) (mine : List (Option ℕ)) (before : List Leaf)
    (a : Argument) : Type 0 where
  pub gone : a.claimed ≡ true → read mine (number a) ≡ None
  pub lent : a.claimed ≡ false
      → (at : ℕ) × (read mine (number a) ≡ Some at)
      × ((y : VariableModel) → slice_get variables (number a) ≡ Some y → HasLeaf bs y.ty at (leaf_at before (number a)))

pub was_has : (bs : List Block) (k : HeapType) (a : ℕ) (l : Leaf) → HasLeaf bs k a (declared_leaf k) → WasGood bs k a l → HasLeaf bs k a l
was_has bs k a l h (inl e) = subst (λ (x : Leaf). HasLeaf bs k a x) (sym e) h
was_has bs k a l h (inr c) =
    subst (λ (x : Leaf). HasLeaf bs k a x) (sym c.0) (record { there = h.there; ty = h.ty; state = (c.1, c.2) })

pub all_back : (bs : List Block) (variables : List VariableModel) (mine : List (Option ℕ)) (before : List Leaf) (xs : List VariableModel)
    (ys : List (Option ℕ)) (arguments : List Argument)
    → AreArguments variables (parameters_of xs) arguments → LentEnds bs xs ys → AreLent bs mine before xs ys arguments
    → Each (GivenBack bs variables mine before) arguments
all_back bs variables mine before [] ys [] are ends h = tt
all_back bs variables mine before [] ys (a ∷ arguments) are ends h = absurd (cc)
all_back bs variables mine before (x ∷ xs) [] arguments are ends h = absurd h
all_back bs variables mine before (x ∷ xs) (y ∷ ys) arguments are ends h =
    by x.role refl arguments are h (λ more k l. all_back bs variables mine before xs ys more k
    (λ u z at there lent is. ends (suc u) z at there lent is) l)
  where
    by : (r : Role) → x.role ≡ r → (as' : List Argument)
        → AreArguments variables (if is_parameter r then x ∷ parameters_of xs else parameters_of xs) as'
        → by_role r (AreLent bs mine before xs ys as')
        (with_first (λ a. (a.claimed ≡ false) × IsLent bs x.ty (read mine a.mention.variable.0) y (leaf_at before a.mention.variable.0))
        (AreLent bs mine before xs ys) as')
        (with_first (λ a. (a.claimed ≡ true) × (read mine a.mention.variable.0 ≡ None)) (AreLent bs mine before xs ys) as')
        → ((more : List Argument) → AreArguments variables (parameters_of xs) more → AreLent bs mine before xs ys more
        → Each (GivenBack bs variables mine before) more) → Each (GivenBack bs variables mine before) as'
    by role.Local is as' k l go = go as' k l
    by role.Lent is [] k l go = tt
    by role.Lent is (a ∷ as') k l go = (
      record {
        gone = λ c. absurd (true≢false c l.0.0);
        lent = λ c. (
          l.0.1.at,
          l.0.1.mine_is,
          λ z there.
              fits_type bs x.ty z.ty (Some l.0.1.at) (leaf_at before (number a))
              (sym (type_same variables (number a) x.ty z k.0.0 there))
              (was_has bs x.ty l.0.1.at (leaf_at before (number a))
              (ends 0 x l.0.1.at refl (ap is_lent_role is) l.0.1.theirs_is) l.0.1.leaf),
        );
      },
      go as' k.1 l.1,
    )
    by role.Claimed is [] k l go = tt
    by role.Claimed is (a ∷ as') k l go = (record { gone = λ c. l.0.1; lent = λ c. absurd (true≢false l.0.0 c) }, go as' k.1 l.1)

pub fits_back : (bs : List Block) (variables : List VariableModel) (mine : List (Option ℕ)) (before : List Leaf)
    (total arguments : List Argument) → Each (GivenBack bs variables mine before) arguments
    → Each (λ a. a.claimed ≡ false → NotClaimed total (number a)) arguments
    → Each (λ a. a.claimed ≡ true → leaf_at (after_claims before total) (number a) ≡ leaf.Nothing) arguments
    → Each (λ a. FitsAt bs variables mine (after_claims before total) (number a)) arguments
fits_back bs variables mine before total [] h n z = tt
fits_back bs variables mine before total (a ∷ arguments) h n z =
    (λ y there. by y there (cases_Bool a.claimed), fits_back bs variables mine before total arguments h.1 n.1 z.1)
  where
    by : (y : VariableModel) → slice_get variables (number a) ≡ Some y → (a.claimed ≡ true) ⊎ (a.claimed ≡ false)
        → LeafFits bs y.ty (read mine (number a)) (leaf_at (after_claims before total) (number a))
    by y there (inl c) = subst (λ (x : Option ℕ). LeafFits bs y.ty x (leaf_at (after_claims before total) (number a))) (sym (h.0.gone c))
        (z.0 c)
    by y there (inr c) =
        let b = h.0.lent c in
        subst (λ (x : Option ℕ). LeafFits bs y.ty x (leaf_at (after_claims before total) (number a))) (sym b.1)
        (subst (λ (l : Leaf). HasLeaf bs y.ty b.0 l) (sym (row_other before total (number a) (n.0 c))) (b.2 y there))

-- if all but the lent parameters have nothing, a frame has what was lent to it
pub lent_counts : (bs : List Block) (mine : List (Option ℕ)) (before : List Leaf) (xs : List VariableModel) (ys : List (Option ℕ))
    (arguments : List Argument) (n : ℕ)
    → length ys ≡ length xs → ((u : ℕ) (x : VariableModel) → slice_get xs u ≡ Some x → is_lent_role x.role ≡ false → read ys u ≡ None)
    → AreLent bs mine before xs ys arguments → standing n ys ≡ standing_of n mine arguments
lent_counts bs mine before [] [] [] n long none h = refl
lent_counts bs mine before [] [] (a ∷ arguments) n long none h = absurd (cc)
lent_counts bs mine before [] (y ∷ ys) arguments n long none h = absurd (omega arith)
lent_counts bs mine before (x ∷ xs) [] arguments n long none h = absurd h
lent_counts bs mine before (x ∷ xs) (y ∷ ys) arguments n long none h =
    let short : length ys ≡ length xs = omega arith in
    by x.role refl arguments h (λ more l. lent_counts bs mine before xs ys more n short (λ u z there own. none (suc u) z there own) l)
  where
    by : (r : Role) → x.role ≡ r → (as' : List Argument)
        → by_role r (AreLent bs mine before xs ys as')
        (with_first (λ a. (a.claimed ≡ false) × IsLent bs x.ty (read mine a.mention.variable.0) y (leaf_at before a.mention.variable.0))
        (AreLent bs mine before xs ys) as')
        (with_first (λ a. (a.claimed ≡ true) × (read mine a.mention.variable.0 ≡ None)) (AreLent bs mine before xs ys) as')
        → ((more : List Argument) → AreLent bs mine before xs ys more → standing n ys ≡ standing_of n mine more)
        → one_at n y + standing n ys ≡ standing_of n mine as'
    by role.Local is as' l go = let e = go as' l in let z : one_at n y ≡ 0 =
        ap (one_at n) (none 0 x refl (ap is_lent_role is)) in omega arith
    by role.Lent is [] l go = absurd l
    by role.Lent is (a ∷ as') l go = let e = go as' l.1 in let z : one_at n y ≡ one_at n (read mine (number a)) =
        ap (one_at n) (l.0.1.theirs_is ∙ sym l.0.1.mine_is) in omega arith
    by role.Claimed is [] l go = absurd l
    by role.Claimed is (a ∷ as') l go =
        let e = go as' l.1 in
        let z : one_at n y ≡ 0 = ap (one_at n) (none 0 x refl (ap is_lent_role is)) in
        let k : one_at n (read mine (number a)) ≡ 0 = ap (one_at n) l.0.1 in
        omega arith
