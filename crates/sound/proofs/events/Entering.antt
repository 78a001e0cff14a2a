-- A frame that is entered: what its parameters have.
use Rattle.std.proofs.Common.{◌≡◌, ◌==◌, ℕ, zero, suc, ◌<◌, true, false, not, List, [], ◌∷◌, Some, None, length, map, refl, sym, ap, ◌∙◌}
use Rattle.std.proofs.Common.{subst, arith, inl, inr}
use Rattle.std.proofs.lemmas.Bool.{eqb-true}
use Rattle.std.specs.Prelude.{Option, ◌⊎◌, slice_get, if◌then◌else◌}
use Rattle.program.specs.Lists.{Each}
use Rattle.program.specs.Methods.{MethodModel, VariableModel}
use Rattle.program.specs.Programs.{ProgramModel}
use Rattle.program.specs.WellFormed.{is_end, is_parameter, is_claimed}
use Rattle.program.specs.declared.call.Argument.{Argument}
use Rattle.program.specs.declared.types.HeapType.TheVariants.{Endpoint, Struct, Array}
use Rattle.program.specs.declared.types.HeapType.{HeapType}
use Rattle.program.specs.declared.method.Role.TheVariants as role
use Rattle.program.specs.declared.method.Role.{Role}
use Rattle.rules.specs.Endpoints.{declared_leaf, is_wrong}
use Rattle.sound.proofs.Parameters.{parameters_of, types_among}
use Rattle.rows.specs.Leaves.{is_something}
use Rattle.rows.specs.Rows.{leaf_at, is_owned}
use Rattle.sound.proofs.Parameters.{each_argument}
use Rattle.rules.specs.Steps.{entry_leaf}
use Rattle.rows.specs.declared.row.Leaf.TheVariants as leaf
use Rattle.rows.specs.declared.row.Leaf.{Leaf}
use Rattle.machine.specs.Frames.{variables_at_entry}
use Rattle.machine.specs.World.{Block, read, cut_off}
use Rattle.sound.specs.Operands.{IsOfType, AreArguments}
use Rattle.sound.proofs.Arguments.{standing_of}
use Rattle.sound.proofs.Checks.{Passed, not_refused, owned_there, number}
use Rattle.sound.proofs.Invariant.{HasLeaf, LeafFits, RowFits, IsOn, standing, AreLent, by_role}
use Rattle.sound.proofs.Kept.{some_same}
use Rattle.sound.proofs.Lists.{element_at, not_false}
use Rattle.sound.proofs.Quiet.{fits_type}
use Rattle.machine.proofs.ChangeLemmas.{true≢false}

-- ---- an argument that is accepted
abbrev pub WasGood : List Block → HeapType → ℕ → Leaf → Type 0
WasGood bs k a l = (l ≡ declared_leaf k) ⊎ ((l ≡ leaf.CutOff) × (is_end k ≡ true) × (cut_off bs a ≡ true))

pub accepted : (bs : List Block) (k : HeapType) (a : ℕ) (l : Leaf) → HasLeaf bs k a l → is_wrong k l ≡ false → WasGood bs k a l
accepted bs (Struct n) a leaf.Nothing h ok = absurd h.state
accepted bs (Struct n) a leaf.Block h ok = inl refl
accepted bs (Struct n) a leaf.CutOff h ok = absurd (let e = h.state.0 in cc)
accepted bs (Struct n) a (leaf.State q) h ok = absurd (let e = h.state.0 in cc)
accepted bs (Array n) a leaf.Nothing h ok = absurd h.state
accepted bs (Array n) a leaf.Block h ok = inl refl
accepted bs (Array n) a leaf.CutOff h ok = absurd (let e = h.state.0 in cc)
accepted bs (Array n) a (leaf.State q) h ok = absurd (let e = h.state.0 in cc)
accepted bs (Endpoint c side state) a leaf.Nothing h ok = absurd h.state
accepted bs (Endpoint c side state) a leaf.Block h ok = absurd (let e = h.state in cc)
accepted bs (Endpoint c side state) a leaf.CutOff h ok = inr (refl, refl, h.state.1)
accepted bs (Endpoint c side state) a (leaf.State q) h ok = inl (ap leaf.State (eqb-true q state.0 (not_false (q == state.0) ok)))

declared_cut : (bs : List Block) (k : HeapType) (a : ℕ) → is_end k ≡ true → cut_off bs a ≡ true → IsOn bs k a (declared_leaf k)
declared_cut bs (Struct n) a e c = absurd (cc)
declared_cut bs (Array n) a e c = absurd (cc)
declared_cut bs (Endpoint d side state) a e c = (refl, inr c)

pub declared_has : (bs : List Block) (k : HeapType) (a : ℕ) (l : Leaf) → HasLeaf bs k a l → WasGood bs k a l → HasLeaf bs k a (declared_leaf k)
declared_has bs k a l h (inl e) = subst (λ (x : Leaf). HasLeaf bs k a x) e h
declared_has bs k a l h (inr c) = record { there = h.there; ty = h.ty; state = declared_cut bs k a c.1 c.2 }

-- the address and the leaf of a variable that has something
pub record RowOwned (bs : List Block) (variables : List VariableModel) (vs : List (Option ℕ)) (row : List Leaf) (v : ℕ) : Type 0 where
  pub at : ℕ
  pub is : read vs v ≡ Some at
  pub leaf : (y : VariableModel) → slice_get variables v ≡ Some y → HasLeaf bs y.ty at (leaf_at row v)

pub row_owned : (bs : List Block) (variables : List VariableModel) (vs : List (Option ℕ)) (row : List Leaf) (v : ℕ)
    → RowFits bs variables vs row → is_owned row v ≡ true → RowOwned bs variables vs row v
row_owned bs variables vs row v fits owned =
    let within : v < length row = owned_there row v owned in
    let row_long = fits.row_long in
    let short : v < length variables = omega arith in
    let found = element_at variables v short in
    by (read vs v) refl found.0.ty (fits.each v found.0 found.1)
  where
    by : (x : Option ℕ) → read vs v ≡ x → (k : HeapType) → LeafFits bs k x (leaf_at row v) → RowOwned bs variables vs row v
    by None e k fit = absurd (true≢false owned (ap is_something fit))
    by (Some a) e k fit =
        record { at = a; is = e; leaf = λ y at. subst (λ (x : Option ℕ). LeafFits bs y.ty x (leaf_at row v)) e (fits.each v y at) }

-- an argument before a call
pub record ArgFits (bs : List Block) (vs : List (Option ℕ)) (row : List Leaf) (k : HeapType) (a : Argument) : Type 0 where
  pub at : ℕ
  pub is : read vs (number a) ≡ Some at
  pub leaf : HasLeaf bs k at (declared_leaf k)
  pub was : WasGood bs k at (leaf_at row (number a))

abbrev pub ArgsFit : List Block → List (Option ℕ) → List Leaf → List HeapType → List Argument → Type 0
ArgsFit bs vs row [] [] = Unit {0}
ArgsFit bs vs row (k ∷ types) (a ∷ arguments) = ArgFits bs vs row k a × ArgsFit bs vs row types arguments
ArgsFit bs vs row _ _ = ⊥

pub arg_fits : (bs : List Block) (variables : List VariableModel) (vs : List (Option ℕ)) (row : List Leaf) (k : HeapType) (a : Argument)
    → RowFits bs variables vs row → IsOfType variables k (number a)
    → is_owned row (number a) ≡ true → is_wrong k (leaf_at row (number a)) ≡ false → ArgFits bs vs row k a
arg_fits bs variables vs row k a fits ty owned right =
    let o = row_owned bs variables vs row (number a) fits owned in
    let h : HasLeaf bs k o.at (leaf_at row (number a)) =
    fits_type bs ty.variable.ty k (Some o.at) (leaf_at row (number a)) ty.ty (o.leaf ty.variable ty.there) in
    let good = accepted bs k o.at (leaf_at row (number a)) h right in
    record { at = o.at; is = o.is; leaf = declared_has bs k o.at (leaf_at row (number a)) h good; was = good }

pub args_fit : (p : ProgramModel) (m : MethodModel) (bs : List Block) (vs : List (Option ℕ)) (row : List Leaf) (xs : List VariableModel)
    (arguments : List Argument)
    → RowFits bs m.variables vs row → AreArguments m.variables xs arguments
    → Passed (each_argument m row (map (λ v. v.ty) xs) arguments) → ArgsFit bs vs row (map (λ v. v.ty) xs) arguments
args_fit p m bs vs row [] [] fits are passed = tt
args_fit p m bs vs row [] (a ∷ arguments) fits are passed = absurd are
args_fit p m bs vs row (x ∷ xs) [] fits are passed = absurd are
args_fit p m bs vs row (x ∷ xs) (a ∷ arguments) fits are passed = (
  arg_fits bs m.variables vs row x.ty a fits are.0.0
      (not_false (is_owned row (number a)) (not_refused (not (is_owned row (number a))) _ passed.0))
      (not_refused (is_wrong x.ty (leaf_at row (number a))) _ passed.1.1.0),
  args_fit p m bs vs row xs arguments fits are.1 passed.1.1.1,
)

-- ---- the frame
row_cons : (bs : List Block) (x : VariableModel) (xs : List VariableModel) (y : Option ℕ) (ys : List (Option ℕ)) (l : Leaf)
    (row : List Leaf) → LeafFits bs x.ty y l → RowFits bs xs ys row → RowFits bs (x ∷ xs) (y ∷ ys) (l ∷ row)
row_cons bs x xs y ys l row fit h = record { long = ap suc h.long; row_long = ap suc h.row_long; each = each }
  where
    each : (v : ℕ) (z : VariableModel) → slice_get (x ∷ xs) v ≡ Some z → LeafFits bs z.ty (read (y ∷ ys) v) (leaf_at (l ∷ row) v)
    each zero z there = subst (λ (u : VariableModel). LeafFits bs u.ty y l) (some_same x z there) fit
    each (suc v) z there = h.each v z there

abbrev pub given_of : List (Option ℕ) → List Argument → List (Option ℕ)
given_of vs arguments = map (λ a. read vs (number a)) arguments

-- the variables and leaves of a frame that is entered, and what the caller keeps
pub record Entered (bs : List Block) (vs us : List (Option ℕ)) (row : List Leaf) (xs : List VariableModel) (ys : List (Option ℕ))
    (arguments : List Argument) : Type 0 where
  pub fits : RowFits bs xs ys (map (λ v. entry_leaf v.role v.ty) xs)
  pub lent : AreLent bs us row xs ys arguments
  pub counts : (n : ℕ) → standing n ys ≡ standing_of n vs arguments

at_role : (r s : Role) (P Q R : Type 0) → r ≡ s → by_role s P Q R → by_role r P Q R
at_role r s P Q R e h = subst (λ (t : Role). by_role t P Q R) (sym e) h

pub entered_all : (variables : List VariableModel) (bs : List Block) (vs us : List (Option ℕ)) (row : List Leaf) (xs : List VariableModel)
    (arguments : List Argument)
    → ArgsFit bs vs row (types_among xs) arguments → AreArguments variables (parameters_of xs) arguments
    → Each (λ b. b.claimed ≡ true → read us (number b) ≡ None) arguments
    → Each (λ b. b.claimed ≡ false → read us (number b) ≡ read vs (number b)) arguments
    → Entered bs vs us row xs (variables_at_entry xs (given_of vs arguments)) arguments
entered_all variables bs vs us row [] [] fit are none same =
    record { fits = record { long = refl; row_long = refl; each = λ v z there. absurd (cc) }; lent = refl; counts = λ n. refl }
entered_all variables bs vs us row [] (a ∷ arguments) fit are none same = absurd fit
entered_all variables bs vs us row (x ∷ xs) [] fit are none same =
    by x.role refl fit are (λ f k. entered_all variables bs vs us row xs [] f k none same)
  where
    by : (r : Role) → x.role ≡ r
        → ArgsFit bs vs row (map (λ v. v.ty) (if is_parameter r then x ∷ parameters_of xs else parameters_of xs)) []
        → AreArguments variables (if is_parameter r then x ∷ parameters_of xs else parameters_of xs) []
        → (ArgsFit bs vs row (types_among xs) [] → AreArguments variables (parameters_of xs) []
        → Entered bs vs us row xs (variables_at_entry xs []) []) → Entered bs vs us row (x ∷ xs) (None ∷ variables_at_entry xs []) []
    by role.Local is f k more =
        let e = more f k in
        record {
          fits = row_cons bs x xs None (variables_at_entry xs []) (entry_leaf x.role x.ty) (map (λ v. entry_leaf v.role v.ty) xs)
              (ap (λ (r : Role). entry_leaf r x.ty) is) e.fits;
          lent = at_role x.role role.Local _ _ _ is e.lent;
          counts = λ n. let c = e.counts n in omega arith;
        }
    by role.Lent is f k more = absurd f
    by role.Claimed is f k more = absurd f
entered_all variables bs vs us row (x ∷ xs) (a ∷ arguments) fit are none same =
    by x.role refl fit are (λ f k. entered_all variables bs vs us row xs (a ∷ arguments) f k none same)
    (λ f k. entered_all variables bs vs us row xs arguments f k none.1 same.1)
  where
    by : (r : Role) → x.role ≡ r
        → ArgsFit bs vs row (map (λ v. v.ty) (if is_parameter r then x ∷ parameters_of xs else parameters_of xs)) (a ∷ arguments)
        → AreArguments variables (if is_parameter r then x ∷ parameters_of xs else parameters_of xs) (a ∷ arguments)
        → (ArgsFit bs vs row (types_among xs) (a ∷ arguments) → AreArguments variables (parameters_of xs) (a ∷ arguments)
        → Entered bs vs us row xs (variables_at_entry xs (given_of vs (a ∷ arguments))) (a ∷ arguments))
        → (ArgsFit bs vs row (types_among xs) arguments → AreArguments variables (parameters_of xs) arguments
        → Entered bs vs us row xs (variables_at_entry xs (given_of vs arguments)) arguments)
        → Entered bs vs us row (x ∷ xs) (if is_parameter r then read vs (number a)
        ∷ variables_at_entry xs (given_of vs arguments) else (None ∷ variables_at_entry xs (given_of vs (a ∷ arguments)))) (a ∷ arguments)
    by role.Local is f k all more =
        let e = all f k in
        record {
          fits = row_cons bs x xs None (variables_at_entry xs (given_of vs (a ∷ arguments))) (entry_leaf x.role x.ty)
              (map (λ v. entry_leaf v.role v.ty) xs) (ap (λ (r : Role). entry_leaf r x.ty) is) e.fits;
          lent = at_role x.role role.Local _ _ _ is e.lent;
          counts = λ n. let c = e.counts n in omega arith;
        }
    by role.Lent is f k all more =
        let e = more f.1 k.1 in
        let own : a.claimed ≡ false = k.0.1 ∙ ap is_claimed is in
        record {
          fits = row_cons bs x xs (read vs (number a)) (variables_at_entry xs (given_of vs arguments)) (entry_leaf x.role x.ty)
              (map (λ v. entry_leaf v.role v.ty) xs)
              (subst (λ (y : Option ℕ). LeafFits bs x.ty y (entry_leaf x.role x.ty)) (sym f.0.is)
              (subst (λ (l : Leaf). HasLeaf bs x.ty f.0.at l) (sym (ap (λ (r : Role). entry_leaf r x.ty) is)) f.0.leaf)) e.fits;
          lent = at_role x.role role.Lent _ _ _ is (
            (
              own,
              record {
                at = f.0.at;
                within = f.0.leaf.there;
                mine_is =
                    same.0 own ∙ f.0.is;
                theirs_is = f.0.is;
                leaf = f.0.was;
              },
            ),
            e.lent,
          );
          counts = λ n. let c = e.counts n in omega arith;
        }
    by role.Claimed is f k all more =
        let e = more f.1 k.1 in
        let claims : a.claimed ≡ true = k.0.1 ∙ ap is_claimed is in
        record {
          fits = row_cons bs x xs (read vs (number a)) (variables_at_entry xs (given_of vs arguments)) (entry_leaf x.role x.ty)
              (map (λ v. entry_leaf v.role v.ty) xs)
              (subst (λ (y : Option ℕ). LeafFits bs x.ty y (entry_leaf x.role x.ty)) (sym f.0.is)
              (subst (λ (l : Leaf). HasLeaf bs x.ty f.0.at l) (sym (ap (λ (r : Role). entry_leaf r x.ty) is)) f.0.leaf)) e.fits;
          lent = at_role x.role role.Claimed _ _ _ is ((claims, none.0 claims), e.lent);
          counts = λ n. let c = e.counts n in omega arith;
        }
