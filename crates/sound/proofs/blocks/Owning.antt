-- A process owns what its frames have, and has it once.
use Rattle.std.proofs.Common.{◌≡◌, ◌==◌, ◌&&◌, ℕ, suc, ◌+◌, ◌<◌, Bool, true, false, not, List, [], ◌∷◌, ◌++◌, Some, None, length, refl}
use Rattle.std.proofs.Common.{sym, ap, ◌∙◌, subst, arith, ⊎_elim}
use Rattle.std.proofs.lemmas.Bool.{cases_Bool}
use Rattle.std.specs.Option.{option_map_or}
use Rattle.std.specs.Prelude.{Option, slice_get, if◌then◌else◌}
use Rattle.program.specs.Lists.{Each, is_among}
use Rattle.program.specs.Methods.{MethodModel, VariableModel}
use Rattle.program.specs.Programs.{ProgramModel}
use Rattle.program.specs.declared.call.Argument.{Argument}
use Rattle.program.specs.declared.method.Role.TheVariants as role
use Rattle.program.specs.declared.method.Role.{Role}
use Rattle.flow.specs.Graphs.{Instruction, Call}
use Rattle.flow.specs.Lowering.{graph_of}
use Rattle.rules.specs.Arguments.{after_claims, given_before, all_arguments, target_checks, given_leaf}
use Rattle.rules.specs.Breaches.{breach_in}
use Rattle.rules.specs.Outcomes.{said_by}
use Rattle.rules.specs.Endpoints.{parameter_types, result_of}
use Rattle.rules.specs.Mentions.{is_lent_role}
use Rattle.rows.specs.Rows.{leaf_at}
use Rattle.sound.proofs.Parameters.{each_argument}
use Rattle.rows.specs.declared.row.Leaf.{Leaf}
use Rattle.machine.specs.Frames.{method_at, variables_of, point_instruction}
use Rattle.machine.specs.World.{Block, Frame, World, stack_at, read, owns, let_go}
use Rattle.sound.specs.GraphSafe.{stands_in_frames}
use Rattle.sound.specs.Safe.{stands_in}
use Rattle.sound.proofs.Arguments.{PairApart, standing_of, pair_apart, go_other, go_counts, all_claimed_of, as_claimed_apart, numbers}
use Rattle.sound.proofs.Basics.{standing_read}
use Rattle.sound.proofs.Checks.{all_pass, passed_left, IsClean, number}
use Rattle.sound.proofs.Invariant.{one_if, one_at, standing, waiting, held, RestFits, Holds, as_claimed, AreLent, IsLent, by_role}
use Rattle.sound.proofs.Invariant.{with_first, WaitsFor, StackFits, kept_back, call_arguments}
use Rattle.sound.proofs.Kept.{some_same}
use Rattle.sound.proofs.Lists.{each_map}
use Rattle.sound.proofs.events.GivenBack.{away, each_number}
use Rattle.sound.proofs.Here.{step_is}
use Rattle.machine.proofs.HeldExchange.{one_if_true}

-- A process owns what its variables have, and what it owns is in one variable, lent copies not counted.
pub record OwnsWhatItHolds (p : ProgramModel) (w : World) (q : ℕ) : Type 0 where
  pub holds : (v a : ℕ) → Each (λ f. read f.variables v ≡ Some a → owns w.blocks q a ≡ true) (stack_at w.processes q)
  pub once : (a : ℕ) → owns w.blocks q a ≡ true → stands_in_frames p (stack_at w.processes q) a ≡ 1

-- the process owns each address that a frame has
abbrev FrameOwns : List Block → ℕ → Frame → Type 0
FrameOwns bs q f = (v a : ℕ) → read f.variables v ≡ Some a → owns bs q a ≡ true

none_some : (a : ℕ) → None ≡ Some a → ⊥
none_some a e = cc

lent_holds : (bs : List Block) (q : ℕ) (mine : List (Option ℕ)) (before : List Leaf) (xs : List VariableModel) (ys : List (Option ℕ))
    (arguments : List Argument) → AreLent bs mine before xs ys arguments
    → ((v a : ℕ) → read ys v ≡ Some a → owns bs q a ≡ true)
    → Each (λ b. (a : ℕ) → read mine (number b) ≡ Some a → owns bs q a ≡ true) arguments
lent_holds bs q mine before [] ys [] h own = tt
lent_holds bs q mine before [] ys (a ∷ arguments) h own = absurd (cc)
lent_holds bs q mine before (x ∷ xs) [] arguments h own = absurd h
lent_holds bs q mine before (x ∷ xs) (y ∷ ys) arguments h own =
    by x.role arguments h (λ more k. lent_holds bs q mine before xs ys more k (λ v a e. own (suc v) a e))
  where
    by : (r : Role) → (as' : List Argument)
        → by_role r (AreLent bs mine before xs ys as')
        (with_first (λ a. (a.claimed ≡ false) × IsLent bs x.ty (read mine a.mention.variable.0) y (leaf_at before a.mention.variable.0))
        (AreLent bs mine before xs ys) as')
        (with_first (λ a. (a.claimed ≡ true) × (read mine a.mention.variable.0 ≡ None)) (AreLent bs mine before xs ys) as')
        → ((more : List Argument) → AreLent bs mine before xs ys more
        → Each (λ b. (a : ℕ) → read mine (number b) ≡ Some a → owns bs q a ≡ true) more)
        → Each (λ b. (a : ℕ) → read mine (number b) ≡ Some a → owns bs q a ≡ true) as'
    by role.Local as' l go = go as' l
    by role.Lent [] l go = tt
    by role.Lent (b ∷ as') l go = ((λ a e. own 0 a (l.0.1.theirs_is ∙ (sym l.0.1.mine_is ∙ e))), go as' l.1)
    by role.Claimed [] l go = tt
    by role.Claimed (b ∷ as') l go = ((λ a e. absurd (none_some a (sym l.0.1 ∙ e))), go as' l.1)

waits_own : (p : ProgramModel) (bs : List Block) (q : ℕ) (g above : Frame) → WaitsFor p bs g above → FrameOwns bs q above
    → ((a : ℕ) → 0 < standing a (kept_back p g) → owns bs q a ≡ true) → FrameOwns bs q g
waits_own p bs q g above w own kept v a e = ⊎_elim
    (λ has. each_number (λ n. (x : ℕ) → read g.variables n ≡ Some x → owns bs q x ≡ true) w.arguments v
    (lent_holds bs q g.variables w.before w.callee.variables above.variables w.arguments w.lent own) has a e)
    (λ out. kept a (standing_read (kept_back p g) v a
    (ap (λ (o : Option Instruction). read (let_go g.variables (as_claimed (call_arguments o))) v) w.call
    ∙ (go_other g.variables (as_claimed w.arguments) v (away w.arguments v out) ∙ e)))) (cases_Bool (is_among (numbers w.arguments) v))

rest_own : (p : ProgramModel) (bs : List Block) (q : ℕ) (above : Frame) (rest : List Frame) → RestFits p bs above rest
    → FrameOwns bs q above → ((a : ℕ) → 0 < waiting p a rest → owns bs q a ≡ true) → Each (FrameOwns bs q) rest
rest_own p bs q above [] h own kept = tt
rest_own p bs q above (g ∷ rest) h own kept =
    let mine = waits_own p bs q g above h.0 own (λ a some. kept a (omega arith)) in
    (mine, rest_own p bs q g rest h.1 mine (λ a some. kept a (omega arith)))

-- ---- counts
abbrev lent_in : ℕ → List VariableModel → List (Option ℕ) → ℕ
lent_in a (x ∷ xs) (y ∷ ys) = (if is_lent_role x.role then one_at a y else 0) + lent_in a xs ys
lent_in a _ _ = 0

one_split : (l : Bool) (a b : ℕ) → one_if (b == a) ≡ (if (b == a) && not l then 1 else 0) + (if l then one_if (b == a) else 0)
one_split l a b = by (b == a) l
  where
    by : (x l : Bool) → one_if x ≡ (if x && not l then 1 else 0) + (if l then one_if x else 0)
    by true true = omega arith
    by true false = omega arith
    by false true = omega arith
    by false false = omega arith

abbrev the_number : ℕ → ℕ
the_number n = n

zero_if : (l : Bool) → the_number (if l then 0 else 0) ≡ 0
zero_if true = refl
zero_if false = refl

stands_split : (a : ℕ) (xs : List VariableModel) (ys : List (Option ℕ)) → length ys ≡ length xs
    → standing a ys ≡ stands_in xs ys a + lent_in a xs ys
stands_split a [] [] l = omega arith
stands_split a [] (y ∷ ys) l = absurd (omega arith)
stands_split a (x ∷ xs) [] l = absurd (omega arith)
stands_split a (x ∷ xs) (None ∷ ys) l =
    let short : length ys ≡ length xs = omega arith in
    let e = stands_split a xs ys short in
    let z = zero_if (is_lent_role x.role) in
    omega arith
stands_split a (x ∷ xs) (Some b ∷ ys) l =
    let short : length ys ≡ length xs = omega arith in
    let e = stands_split a xs ys short in
    let z = one_split (is_lent_role x.role) a b in
    omega arith

lent_sum : (a : ℕ) (bs : List Block) (mine : List (Option ℕ)) (before : List Leaf) (xs : List VariableModel) (ys : List (Option ℕ))
    (arguments : List Argument) → AreLent bs mine before xs ys arguments → lent_in a xs ys ≡ standing_of a mine arguments
lent_sum a bs mine before [] ys [] h = refl
lent_sum a bs mine before [] ys (b ∷ arguments) h = absurd (cc)
lent_sum a bs mine before (x ∷ xs) [] arguments h = absurd h
lent_sum a bs mine before (x ∷ xs) (y ∷ ys) arguments h = by x.role arguments h (λ more k. lent_sum a bs mine before xs ys more k)
  where
    by : (r : Role) → (as' : List Argument)
        → by_role r (AreLent bs mine before xs ys as')
        (with_first (λ a. (a.claimed ≡ false) × IsLent bs x.ty (read mine a.mention.variable.0) y (leaf_at before a.mention.variable.0))
        (AreLent bs mine before xs ys) as')
        (with_first (λ a. (a.claimed ≡ true) × (read mine a.mention.variable.0 ≡ None)) (AreLent bs mine before xs ys) as')
        → ((more : List Argument) → AreLent bs mine before xs ys more → lent_in a xs ys ≡ standing_of a mine more)
        → (if is_lent_role r then one_at a y else 0) + lent_in a xs ys ≡ standing_of a mine as'
    by role.Local as' l go = let e = go as' l in omega arith
    by role.Lent [] l go = absurd l
    by role.Lent (b ∷ as') l go = let e = go as' l.1 in let z : one_at a y ≡ one_at a (read mine (number b)) =
        ap (one_at a) (l.0.1.theirs_is ∙ sym l.0.1.mine_is) in omega arith
    by role.Claimed [] l go = absurd l
    by role.Claimed (b ∷ as') l go = let e = go as' l.1 in let z : one_at a (read mine (number b)) ≡ 0 = ap (one_at a) l.0.1 in omega arith

no_lent : (a : ℕ) (xs : List VariableModel) (ys : List (Option ℕ))
    → ((v : ℕ) (x : VariableModel) → slice_get xs v ≡ Some x → is_lent_role x.role ≡ false) → lent_in a xs ys ≡ 0
no_lent a [] ys h = refl
no_lent a (x ∷ xs) [] h = refl
no_lent a (x ∷ xs) (y ∷ ys) h =
    let e = no_lent a xs ys (λ v z t. h (suc v) z t) in
    let z : (if is_lent_role x.role then one_at a y else 0) ≡ 0 = ap (λ (b : Bool). if b then one_at a y else 0) (h 0 x refl) in
    omega arith

-- no argument of a waiting call was given twice
waits_apart : (p : ProgramModel) (bs : List Block) (g above : Frame) (w : WaitsFor p bs g above) → IsClean p g.method → PairApart w.arguments
waits_apart p bs g above w clean =
    let i = Call w.place record { 0 = above.method } w.arguments w.target w.next in
    let at : slice_get (graph_of w.m).instructions g.point ≡ Some i =
    sym (ap (λ (x : Option MethodModel). point_instruction x g.point) w.there) ∙ w.call in
    let same = step_is p g w.m i w.before w.there at in
    let types = parameter_types p above.method in
    let left = after_claims w.before w.arguments in
    let all = all_arguments w.m w.before types w.arguments in
    let after = (w.next, given_leaf left (result_of p above.method) w.target) ∷ [] in
    let passed = all_pass (all ++ target_checks w.m left w.target) after
    (λ breach e. clean (breach_in p g.method breach)
    (record { at = (g.point, w.before); reached = w.reached; fails = ap (said_by (breach_in p g.method)) (same ∙ e) })) in
    pair_apart [] w.arguments (passed_left (given_before [] w.arguments) (each_argument w.m w.before types w.arguments)
    (passed_left all (target_checks w.m left w.target) passed))

variables_are : (p : ProgramModel) (n : ℕ) (m : MethodModel) → method_at p n ≡ Some m → variables_of p n ≡ m.variables
variables_are p n m there = ap (λ (x : Option MethodModel). option_map_or (λ y. y.variables) x []) there

frames_stand : (p : ProgramModel) (bs : List Block) (a : ℕ) (f : Frame) (m : MethodModel) (rest : List Frame)
    → ((n : ℕ) (x : MethodModel) → method_at p n ≡ Some x → IsClean p n) → method_at p f.method ≡ Some m
    → length f.variables ≡ length m.variables → RestFits p bs f rest
    → stands_in_frames p (f ∷ rest) a ≡ standing a f.variables + waiting p a rest
frames_stand p bs a f m [] clean there long h =
    let v : stands_in (variables_of p f.method) f.variables a ≡ stands_in m.variables f.variables a =
    ap (λ (xs : List VariableModel). stands_in xs f.variables a) (variables_are p f.method m there) in
    let s = stands_split a m.variables f.variables long in
    let n = no_lent a m.variables f.variables (λ u x t. h.alone u x
    (ap (λ (z : MethodModel). slice_get z.variables u) (some_same h.m m (sym h.there ∙ there)) ∙ t)) in
    omega arith
frames_stand p bs a f m (g ∷ rest) clean there long h =
    let w = h.0 in
    let v : stands_in (variables_of p f.method) f.variables a ≡ stands_in m.variables f.variables a =
    ap (λ (xs : List VariableModel). stands_in xs f.variables a) (variables_are p f.method m there) in
    let s = stands_split a m.variables f.variables long in
    let lent : AreLent bs g.variables w.before m.variables f.variables w.arguments =
    subst (λ (x : MethodModel). AreLent bs g.variables w.before x.variables f.variables w.arguments)
    (some_same w.callee m (sym w.callee_there ∙ there)) w.lent in
    let l = lent_sum a bs g.variables w.before m.variables f.variables w.arguments lent in
    let apart = waits_apart p bs g f w (clean g.method w.m w.there) in
    let c1 = go_counts a g.variables (as_claimed w.arguments) (as_claimed_apart w.arguments apart) in
    let c2 = all_claimed_of a g.variables w.arguments in
    let c3 : standing a (kept_back p g) ≡ standing a (let_go g.variables (as_claimed w.arguments)) =
    ap (λ (o : Option Instruction). standing a (let_go g.variables (as_claimed (call_arguments o)))) w.call in
    let more = frames_stand p bs a g w.m rest clean w.there w.long h.1 in
    omega arith

pub owns_what : (p : ProgramModel) → ((n : ℕ) (x : MethodModel) → method_at p n ≡ Some x → IsClean p n) → (w : World) → Holds p w → (q : ℕ)
    → OwnsWhatItHolds p w q
owns_what p clean w h q = by (stack_at w.processes q) refl (h.stacks q)
  where
    by : (fs : List Frame) → stack_at w.processes q ≡ fs → StackFits p w.blocks fs → OwnsWhatItHolds p w q
    by [] is fits = record {
      holds = λ v a. subst (λ (fs : List Frame). Each (λ f. read f.variables v ≡ Some a → owns w.blocks q a ≡ true) fs) (sym is) tt;
      once = λ a owned. absurd (let e : 0 ≡ one_if (owns w.blocks q a) =
          sym (ap (held p a) is) ∙ h.own q a in let z : one_if (owns w.blocks q a) ≡ 1 = ap one_if owned in omega arith);
    }
    by (f ∷ rest) is fits =
        let own = λ (a : ℕ) (some : 0 < held p a (f ∷ rest)). one_if_true (owns w.blocks q a)
        (subst (λ (n : ℕ). 0 < n) (sym (ap (held p a) is) ∙ h.own q a) some) in
        let top : FrameOwns w.blocks q f = λ v a e. own a (let s = standing_read f.variables v a e in omega arith) in
        record {
          holds = λ v a. subst (λ (fs : List Frame). Each (λ f. read f.variables v ≡ Some a → owns w.blocks q a ≡ true) fs) (sym is) (
            top v a,
            each_map (FrameOwns w.blocks q) (λ g. read g.variables v ≡ Some a → owns w.blocks q a ≡ true) rest (λ g k. k v a)
                (rest_own p w.blocks q f rest fits.1 top (λ a some. own a (omega arith))),
          );
          once = λ a owned. ap (λ (fs : List Frame). stands_in_frames p fs a) is
              ∙ (frames_stand p w.blocks a f fits.0.m rest clean fits.0.there fits.0.fits.long fits.1
              ∙ (sym (ap (held p a) is) ∙ (h.own q a ∙ ap one_if owned)));
        }
