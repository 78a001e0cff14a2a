-- What a step of one frame preserves of the others.
use Rattle.std.proofs.Common.{◌≡◌, ◌≢◌, ◌==◌, ℕ, suc, ◌+◌, ◌<◌, true, false, List, [], ◌∷◌, Some, None, length, refl, sym, ap, ◌∙◌, subst}
use Rattle.std.proofs.Common.{arith, inl, inr, ⊎_elim, set}
use Rattle.std.proofs.lemmas.Bool.{cases_eq}
use Rattle.std.proofs.lemmas.List.{get_or-set_same, get_or-set_other, length-set}
use Rattle.std.specs.Option.{option_map_or}
use Rattle.std.specs.Prelude.{Option, ◌⊎◌, slice_get}
use Rattle.program.specs.Methods.{MethodModel, VariableModel}
use Rattle.program.specs.Programs.{ProgramModel}
use Rattle.program.specs.declared.call.Argument.{Argument}
use Rattle.program.specs.WellFormed.{field_types}
use Rattle.program.specs.declared.types.HeapType.{HeapType}
use Rattle.program.specs.declared.method.Role.TheVariants as role
use Rattle.program.specs.declared.method.Role.{Role}
use Rattle.flow.specs.Graphs.{Call}
use Rattle.rules.specs.Arguments.{after_claims}
use Rattle.rules.specs.Endpoints.{payload_types, declared_leaf}
use Rattle.rules.specs.Mentions.{is_lent_role}
use Rattle.rows.specs.Rows.{leaf_at}
use Rattle.rules.specs.Steps.{outcome, entry_of}
use Rattle.rows.specs.declared.row.Leaf.TheVariants as leaf
use Rattle.rows.specs.declared.row.Leaf.{Leaf}
use Rattle.analyse.specs.Reach.{Reached}
use Rattle.machine.specs.Frames.{method_at, instruction_at}
use Rattle.machine.specs.Heaps.{FieldsHold, occurs}
use Rattle.machine.specs.World.{MessageHeld, Block, Frame, World, block_at, stack_at, read, is_inside, is_queue, owns, cut_off, is_freed_at}
use Rattle.sound.specs.Operands.{stateless}
use Rattle.sound.proofs.Basics.{standing_read, process_apart, stack_there}
use Rattle.sound.proofs.Invariant.{IsOn, HasLeaf, LeafFits, RowFits, one_if, standing, kept_back, waiting, held, IsLent}
use Rattle.sound.proofs.Invariant.{with_first}
use Rattle.sound.proofs.Invariant.{by_role, as_claimed, standing_in, AreLent, WaitsFor, RestFits, StackFits, in_queue, AreDeclared}
use Rattle.sound.proofs.Invariant.{AreBrought, ChannelsFit, FieldsDeclared, Holds, StaysCutOff}
use Rattle.machine.proofs.CountLemmas.{one_or_none}
use Rattle.machine.proofs.HeldExchange.{one_if_true}
use Rattle.machine.proofs.ChangeLemmas.{eqb_same, true≢false}

-- the block still has its type and its state, except that an endpoint may be cut off now
pub record IsKept (bs bs' : List Block) (a : ℕ) : Type 0 where
  pub there : a < length bs'
  pub ty : (block_at bs' a).ty ≡ (block_at bs a).ty
  pub state : ((block_at bs' a).state ≡ (block_at bs a).state) ⊎ (cut_off bs' a ≡ true)

abbrev pub AreKept : List Block → List Block → (ℕ → Type 0) → Type 0
AreKept bs bs' P = (a : ℕ) → P a → a < length bs → IsKept bs bs' a

on_kept : (bs bs' : List Block) (k : HeapType) (a : ℕ) (l : Leaf) → a < length bs → StaysCutOff bs bs' → IsKept bs bs' a → IsOn bs k a l
    → IsOn bs' k a l
on_kept bs bs' k a leaf.Nothing within cut kept h = h
on_kept bs bs' k a leaf.Block within cut kept h = h
on_kept bs bs' k a leaf.CutOff within cut kept h = (h.0, cut.each a within h.1)
on_kept bs bs' k a (leaf.State q) within cut kept h =
    (h.0, ⊎_elim (λ e. ⊎_elim (λ same. inl (same ∙ e)) (λ c. inr c) kept.state) (λ c. inr (cut.each a within c)) h.1)

pub leaf_kept : (bs bs' : List Block) (k : HeapType) (a : ℕ) (l : Leaf) → StaysCutOff bs bs' → IsKept bs bs' a → HasLeaf bs k a l
    → HasLeaf bs' k a l
leaf_kept bs bs' k a l cut kept h =
    record { there = kept.there; ty = ap stateless kept.ty ∙ h.ty; state = on_kept bs bs' k a l h.there cut kept h.state }

pub fits_kept : (bs bs' : List Block) (k : HeapType) (x : Option ℕ) (l : Leaf) → StaysCutOff bs bs'
    → ((a : ℕ) → x ≡ Some a → a < length bs → IsKept bs bs' a) → LeafFits bs k x l → LeafFits bs' k x l
fits_kept bs bs' k None l cut kept h = h
fits_kept bs bs' k (Some a) l cut kept h = leaf_kept bs bs' k a l cut (kept a refl h.there) h

pub row_kept : (bs bs' : List Block) (variables : List VariableModel) (vs : List (Option ℕ)) (row : List Leaf) → StaysCutOff bs bs'
    → AreKept bs bs' (λ a. 0 < standing a vs) → RowFits bs variables vs row → RowFits bs' variables vs row
row_kept bs bs' variables vs row cut kept h = record {
  long = h.long;
  row_long = h.row_long;
  each = λ v x there. fits_kept bs bs' x.ty (read vs v) (leaf_at row v) cut (λ a is within. kept a (standing_read vs v a is) within)
      (h.each v x there);
}

-- ---- lent variables
pub role_map : (r : Role) (P Q R P' Q' R' : Type 0) → (r ≡ role.Local → P → P') → (r ≡ role.Lent → Q → Q') → (r ≡ role.Claimed → R → R')
    → by_role r P Q R → by_role r P' Q' R'
role_map role.Local P Q R P' Q' R' f g h x = f refl x
role_map role.Lent P Q R P' Q' R' f g h x = g refl x
role_map role.Claimed P Q R P' Q' R' f g h x = h refl x

pub first_map : (P P' : Argument → Type 0) (Q Q' : List Argument → Type 0) (arguments : List Argument) → ((a : Argument) → P a → P' a)
    → ((as' : List Argument) → Q as' → Q' as') → with_first P Q arguments → with_first P' Q' arguments
first_map P P' Q Q' [] f g h = h
first_map P P' Q Q' (a ∷ arguments) f g h = (f a h.0, g arguments h.1)

lent_kept : (bs bs' : List Block) (k : HeapType) (mine theirs : Option ℕ) (l : Leaf) → StaysCutOff bs bs' → IsLent bs k mine theirs l
    → IsLent bs' k mine theirs l
lent_kept bs bs' k mine theirs l cut h =
    record {
      at = h.at;
      within = let long = cut.long in let w = h.within in omega arith;
      mine_is = h.mine_is;
      theirs_is = h.theirs_is;
      leaf = ⊎_elim (λ e. inl e) (λ c. inr (c.0, c.1, cut.each h.at h.within c.2)) h.leaf;
    }

pub all_lent_kept : (bs bs' : List Block) (mine : List (Option ℕ)) (before : List Leaf) (xs : List VariableModel) (ys : List (Option ℕ))
    (arguments : List Argument) → StaysCutOff bs bs' → AreLent bs mine before xs ys arguments → AreLent bs' mine before xs ys arguments
all_lent_kept bs bs' mine before [] ys arguments cut h = h
all_lent_kept bs bs' mine before (x ∷ xs) [] arguments cut h = h
all_lent_kept bs bs' mine before (x ∷ xs) (y ∷ ys) arguments cut h =
    role_map x.role _ _ _ _ _ _
    (λ is r. all_lent_kept bs bs' mine before xs ys arguments cut r)
    (λ is r. first_map _ _ _ _ arguments (λ a i. (
      i.0,
      lent_kept bs bs' x.ty (read mine a.mention.variable.0) y
          (leaf_at before a.mention.variable.0) cut i.1,
    )) (λ more i. all_lent_kept bs bs' mine before xs ys more cut i) r)
    (λ is r. first_map _ _ _ _ arguments (λ a i. i) (λ more i. all_lent_kept bs bs' mine before xs ys more cut i) r)
    h

-- lent variables keep what they have
pub record LentStays (variables : List VariableModel) (vs vs' : List (Option ℕ)) : Type 0 where
  pub long : length vs' ≡ length vs
  pub each : (v : ℕ) (x : VariableModel) → slice_get variables v ≡ Some x → is_lent_role x.role ≡ true → read vs' v ≡ read vs v

pub lent_stays_same : (variables : List VariableModel) (vs : List (Option ℕ)) → LentStays variables vs vs
lent_stays_same variables vs = record { long = refl; each = λ v x there lent. refl }

pub lent_stays_on : (variables : List VariableModel) (vs us ws : List (Option ℕ)) → LentStays variables vs us → LentStays variables us ws
    → LentStays variables vs ws
lent_stays_on variables vs us ws h k =
    record { long = k.long ∙ h.long; each = λ v x there lent. k.each v x there lent ∙ h.each v x there lent }

pub lent_of : (variables : List VariableModel) (v : ℕ) (x : VariableModel) → slice_get variables v ≡ Some x
    → option_map_or (λ y. is_lent_role y.role) (slice_get variables v) false ≡ is_lent_role x.role
lent_of variables v x there = ap (λ (o : Option VariableModel). option_map_or (λ y. is_lent_role y.role) o false) there

-- a variable that is not lent is overwritten
pub lent_stays_set : (variables : List VariableModel) (vs : List (Option ℕ)) (v : ℕ) (y : Option ℕ)
    → option_map_or (λ y. is_lent_role y.role) (slice_get variables v) false ≡ false → LentStays variables vs (set vs v y)
lent_stays_set variables vs v y own = record {
  long = length-set vs v y;
  each = λ u x there lent. get_or-set_other vs v u y None
      (λ e. true≢false lent (sym (lent_of variables u x there)
      ∙ (ap (λ (n : ℕ). option_map_or (λ y. is_lent_role y.role) (slice_get variables n) false) e ∙ own)));
}

pub all_lent_stays : (bs : List Block) (mine : List (Option ℕ)) (before : List Leaf) (xs : List VariableModel) (ys ys' : List (Option ℕ))
    (arguments : List Argument) → LentStays xs ys ys' → AreLent bs mine before xs ys arguments → AreLent bs mine before xs ys' arguments
all_lent_stays bs mine before [] ys ys' arguments same h = h
all_lent_stays bs mine before (x ∷ xs) [] ys' arguments same h = absurd h
all_lent_stays bs mine before (x ∷ xs) (y ∷ ys) [] arguments same h = let e = same.long in absurd (omega arith)
all_lent_stays bs mine before (x ∷ xs) (y ∷ ys) (y' ∷ ys') arguments same h =
    let long : length ys' ≡ length ys = let e = same.long in omega arith in
    let more : LentStays xs ys ys' = record { long = long; each = λ v z there lent. same.each (suc v) z there lent } in
    role_map x.role _ _ _ _ _ _
    (λ is r. all_lent_stays bs mine before xs ys ys' arguments more r)
    (λ is r. first_map _ _ _ _ arguments
    (λ a i. (
      i.0,
      subst (λ z. IsLent bs x.ty (read mine a.mention.variable.0) z (leaf_at before a.mention.variable.0))
          (sym (same.each 0 x refl (ap is_lent_role is))) i.1,
    ))
    (λ others i. all_lent_stays bs mine before xs ys ys' others more i) r)
    (λ is r. first_map _ _ _ _ arguments (λ a i. i) (λ others i. all_lent_stays bs mine before xs ys ys' others more i) r)
    h

pub some_same : {X : Type 0} (x y : X) → Some x ≡ Some y → x ≡ y
some_same x y e = cc

-- ---- frames
waits_kept : (p : ProgramModel) (bs bs' : List Block) (g above : Frame) → StaysCutOff bs bs'
    → AreKept bs bs' (λ a. 0 < standing a (kept_back p g)) → WaitsFor p bs g above → WaitsFor p bs' g above
waits_kept p bs bs' g above cut kept h = record {
  m = h.m;
  there = h.there;
  callee = h.callee;
  callee_there = h.callee_there;
  place = h.place;
  arguments = h.arguments;
  target = h.target;
  next = h.next;
  call = h.call;
  before = h.before;
  reached = h.reached;
  long = h.long;
  fits = row_kept bs bs' h.m.variables (kept_back p g) (after_claims (after_claims h.before h.arguments) (as_claimed h.arguments)) cut kept h.fits;
  lent = all_lent_kept bs bs' g.variables h.before h.callee.variables above.variables h.arguments cut h.lent;
}

pub rest_kept : (p : ProgramModel) (bs bs' : List Block) (above : Frame) (rest : List Frame) → StaysCutOff bs bs'
    → AreKept bs bs' (λ a. 0 < waiting p a rest) → RestFits p bs above rest → RestFits p bs' above rest
rest_kept p bs bs' above [] cut kept h = h
rest_kept p bs bs' above (g ∷ rest) cut kept h = (
  waits_kept p bs bs' g above cut (λ a some within. kept a (omega arith) within) h.0,
  rest_kept p bs bs' g rest cut
      (λ a some within. kept a (omega arith) within) h.1,
)

pub stack_kept : (p : ProgramModel) (bs bs' : List Block) (fs : List Frame) → StaysCutOff bs bs' → AreKept bs bs' (λ a. 0 < held p a fs)
    → StackFits p bs fs → StackFits p bs' fs
stack_kept p bs bs' [] cut kept h = h
stack_kept p bs bs' (f ∷ rest) cut kept h = (
  record {
    m = h.0.m;
    there = h.0.there;
    row = h.0.row;
    reached = h.0.reached;
    fits =
        row_kept bs bs' h.0.m.variables f.variables h.0.row cut (λ a some within. kept a (omega arith) within) h.0.fits;
  },
  rest_kept p bs bs' f rest cut (λ a some within. kept a (omega arith) within) h.1,
)

-- the frame above goes on in its method, and its lent parameters are unchanged
pub rest_above : (p : ProgramModel) (bs : List Block) (above above' : Frame) (m : MethodModel) (rest : List Frame)
    → method_at p above.method ≡ Some m → above'.method ≡ above.method → LentStays m.variables above.variables above'.variables
    → RestFits p bs above rest → RestFits p bs above' rest
rest_above p bs above above' m [] there same stays h =
    record { m = h.m; there = ap (method_at p) same ∙ h.there; void = h.void; alone = h.alone }
rest_above p bs above above' m (g ∷ rest) there same stays h = (
  record {
    m = h.0.m;
    there = h.0.there;
    callee = h.0.callee;
    callee_there = ap (method_at p) same ∙ h.0.callee_there;
    place = h.0.place;
    arguments = h.0.arguments;
    target = h.0.target;
    next = h.0.next;
    call = subst (λ (n : ℕ). instruction_at p g ≡ Some (Call h.0.place record { 0 = n } h.0.arguments h.0.target h.0.next))
        (sym same) h.0.call;
    before = h.0.before;
    reached = h.0.reached;
    long = h.0.long;
    fits = h.0.fits;
    lent = all_lent_stays bs g.variables h.0.before h.0.callee.variables above.variables above'.variables h.0.arguments
        (subst (λ (x : MethodModel). LentStays x.variables above.variables above'.variables)
        (some_same m h.0.callee (sym there ∙ h.0.callee_there)) stays) h.0.lent;
  },
  h.1,
)

-- ---- queues
pub declared_kept : (bs bs' : List Block) (types : List HeapType) (given : List ℕ) → StaysCutOff bs bs'
    → AreKept bs bs' (λ a. 0 < standing_in a given) → AreDeclared bs types given → AreDeclared bs' types given
declared_kept bs bs' [] [] cut kept h = h
declared_kept bs bs' [] (a ∷ given) cut kept h = h
declared_kept bs bs' (k ∷ types) [] cut kept h = h
declared_kept bs bs' (k ∷ types) (a ∷ given) cut kept h =
    let first : one_if (a == a) ≡ 1 = ap one_if (eqb_same a a refl) in (
      leaf_kept bs bs' k a (declared_leaf k) cut (kept a (omega arith) h.0.there) h.0,
      declared_kept bs bs' types given cut
          (λ x some within. kept x (omega arith) within) h.1,
    )

pub brought_kept : (p : ProgramModel) (bs bs' : List Block) (queue : List MessageHeld) → StaysCutOff bs bs'
    → AreKept bs bs' (λ a. 0 < in_queue a queue) → AreBrought p bs queue → AreBrought p bs' queue
brought_kept p bs bs' [] cut kept h = h
brought_kept p bs bs' (m ∷ ms) cut kept h = (
  declared_kept bs bs' (payload_types p m.message) m.payload cut
      (λ a some within. kept a (omega arith) within) h.0,
  brought_kept p bs bs' ms cut (λ a some within. kept a (omega arith) within) h.1,
)

-- ---- fields
pub occurs_standing : (xs : List ℕ) (x : ℕ) → occurs xs x ≡ standing_in x xs
occurs_standing [] x = refl
occurs_standing (y ∷ xs) x = ap (λ (n : ℕ). one_if (y == x) + n) (occurs_standing xs x)

-- a block that is directly inside another, so that a field holds it
abbrev pub LiesInside : List Block → ℕ → Type 0
LiesInside bs x = (b : ℕ) × (is_inside (block_at bs x).owner b ≡ true)

-- blocks inside others are kept, and fields are unchanged
pub record SameFields (p : ProgramModel) (bs bs' : List Block) : Type 0 where
  pub cut : StaysCutOff bs bs'
  pub kept : AreKept bs bs' (LiesInside bs)
  pub types : (a : ℕ) → a < length bs → (block_at bs' a).ty ≡ (block_at bs a).ty
  pub lives : (a : ℕ) → a < length bs → is_freed_at bs' a ≡ false → is_freed_at bs a ≡ false
  pub fields : (a : ℕ) → a < length bs → is_freed_at bs' a ≡ false → (block_at bs' a).fields ≡ (block_at bs a).fields

-- the fields of a block that existed before are still as declared
pub fields_kept : (p : ProgramModel) (bs bs' : List Block) (a : ℕ) → FieldsHold bs → SameFields p bs bs' → FieldsDeclared p bs → a < length bs
    → is_freed_at bs' a ≡ false → AreDeclared bs' (field_types p.structs (block_at bs' a).ty) (block_at bs' a).fields
fields_kept p bs bs' a held same h within lives =
    subst (λ (k : HeapType). AreDeclared bs' (field_types p.structs k) (block_at bs' a).fields) (sym (same.types a within))
    (subst (λ (xs : List ℕ). AreDeclared bs' (field_types p.structs (block_at bs a).ty) xs) (sym (same.fields a within lives))
    (declared_kept bs bs' (field_types p.structs (block_at bs a).ty) (block_at bs a).fields same.cut
    (λ x some short. same.kept x (
      a,
      one_if_true (is_inside (block_at bs x).owner a)
          (subst (λ (n : ℕ). 0 < n) (sym (occurs_standing (block_at bs a).fields x) ∙ held.holds_are a x) some),
    ) short)
    (h a within (same.lives a within lives))))

-- if no block is new, the fields of all blocks are still as declared
pub all_fields_kept : (p : ProgramModel) (bs bs' : List Block) → FieldsHold bs → SameFields p bs bs' → length bs' ≡ length bs
    → FieldsDeclared p bs → FieldsDeclared p bs'
all_fields_kept p bs bs' held same long h a within lives = fields_kept p bs bs' a held same h (omega arith) lives

-- ---- one frame goes on
-- a frame goes on with new variables and blocks: what it did not have is kept, and what it has is counted
pub record GoesOn (p : ProgramModel) (w : World) (self : ℕ) (f : Frame) (m : MethodModel) (vs' : List (Option ℕ))
    (bs' : List Block) : Type 0 where
  pub lent : LentStays m.variables f.variables vs'
  pub cut : StaysCutOff w.blocks bs'
  pub kept : AreKept w.blocks bs' (λ a. standing a f.variables ≡ 0)
  pub counted : (a : ℕ) → standing a vs' + one_if (owns w.blocks self a) ≡ standing a f.variables + one_if (owns bs' self a)
  pub others : (q a : ℕ) → q ≢ self → owns bs' q a ≡ owns w.blocks q a
  pub channels : ChannelsFit p bs'
  pub queues : (a x : ℕ) → in_queue x (block_at bs' a).queue ≡ one_if (is_queue (block_at bs' x).owner a)
  pub brought : (a : ℕ) → AreBrought p bs' (block_at bs' a).queue
  pub held : FieldsHold bs'
  pub declared : FieldsDeclared p bs'

-- the frame at its next point
abbrev pub went : Frame → ℕ → List (Option ℕ) → Frame
went f next vs' = record { method = f.method; point = next; variables = vs' }

-- the world after the frame went on
abbrev pub on_world : World → ℕ → Frame → ℕ → List (Option ℕ) → List Frame → List Block → World
on_world w self f next vs' rest bs' = record { processes = set w.processes self (went f next vs' ∷ rest); blocks = bs' }

pub goes_on : (p : ProgramModel) (w : World) (self : ℕ) (f : Frame) (rest : List Frame) (m : MethodModel) (next : ℕ) (vs' : List (Option ℕ))
    (row' : List Leaf) (bs' : List Block)
    → Holds p w → stack_at w.processes self ≡ f ∷ rest → method_at p f.method ≡ Some m → RestFits p w.blocks f rest
    → Reached (outcome p f.method) (entry_of p f.method) (next, row') → RowFits bs' m.variables vs' row' → GoesOn p w self f m vs' bs'
    → Holds p (on_world w self f next vs' rest bs')
goes_on p w self f rest m next vs' row' bs' h is there below reached fits g = record {
  channels = g.channels;
  stacks = λ q. ⊎_elim (λ e. mine q e) (λ n. theirs q n) (cases_eq q self);
  own = λ q a. ⊎_elim (λ e. own_mine q a e) (λ n. own_theirs q a n) (cases_eq q self);
  queues = g.queues;
  brought = g.brought;
  held = g.held;
  declared = g.declared;
}
  where
    here : stack_at (set w.processes self (went f next vs' ∷ rest)) self ≡ (went f next vs') ∷ rest
    here = get_or-set_same w.processes self ((went f next vs') ∷ rest) [] (stack_there w.processes self f rest is)

    away : (q : ℕ) → q ≢ self → stack_at (set w.processes self (went f next vs' ∷ rest)) q ≡ stack_at w.processes q
    away q n = get_or-set_other w.processes self q ((went f next vs') ∷ rest) [] n

    -- an address is counted for the process at most once
    once : (a : ℕ) → standing a f.variables + waiting p a rest ≡ one_if (owns w.blocks self a)
    once a = sym (ap (held p a) is) ∙ h.own self a

    below' : RestFits p bs' (went f next vs') rest
    below' = rest_above p bs' f (went f next vs') m rest there refl g.lent
        (rest_kept p w.blocks bs' f rest g.cut (λ a some within. g.kept a
        (let e = once a in let most = one_or_none (owns w.blocks self a) in omega arith) within) below)

    mine : (q : ℕ) → q ≡ self → StackFits p bs' (stack_at (set w.processes self (went f next vs' ∷ rest)) q)
    mine q e = subst (λ (fs : List Frame). StackFits p bs' fs)
        (sym (ap (stack_at (set w.processes self (went f next vs' ∷ rest))) e ∙ here))
        (record { m = m; there = there; row = row'; reached = reached; fits = fits }, below')

    not_ours : (q a : ℕ) → q ≢ self → 0 < held p a (stack_at w.processes q) → standing a f.variables ≡ 0
    not_ours q a n some =
        let owned : owns w.blocks q a ≡ true = one_if_true (owns w.blocks q a) (subst (λ (k : ℕ). 0 < k) (h.own q a) some) in
        let no : owns w.blocks self a ≡ false = process_apart (block_at w.blocks a).owner q self owned n in
        let e = once a in
        let z : one_if (owns w.blocks self a) ≡ 0 = ap one_if no in
        omega arith

    theirs : (q : ℕ) → q ≢ self → StackFits p bs' (stack_at (set w.processes self (went f next vs' ∷ rest)) q)
    theirs q n = subst (λ (fs : List Frame). StackFits p bs' fs) (sym (away q n))
        (stack_kept p w.blocks bs' (stack_at w.processes q) g.cut (λ a some within. g.kept a (not_ours q a n some) within) (h.stacks q))

    own_mine : (q a : ℕ) → q ≡ self → held p a (stack_at (set w.processes self (went f next vs' ∷ rest)) q) ≡ one_if (owns bs' q a)
    own_mine q a e =
        let counted = g.counted a in
        let before = once a in
        let now : standing a vs' + waiting p a rest ≡ one_if (owns bs' self a) = omega arith in
        ap (held p a) (ap (stack_at (set w.processes self (went f next vs' ∷ rest))) e ∙ here) ∙ now
        ∙ ap (λ (n : ℕ). one_if (owns bs' n a)) (sym e)

    own_theirs : (q a : ℕ) → q ≢ self → held p a (stack_at (set w.processes self (went f next vs' ∷ rest)) q) ≡ one_if (owns bs' q a)
    own_theirs q a n = ap (held p a) (away q n) ∙ h.own q a ∙ ap one_if (sym (g.others q a n))
