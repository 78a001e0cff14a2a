-- The invariant of every run.
use Rattle.std.proofs.Common.{◌≡◌, ◌==◌, ℕ, ◌+◌, ◌<◌, ◌≤◌, true, false, List, [], ◌∷◌, Some, None, length, map}
use Rattle.std.specs.Prelude.{Option, ◌⊎◌, slice_get}
use Rattle.source.specs.declared.place.Place.{Place}
use Rattle.program.specs.Lists.{Each}
use Rattle.program.specs.Methods.{MethodModel, VariableModel}
use Rattle.program.specs.Parts.{ContractModel}
use Rattle.program.specs.Programs.{ProgramModel}
use Rattle.program.specs.WellFormed.{field_types, is_end}
use Rattle.program.specs.declared.call.Argument.{Argument}
use Rattle.program.specs.declared.types.HeapType.TheVariants.{Endpoint}
use Rattle.program.specs.declared.types.HeapType.{HeapType}
use Rattle.program.specs.declared.types.Side.TheVariants.{Imp, Exp}
use Rattle.program.specs.declared.types.Side.{Side}
use Rattle.program.specs.declared.method.Role.TheVariants as role
use Rattle.program.specs.declared.method.Role.{Role}
use Rattle.program.specs.declared.statement.Mention.{Mention}
use Rattle.flow.specs.Graphs.{Instruction, Call}
use Rattle.contracts.specs.Bounds.{sign_to}
use Rattle.contracts.specs.Leaving.{sign_from}
use Rattle.contracts.specs.Bounds.{IsBound}
use Rattle.contracts.specs.Conditions.{IsSound}
use Rattle.program.specs.Parts.{IsWhole}
pub use Rattle.machine.specs.Heaps.{one_if}
use Rattle.machine.specs.Heaps.{FieldsHold}
use Rattle.machine.specs.Outcomes.{QueueBounds}
use Rattle.contracts.specs.TwoEnds.{Ends, Moves, ends_at_start}
use Rattle.rules.specs.Arguments.{after_claims}
use Rattle.rules.specs.Endpoints.{payload_types, declared_leaf}
use Rattle.rules.specs.Mentions.{is_lent_role}
use Rattle.rows.specs.Rows.{leaf_at}
use Rattle.rules.specs.Steps.{outcome, entry_of}
use Rattle.rows.specs.declared.row.Leaf.TheVariants as leaf
use Rattle.rows.specs.declared.row.Leaf.{Leaf}
use Rattle.analyse.specs.Reach.{Reached}
use Rattle.machine.specs.Frames.{method_at, instruction_at}
use Rattle.machine.specs.World.{MessageHeld, Block, Frame, World, block_at, stack_at, read, is_queue, owns, is_freed_at, cut_off, let_go}
use Rattle.sound.specs.Operands.{stateless}

-- ---- when a leaf is right for an address
abbrev pub IsOn : List Block → HeapType → ℕ → Leaf → Type 0
IsOn bs k a leaf.Nothing = ⊥
IsOn bs k a leaf.Block = is_end k ≡ false
IsOn bs k a leaf.CutOff = (is_end k ≡ true) × (cut_off bs a ≡ true)
IsOn bs k a (leaf.State q) = (is_end k ≡ true) × (((block_at bs a).state ≡ q) ⊎ (cut_off bs a ≡ true))

pub record HasLeaf (bs : List Block) (k : HeapType) (a : ℕ) (l : Leaf) : Type 0 where
  pub there : a < length bs
  pub ty : stateless (block_at bs a).ty ≡ stateless k
  pub state : IsOn bs k a l

-- no address and the leaf Nothing, or an address for which the leaf is right
abbrev pub LeafFits : List Block → HeapType → Option ℕ → Leaf → Type 0
LeafFits bs k None l = l ≡ leaf.Nothing
LeafFits bs k (Some a) l = HasLeaf bs k a l

pub record RowFits (bs : List Block) (variables : List VariableModel) (vs : List (Option ℕ)) (row : List Leaf) : Type 0 where
  pub long : length vs ≡ length variables
  pub row_long : length row ≡ length variables
  pub each : (v : ℕ) (x : VariableModel) → slice_get variables v ≡ Some x → LeafFits bs x.ty (read vs v) (leaf_at row v)

-- ---- who has what; a lent address counts in the frame to which it was lent
abbrev pub one_at : ℕ → Option ℕ → ℕ
one_at a None = 0
one_at a (Some b) = one_if (b == a)

-- the number of these variables that hold an address
abbrev pub standing : ℕ → List (Option ℕ) → ℕ
standing a [] = 0
standing a (x ∷ xs) = one_at a x + standing a xs

abbrev pub as_claimed : List Argument → List Argument
as_claimed [] = []
as_claimed (a ∷ arguments) = record { mention = a.mention; claimed = true } ∷ as_claimed arguments

abbrev pub call_arguments : Option Instruction → List Argument
call_arguments (Some (Call place method arguments target next)) = arguments
call_arguments _ = []

-- the variables of a waiting frame, without those that it gave to the one above
abbrev pub kept_back : ProgramModel → Frame → List (Option ℕ)
kept_back p g = let_go g.variables (as_claimed (call_arguments (instruction_at p g)))

abbrev pub waiting : ProgramModel → ℕ → List Frame → ℕ
waiting p a [] = 0
waiting p a (g ∷ rest) = standing a (kept_back p g) + waiting p a rest

abbrev pub held : ProgramModel → ℕ → List Frame → ℕ
held p a [] = 0
held p a (f ∷ rest) = standing a f.variables + waiting p a rest

-- ---- stacks
pub record TopFits (p : ProgramModel) (bs : List Block) (f : Frame) : Type 0 where
  pub m : MethodModel
  pub there : method_at p f.method ≡ Some m
  pub row : List Leaf
  pub reached : Reached (outcome p f.method) (entry_of p f.method) (f.point, row)
  pub fits : RowFits bs m.variables f.variables row

-- a lent variable and its parameter hold the same address; its leaf before the call is the declared one or cut off
pub record IsLent (bs : List Block) (k : HeapType) (mine theirs : Option ℕ) (l : Leaf) : Type 0 where
  pub at : ℕ
  pub within : at < length bs
  pub mine_is : mine ≡ Some at
  pub theirs_is : theirs ≡ Some at
  pub leaf : (l ≡ declared_leaf k) ⊎ ((l ≡ leaf.CutOff) × (is_end k ≡ true) × (cut_off bs at ≡ true))

abbrev pub with_first : (Argument → Type 0) → (List Argument → Type 0) → List Argument → Type 0
with_first P Q [] = ⊥
with_first P Q (a ∷ arguments) = P a × Q arguments

-- the arguments of a call, matched with the variables of the callee and what they have
abbrev pub by_role : Role → Type 0 → Type 0 → Type 0 → Type 0
by_role role.Local P Q R = P
by_role role.Lent P Q R = Q
by_role role.Claimed P Q R = R

abbrev pub AreLent : List Block → List (Option ℕ) → List Leaf → List VariableModel → List (Option ℕ) → List Argument → Type 0
AreLent bs mine before [] ys arguments = arguments ≡ []
AreLent bs mine before (x ∷ xs) [] arguments = ⊥
AreLent bs mine before (x ∷ xs) (y ∷ ys) arguments =
    by_role x.role (AreLent bs mine before xs ys arguments)
    (with_first (λ a. (a.claimed ≡ false) × IsLent bs x.ty (read mine a.mention.variable.0) y (leaf_at before a.mention.variable.0))
    (AreLent bs mine before xs ys) arguments)
    (with_first (λ a. (a.claimed ≡ true) × (read mine a.mention.variable.0 ≡ None)) (AreLent bs mine before xs ys) arguments)

-- a frame that waits for the one above it, at its call
pub record WaitsFor (p : ProgramModel) (bs : List Block) (g above : Frame) : Type 0 where
  pub m : MethodModel
  pub there : method_at p g.method ≡ Some m
  pub callee : MethodModel
  pub callee_there : method_at p above.method ≡ Some callee
  pub place : Place
  pub arguments : List Argument
  pub target : Option Mention
  pub next : ℕ
  pub call : instruction_at p g ≡ Some (Call place record { 0 = above.method } arguments target next)
  pub before : List Leaf
  pub reached : Reached (outcome p g.method) (entry_of p g.method) (g.point, before)
  pub fits : RowFits bs m.variables (kept_back p g) (after_claims (after_claims before arguments) (as_claimed arguments))
  pub lent : AreLent bs g.variables before callee.variables above.variables arguments
  pub long : length g.variables ≡ length m.variables

-- the last frame has no lent parameters and returns nothing
pub record IsLast (p : ProgramModel) (f : Frame) : Type 0 where
  pub m : MethodModel
  pub there : method_at p f.method ≡ Some m
  pub void : m.result ≡ None
  pub alone : (v : ℕ) (x : VariableModel) → slice_get m.variables v ≡ Some x → is_lent_role x.role ≡ false

abbrev pub RestFits : ProgramModel → List Block → Frame → List Frame → Type 0
RestFits p bs above [] = IsLast p above
RestFits p bs above (g ∷ rest) = WaitsFor p bs g above × RestFits p bs g rest

abbrev pub StackFits : ProgramModel → List Block → List Frame → Type 0
StackFits p bs [] = Unit {0}
StackFits p bs (f ∷ rest) = TopFits p bs f × RestFits p bs f rest

-- ---- queues
abbrev pub standing_in : ℕ → List ℕ → ℕ
standing_in x [] = 0
standing_in x (y ∷ ys) = one_if (y == x) + standing_in x ys

abbrev pub in_queue : ℕ → List MessageHeld → ℕ
in_queue x [] = 0
in_queue x (m ∷ ms) = standing_in x m.payload + in_queue x ms

-- addresses of these types, each as declared
abbrev pub AreDeclared : List Block → List HeapType → List ℕ → Type 0
AreDeclared bs [] [] = Unit {0}
AreDeclared bs (k ∷ types) (a ∷ given) = HasLeaf bs k a (declared_leaf k) × AreDeclared bs types given
AreDeclared bs _ _ = ⊥

abbrev pub AreBrought : ProgramModel → List Block → List MessageHeld → Type 0
AreBrought p bs queue = Each (λ m. AreDeclared bs (payload_types p m.message) m.payload) queue

-- ---- fields
-- the fields of each block that is not freed hold addresses as declared
abbrev pub FieldsDeclared : ProgramModel → List Block → Type 0
FieldsDeclared p bs = (a : ℕ) → a < length bs → is_freed_at bs a ≡ false
    → AreDeclared bs (field_types p.structs (block_at bs a).ty) (block_at bs a).fields

-- ---- channels
-- an end that is not freed has the state and the queue of its side
pub record IsEndOf (ends : Ends) (side : Side) (b : Block) : Type 0 where
  pub state : ends.state (sign_from side) ≡ record { 0 = b.state }
  pub queue : map (λ n. n.0) (ends.queue (sign_to side)) ≡ map (λ m. m.message) b.queue

-- an importing end, its peer, and moves of two ends that lead to their states and queues
pub record ChannelFits (p : ProgramModel) (bs : List Block) (a c : ℕ) : Type 0 where
  pub peer : ℕ
  pub peer_is : (block_at bs a).peer ≡ peer
  pub peer_there : peer < length bs
  pub peer_type : stateless (block_at bs peer).ty ≡ Endpoint record { 0 = c } Exp record { 0 = 0 }
  pub back : (block_at bs peer).peer ≡ a
  pub contract : ContractModel
  pub contract_there : slice_get p.contracts c ≡ Some contract
  pub n : ℕ
  pub ends : Ends
  pub moves : Moves contract.parts.edges n (ends_at_start contract.parts.first) ends
  pub mine : is_freed_at bs a ≡ false → IsEndOf ends Imp (block_at bs a)
  pub theirs : is_freed_at bs peer ≡ false → IsEndOf ends Exp (block_at bs peer)

-- an exporting end is the peer of its peer
pub record IsPeer (bs : List Block) (a c : ℕ) : Type 0 where
  pub peer : ℕ
  pub peer_is : (block_at bs a).peer ≡ peer
  pub peer_there : peer < length bs
  pub peer_type : stateless (block_at bs peer).ty ≡ Endpoint record { 0 = c } Imp record { 0 = 0 }
  pub back : (block_at bs peer).peer ≡ a

pub record ChannelsFit (p : ProgramModel) (bs : List Block) : Type 0 where
  pub imp : (a c : ℕ) → a < length bs → stateless (block_at bs a).ty ≡ Endpoint record { 0 = c } Imp record { 0 = 0 }
      → ChannelFits p bs a c
  pub exp : (a c : ℕ) → a < length bs → stateless (block_at bs a).ty ≡ Endpoint record { 0 = c } Exp record { 0 = 0 } → IsPeer bs a c

-- what holds of the blocks in every run, whatever its verdicts
pub record BlocksFit (p : ProgramModel) (bs : List Block) : Type 0 where
  pub channels : ChannelsFit p bs
  pub queues : (a x : ℕ) → in_queue x (block_at bs a).queue ≡ one_if (is_queue (block_at bs x).owner a)
  pub held : FieldsHold bs

-- ---- requirements on contracts
-- contracts are sound, and their bounds are not exceeded by any walk
pub record IsSoundProgram (p : ProgramModel) (bound : QueueBounds) : Type 0 where
  pub whole : (c : ℕ) (x : ContractModel) → slice_get p.contracts c ≡ Some x → IsWhole x.parts
  pub sound : (c : ℕ) (x : ContractModel) → slice_get p.contracts c ≡ Some x → IsSound x.parts
  pub bounds : (c : ℕ) (x : ContractModel) (side : Side) → slice_get p.contracts c ≡ Some x
      → IsBound x.parts.edges x.parts.first (sign_to side) (bound c side)

-- ---- the invariant
pub record Holds (p : ProgramModel) (w : World) : Type 0 where
  pub channels : ChannelsFit p w.blocks
  pub stacks : (q : ℕ) → StackFits p w.blocks (stack_at w.processes q)
  pub own : (q a : ℕ) → held p a (stack_at w.processes q) ≡ one_if (owns w.blocks q a)
  pub queues : (a x : ℕ) → in_queue x (block_at w.blocks a).queue ≡ one_if (is_queue (block_at w.blocks x).owner a)
  pub brought : (a : ℕ) → AreBrought p w.blocks (block_at w.blocks a).queue
  pub held : FieldsHold w.blocks
  pub declared : FieldsDeclared p w.blocks

pub blocks_fit : (p : ProgramModel) (w : World) → Holds p w → BlocksFit p w.blocks
blocks_fit p w h = record { channels = h.channels; queues = h.queues; held = h.held }

-- what is cut off remains cut off
pub record StaysCutOff (bs bs' : List Block) : Type 0 where
  pub long : length bs ≤ length bs'
  pub each : (a : ℕ) → a < length bs → cut_off bs a ≡ true → cut_off bs' a ≡ true
