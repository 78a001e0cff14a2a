-- What an event of any run does to blocks, whatever is found: a process gives only what it owns, and gives it once.
use Rattle.std.proofs.Common.{◌≡◌, ◌≢◌, ◌==◌, ◌&&◌, ℕ, ◌<◌, ◌≤◌, Bool, true, false, not, List, [], ◌∷◌, ◌++◌, Some, None, length, refl}
use Rattle.std.proofs.Common.{sym, ap, ◌∙◌, subst, arith, ⊎_elim}
use Rattle.std.proofs.lemmas.Bool.{cases_Bool, cases_lt, eqb-true}
use Rattle.std.specs.Prelude.{Option, ◌||◌, if◌then◌else◌, is_some, slice_get}
use Rattle.program.specs.Lists.{Each, is_among}
use Rattle.program.specs.Programs.{ProgramModel}
use Rattle.program.specs.WellFormed.{is_end}
use Rattle.program.specs.declared.call.Argument.{Argument}
use Rattle.program.specs.declared.types.HeapType.TheVariants.{Struct, Array, Endpoint}
use Rattle.program.specs.declared.types.HeapType.{HeapType}
use Rattle.program.specs.declared.types.Side.{Side}
use Rattle.contracts.specs.Leaving.{end_on}
use Rattle.rules.specs.Endpoints.{edges_out}
use Rattle.machine.specs.Blocks.{is_own_still, exchanged_block, goes_with, with_new_owner, sent_block, freed_block, argument_tests}
use Rattle.machine.specs.Frames.{address, addresses}
use Rattle.machine.specs.Outcomes.{Outcome, Moved, Faulty, QueueBounds, FaultTest, test, after_tests}
use Rattle.machine.specs.World.{no_type, MessageHeld, Block, Frame, World, block_at, read, owns, is_own}
use Rattle.machine.specs.World.{is_inside, is_queue, is_freed, change_each, no_block}
use Rattle.machine.specs.declared.halts.Fault.TheVariants.{F1, F3, F6}
use Rattle.machine.specs.declared.halts.Fault.{Fault}
use Rattle.machine.specs.declared.worlds.Owner.TheVariants.{Process, Channel}
use Rattle.machine.specs.declared.worlds.Owner.{Owner}
use Rattle.sound.specs.Operands.{stateless}
use Rattle.sound.proofs.Arguments.{or_right}
use Rattle.sound.proofs.Basics.{block_past, block_append, changed_all}
use Rattle.sound.proofs.blocks.Blocks.{AreFresh, queue_append}
use Rattle.sound.proofs.events.Deleting as deleting
use Rattle.sound.proofs.blocks.ExchangedBlocks as exchanging
use Rattle.sound.proofs.blocks.HandedBlocks.{handed_fits}
use Rattle.sound.proofs.Invariant.{one_if, standing_in, BlocksFit}
use Rattle.sound.proofs.Lists.{and_true}
use Rattle.rules.proofs.TransferLemmas.{of_not}
use Rattle.machine.proofs.ChangeLemmas.{changed_length, true≢false}
use Rattle.machine.proofs.Holding.{owned_there}

-- ---- the invariant of the blocks: besides channels and queues, a block that is no end has an empty queue
abbrev pub ArePlain : List Block → Type 0
ArePlain bs = (a : ℕ) → is_end (block_at bs a).ty ≡ false → (block_at bs a).queue ≡ []

pub record RunFits (p : ProgramModel) (bs : List Block) : Type 0 where
  pub fits : BlocksFit p bs
  pub plain : ArePlain bs

-- what an event of any run may yield: blocks with this invariant, or a fault other than F6
abbrev pub IsFine : ProgramModel → Outcome → Type 0
IsFine p (Moved v) = RunFits p v.blocks
IsFine p (Faulty F6) = ⊥
IsFine p _ = Unit {0}

-- ---- tests
pub one_test : (p : ProgramModel) (b : Bool) (fault : Fault) (tests : List FaultTest) (o : Outcome) → (b ≡ false → IsFine p (Faulty fault))
    → (b ≡ true → IsFine p (after_tests tests o)) → IsFine p (after_tests (test b fault ∷ tests) o)
one_test p true fault tests o f g = g refl
one_test p false fault tests o f g = f refl

pub tested_append : (xs ys : List FaultTest) (o : Outcome) → after_tests (xs ++ ys) o ≡ after_tests xs (after_tests ys o)
tested_append [] ys o = refl
tested_append (None ∷ xs) ys o = tested_append xs ys o
tested_append (Some fault ∷ xs) ys o = refl

pub claim_fine : (p : ProgramModel) (c : Bool) → IsFine p (Faulty (if c then F3 else F1))
claim_fine p true = tt
claim_fine p false = tt

pub or_rest : (x y : Bool) → x ≡ false → x || y ≡ true → y ≡ true
or_rest true y e h = absurd (true≢false refl e)
or_rest false y e h = h

pub some_is : (x : Option ℕ) → is_some x ≡ true → (t : ℕ) × (x ≡ Some t)
some_is None e = absurd (cc)
some_is (Some t) e = (t, refl)

pub no_edges : (p : ProgramModel) (k : HeapType) (q message : ℕ) → is_end k ≡ false → end_on (edges_out p (Some k) q) message ≡ None
no_edges p (Struct n) q message e = refl
no_edges p (Array n) q message e = refl
no_edges p (Endpoint c side state) q message e = absurd (true≢false refl e)

pub end_of_type : (k : HeapType) (c : ℕ) (side : Side) → stateless k ≡ Endpoint record { 0 = c } side record { 0 = 0 } → is_end k ≡ true
end_of_type (Struct n) c side e = absurd (cc)
end_of_type (Array n) c side e = absurd (cc)
end_of_type (Endpoint d s q) c side e = refl

-- ---- appended blocks
pub plain_append : (self : ℕ) (bs more : List Block) → AreFresh self more → ArePlain bs → ArePlain (bs ++ more)
plain_append self bs more fresh h a no_end = queue_append self bs more a fresh ∙ ⊎_elim
    (λ short. h a (ap (λ (b : Block). is_end b.ty) (sym (block_append bs more a short)) ∙ no_end))
    (λ past. ap (λ (b : Block). b.queue) (block_past bs a past)) (cases_lt a (length bs))

module _ (p : ProgramModel) (bound : QueueBounds) (w : World) (self : ℕ) (f : Frame) (rest : List Frame) (h : RunFits p w.blocks) where
  -- a variable whose block the process owns
  pub record OwnAt (x : Option ℕ) : Type 0 where
    pub at : ℕ
    pub is : x ≡ Some at
    pub owned : owns w.blocks self at ≡ true

  pub own_at : (x : Option ℕ) → is_own w.blocks self x ≡ true → OwnAt x
  own_at None e = absurd (cc)
  own_at (Some a) e = record { at = a; is = refl; owned = e }

  -- ---- arguments
  abbrev pub AreGiven : List ℕ → List Argument → Type 0
  AreGiven taken [] = Unit {0}
  AreGiven taken (a ∷ arguments) =
      (is_own_still w.blocks self taken (read f.variables a.mention.variable.0) ≡ true)
      × AreGiven (if a.claimed then address (read f.variables a.mention.variable.0) ∷ taken else taken) arguments

  pub given_fine : (taken : List ℕ) (arguments : List Argument) (o : Outcome) → (AreGiven taken arguments → IsFine p o)
      → IsFine p (after_tests (argument_tests w.blocks self f.variables taken arguments) o)
  given_fine taken [] o go = go tt
  given_fine taken (a ∷ arguments) o go =
      one_test p (is_own_still w.blocks self taken (read f.variables a.mention.variable.0)) (if a.claimed then F3 else F1) _ o
      (λ e. claim_fine p a.claimed)
      (λ e. given_fine (if a.claimed then address (read f.variables a.mention.variable.0) ∷ taken else taken) arguments o
      (λ more. go (e, more)))

  pub still_own : (taken : List ℕ) (x : Option ℕ) → is_own_still w.blocks self taken x ≡ true
      → (owns w.blocks self (address x) ≡ true) × (is_among taken (address x) ≡ false)
  still_own taken None e = absurd (cc)
  still_own taken (Some a) e = let k = and_true (owns w.blocks self a) (not (is_among taken a)) e in (k.0, of_not (is_among taken a) k.1)

  pub given_mine : (taken : List ℕ) (arguments : List Argument) → AreGiven taken arguments → (x : ℕ)
      → is_among (addresses f.variables arguments) x ≡ true → owns w.blocks self x ≡ true
  given_mine taken [] h x e = absurd (cc)
  given_mine taken (a ∷ arguments) h x e = ⊎_elim
      (λ s. ap (owns w.blocks self) (sym (eqb-true (address (read f.variables a.mention.variable.0)) x s))
      ∙ (still_own taken (read f.variables a.mention.variable.0) h.0).0)
      (λ s. given_mine (if a.claimed then address (read f.variables a.mention.variable.0) ∷ taken else taken) arguments h.1 x
      (or_rest (address (read f.variables a.mention.variable.0) == x) (is_among (addresses f.variables arguments) x) s e))
      (cases_Bool (address (read f.variables a.mention.variable.0) == x))

  -- what was taken before is not given again
  pub given_once : (taken : List ℕ) (arguments : List Argument) → Each (λ a. a.claimed ≡ true) arguments → AreGiven taken arguments
      → (x : ℕ) → (is_among taken x ≡ true → standing_in x (addresses f.variables arguments) ≡ 0)
      × (standing_in x (addresses f.variables arguments) ≤ 1)
  given_once taken [] c h x = ((λ e. refl), omega arith)
  given_once taken (a ∷ arguments) c h x =
      let y = address (read f.variables a.mention.variable.0) in
      let own = still_own taken (read f.variables a.mention.variable.0) h.0 in
      let more = given_once (y ∷ taken) arguments c.1 (subst (λ (b : Bool). AreGiven (if b then y ∷ taken else taken) arguments) c.0 h.1)
      x in (
        λ e.
            let no : (y == x) ≡ false =
            ⊎_elim (λ s. absurd (true≢false e (ap (is_among taken) (sym (eqb-true y x s)) ∙ own.1))) (λ s. s) (cases_Bool (y == x)) in
            let z : one_if (y == x) ≡ 0 = ap one_if no in
            let m = more.0 (or_right (y == x) (is_among taken x) e) in
            omega arith,
        ⊎_elim
            (λ s.
            let z : one_if (y == x) ≡ 1 = ap one_if s in
            let m = more.0 (ap (λ (b : Bool). b || is_among taken x) s) in
            omega arith)
            (λ s.
            let z : one_if (y == x) ≡ 0 = ap one_if s in
            let m = more.1 in
            omega arith)
            (cases_Bool (y == x)),
      )

  -- ---- blocks that are freed
  pub delete_fits : (a : ℕ) → owns w.blocks self a ≡ true → RunFits p (change_each (freed_block (goes_with w.blocks a)) w.blocks)
  delete_fits a owned = record {
    fits = record {
      channels = deleting.channels p w self h.fits a owned;
      queues = deleting.queues p w self h.fits a owned;
      held = deleting.held_now p w self h.fits a owned;
    };
    plain = λ j no_end. ⊎_elim (λ e. deleting.queue_it p w self h.fits a owned j e)
        (λ n. deleting.queue_other p w self h.fits a owned j n
        ∙ h.plain j (sym (ap (λ (b : Block). is_end b.ty) (deleting.at p w self h.fits a owned j)) ∙ no_end))
        (cases_Bool (goes_with w.blocks a j));
  }

  -- ---- a block and the one in a field change places
  pub exchange_fits : (at field given held : ℕ) → owns w.blocks self at ≡ true → owns w.blocks self given ≡ true → given ≢ at
      → slice_get (block_at w.blocks at).fields field ≡ Some held
      → RunFits p (change_each (exchanged_block self at field given held) w.blocks)
  exchange_fits at field given held own_at own_given apart found = record {
    fits = exchanging.fits_now p w self h.fits at field given held own_at own_given apart found;
    plain = λ j no_end.
        let is = exchanging.is_at p w self h.fits at field given held own_at own_given apart found j in
        ap (λ (b : Block). b.queue) is ∙ h.plain j (sym (ap (λ (b : Block). is_end b.ty) is) ∙ no_end);
  }

  -- ---- blocks that are handed on
  pub handed_run : (bs' : List Block) (given : List ℕ) (to : Owner) → ((x : ℕ) → is_among given x ≡ true → owns w.blocks self x ≡ true)
      → is_freed to ≡ false → ((a : ℕ) → is_queue to a ≡ false) → ((a : ℕ) → is_inside to a ≡ false) → length bs' ≡ length w.blocks
      → ((j : ℕ) → block_at bs' j ≡ with_new_owner to given j (block_at w.blocks j)) → RunFits p bs'
  handed_run bs' given to mine lives no_queue no_block_more long at = record {
    fits = handed_fits p w.blocks bs' self given to h.fits mine lives no_queue long at no_block_more;
    plain = λ j no_end. ap (λ (b : Block). b.queue) (at j) ∙ h.plain j (sym (ap (λ (b : Block). is_end b.ty) (at j)) ∙ no_end);
  }

  pub start_fits : (given : List ℕ) → ((x : ℕ) → is_among given x ≡ true → owns w.blocks self x ≡ true)
      → RunFits p (change_each (with_new_owner (Process (length w.processes)) given) w.blocks)
  start_fits given mine =
      let to = Process (length w.processes) in
      handed_run (change_each (with_new_owner to given) w.blocks) given to mine refl (λ a. refl) (λ a. refl) (changed_length (with_new_owner to given) w.blocks)
      (λ j. changed_all (with_new_owner to given) w.blocks j (λ past.
      ap (λ (b : Bool). record { ty = no_type; owner = if b then to else Channel; peer = 0; state = 0; queue = []; fields = [] })
      (⊎_elim (λ t. absurd (let k = owned_there w.blocks self j (mine j t) in omega arith)) (λ e. e) (cases_Bool (is_among given j)))))

  -- a message to a freed peer: what it brings goes to the channel
  pub sent_lost : (a state' to : ℕ) (g : Bool) (m : MessageHeld) (j : ℕ) (b : Block) → g ≡ true → (j ≡ a → state' ≡ b.state)
      → sent_block a state' to g m j b ≡ with_new_owner Channel m.payload j b
  sent_lost a state' to g m j b gone same =
      ap (λ (x : Bool). sent_block a state' to x m j b) gone
      ∙ (ap (λ (q : List MessageHeld). record {
        ty = b.ty;
        owner = if is_among m.payload j then Channel else b.owner;
        peer =
            b.peer;
        state = if j == a then state' else b.state;
        queue = q;
        fields = b.fields;
      }) (no_more (j == to))
      ∙ ap (λ (n : ℕ). record {
        ty = b.ty;
        owner = if is_among m.payload j then Channel else b.owner;
        peer = b.peer;
        state =
            n;
        queue = b.queue;
        fields = b.fields;
      }) (state_same (j == a) refl))
    where
      no_more : (x : Bool) → (if x && false then b.queue ++ m ∷ [] else b.queue) ≡ b.queue
      no_more true = refl
      no_more false = refl

      state_same : (x : Bool) → (j == a) ≡ x → (if x then state' else b.state) ≡ b.state
      state_same true e = same (eqb-true j a e)
      state_same false e = refl

  pub lost_fits : (a state' to : ℕ) (g : Bool) (m : MessageHeld) → g ≡ true → state' ≡ (block_at w.blocks a).state → a < length w.blocks
      → ((x : ℕ) → is_among m.payload x ≡ true → owns w.blocks self x ≡ true) → RunFits p (change_each (sent_block a state' to g m) w.blocks)
  lost_fits a state' to g m gone same within mine =
      handed_run (change_each (sent_block a state' to g m) w.blocks) m.payload Channel mine refl (λ a. refl) (λ a. refl)
      (changed_length (sent_block a state' to g m) w.blocks)
      (λ j. changed_all (sent_block a state' to g m) w.blocks j
      (λ past. sent_lost a state' to g m j no_block gone (λ e. absurd (omega arith))
      ∙ ap (λ (o : Owner). record { ty = no_type; owner = o; peer = 0; state = 0; queue = []; fields = [] })
      (always_channel (is_among m.payload j)))
      ∙ sent_lost a state' to g m j (block_at w.blocks j) gone (λ e. same ∙ ap (λ (n : ℕ). (block_at w.blocks n).state) (sym e)))
    where
      always_channel : (x : Bool) → (if x then Channel else Channel) ≡ Channel
      always_channel true = refl
      always_channel false = refl
