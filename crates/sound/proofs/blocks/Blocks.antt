-- Blocks with unchanged ends, and appended blocks.
use Rattle.std.proofs.Common.{◌≡◌, ◌≢◌, ◌==◌, ◌&&◌, ℕ, zero, suc, ◌+◌, ◌<◌, ◌≤◌, true, false, List, [], ◌∷◌, ◌++◌, Some, length, map, refl}
use Rattle.std.proofs.Common.{sym, ap, ◌∙◌, subst, arith, inl, ⊎_elim}
use Rattle.std.proofs.lemmas.Bool.{cases_lt}
use Rattle.std.proofs.lemmas.List.{length-append}
use Rattle.std.specs.Option.{option_map_or}
use Rattle.std.specs.Prelude.{Option, slice_get}
use Rattle.program.specs.Methods.{MethodModel, VariableModel}
use Rattle.program.specs.Programs.{ProgramModel}
use Rattle.program.specs.WellFormed.{is_end}
use Rattle.program.specs.declared.types.HeapType.TheVariants.{Endpoint}
use Rattle.program.specs.declared.types.HeapType.{HeapType}
use Rattle.program.specs.declared.types.Side.TheVariants.{Imp, Exp}
use Rattle.program.specs.declared.types.Side.{Side}
use Rattle.contracts.specs.TwoEnds.{Ends}
use Rattle.machine.specs.Blocks.{new_block}
use Rattle.machine.specs.Frames.{method_at, type_at, variables_of}
use Rattle.machine.specs.Heaps.{FieldsHold}
use Rattle.machine.specs.World.{no_type, MessageHeld, Block, block_at, owns, is_freed_at, is_inside, is_process, is_queue, is_freed}
use Rattle.machine.proofs.Holding.{held_same}
use Rattle.machine.specs.World.{is_empty}
use Rattle.machine.specs.declared.worlds.Owner.TheVariants.{Process}
use Rattle.machine.specs.declared.worlds.Owner.{Owner}
use Rattle.sound.specs.Operands.{stateless}
use Rattle.sound.proofs.Basics.{block_append}
use Rattle.sound.proofs.Invariant.{one_if, one_at, StaysCutOff, in_queue, AreBrought, IsEndOf, ChannelFits, IsPeer, ChannelsFit}
use Rattle.sound.proofs.Kept.{AreKept, LiesInside, SameFields, brought_kept}
use Rattle.sound.proofs.Lists.{and_true, both_true}
use Rattle.sound.proofs.Quiet.{end_stateless}
use Rattle.machine.proofs.ChangeLemmas.{eqb_same, eqb_apart, true≢false}
use Rattle.rules.proofs.RepeatLemmas.{suc_suc}

-- ---- channels with unchanged ends
-- an end that is not freed now was not freed before, and is unchanged
pub record SameEnd (b b' : Block) : Type 0 where
  pub ty : b'.ty ≡ b.ty
  pub peer : b'.peer ≡ b.peer
  pub lives : is_freed b'.owner ≡ false → is_freed b.owner ≡ false
  pub state : is_freed b'.owner ≡ false → b'.state ≡ b.state
  pub queue : is_freed b'.owner ≡ false → b'.queue ≡ b.queue

end_same : (ends : Ends) (side : Side) (b b' : Block) → SameEnd b b' → is_freed b'.owner ≡ false → IsEndOf ends side b
    → IsEndOf ends side b'
end_same ends side b b' same lives h = record {
  state = h.state ∙ ap (λ (n : ℕ). record { 0 = n }) (sym (same.state lives));
  queue = h.queue ∙ ap (λ (q : List MessageHeld). map (λ x. x.message) q) (sym (same.queue lives));
}

pub channels_same : (p : ProgramModel) (bs bs' : List Block) → length bs ≤ length bs'
    → ((a : ℕ) → a < length bs → SameEnd (block_at bs a) (block_at bs' a))
    → ((a : ℕ) → length bs ≤ a → is_end (block_at bs' a).ty ≡ false) → ChannelsFit p bs → ChannelsFit p bs'
channels_same p bs bs' more same fresh h = record {
  imp = λ a c within is. ⊎_elim (λ old. imp a c old is) (λ new. absurd (not_new a c Imp new is)) (cases_lt a (length bs));
  exp = λ a c within is. ⊎_elim (λ old. exp a c old is) (λ new. absurd (not_new a c Exp new is)) (cases_lt a (length bs));
}
  where
    not_new : (a c : ℕ) (side : Side) → length bs ≤ a → stateless (block_at bs' a).ty ≡ Endpoint record { 0 = c } side record { 0 = 0 }
        → ⊥
    not_new a c side new is = true≢false (ap is_end is) (sym (end_stateless (block_at bs' a).ty) ∙ fresh a new)

    imp : (a c : ℕ) → a < length bs → stateless (block_at bs' a).ty ≡ Endpoint record { 0 = c } Imp record { 0 = 0 }
        → ChannelFits p bs' a c
    imp a c old is =
        let k = h.imp a c old (sym (ap stateless (same a old).ty) ∙ is) in
        record {
          peer = k.peer;
          peer_is = (same a old).peer ∙ k.peer_is;
          peer_there = let t = k.peer_there in omega arith;
          peer_type = ap stateless (same k.peer k.peer_there).ty ∙ k.peer_type;
          back = (same k.peer k.peer_there).peer ∙ k.back;
          contract = k.contract;
          contract_there = k.contract_there;
          n = k.n;
          ends = k.ends;
          moves = k.moves;
          mine = λ lives. end_same k.ends Imp (block_at bs a) (block_at bs' a) (same a old) lives (k.mine ((same a old).lives lives));
          theirs = λ lives. end_same k.ends Exp (block_at bs k.peer) (block_at bs' k.peer) (same k.peer k.peer_there) lives
              (k.theirs ((same k.peer k.peer_there).lives lives));
        }

    exp : (a c : ℕ) → a < length bs → stateless (block_at bs' a).ty ≡ Endpoint record { 0 = c } Exp record { 0 = 0 } → IsPeer bs' a c
    exp a c old is =
        let k = h.exp a c old (sym (ap stateless (same a old).ty) ∙ is) in
        record {
          peer = k.peer;
          peer_is = (same a old).peer ∙ k.peer_is;
          peer_there = let t = k.peer_there in omega arith;
          peer_type = ap stateless (same k.peer k.peer_there).ty ∙ k.peer_type;
          back = (same k.peer k.peer_there).peer ∙ k.back;
        }

pub same_end : (b b' : Block) → b' ≡ b → SameEnd b b'
same_end b b' e = record {
  ty = ap (λ (x : Block). x.ty) e;
  peer = ap (λ (x : Block). x.peer) e;
  lives =
      λ l. sym (ap (λ (x : Block). is_freed x.owner) e)
      ∙ l;
  state = λ l. ap (λ (x : Block). x.state) e;
  queue = λ l. ap (λ (x : Block). x.queue) e;
}

-- ---- appended blocks
-- blocks of a process, with empty queues
pub record AreFresh (self : ℕ) (more : List Block) : Type 0 where
  pub queue : (k : ℕ) → (block_at more k).queue ≡ []
  pub no_queue : (k a : ℕ) → is_queue (block_at more k).owner a ≡ false
  pub theirs : (k q : ℕ) → q ≢ self → is_process (block_at more k).owner q ≡ false

-- blocks that are not freed, with empty fields, inside no other
pub record AreBare (more : List Block) : Type 0 where
  pub fields : (k : ℕ) → (block_at more k).fields ≡ []
  pub outside : (k a : ℕ) → is_inside (block_at more k).owner a ≡ false
  pub alive : (k : ℕ) → is_freed_at more k ≡ false

pub fields_append : (bs more : List Block) (a : ℕ) → AreBare more → (block_at (bs ++ more) a).fields ≡ (block_at bs a).fields
fields_append [] more a bare = bare.fields a
fields_append (b ∷ bs) more zero bare = refl
fields_append (b ∷ bs) more (suc a) bare = fields_append bs more a bare

pub inside_append : (bs more : List Block) (x a : ℕ) → AreBare more
    → is_inside (block_at (bs ++ more) x).owner a ≡ is_inside (block_at bs x).owner a
inside_append [] more x a bare = bare.outside x a
inside_append (b ∷ bs) more zero a bare = refl
inside_append (b ∷ bs) more (suc x) a bare = inside_append bs more x a bare

pub freed_beside : (bs more : List Block) (a : ℕ) → AreBare more → is_freed_at (bs ++ more) a ≡ is_freed_at bs a
freed_beside [] more a bare = bare.alive a
freed_beside (b ∷ bs) more zero bare = refl
freed_beside (b ∷ bs) more (suc a) bare = freed_beside bs more a bare

pub held_append : (bs more : List Block) → AreBare more → FieldsHold bs → FieldsHold (bs ++ more)
held_append bs more bare h =
    held_same bs (bs ++ more) (λ a. fields_append bs more a bare) (λ j a. inside_append bs more j a bare)
    (λ a. freed_beside bs more a bare) h

pub queue_append : (self : ℕ) (bs more : List Block) (a : ℕ) → AreFresh self more → (block_at (bs ++ more) a).queue ≡ (block_at bs a).queue
queue_append self [] more a fresh = fresh.queue a
queue_append self (b ∷ bs) more zero fresh = refl
queue_append self (b ∷ bs) more (suc a) fresh = queue_append self bs more a fresh

pub owner_append : (self : ℕ) (bs more : List Block) (x a : ℕ) → AreFresh self more
    → is_queue (block_at (bs ++ more) x).owner a ≡ is_queue (block_at bs x).owner a
owner_append self [] more x a fresh = fresh.no_queue x a
owner_append self (b ∷ bs) more zero a fresh = refl
owner_append self (b ∷ bs) more (suc x) a fresh = owner_append self bs more x a fresh

-- queues still bring what they own after blocks are appended
pub queues_append : (self : ℕ) (bs more : List Block) → AreFresh self more
    → ((a x : ℕ) → in_queue x (block_at bs a).queue ≡ one_if (is_queue (block_at bs x).owner a)) → (a x : ℕ)
    → in_queue x (block_at (bs ++ more) a).queue ≡ one_if (is_queue (block_at (bs ++ more) x).owner a)
queues_append self bs more fresh h a x =
    ap (in_queue x) (queue_append self bs more a fresh) ∙ (h a x ∙ ap one_if (sym (owner_append self bs more x a fresh)))

pub others_append : (self : ℕ) (bs more : List Block) (q a : ℕ) → AreFresh self more → q ≢ self → owns (bs ++ more) q a ≡ owns bs q a
others_append self [] more q a fresh n = fresh.theirs a q n
others_append self (b ∷ bs) more q zero fresh n = refl
others_append self (b ∷ bs) more q (suc a) fresh n = others_append self bs more q a fresh n

pub freed_append : (bs more : List Block) (a : ℕ) → is_freed_at bs a ≡ true → is_freed_at (bs ++ more) a ≡ true
freed_append [] more a h = absurd (cc)
freed_append (b ∷ bs) more zero h = h
freed_append (b ∷ bs) more (suc a) h = freed_append bs more a h

pub cut_append : (bs more : List Block) → StaysCutOff bs (bs ++ more)
cut_append bs more = record {
  long = simp length-append (omega arith);
  each = λ a within cut.
      let k = and_true (is_freed_at bs (block_at bs a).peer) (is_empty (block_at bs a).queue) cut in
      subst (λ (b : Block). is_freed_at (bs ++ more) b.peer && is_empty b.queue ≡ true) (sym (block_append bs more a within))
      (both_true (is_freed_at (bs ++ more) (block_at bs a).peer) (is_empty (block_at bs a).queue)
      (freed_append bs more (block_at bs a).peer k.0) k.1);
}

pub kept_append : (bs more : List Block) (P : ℕ → Type 0) → AreKept bs (bs ++ more) P
kept_append bs more P a some within = record {
  there = simp length-append (omega arith);
  ty = ap (λ (b : Block). b.ty) (block_append bs more a within);
  state = inl (ap (λ (b : Block). b.state) (block_append bs more a within));
}

-- fields are unchanged when blocks are appended
pub same_append : (p : ProgramModel) (bs more : List Block) → SameFields p bs (bs ++ more)
same_append p bs more = record {
  cut = cut_append bs more;
  kept = kept_append bs more (LiesInside bs);
  types = λ a short. ap (λ (b : Block). b.ty) (block_append bs more a short);
  lives = λ a short l. sym (ap (λ (b : Block). is_freed b.owner) (block_append bs more a short)) ∙ l;
  fields = λ a short l. ap (λ (b : Block). b.fields) (block_append bs more a short);
}

pub brought_append : (p : ProgramModel) (self : ℕ) (bs more : List Block) (a : ℕ) → AreFresh self more
    → AreBrought p bs (block_at bs a).queue → AreBrought p (bs ++ more) (block_at (bs ++ more) a).queue
brought_append p self bs more a fresh h =
    subst (λ (q : List MessageHeld). AreBrought p (bs ++ more) q) (sym (queue_append self bs more a fresh))
    (brought_kept p bs (bs ++ more) (block_at bs a).queue (cut_append bs more)
    (kept_append bs more (λ x. 0 < in_queue x (block_at bs a).queue)) h)

-- the process owns an appended block of its own
pub new_counts : (self : ℕ) (bs : List Block) (b : Block) (a : ℕ) → b.owner ≡ Process self
    → one_at a (Some (length bs)) + one_if (owns bs self a) ≡ one_if (owns (bs ++ b ∷ []) self a)
new_counts self [] b zero own =
    let e : one_if (is_process b.owner self) ≡ 1 =
    ap (λ (o : Owner). one_if (is_process o self)) own ∙ ap one_if (eqb_same self self refl) in
    let z : one_if (0 == 0) ≡ 1 = ap one_if (eqb_same 0 0 refl) in
    omega arith
new_counts self [] b (suc a) own =
    let z : one_if (0 == suc a) ≡ 0 = ap one_if (eqb_apart 0 (suc a) (λ e. omega arith)) in
    omega arith
new_counts self (x ∷ bs) b zero own =
    let z : one_if (suc (length bs) == 0) ≡ 0 = ap one_if (eqb_apart (suc (length bs)) 0 (λ e. omega arith)) in
    omega arith
new_counts self (x ∷ bs) b (suc a) own =
    let e : one_if (suc (length bs) == suc a) ≡ one_if (length bs == a) = ap one_if (suc_suc (length bs) a) in
    let k = new_counts self bs b a own in
    omega arith

pub fresh_one : (self : ℕ) (k : HeapType) (fields : List ℕ) → AreFresh self (new_block k self 0 0 fields ∷ [])
fresh_one self k fields = record { queue = queue; no_queue = no_queue; theirs = theirs }
  where
    queue : (n : ℕ) → (block_at (new_block k self 0 0 fields ∷ []) n).queue ≡ []
    queue zero = refl
    queue (suc n) = refl

    no_queue : (n a : ℕ) → is_queue (block_at (new_block k self 0 0 fields ∷ []) n).owner a ≡ false
    no_queue zero a = refl
    no_queue (suc n) a = refl

    theirs : (n q : ℕ) → q ≢ self → is_process (block_at (new_block k self 0 0 fields ∷ []) n).owner q ≡ false
    theirs zero q n = eqb_apart self q (λ e. n (sym e))
    theirs (suc m) q n = refl

new_type : (bs : List Block) (b : Block) (a : ℕ) → length bs ≤ a → is_end b.ty ≡ false → is_end (block_at (bs ++ b ∷ []) a).ty ≡ false
new_type [] b zero past e = e
new_type [] b (suc a) past e = refl
new_type (x ∷ bs) b zero past e = absurd (omega arith)
new_type (x ∷ bs) b (suc a) past e = let short : length bs ≤ a = omega arith in new_type bs b a short e

-- an appended block that is no end leaves the channels unchanged
pub channels_new : (p : ProgramModel) (bs : List Block) (b : Block) → is_end b.ty ≡ false → ChannelsFit p bs → ChannelsFit p (bs ++ b ∷ [])
channels_new p bs b plain h =
    channels_same p bs (bs ++ b ∷ []) (simp length-append (omega arith))
    (λ a within. same_end (block_at bs a) (block_at (bs ++ b ∷ []) a) (block_append bs (b ∷ []) a within))
    (λ a past. new_type bs b a past plain) h

pub type_of_variable : (p : ProgramModel) (n : ℕ) (m : MethodModel) (v : ℕ) (x : VariableModel) → method_at p n ≡ Some m
    → slice_get m.variables v ≡ Some x → type_at (variables_of p n) v ≡ x.ty
type_of_variable p n m v x there at =
    ap (λ (o : Option MethodModel). type_at (option_map_or (λ y. y.variables) o []) v) there
    ∙ ap (λ (o : Option VariableModel). option_map_or (λ y. y.ty) o no_type) at
