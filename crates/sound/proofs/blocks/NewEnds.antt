-- NewChannel: the blocks after it.
use Rattle.std.proofs.Common.{◌≡◌, ◌≢◌, ℕ, zero, suc, ◌+◌, ◌<◌, ◌≤◌, List, [], ◌∷◌, ◌++◌, Some, length, refl, sym, ap, ◌∙◌, subst, arith}
use Rattle.std.proofs.Common.{inl, inr, ⊎_elim, false}
use Rattle.std.proofs.lemmas.Bool.{cases_eq, cases_lt}
use Rattle.std.proofs.lemmas.List.{length-append}
use Rattle.std.specs.Option.{option_map_or}
use Rattle.std.specs.Prelude.{Option, ◌⊎◌, slice_get}
use Rattle.program.specs.Parts.{ContractModel}
use Rattle.program.specs.Programs.{ProgramModel}
use Rattle.program.specs.declared.types.HeapType.TheVariants.{Endpoint}
use Rattle.program.specs.declared.types.Side.TheVariants.{Imp, Exp}
use Rattle.program.specs.declared.statement.Channel as made
use Rattle.contracts.specs.TwoEnds.{ends_at_start}
use Rattle.rules.specs.Endpoints.{first_state}
use Rattle.machine.specs.Blocks.{new_block, end_type}
use Rattle.program.specs.WellFormed.{field_types}
use Rattle.program.specs.declared.types.HeapType.{HeapType}
use Rattle.machine.specs.Heaps.{FieldsHold}
use Rattle.machine.specs.World.{Block, block_at, is_freed_at, is_inside, is_process, is_queue, is_freed}
use Rattle.sound.specs.Operands.{stateless}
use Rattle.sound.proofs.Basics.{block_append, block_appended}
use Rattle.sound.proofs.blocks.Blocks.{AreBare, AreFresh, held_append, same_append}
use Rattle.sound.proofs.Kept.{fields_kept}
use Rattle.sound.proofs.Invariant.{IsEndOf, ChannelFits, IsPeer, ChannelsFit, AreDeclared, FieldsDeclared}
use Rattle.sound.proofs.Lists.{add_zero}
use Rattle.sound.proofs.events.Moving.{type_apart, same_contract}
use Rattle.machine.proofs.ChangeLemmas.{eqb_apart}

-- ---- old ends
old_imp : (p : ProgramModel) (bs bs' : List Block) (j d : ℕ) → length bs ≤ length bs'
    → ((i : ℕ) → i < length bs → block_at bs' i ≡ block_at bs i) → j < length bs → ChannelFits p bs j d → ChannelFits p bs' j d
old_imp p bs bs' j d more same old k =
    let t = k.peer_there in
    let sj = same j old in
    let sp = same k.peer t in
    record {
      peer = k.peer;
      peer_is = ap (λ (b : Block). b.peer) sj ∙ k.peer_is;
      peer_there = omega arith;
      peer_type = ap (λ (b : Block). stateless b.ty) sp ∙ k.peer_type;
      back = ap (λ (b : Block). b.peer) sp ∙ k.back;
      contract = k.contract;
      contract_there = k.contract_there;
      n = k.n;
      ends = k.ends;
      moves = k.moves;
      mine = λ l. subst (λ (b : Block). IsEndOf k.ends Imp b) (sym sj) (k.mine (sym (ap (λ (b : Block). is_freed b.owner) sj) ∙ l));
      theirs = λ l. subst (λ (b : Block). IsEndOf k.ends Exp b) (sym sp) (k.theirs (sym (ap (λ (b : Block). is_freed b.owner) sp) ∙ l));
    }

old_exp : (bs bs' : List Block) (j d : ℕ) → length bs ≤ length bs' → ((i : ℕ) → i < length bs → block_at bs' i ≡ block_at bs i)
    → j < length bs → IsPeer bs j d → IsPeer bs' j d
old_exp bs bs' j d more same old k =
    let t = k.peer_there in
    let sj = same j old in
    let sp = same k.peer t in
    record {
      peer = k.peer;
      peer_is = ap (λ (b : Block). b.peer) sj ∙ k.peer_is;
      peer_there = omega arith;
      peer_type =
          ap (λ (b : Block). stateless b.ty) sp ∙ k.peer_type;
      back = ap (λ (b : Block). b.peer) sp ∙ k.back;
    }

module _ (p : ProgramModel) (bs : List Block) (self : ℕ) (c : made.Channel) (held : ContractModel)
    (held_there : slice_get p.contracts c.contract.0 ≡ Some held) (channels : ChannelsFit p bs) where
  abbrev pub n : ℕ
  n = length bs

  abbrev pub start : ℕ
  start = first_state p c.contract.0

  abbrev pub b1 : Block
  b1 = new_block (end_type c Imp) self (n + 1) start []

  abbrev pub b2 : Block
  b2 = new_block (end_type c Exp) self n start []

  abbrev pub bs' : List Block
  bs' = bs ++ b1 ∷ b2 ∷ []

  pub fresh : AreFresh self (b1 ∷ b2 ∷ [])
  fresh = record { queue = queue; no_queue = no_queue; theirs = theirs }
    where
      queue : (k : ℕ) → (block_at (b1 ∷ b2 ∷ []) k).queue ≡ []
      queue zero = refl
      queue (suc zero) = refl
      queue (suc (suc k)) = refl

      no_queue : (k a : ℕ) → is_queue (block_at (b1 ∷ b2 ∷ []) k).owner a ≡ false
      no_queue zero a = refl
      no_queue (suc zero) a = refl
      no_queue (suc (suc k)) a = refl

      theirs : (k q : ℕ) → q ≢ self → is_process (block_at (b1 ∷ b2 ∷ []) k).owner q ≡ false
      theirs zero q n = eqb_apart self q (λ e. n (sym e))
      theirs (suc zero) q n = eqb_apart self q (λ e. n (sym e))
      theirs (suc (suc k)) q n = refl

  bare : AreBare (b1 ∷ b2 ∷ [])
  bare = record { fields = fields; outside = outside; alive = alive }
    where
      fields : (k : ℕ) → (block_at (b1 ∷ b2 ∷ []) k).fields ≡ []
      fields zero = refl
      fields (suc zero) = refl
      fields (suc (suc k)) = refl

      outside : (k a : ℕ) → is_inside (block_at (b1 ∷ b2 ∷ []) k).owner a ≡ false
      outside zero a = refl
      outside (suc zero) a = refl
      outside (suc (suc k)) a = refl

      alive : (k : ℕ) → is_freed_at (b1 ∷ b2 ∷ []) k ≡ false
      alive zero = refl
      alive (suc zero) = refl
      alive (suc (suc k)) = refl

  pub held_now : FieldsHold bs → FieldsHold bs'
  held_now h = held_append bs (b1 ∷ b2 ∷ []) bare h

  pub long_now : length bs' ≡ n + 2
  long_now = length-append bs (b1 ∷ b2 ∷ [])

  pub at1 : block_at bs' n ≡ b1
  at1 = ap (block_at bs') (sym (add_zero n)) ∙ block_appended bs (b1 ∷ b2 ∷ []) 0

  pub at2 : block_at bs' (n + 1) ≡ b2
  at2 = block_appended bs (b1 ∷ b2 ∷ []) 1

  old : (i : ℕ) → i < n → block_at bs' i ≡ block_at bs i
  old i short = block_append bs (b1 ∷ b2 ∷ []) i short

  start_is : start ≡ held.parts.first.0
  start_is = ap (λ (z : Option ContractModel). option_map_or (λ x. x.parts.first.0) z 0) held_there

  places : (j : ℕ) → n ≤ j → j < length bs' → (j ≡ n) ⊎ (j ≡ n + 1)
  places j low high = let l = long_now in ⊎_elim (λ e. inl e) (λ d. inr (let d' : j ≢ n = d in omega arith)) (cases_eq j n)

  first_fits : ChannelFits p bs' n c.contract.0
  first_fits = record {
    peer = n + 1;
    peer_is = ap (λ (b : Block). b.peer) at1;
    peer_there = let l = long_now in omega arith;
    peer_type = ap (λ (b : Block). stateless b.ty) at2;
    back = ap (λ (b : Block). b.peer) at2;
    contract = held;
    contract_there = held_there;
    n = 0;
    ends = ends_at_start held.parts.first;
    moves = refl;
    mine = λ l. subst (λ (b : Block). IsEndOf (ends_at_start held.parts.first) Imp b) (sym at1)
        (record { state = ap (λ (z : ℕ). record { 0 = z }) (sym start_is); queue = refl });
    theirs = λ l. subst (λ (b : Block). IsEndOf (ends_at_start held.parts.first) Exp b) (sym at2)
        (record { state = ap (λ (z : ℕ). record { 0 = z }) (sym start_is); queue = refl });
  }

  second_fits : IsPeer bs' (n + 1) c.contract.0
  second_fits = record {
    peer = n;
    peer_is = ap (λ (b : Block). b.peer) at2;
    peer_there = let l = long_now in omega arith;
    peer_type =
        ap (λ (b : Block). stateless b.ty) at1;
    back = ap (λ (b : Block). b.peer) at1;
  }

  pub type1 : stateless (block_at bs' n).ty ≡ Endpoint record { 0 = c.contract.0 } Imp record { 0 = 0 }
  type1 = ap (λ (b : Block). stateless b.ty) at1

  pub type2 : stateless (block_at bs' (n + 1)).ty ≡ Endpoint record { 0 = c.contract.0 } Exp record { 0 = 0 }
  type2 = ap (λ (b : Block). stateless b.ty) at2

  pub channels_now : ChannelsFit p bs'
  channels_now = record {
    imp = λ j d within is. ⊎_elim
        (λ short. old_imp p bs bs' j d (let l = long_now in omega arith) old short
        (channels.imp j d short (sym (ap (λ (b : Block). stateless b.ty) (old j short)) ∙ is)))
        (λ past. ⊎_elim
        (λ e. subst (λ (i : ℕ). ChannelFits p bs' i d) (sym e)
        (subst (λ (i : ℕ). ChannelFits p bs' n i) (same_contract c.contract.0 d Imp
        (sym type1 ∙ (ap (λ (i : ℕ). stateless (block_at bs' i).ty) (sym e) ∙ is))) first_fits))
        (λ e. absurd (type_apart (block_at bs' (n + 1)).ty d c.contract.0
        (ap (λ (i : ℕ). stateless (block_at bs' i).ty) (sym e) ∙ is) type2)) (places j past within)) (cases_lt j n);
    exp = λ j d within is. ⊎_elim
        (λ short. old_exp bs bs' j d (let l = long_now in omega arith) old short
        (channels.exp j d short (sym (ap (λ (b : Block). stateless b.ty) (old j short)) ∙ is)))
        (λ past. ⊎_elim
        (λ e. absurd (type_apart (block_at bs' n).ty c.contract.0 d type1 (ap (λ (i : ℕ). stateless (block_at bs' i).ty) (sym e) ∙ is)))
        (λ e. subst (λ (i : ℕ). IsPeer bs' i d) (sym e) (subst (λ (i : ℕ). IsPeer bs' (n + 1) i)
        (same_contract c.contract.0 d Exp (sym type2 ∙ (ap (λ (i : ℕ). stateless (block_at bs' i).ty) (sym e) ∙ is))) second_fits))
        (places j past within)) (cases_lt j n);
  }

  -- an end has empty fields
  empty_end : (j : ℕ) (b : Block) → block_at bs' j ≡ b → field_types p.structs b.ty ≡ [] → b.fields ≡ []
      → AreDeclared bs' (field_types p.structs (block_at bs' j).ty) (block_at bs' j).fields
  empty_end j b is types fields =
      subst (λ (x : Block). AreDeclared bs' (field_types p.structs x.ty) x.fields) (sym is)
      (subst (λ (ks : List HeapType). AreDeclared bs' ks b.fields) (sym types)
      (subst (λ (xs : List ℕ). AreDeclared bs' [] xs) (sym fields) tt))

  pub declared_now : FieldsHold bs → FieldsDeclared p bs → FieldsDeclared p bs'
  declared_now h were j within lives = ⊎_elim
      (λ short. fields_kept p bs bs' j h (same_append p bs (b1 ∷ b2 ∷ [])) were short lives)
      (λ past. ⊎_elim
      (λ e. empty_end j b1 (ap (block_at bs') e ∙ at1) refl refl)
      (λ e. empty_end j b2 (ap (block_at bs') e ∙ at2) refl refl)
      (places j past within)) (cases_lt j n)
