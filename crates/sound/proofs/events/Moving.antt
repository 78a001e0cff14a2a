-- One end of a channel moves: it sends, or takes the front of its queue.
use Rattle.std.proofs.Common.{◌≡◌, ◌≢◌, not, ℕ, zero, suc, ◌<◌, Bool, true, false, List, [], ◌∷◌, ◌++◌, Some, length, map, refl, sym, ap}
use Rattle.std.proofs.Common.{◌∙◌, subst, arith, inl, inr, ⊎_elim}
use Rattle.std.proofs.lemmas.Bool.{cases_eq}
use Rattle.std.proofs.lemmas.List.{map-append}
use Rattle.std.specs.Prelude.{slice_get}
use Rattle.program.specs.Parts.{ContractModel}
use Rattle.program.specs.Programs.{ProgramModel}
use Rattle.program.specs.declared.contract.Edge.{Edge}
use Rattle.program.specs.declared.contract.Sign.TheVariants as sign
use Rattle.program.specs.declared.contract.Sign.{Sign}
use Rattle.program.specs.declared.types.HeapType.TheVariants.{Endpoint}
use Rattle.program.specs.declared.types.HeapType.{HeapType}
use Rattle.program.specs.declared.types.Side.TheVariants.{Imp, Exp}
use Rattle.program.specs.declared.types.Side.{Side}
use Rattle.program.specs.declared.number.MessageId.{MessageId}
use Rattle.program.specs.declared.number.StateId.{StateId}
use Rattle.contracts.specs.Bounds.{sign_to}
use Rattle.contracts.specs.Leaving.{sign_from}
use Rattle.contracts.specs.TwoEnds.{Ends, Leads, Move, Moves, ends_at_start}
use Rattle.machine.specs.World.{MessageHeld, Block, block_at, is_freed_at}
use Rattle.sound.specs.Operands.{stateless}
use Rattle.sound.proofs.Invariant.{IsEndOf, ChannelFits, ChannelsFit}
use Rattle.sound.specs.Queues.{other}
use Rattle.rules.proofs.TransferLemmas.{of_not}

abbrev that_type : HeapType → HeapType
that_type k = k

-- ---- ends after a move
abbrev pub set_at : {X : Type 0} → Sign → X → (Sign → X) → Sign → X
set_at sign.Send x f sign.Send = x
set_at sign.Send x f sign.Receive = f sign.Receive
set_at sign.Receive x f sign.Send = f sign.Send
set_at sign.Receive x f sign.Receive = x

pub moves_more : (edges : List Edge) (n : ℕ) (old new next : Ends) → Moves edges n old new → Move edges new next
    → Moves edges (suc n) old next
moves_more edges zero old new next h m = (next, subst (λ (e : Ends). Move edges e next) (sym h) m, refl)
moves_more edges (suc n) old new next h m = (h.0, h.1, moves_more edges n h.0 new next h.2 m)

-- one end, and its peer if that is not freed, after some moves
pub record EndsAre (p : ProgramModel) (contract : ContractModel) (side : Side) (b : Block) (lives : Bool) (peer : Block) : Type 0 where
  pub n : ℕ
  pub ends : Ends
  pub moves : Moves contract.parts.edges n (ends_at_start contract.parts.first) ends
  pub mine : IsEndOf ends side b
  pub theirs : lives ≡ true → IsEndOf ends (other side) peer

abbrev pub is_alive : List Block → ℕ → Bool
is_alive bs a = not (is_freed_at bs a)

-- a send
pub ends_send : (p : ProgramModel) (x : ContractModel) (side : Side) (b peer b' peer' : Block) (lives : Bool) (m : MessageHeld) (q' : ℕ)
    → EndsAre p x side b lives peer
    → Leads x.parts.edges record { 0 = b.state } record { 0 = m.message } (sign_from side) record { 0 = q' }
    → b'.state ≡ q' → b'.queue ≡ b.queue → peer'.state ≡ peer.state → (lives ≡ true → peer'.queue ≡ peer.queue ++ m ∷ [])
    → EndsAre p x side b' lives peer'
ends_send p x Imp b peer b' peer' lives m q' e leads s q ps pq = record {
  n = suc e.n;
  ends = record {
    state = set_at sign.Receive (record { 0 = q' }) e.ends.state;
    queue =
        set_at sign.Receive (e.ends.queue sign.Receive ++ record { 0 = m.message } ∷ []) e.ends.queue;
  };
  moves = moves_more x.parts.edges e.n (ends_at_start x.parts.first) e.ends _ e.moves (
    sign.Receive,
    inl record {
      message = record { 0 = m.message };
      edge = subst (λ (z : StateId). Leads x.parts.edges z record { 0 = m.message } sign.Receive record { 0 = q' })
          (sym e.mine.state) leads;
      other = refl;
      sent = refl;
      same = refl;
    },
  );
  mine = record {
    state = ap (λ (z : ℕ). record { 0 = z }) (sym s);
    queue =
        e.mine.queue ∙ ap (λ (z : List MessageHeld). map (λ y. y.message) z) (sym q);
  };
  theirs = λ l. record {
    state = (e.theirs l).state ∙ ap (λ (z : ℕ). record { 0 = z }) (sym ps);
    queue = map-append (λ (n : MessageId). n.0) (e.ends.queue sign.Receive) (record { 0 = m.message } ∷ [])
        ∙ (ap (λ (z : List ℕ). z ++ m.message ∷ []) (e.theirs l).queue
        ∙ (sym (map-append (λ (y : MessageHeld). y.message) peer.queue (m ∷ []))
        ∙ ap (λ (z : List MessageHeld). map (λ y. y.message) z) (sym (pq l))));
  };
}
ends_send p x Exp b peer b' peer' lives m q' e leads s q ps pq = record {
  n = suc e.n;
  ends = record {
    state = set_at sign.Send (record { 0 = q' }) e.ends.state;
    queue =
        set_at sign.Send (e.ends.queue sign.Send ++ record { 0 = m.message } ∷ []) e.ends.queue;
  };
  moves = moves_more x.parts.edges e.n (ends_at_start x.parts.first) e.ends _ e.moves (
    sign.Send,
    inl record {
      message = record { 0 = m.message };
      edge = subst (λ (z : StateId). Leads x.parts.edges z record { 0 = m.message } sign.Send record { 0 = q' }) (sym e.mine.state) leads;
      other = refl;
      sent = refl;
      same = refl;
    },
  );
  mine = record {
    state = ap (λ (z : ℕ). record { 0 = z }) (sym s);
    queue =
        e.mine.queue ∙ ap (λ (z : List MessageHeld). map (λ y. y.message) z) (sym q);
  };
  theirs = λ l. record {
    state = (e.theirs l).state ∙ ap (λ (z : ℕ). record { 0 = z }) (sym ps);
    queue = map-append (λ (n : MessageId). n.0) (e.ends.queue sign.Send) (record { 0 = m.message } ∷ [])
        ∙ (ap (λ (z : List ℕ). z ++ m.message ∷ []) (e.theirs l).queue
        ∙ (sym (map-append (λ (y : MessageHeld). y.message) peer.queue (m ∷ []))
        ∙ ap (λ (z : List MessageHeld). map (λ y. y.message) z) (sym (pq l))));
  };
}

-- the front of a queue
pub record Front (l : List MessageId) (n : ℕ) (ns : List ℕ) : Type 0 where
  pub first : MessageId
  pub others : List MessageId
  pub is : l ≡ first ∷ others
  pub first_is : first ≡ record { 0 = n }
  pub others_are : map (λ x. x.0) others ≡ ns

pub front : (l : List MessageId) (n : ℕ) (ns : List ℕ) → map (λ x. x.0) l ≡ n ∷ ns → Front l n ns
front [] n ns e = absurd (cc)
front (x ∷ xs) n ns e =
    record { first = x; others = xs; is = refl; first_is = ap (λ (z : ℕ). record { 0 = z }) (let k : x.0 ≡ n = cc in k); others_are = (cc) }

-- a message is received
pub ends_take : (p : ProgramModel) (x : ContractModel) (side : Side) (b peer b' peer' : Block) (lives : Bool) (m : MessageHeld)
    (ms : List MessageHeld) (q' : ℕ) → EndsAre p x side b lives peer
    → Leads x.parts.edges record { 0 = b.state } record { 0 = m.message } (sign_to side) record { 0 = q' }
    → b.queue ≡ m ∷ ms → b'.state ≡ q' → b'.queue ≡ ms → peer'.state ≡ peer.state → peer'.queue ≡ peer.queue
    → EndsAre p x side b' lives peer'
ends_take p x Imp b peer b' peer' lives m ms q' e leads was s q ps pq =
    let f = front (e.ends.queue sign.Send) m.message (map (λ y. y.message) ms)
    (e.mine.queue ∙ ap (λ (z : List MessageHeld). map (λ y. y.message) z) was) in
    record {
      n = suc e.n;
      ends = record { state = set_at sign.Receive (record { 0 = q' }) e.ends.state; queue = set_at sign.Send f.others e.ends.queue };
      moves = moves_more x.parts.edges e.n (ends_at_start x.parts.first) e.ends _ e.moves (
        sign.Send,
        inr record {
          message = record { 0 = m.message };
          edge = subst (λ (z : StateId). Leads x.parts.edges z record { 0 = m.message } sign.Send record { 0 = q' })
              (sym e.mine.state) leads;
          other = refl;
          taken = f.is ∙ ap (λ (z : MessageId). z ∷ f.others) f.first_is;
          same = refl;
        },
      );
      mine = record {
        state = ap (λ (z : ℕ). record { 0 = z }) (sym s);
        queue =
            f.others_are ∙ ap (λ (z : List MessageHeld). map (λ y. y.message) z) (sym q);
      };
      theirs = λ l. record {
        state = (e.theirs l).state ∙ ap (λ (z : ℕ). record { 0 = z }) (sym ps);
        queue =
            (e.theirs l).queue ∙ ap (λ (z : List MessageHeld). map (λ y. y.message) z) (sym pq);
      };
    }
ends_take p x Exp b peer b' peer' lives m ms q' e leads was s q ps pq =
    let f = front (e.ends.queue sign.Receive) m.message (map (λ y. y.message) ms)
    (e.mine.queue ∙ ap (λ (z : List MessageHeld). map (λ y. y.message) z) was) in
    record {
      n = suc e.n;
      ends = record { state = set_at sign.Send (record { 0 = q' }) e.ends.state; queue = set_at sign.Receive f.others e.ends.queue };
      moves = moves_more x.parts.edges e.n (ends_at_start x.parts.first) e.ends _ e.moves (
        sign.Receive,
        inr record {
          message = record { 0 = m.message };
          edge = subst (λ (z : StateId). Leads x.parts.edges z record { 0 = m.message } sign.Receive record { 0 = q' })
              (sym e.mine.state) leads;
          other = refl;
          taken = f.is ∙ ap (λ (z : MessageId). z ∷ f.others) f.first_is;
          same = refl;
        },
      );
      mine = record {
        state = ap (λ (z : ℕ). record { 0 = z }) (sym s);
        queue =
            f.others_are ∙ ap (λ (z : List MessageHeld). map (λ y. y.message) z) (sym q);
      };
      theirs = λ l. record {
        state = (e.theirs l).state ∙ ap (λ (z : ℕ). record { 0 = z }) (sym ps);
        queue =
            (e.theirs l).queue ∙ ap (λ (z : List MessageHeld). map (λ y. y.message) z) (sym pq);
      };
    }

-- ---- one channel moves, the others are unchanged
pub type_apart : (k : HeapType) (c d : ℕ) → stateless k ≡ Endpoint record { 0 = c } Imp record { 0 = 0 }
    → stateless k ≡ Endpoint record { 0 = d } Exp record { 0 = 0 } → ⊥
type_apart k c d e f = sides_apart c d (sym e ∙ f)
  where
    sides_apart : (c d : ℕ) → that_type (Endpoint record { 0 = c } Imp record { 0 = 0 }) ≡ Endpoint record { 0 = d } Exp record { 0 = 0 } → ⊥
    sides_apart c d e = cc

abbrev contract_number : HeapType → ℕ
contract_number (Endpoint c side state) = c.0
contract_number _ = 0

pub same_contract : (c d : ℕ) (side : Side)
    → that_type (Endpoint record { 0 = c } side record { 0 = 0 }) ≡ Endpoint record { 0 = d } side record { 0 = 0 } → c ≡ d
same_contract c d side e = ap contract_number e

pub end_at : (ends : Ends) (side : Side) (b b' : Block) → b'.state ≡ b.state → b'.queue ≡ b.queue → IsEndOf ends side b
    → IsEndOf ends side b'
end_at ends side b b' s q h =
    record {
      state = h.state ∙ ap (λ (z : ℕ). record { 0 = z }) (sym s);
      queue = h.queue
          ∙ ap (λ (z : List MessageHeld). map (λ y. y.message) z) (sym q);
    }

module _ (p : ProgramModel) (bs bs' : List Block) (a c : ℕ) (side : Side) (h : ChannelsFit p bs) (within : a < length bs)
    (ty : stateless (block_at bs a).ty ≡ Endpoint record { 0 = c } side record { 0 = 0 }) (alive : is_freed_at bs a ≡ false)
    (long : length bs' ≡ length bs) (types : (j : ℕ) → (block_at bs' j).ty ≡ (block_at bs j).ty)
    (peers : (j : ℕ) → (block_at bs' j).peer ≡ (block_at bs j).peer) (lives : (j : ℕ) → is_freed_at bs' j ≡ false → is_freed_at bs j ≡ false)
    (state : (j : ℕ) → j ≢ a → (block_at bs' j).state ≡ (block_at bs j).state)
    (queue : (j : ℕ) → j ≢ a → j ≢ (block_at bs a).peer → (block_at bs' j).queue ≡ (block_at bs j).queue)
    (moved : (x : ContractModel) → slice_get p.contracts c ≡ Some x
    → EndsAre p x side (block_at bs a) (is_alive bs (block_at bs a).peer) (block_at bs (block_at bs a).peer)
    → EndsAre p x side (block_at bs' a) (is_alive bs (block_at bs a).peer) (block_at bs' (block_at bs a).peer)) where
  still : (j d : ℕ) (k : ChannelFits p bs j d) → j ≢ a → j ≢ (block_at bs a).peer → k.peer ≢ a → k.peer ≢ (block_at bs a).peer
      → ChannelFits p bs' j d
  still j d k n1 n2 n3 n4 = record {
    peer = k.peer;
    peer_is = peers j ∙ k.peer_is;
    peer_there = let t = k.peer_there in omega arith;
    peer_type = ap stateless (types k.peer) ∙ k.peer_type;
    back = peers k.peer ∙ k.back;
    contract = k.contract;
    contract_there = k.contract_there;
    n = k.n;
    ends = k.ends;
    moves = k.moves;
    mine = λ l. end_at k.ends Imp (block_at bs j) (block_at bs' j) (state j n1) (queue j n1 n2) (k.mine (lives j l));
    theirs = λ l. end_at k.ends Exp (block_at bs k.peer) (block_at bs' k.peer) (state k.peer n3) (queue k.peer n3 n4)
        (k.theirs (lives k.peer l));
  }

  -- the importer moves
  imp_moves : side ≡ Imp → (k : ChannelFits p bs a c) → ChannelFits p bs' a c
  imp_moves s k =
      let e = moved k.contract k.contract_there
      (subst (λ (z : Side). EndsAre p k.contract z (block_at bs a) (is_alive bs (block_at bs a).peer) (block_at bs (block_at bs a).peer))
      (sym s) (record {
        n = k.n;
        ends = k.ends;
        moves = k.moves;
        mine = k.mine alive;
        theirs = λ l. subst (λ (n : ℕ). IsEndOf k.ends Exp (block_at bs n)) (sym k.peer_is)
            (k.theirs (sym (ap (is_freed_at bs) k.peer_is) ∙ of_not (is_freed_at bs (block_at bs a).peer) l));
      })) in
      let f = subst (λ (z : Side). EndsAre p k.contract z (block_at bs' a) (is_alive bs (block_at bs a).peer)
      (block_at bs' (block_at bs a).peer)) s e in
      record {
        peer = k.peer;
        peer_is = peers a ∙ k.peer_is;
        peer_there = let t = k.peer_there in omega arith;
        peer_type = ap stateless (types k.peer) ∙ k.peer_type;
        back = peers k.peer ∙ k.back;
        contract = k.contract;
        contract_there = k.contract_there;
        n = f.n;
        ends = f.ends;
        moves = f.moves;
        mine = λ l. f.mine;
        theirs = λ l. subst (λ (n : ℕ). IsEndOf f.ends Exp (block_at bs' n)) k.peer_is
            (f.theirs (ap not (ap (is_freed_at bs) k.peer_is ∙ lives k.peer l)));
      }

  -- the exporter moves
  exp_moves : side ≡ Exp → (j : ℕ) (k : ChannelFits p bs j c) → k.peer ≡ a → ChannelFits p bs' j c
  exp_moves s j k is =
      let to : (block_at bs a).peer ≡ j = ap (λ (n : ℕ). (block_at bs n).peer) (sym is) ∙ k.back in
      let e = moved k.contract k.contract_there
      (subst (λ (z : Side). EndsAre p k.contract z (block_at bs a) (is_alive bs (block_at bs a).peer) (block_at bs (block_at bs a).peer))
      (sym s) (record {
        n = k.n;
        ends = k.ends;
        moves = k.moves;
        mine = subst (λ (n : ℕ). IsEndOf k.ends Exp (block_at bs n)) is (k.theirs (ap (is_freed_at bs) is ∙ alive));
        theirs = λ l. subst (λ (n : ℕ). IsEndOf k.ends Imp (block_at bs n)) (sym to)
            (k.mine (sym (ap (is_freed_at bs) to) ∙ of_not (is_freed_at bs (block_at bs a).peer) l));
      })) in
      let f = subst (λ (z : Side). EndsAre p k.contract z (block_at bs' a) (is_alive bs (block_at bs a).peer)
      (block_at bs' (block_at bs a).peer)) s e in
      record {
        peer = k.peer;
        peer_is = peers j ∙ k.peer_is;
        peer_there = let t = k.peer_there in omega arith;
        peer_type = ap stateless (types k.peer) ∙ k.peer_type;
        back = peers k.peer ∙ k.back;
        contract = k.contract;
        contract_there = k.contract_there;
        n = f.n;
        ends = f.ends;
        moves = f.moves;
        mine = λ l. subst (λ (n : ℕ). IsEndOf f.ends Imp (block_at bs' n)) to (f.theirs (ap not (ap (is_freed_at bs) to ∙ lives j l)));
        theirs = λ l. subst (λ (n : ℕ). IsEndOf f.ends Exp (block_at bs' n)) (sym is) f.mine;
      }

  imp_all : (s : Side) → side ≡ s → (j d : ℕ) (k : ChannelFits p bs j d)
      → stateless (block_at bs j).ty ≡ Endpoint record { 0 = d } Imp record { 0 = 0 } → ChannelFits p bs' j d
  imp_all Imp s j d k is = ⊎_elim
      (λ e.
      let kd : stateless (block_at bs a).ty ≡ Endpoint record { 0 = d } Imp record { 0 = 0 } =
      ap (λ (n : ℕ). stateless (block_at bs n).ty) (sym e) ∙ is in
      let ka : stateless (block_at bs a).ty ≡ Endpoint record { 0 = c } Imp record { 0 = 0 } =
      ty ∙ ap (λ (z : Side). Endpoint record { 0 = c } z record { 0 = 0 }) s in
      let same : d ≡ c = same_contract d c Imp (sym kd ∙ ka) in
      subst (λ (n : ℕ). ChannelFits p bs' n d) (sym e) (subst (λ (n : ℕ). ChannelFits p bs' a n) (sym same)
      (imp_moves s (subst (λ (n : ℕ). ChannelFits p bs a n) same (subst (λ (n : ℕ). ChannelFits p bs n d) e k)))))
      (λ n.
      let ka : stateless (block_at bs a).ty ≡ Endpoint record { 0 = c } Imp record { 0 = 0 } =
      ty ∙ ap (λ (z : Side). Endpoint record { 0 = c } z record { 0 = 0 }) s in
      let mine = h.imp a c within ka in
      let to_type : stateless (block_at bs (block_at bs a).peer).ty ≡ Endpoint record { 0 = c } Exp record { 0 = 0 } =
      ap (λ (n : ℕ). stateless (block_at bs n).ty) mine.peer_is ∙ mine.peer_type in
      let to_back : (block_at bs (block_at bs a).peer).peer ≡ a = ap (λ (n : ℕ). (block_at bs n).peer) mine.peer_is ∙ mine.back in
      still j d k n
      (λ e. type_apart (block_at bs (block_at bs a).peer).ty d c (ap (λ (n : ℕ). stateless (block_at bs n).ty) (sym e) ∙ is) to_type)
      (λ e. type_apart (block_at bs a).ty c d ka (ap (λ (n : ℕ). stateless (block_at bs n).ty) (sym e) ∙ k.peer_type))
      (λ e. n (sym k.back ∙ (ap (λ (n : ℕ). (block_at bs n).peer) e ∙ to_back)))) (cases_eq j a)
  imp_all Exp s j d k is =
      let ka : stateless (block_at bs a).ty ≡ Endpoint record { 0 = c } Exp record { 0 = 0 } =
      ty ∙ ap (λ (z : Side). Endpoint record { 0 = c } z record { 0 = 0 }) s in
      let mine = h.exp a c within ka in
      let to_type : stateless (block_at bs (block_at bs a).peer).ty ≡ Endpoint record { 0 = c } Imp record { 0 = 0 } =
      ap (λ (n : ℕ). stateless (block_at bs n).ty) mine.peer_is ∙ mine.peer_type in
      let to_back : (block_at bs (block_at bs a).peer).peer ≡ a = ap (λ (n : ℕ). (block_at bs n).peer) mine.peer_is ∙ mine.back in
      ⊎_elim
      (λ e.
      let kd : stateless (block_at bs a).ty ≡ Endpoint record { 0 = d } Exp record { 0 = 0 } =
      ap (λ (n : ℕ). stateless (block_at bs n).ty) (sym e) ∙ k.peer_type in
      let same : d ≡ c = same_contract d c Exp (sym kd ∙ ka) in
      subst (λ (n : ℕ). ChannelFits p bs' j n) (sym same)
      (exp_moves s j (subst (λ (n : ℕ). ChannelFits p bs j n) same k) (peer_of j d c same k e)))
      (λ n.
      still j d k
      (λ e. type_apart (block_at bs a).ty d c (ap (λ (n : ℕ). stateless (block_at bs n).ty) (sym e) ∙ is) ka)
      (λ e. n (sym k.peer_is ∙ (ap (λ (n : ℕ). (block_at bs n).peer) e ∙ to_back)))
      n
      (λ e. type_apart (block_at bs (block_at bs a).peer).ty c d to_type
      (ap (λ (n : ℕ). stateless (block_at bs n).ty) (sym e) ∙ k.peer_type))) (cases_eq k.peer a)
    where
      peer_of : (j d c : ℕ) (same : d ≡ c) (k : ChannelFits p bs j d) → k.peer ≡ a
          → (subst (λ (n : ℕ). ChannelFits p bs j n) same k).peer ≡ a
      peer_of j d c same k e = sym (subst (λ (n : ℕ). ChannelFits p bs j n) same k).peer_is ∙ (k.peer_is ∙ e)

  pub channels_move : ChannelsFit p bs'
  channels_move = record {
    imp = λ j d short is.
        let old : stateless (block_at bs j).ty ≡ Endpoint record { 0 = d } Imp record { 0 = 0 } = sym (ap stateless (types j)) ∙ is in
        imp_all side refl j d (h.imp j d (let l = long in omega arith) old) old;
    exp = λ j d short is.
        let k = h.exp j d (let l = long in omega arith) (sym (ap stateless (types j)) ∙ is) in
        record {
          peer = k.peer;
          peer_is = peers j ∙ k.peer_is;
          peer_there = let t = k.peer_there in omega arith;
          peer_type =
              ap stateless (types k.peer) ∙ k.peer_type;
          back = peers k.peer ∙ k.back;
        };
  }
