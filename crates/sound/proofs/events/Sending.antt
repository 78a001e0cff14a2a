-- Send: no fault, and the invariant is preserved.
use Rattle.std.proofs.Common.{◌≡◌, ◌≢◌, ◌&&◌, ℕ, ◌<◌, ◌≤◌, Bool, true, false, not, List, [], ◌∷◌, ◌++◌, Some, None, length, refl, sym, ap, ◌∙◌, subst, arith, inl, inr, ⊎_elim, set}
use Rattle.std.proofs.lemmas.Bool.{cases_Bool, cases_eq}
use Rattle.std.proofs.lemmas.List.{length-set, length-append, length-map}
use Rattle.std.proofs.lemmas.Option.{slice_get_within}
use Rattle.std.specs.Option.{option_map_or}
use Rattle.std.specs.Prelude.{is_none, is_some, unwrap_or, Option, ◌⊎◌, ◌||◌, slice_get, if◌then◌else◌, nat_lt}
use Rattle.source.specs.declared.place.Place.{Place}
use Rattle.program.specs.Lists.{Each, is_among}
use Rattle.program.specs.Methods.{MethodModel, VariableModel}
use Rattle.program.specs.Parts.{ContractModel}
use Rattle.program.specs.Programs.{ProgramModel}
use Rattle.program.specs.WellFormed.{is_end}
use Rattle.program.specs.declared.call.Argument.{Argument}
use Rattle.program.specs.declared.contract.Edge.{Edge}
use Rattle.program.specs.declared.types.HeapType.TheVariants.{Endpoint, Struct, Array}
use Rattle.program.specs.declared.types.HeapType.{HeapType}
use Rattle.program.specs.declared.types.Side.TheVariants.{Imp, Exp}
use Rattle.program.specs.declared.types.Side.{Side}
use Rattle.program.specs.declared.number.MessageId.{MessageId}
use Rattle.program.specs.declared.statement.Mention.{Mention}
use Rattle.flow.specs.Graphs.{Send}
use Rattle.contracts.specs.Bounds.{sign_to}
use Rattle.contracts.specs.Leaving.{sign_from, edges_from, end_on}
use Rattle.contracts.specs.TwoEnds.{Leads, NeverLonger}
use Rattle.rules.specs.Arguments.{after_claims, given_before, lacks_edge, sent_leaf}
use Rattle.rules.specs.Endpoints.{payload_types, edges_of, edges_out, type_of}
use Rattle.rules.specs.Mentions.{require_owned}
use Rattle.rules.specs.Outcomes.{breach_at, refuse_if}
use Rattle.rows.specs.Rows.{leaf_at, is_owned}
use Rattle.sound.proofs.Parameters.{each_taken, type_known}
use Rattle.program.specs.declared.number.VarId.{VarId}
use Rattle.rules.specs.declared.breach.Reason.TheVariants.{NotSent, WrongFor}
use Rattle.rows.specs.declared.row.Leaf.TheVariants as leaf
use Rattle.rows.specs.declared.row.Leaf.{Leaf}
use Rattle.machine.specs.Blocks.{bound_of, argument_tests, has_room, send_tests, sent_state}
use Rattle.machine.specs.Frames.{address, payloads_claimed, addresses}
use Rattle.machine.specs.Outcomes.{QueueBounds, test, after_tests}
use Rattle.machine.specs.World.{MessageHeld, Block, Frame, World, block_at, read, is_freed_at, cut_off, is_empty, let_go, is_own}
use Rattle.machine.specs.declared.halts.Fault.TheVariants.{F1, F4, F6}
use Rattle.sound.specs.GraphFit.{IsSendFit}
use Rattle.sound.specs.Operands.{stateless}
use Rattle.sound.proofs.Arguments.{NotClaimed, pair_apart, go_other, go_fits, or_right, not_earlier}
use Rattle.sound.proofs.Basics.{standing_read}
use Rattle.sound.proofs.events.Calling.{no_copies, top_once, top_owned, arguments_hold, none_taken, go_stays}
use Rattle.sound.proofs.Checks.{all_pass, passed_goes, not_refused, leaf_set_other, leaf_set_same, passed_left, passed_right, number}
use Rattle.sound.proofs.events.Giving.{taken_fit, taken_own, payloads_claim, given_leaves, given_own, not_given, given_declared}
use Rattle.sound.proofs.Invariant.{HasLeaf, LeafFits, RowFits, IsOn, standing, StaysCutOff, IsEndOf, ChannelsFit, blocks_fit, IsSoundProgram}
use Rattle.sound.proofs.Kept.{goes_on, IsKept, some_same, fits_kept}
use Rattle.sound.proofs.Lists.{not_false, each_append}
use Rattle.sound.proofs.Edges.{end_leads}
use Rattle.sound.proofs.events.Moving.{EndsAre, is_alive, ends_send}
use Rattle.sound.proofs.Quiet.{contains_first, own_holds}
use Rattle.machine.proofs.Holding.{process_not_freed}
use Rattle.sound.proofs.blocks.SentBlocks.{peer_is, sent, at, cut_now, kept_now, state_mine, counted_now, others_now, channels_now, queues_now, brought_now, held_now, declared_now}
use Rattle.sound.proofs.Here.{IsGood, tested_good, test_holds, Here, owned_is}
use Rattle.sound.specs.Queues.{other}
use Rattle.machine.specs.Instructions.{outcome_from, send_from}
use Rattle.machine.proofs.ChangeLemmas.{eqb_same, ltb_true_of, true≢false}
use Rattle.rules.proofs.TransferLemmas.{of_not}

-- an end's contract and side
pub record EndIs (k : HeapType) : Type 0 where
  pub c : ℕ
  pub side : Side
  pub is : stateless k ≡ Endpoint record { 0 = c } side record { 0 = 0 }

pub end_is : (k : HeapType) → is_end k ≡ true → EndIs k
end_is (Struct n) e = absurd (cc)
end_is (Array n) e = absurd (cc)
end_is (Endpoint c side state) e = record { c = c.0; side = side; is = refl }

-- a value that depends only on the contract and the side
abbrev pub of_end : {X : Type 0} → (ℕ → Side → X) → X → HeapType → X
of_end f d (Endpoint c side state) = f c.0 side
of_end f d _ = d

pub of_end_is : {X : Type 0} (f : ℕ → Side → X) (d : X) (k : HeapType) (c : ℕ) (side : Side)
    → stateless k ≡ Endpoint record { 0 = c } side record { 0 = 0 } → of_end f d k ≡ f c side
of_end_is f d (Struct n) c side e = absurd (cc)
of_end_is f d (Array n) c side e = absurd (cc)
of_end_is f d (Endpoint c' side' state) c side e = ap (of_end f d) e

out_of_end : (p : ProgramModel) (k : HeapType) (q : ℕ)
    → edges_out p (Some k) q ≡ of_end (λ c side. edges_from (edges_of p c) (sign_from side) q) [] k
out_of_end p (Struct n) q = refl
out_of_end p (Array n) q = refl
out_of_end p (Endpoint c side state) q = refl

bound_of_end : (bound : QueueBounds) (k : HeapType) → bound_of bound k ≡ of_end bound 0 k
bound_of_end bound (Struct n) = refl
bound_of_end bound (Array n) = refl
bound_of_end bound (Endpoint c side state) = refl

pub out_edges : (p : ProgramModel) (k : HeapType) (c : ℕ) (side : Side) (q : ℕ) → stateless k ≡ Endpoint record { 0 = c } side record { 0 = 0 }
    → edges_out p (Some k) q ≡ edges_from (edges_of p c) (sign_from side) q
out_edges p k c side q e = out_of_end p k q ∙ of_end_is (λ c side. edges_from (edges_of p c) (sign_from side) q) [] k c side e

-- the two ends of the channel of an end
pub record ChannelOf (p : ProgramModel) (bs : List Block) (a c : ℕ) (side : Side) : Type 0 where
  pub contract : ContractModel
  pub there : slice_get p.contracts c ≡ Some contract
  pub ends : EndsAre p contract side (block_at bs a) (is_alive bs (block_at bs a).peer) (block_at bs (block_at bs a).peer)

pub channel_of : (p : ProgramModel) (bs : List Block) (a c : ℕ) (side : Side) → ChannelsFit p bs → a < length bs → is_freed_at bs a ≡ false
    → stateless (block_at bs a).ty ≡ Endpoint record { 0 = c } side record { 0 = 0 } → ChannelOf p bs a c side
channel_of p bs a c Imp h within alive ty =
    let k = h.imp a c within ty in
    record {
      contract = k.contract;
      there = k.contract_there;
      ends = record {
        n = k.n;
        ends = k.ends;
        moves = k.moves;
        mine = k.mine alive;
        theirs = λ l. subst (λ (n : ℕ). IsEndOf k.ends Exp (block_at bs n)) (sym k.peer_is)
            (k.theirs (sym (ap (is_freed_at bs) k.peer_is) ∙ of_not (is_freed_at bs (block_at bs a).peer) l));
      };
    }
channel_of p bs a c Exp h within alive ty =
    let e = h.exp a c within ty in
    let k = h.imp e.peer c e.peer_there e.peer_type in
    let me : k.peer ≡ a = sym k.peer_is ∙ e.back in
    record {
      contract = k.contract;
      there = k.contract_there;
      ends = record {
        n = k.n;
        ends = k.ends;
        moves = k.moves;
        mine = subst (λ (n : ℕ). IsEndOf k.ends Exp (block_at bs n)) me (k.theirs (ap (is_freed_at bs) me ∙ alive));
        theirs = λ l. subst (λ (n : ℕ). IsEndOf k.ends Imp (block_at bs n)) (sym e.peer_is)
            (k.mine (sym (ap (is_freed_at bs) e.peer_is) ∙ of_not (is_freed_at bs (block_at bs a).peer) l));
      };
    }

-- the edge of a sender, and its leaf after the send
pub record SendsOn (p : ProgramModel) (m : MethodModel) (b : Block) (k : HeapType) (l : Leaf) (message : ℕ) : Type 0 where
  pub to : ℕ
  pub edge : end_on (edges_out p (Some b.ty) b.state) message ≡ Some to
  pub leaf_is : sent_leaf p (Some k) message l ≡ leaf.State to

sends_on : (p : ProgramModel) (m : MethodModel) (bs : List Block) (a : ℕ) (k : HeapType) (l : Leaf) (message : ℕ) → HasLeaf bs k a l
    → is_end k ≡ true → lacks_edge p (Some k) message l ≡ false → cut_off bs a ≡ false → SendsOn p m (block_at bs a) k l message
sends_on p m bs a k leaf.Nothing message h end lacks cut = absurd h.state
sends_on p m bs a k leaf.Block message h end lacks cut = absurd (true≢false end h.state)
sends_on p m bs a k leaf.CutOff message h end lacks cut = absurd (true≢false h.state.1 cut)
sends_on p m bs a k (leaf.State q) message h end lacks cut =
    ⊎_elim (λ e. by (end_on (edges_out p (Some k) q) message) refl e lacks) (λ c. absurd (true≢false c cut)) h.state.1
  where
    by : (x : Option ℕ) → end_on (edges_out p (Some k) q) message ≡ x → (block_at bs a).state ≡ q → is_none x ≡ false
        → SendsOn p m (block_at bs a) k (leaf.State q) message
    by None is same lacks = absurd (cc)
    by (Some t) is same lacks =
        let e = end_is k end in
        record {
          to = t;
          edge = ap (λ (es : List Edge). end_on es message)
              (out_edges p (block_at bs a).ty e.c e.side (block_at bs a).state (h.ty ∙ e.is)
              ∙ (ap (λ (n : ℕ). edges_from (edges_of p e.c) (sign_from e.side) n) same ∙ sym (out_edges p k e.c e.side q e.is))) ∙ is;
          leaf_is = ap (λ (x : Option ℕ). option_map_or leaf.State x (leaf.State q)) is;
        }

sent_on_cut : (p : ProgramModel) (m : MethodModel) (bs bs' : List Block) (a : ℕ) (k : HeapType) (l : Leaf) (message : ℕ) → HasLeaf bs k a l
    → is_end k ≡ true → cut_off bs' a ≡ true → IsOn bs' k a (sent_leaf p (Some k) message l)
sent_on_cut p m bs bs' a k leaf.Nothing message h end cut = absurd h.state
sent_on_cut p m bs bs' a k leaf.Block message h end cut = absurd (true≢false end h.state)
sent_on_cut p m bs bs' a k leaf.CutOff message h end cut = (end, cut)
sent_on_cut p m bs bs' a k (leaf.State q) message h end cut = by (end_on (edges_out p (Some k) q) message)
  where
    by : (x : Option ℕ) → IsOn bs' k a (option_map_or leaf.State x (leaf.State q))
    by None = (end, inr cut)
    by (Some t) = (end, inr cut)

-- the queue of the peer has room for a message that an edge allows
room_for : NeverLonger → (p : ProgramModel) (bound : QueueBounds) → IsSoundProgram p bound → (x : ContractModel) (side : Side) (c : ℕ)
    → slice_get p.contracts c ≡ Some x → (b peer : Block) (m : MessageHeld) (q' : ℕ) → EndsAre p x side b true peer
    → Leads x.parts.edges record { 0 = b.state } record { 0 = m.message } (sign_from side) record { 0 = q' }
    → length peer.queue < bound c (other side)
room_for longer p bound sound x side c there b peer m q' e leads =
    let b' : Block = record { ty = b.ty; owner = b.owner; peer = b.peer; state = q'; queue = b.queue; fields = b.fields } in
    let peer' : Block = record { ty = peer.ty; owner = peer.owner; peer = peer.peer; state = peer.state; queue = peer.queue ++ m ∷ []; fields = peer.fields } in
    let f = ends_send p x side b peer b' peer' true m q' e leads refl refl refl (λ l. refl) in
    let most = longer x.parts f.n f.ends (sign_to (other side)) (bound c (other side)) (sound.whole c x there) (sound.sound c x there)
    (sound.bounds c x (other side) there) f.moves in
    let q = ap length ((f.theirs refl).queue) in
    let l1 = length-map (f.ends.queue (sign_to (other side))) (λ (n : MessageId). n.0) in
    let l2 = length-map (peer.queue ++ m ∷ []) (λ (y : MessageHeld). y.message) in
    let l3 = length-append peer.queue (m ∷ []) in
    omega arith

or_left : (x y : Bool) → x ≡ true → x || y ≡ true
or_left true y e = refl
or_left false y e = absurd (cc)

-- if the lookup finds an edge, the end moves along it
pub sends_along : (p : ProgramModel) (bs : List Block) (a message to c : ℕ) (side : Side)
    → stateless (block_at bs a).ty ≡ Endpoint record { 0 = c } side record { 0 = 0 }
    → end_on (edges_out p (Some (block_at bs a).ty) (block_at bs a).state) message ≡ Some to
    → (y : ContractModel) → slice_get p.contracts c ≡ Some y
    → Leads y.parts.edges record { 0 = (block_at bs a).state } record { 0 = message } (sign_from side) record { 0 = to }
sends_along p bs a message to c side ty edge y there =
    subst (λ (es : List Edge). Leads es record { 0 = (block_at bs a).state } record { 0 = message } (sign_from side) record { 0 = to })
    (ap (λ (z : Option ContractModel). option_map_or (λ u. u.parts.edges) z []) there)
    (end_leads (edges_of p c) (sign_from side) (block_at bs a).state message to
    (sym (ap (λ (es : List Edge). end_on es message) (out_edges p (block_at bs a).ty c side (block_at bs a).state ty)) ∙ edge))

-- a send with an edge, or of an endpoint that is cut off, finds room
pub room_is : NeverLonger → (p : ProgramModel) (bound : QueueBounds) → IsSoundProgram p bound
    → (w : World) (self : ℕ) (f : Frame) (rest : List Frame) (a state' : ℕ) (msg : MessageHeld) (c : ℕ) (side : Side)
    → ChannelsFit p w.blocks → a < length w.blocks → is_freed_at w.blocks a ≡ false
    → stateless (block_at w.blocks a).ty ≡ Endpoint record { 0 = c } side record { 0 = 0 }
    → (cut_off w.blocks a ≡ false → (y : ContractModel) → slice_get p.contracts c ≡ Some y
    → Leads y.parts.edges record { 0 = (block_at w.blocks a).state } record { 0 = msg.message } (sign_from side) record { 0 = state' })
    → has_room bound w.blocks (block_at w.blocks a).peer ≡ true
room_is longer p bound sound w self f rest a state' msg c side channels within alive ty leads = ⊎_elim
    (λ g. or_left (is_freed_at w.blocks (block_at w.blocks a).peer) _ g)
    (λ g.
    let cut : cut_off w.blocks a ≡ false = ap (λ (b : Bool). b && is_empty (block_at w.blocks a).queue) g in
    let ch = channel_of p w.blocks a c side channels within alive ty in
    let pk = peer_is p w.blocks a c side channels within ty in
    let room = room_for longer p bound sound ch.contract side c ch.there (block_at w.blocks a)
    (block_at w.blocks (block_at w.blocks a).peer) msg state'
    (subst (λ (b : Bool). EndsAre p ch.contract side (block_at w.blocks a) b (block_at w.blocks (block_at w.blocks a).peer))
    (ap not g) ch.ends) (leads cut ch.contract ch.there) in
    let bound_is : bound_of bound (block_at w.blocks (block_at w.blocks a).peer).ty ≡ bound c (other side) =
    bound_of_end bound (block_at w.blocks (block_at w.blocks a).peer).ty
    ∙ of_end_is bound 0 (block_at w.blocks (block_at w.blocks a).peer).ty c (other side) pk.ty in
    or_right (is_freed_at w.blocks (block_at w.blocks a).peer) _
    (ap (nat_lt (length (block_at w.blocks (block_at w.blocks a).peer).queue)) bound_is
    ∙ ltb_true_of (length (block_at w.blocks (block_at w.blocks a).peer).queue) (bound c (other side)) room))
    (cases_Bool (is_freed_at w.blocks (block_at w.blocks a).peer))

-- the row after a send
pub sent_fits : (bs bs' : List Block) (variables : List VariableModel) (vs : List (Option ℕ)) (row : List Leaf) (arguments : List Argument)
    (e a : ℕ) (l' : Leaf) (x : VariableModel)
    → RowFits bs variables vs row → NotClaimed arguments e → StaysCutOff bs bs' → ((j : ℕ) → j ≢ a → j < length bs → IsKept bs bs' j)
    → standing a (let_go vs arguments) ≤ 1 → read vs e ≡ Some a → slice_get variables e ≡ Some x → HasLeaf bs' x.ty a l'
    → RowFits bs' variables (let_go vs arguments) (set (after_claims row arguments) e l')
sent_fits bs bs' variables vs row arguments e a l' x h free cut kept once is there leaf = record {
  long = base.long;
  row_long = length-set (after_claims row arguments) e l' ∙ base.row_long;
  each = λ u y at. ⊎_elim (λ s. mine u y at s) (λ n. others u y at n) (cases_eq u e);
}
  where
    base : RowFits bs variables (let_go vs arguments) (after_claims row arguments)
    base = go_fits bs variables vs row arguments h

    here : read (let_go vs arguments) e ≡ Some a
    here = go_other vs arguments e free ∙ is

    mine : (u : ℕ) (y : VariableModel) → slice_get variables u ≡ Some y → u ≡ e
        → LeafFits bs' y.ty (read (let_go vs arguments) u) (leaf_at (set (after_claims row arguments) e l') u)
    mine u y at s =
        let within : e < length variables = slice_get_within variables e x there in
        let row_long = base.row_long in
        let v : read (let_go vs arguments) u ≡ Some a = ap (read (let_go vs arguments)) s ∙ here in
        let r : leaf_at (set (after_claims row arguments) e l') u ≡ l' =
        ap (leaf_at (set (after_claims row arguments) e l')) s ∙ leaf_set_same (after_claims row arguments) e l' (omega arith) in
        let k : x.ty ≡ y.ty = ap (λ (z : VariableModel). z.ty) (some_same x y (sym there ∙ (sym (ap (slice_get variables) s) ∙ at))) in
        subst (λ (z : Option ℕ). LeafFits bs' y.ty z (leaf_at (set (after_claims row arguments) e l') u)) (sym v)
        (subst (λ (z : Leaf). HasLeaf bs' y.ty a z) (sym r) (subst (λ (z : HeapType). HasLeaf bs' z a l') k leaf))

    others : (u : ℕ) (y : VariableModel) → slice_get variables u ≡ Some y → u ≢ e
        → LeafFits bs' y.ty (read (let_go vs arguments) u) (leaf_at (set (after_claims row arguments) e l') u)
    others u y at n =
        subst (λ (z : Leaf). LeafFits bs' y.ty (read (let_go vs arguments) u) z) (sym (leaf_set_other (after_claims row arguments) e u l' n))
        (fits_kept bs bs' y.ty (read (let_go vs arguments) u) (leaf_at (after_claims row arguments) u) cut
        (λ j at_j short. kept j (λ s. n (no_copies (let_go vs arguments) u e a once (at_j ∙ ap Some s) here)) short) (base.each u y at))

claims_apart : (arguments : List Argument) (e : ℕ) → Each (λ b. number b ≢ e) arguments → NotClaimed arguments e
claims_apart [] e h = tt
claims_apart (a ∷ arguments) e h = ((λ c. h.0), claims_apart arguments e h.1)

pub good_send : (p : ProgramModel) (bound : QueueBounds) (w : World) (self choice : ℕ) (f : Frame) (rest : List Frame) (m : MethodModel)
    → NeverLonger → IsSoundProgram p bound → (place : Place) (e : Mention) (message : MessageId) (payloads : List Mention) (next : ℕ)
    → (h : Here p w self f rest m (Send place e message payloads next))
    → IsSendFit p m h.graph.scope f.point e.variable.0 message.0 payloads next
    → IsGood p w (outcome_from p bound w self f rest (Send place e message payloads next) choice)
good_send p bound w self choice f rest m longer sound place e message payloads next h fit =
    let vs = f.variables in
    let v = e.variable.0 in
    let args = payloads_claimed payloads in
    let types = payload_types p message.0 in
    let l = leaf_at h.row v in
    let wrong = λ (x : VarId). WrongFor x e.variable message in
    let lacks = refuse_if (lacks_edge p (type_of m v) message.0 l) (breach_at place (NotSent e.variable message)) ∷ [] in
    let checks = require_owned h.row e ∷ ((given_before (v ∷ []) args ++ each_taken m h.row wrong types payloads) ++ lacks) in
    let row' = set (after_claims h.row args) v (sent_leaf p (type_of m v) message.0 l) in
    let passed = all_pass checks ((next, row') ∷ []) h.passes in
    let owned = not_false (is_owned h.row v) (not_refused (not (is_owned h.row v)) _ passed.0) in
    let o = owned_is p w self f rest m h.row v h.holds h.is h.fits owned in
    let x = o.variable in
    let a = o.at in
    let given_checks = given_before (v ∷ []) args in
    let payload_checks = each_taken m h.row wrong types payloads in
    let all_passed = passed_left (given_checks ++ payload_checks) lacks passed.1 in
    let given_passed = passed_left given_checks payload_checks all_passed in
    let each = passed_right given_checks payload_checks all_passed in
    let type_x : type_of m v ≡ Some x.ty = type_known m v x o.there in
    let end : is_end x.ty ≡ true =
    ap (λ (z : VariableModel). is_end z.ty) (some_same x fit.endpoint.variable (sym o.there ∙ fit.endpoint.there))
    ∙ fit.endpoint.end in
    let edge_there : lacks_edge p (Some x.ty) message.0 l ≡ false =
    ap (λ (k : Option HeapType). lacks_edge p k message.0 l) (sym type_x)
    ∙ not_refused (lacks_edge p (type_of m v) message.0 l) _ (passed_right (given_checks ++ payload_checks) lacks passed.1).0 in
    let apart = pair_apart (v ∷ []) args given_passed in
    let free = not_earlier (v ∷ []) args given_passed v (ap (λ (b : Bool). b || false) (eqb_same v v refl)) in
    let fits = taken_fit m w.blocks vs h.row wrong types payloads h.fits fit.types each in
    let claims = payloads_claim payloads in
    let all = λ (y : ℕ). top_once p w self f rest y h.holds h.is in
    let own = λ (y u : ℕ) (i : read vs u ≡ Some y). top_owned p w self f rest y u h.holds h.is i in
    let end_k = end_is x.ty end in
    let type_a = o.leaf.ty ∙ end_k.is in
    let edge = sent_state p w.blocks a message.0 in
    let state' = if cut_off w.blocks a then (block_at w.blocks a).state else unwrap_or edge (block_at w.blocks a).state in
    let msg : MessageHeld = record { message = message.0; payload = addresses vs args } in
    let leaves = λ (y : ℕ). given_leaves y w.blocks vs h.row types args fits apart claims (all y) in
    let mine = λ (y : ℕ) (i : is_among (addresses vs args) y ≡ true). given_own w.blocks self vs h.row types args y fits own i in
    let found = λ (c : cut_off w.blocks a ≡ false). sends_on p m w.blocks a x.ty l message.0 o.leaf end edge_there c in
    let goes_to : (c : cut_off w.blocks a ≡ false) → state' ≡ (found c).to = λ c.
    ap (λ (b : Bool). if b then (block_at w.blocks a).state else unwrap_or edge (block_at w.blocks a).state) c
    ∙ ap (λ (z : Option ℕ). unwrap_or z (block_at w.blocks a).state) (found c).edge in
    let leads : (c : cut_off w.blocks a ≡ false) (y : ContractModel) → slice_get p.contracts end_k.c ≡ Some y
    → Leads y.parts.edges record { 0 = (block_at w.blocks a).state } record { 0 = message.0 }
    (sign_from end_k.side) record { 0 = state' } = λ c y there.
    sends_along p w.blocks a message.0 state' end_k.c end_k.side type_a ((found c).edge ∙ ap Some (sym (goes_to c))) y there in
    let moves : (y : ContractModel) → slice_get p.contracts end_k.c ≡ Some y
    → ((cut_off w.blocks a ≡ true) × (state' ≡ (block_at w.blocks a).state))
    ⊎ Leads y.parts.edges record { 0 = (block_at w.blocks a).state } record { 0 = message.0 }
    (sign_from end_k.side) record { 0 = state' } = λ y there.
    ⊎_elim (λ c. inl (c, ap (λ (b : Bool). if b then (block_at w.blocks a).state else unwrap_or edge (block_at w.blocks a).state) c))
    (λ c. inr (leads c y there)) (cases_Bool (cut_off w.blocks a)) in
    let once = λ (y : ℕ). (leaves y).1 in
    let hb = blocks_fit p w h.holds in
    let bs' = sent p w self hb a state' msg end_k.c end_k.side o.owned o.leaf.there type_a mine once moves in
    let cut' = cut_now p w self hb a state' msg end_k.c end_k.side o.owned o.leaf.there type_a mine once moves in
    let kept' = λ (P : ℕ → Type 0) (q : (j : ℕ) → P j → j ≢ a). kept_now p w self hb a state' msg end_k.c end_k.side o.owned o.leaf.there
    type_a mine once moves P q in
    let stands : 0 < standing a vs = standing_read vs v a o.is in
    let not_mine : is_among (addresses vs args) a ≡ false = not_given w.blocks vs h.row types args v a fits (all a) o.is free in
    let after_once : standing a (let_go vs args) ≤ 1 = let k = (leaves a).0 in let k2 = all a in omega arith in
    let leaf' : HasLeaf bs' x.ty a (sent_leaf p (type_of m v) message.0 l) =
    subst (λ (k : Option HeapType). HasLeaf bs' x.ty a (sent_leaf p k message.0 l)) (sym type_x) (record {
      there = let k = cut'.long in let k2 = o.leaf.there in omega arith;
      ty = ap (λ (b : Block). stateless b.ty) (at p w self hb a state' msg end_k.c end_k.side o.owned o.leaf.there type_a mine once
          moves a) ∙ o.leaf.ty;
      state = ⊎_elim (λ c. sent_on_cut p m w.blocks bs' a x.ty l message.0 o.leaf end (cut'.each a o.leaf.there c))
          (λ c. subst (λ (z : Leaf). IsOn bs' x.ty a z) (sym (found c).leaf_is)
          (end, inl (state_mine p w self hb a state' msg end_k.c end_k.side o.owned o.leaf.there type_a mine once moves ∙ goes_to c)))
          (cases_Bool (cut_off w.blocks a));
    }) in
    let fits' = sent_fits w.blocks bs' m.variables vs h.row args v a (sent_leaf p (type_of m v) message.0 l) x h.fits
    (claims_apart args v free) cut' (λ j n short. kept' (λ z. z ≢ a) (λ z q. q) j n short) after_once o.is o.there leaf' in
    let reached = h.onward ((next, row') ∷ []) (next, row') (passed_goes checks ((next, row') ∷ []) passed)
    (contains_first (next, row') []) in
    let typed = given_declared w.blocks bs' vs h.row types args cut' fits
    (λ y i short. kept' (λ z. is_among (addresses vs args) z ≡ true)
    (λ z q s. true≢false q (ap (is_among (addresses vs args)) s ∙ not_mine)) y i short) in
    let is_address : address (read vs v) ≡ a = ap address o.is in
    subst (λ (n : ℕ). IsGood p w (after_tests (test (is_own w.blocks self (read vs v)) F1
    ∷ (argument_tests w.blocks self f.variables [] args ++ send_tests p bound w.blocks n message.0))
    (send_from p bound w self f rest n msg (let_go vs args) next))) (sym is_address)
    (tested_good p w (test (is_own w.blocks self (read vs v)) F1
    ∷ (argument_tests w.blocks self f.variables [] args ++ send_tests p bound w.blocks a message.0)) _ (
      test_holds (is_own w.blocks self (read vs v)) F1 (own_holds p bound w self f rest (read vs v) a o.is o.owned),
      each_append (λ t. t ≡ None) (argument_tests w.blocks self f.variables [] args) (send_tests p bound w.blocks a message.0)
          (arguments_hold p bound w self f rest h.row types [] args all own apart (none_taken vs args) fits) (
            test_holds (cut_off w.blocks a || is_some edge) F4 (⊎_elim (λ c. or_left (cut_off w.blocks a) (is_some edge) c)
                (λ c. or_right (cut_off w.blocks a) (is_some edge) (ap is_some (found c).edge)) (cases_Bool (cut_off w.blocks a))),
            (
              test_holds (has_room bound w.blocks (block_at w.blocks a).peer) F6
                  (room_is longer p bound sound w self f rest a state' msg end_k.c end_k.side h.holds.channels o.leaf.there
                  (process_not_freed (block_at w.blocks a).owner self o.owned) type_a leads),
              tt,
            ),
          ),
    ) (
      goes_on p w self f rest m next (let_go vs args) row' bs' h.holds h.is h.there h.below reached fits' (record {
        lent = go_stays p m vs args (taken_own m h.row wrong m.variables types payloads fit.types each);
        cut = cut';
        kept = kept' (λ j. standing j vs ≡ 0) (λ j z s. let k : standing j vs ≡ standing a vs =
            ap (λ (n : ℕ). standing n vs) s in absurd (omega arith));
        counted = λ j. counted_now p w self hb a state' msg end_k.c end_k.side o.owned o.leaf.there type_a mine once moves j
            (standing j vs) (standing j (let_go vs args)) (leaves j).0;
        others = others_now p w self hb a state' msg end_k.c end_k.side o.owned o.leaf.there type_a mine once moves;
        channels = channels_now p w self hb a state' msg end_k.c end_k.side o.owned o.leaf.there type_a mine once moves;
        queues = queues_now p w self hb a state' msg end_k.c end_k.side o.owned o.leaf.there type_a mine once moves;
        brought = brought_now p w self hb a state' msg end_k.c end_k.side o.owned o.leaf.there type_a mine once moves h.holds.brought typed;
        held = held_now p w self hb a state' msg end_k.c end_k.side o.owned o.leaf.there type_a mine once moves;
        declared = declared_now p w self hb a state' msg end_k.c end_k.side o.owned o.leaf.there type_a mine once moves h.holds.declared;
      }),
      cut',
    ))
