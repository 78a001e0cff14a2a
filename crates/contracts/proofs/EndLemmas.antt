-- Two ends step by step.
use Rattle.std.proofs.Common.{◌≡◌, ℕ, zero, suc, ◌≤◌, List, [], ◌∷◌, ◌++◌, length, map, sym, refl, ap, ◌∙◌, subst, arith, inl, inr, ⊎_elim}
use Rattle.std.specs.Prelude.{◌⊎◌}
use Rattle.std.proofs.lemmas.List.{append_assoc, append-nil, length-map}
use Rattle.std.proofs.lemmas.List.Elements.{All-nil, All-cons, All-head, All-tail}
use Rattle.program.specs.declared.contract.Sign.{Sign}
use Rattle.program.specs.declared.contract.Sign.TheVariants.{Send, Receive}
use Rattle.program.specs.declared.contract.Edge.{Edge}
use Rattle.program.specs.declared.number.MessageId.{MessageId}
use Rattle.program.specs.declared.number.StateId.{StateId}
use Rattle.contracts.specs.Bounds.{IsBound}
use Rattle.contracts.specs.Walks.{IsWalk, HasSign}
use Rattle.contracts.specs.TwoEnds.{opposite, Leads, Ends, Sends, TakesFront, Move, Moves, ends_at_start, IsHeld, HeldAlways, NeverLonger, OnceAsLong}
use Rattle.contracts.proofs.SoundLemmas.{IsDirected, directed}

-- these messages lead from p to q along edges of one sign
abbrev Path : List Edge → Sign → StateId → List MessageId → StateId → Type 0
Path edges s p [] q = p ≡ q
Path edges s p (m ∷ ms) q = (u : StateId) × Leads edges p m s u × Path edges s u ms q

-- one queue is empty, and the other is a path from its holder's state to the sender's
record Holds (edges : List Edge) (s : Sign) (ends : Ends) : Type 0 where
  empty : ends.queue (opposite s) ≡ []
  walk : Path edges s (ends.state (opposite s)) (ends.queue s) (ends.state s)

send≢receive : Send ≡ Receive → ⊥
send≢receive e = cc

not_self : (s : Sign) → s ≡ opposite s → ⊥
not_self Send e = send≢receive e
not_self Receive e = send≢receive (sym e)

path_push : (edges : List Edge) (s : Sign) (p : StateId) (m : MessageId) (q u : StateId) (ms : List MessageId) → Path edges s p ms q → Leads edges q m s u → Path edges s p (ms ++ m ∷ []) u
path_push edges s p m q u [] walk edge = (u, subst (λ x. Leads edges x m s u) (sym walk) edge, refl)
path_push edges s p m q u (n ∷ ms) walk edge = (walk.0, walk.1, path_push edges s walk.0 m q u ms walk.2 edge)

-- the sender sends once more
sends_more : (edges : List Edge) (s : Sign) (old new : Ends) → Holds edges s old → Sends edges s old new → Holds edges s new
sends_more edges s old new h m = record {
  empty = m.same ∙ h.empty;
  walk = subst (λ x. Path edges s x (new.queue s) (new.state s)) (sym m.other)
      (subst (λ x. Path edges s (old.state (opposite s)) x (new.state s)) (sym m.sent) (path_push edges s (old.state (opposite s)) m.message (old.state s) (new.state s) (old.queue s) h.walk m.edge));
}

nil_cons : (m : MessageId) (ms : List MessageId) → [] ≡ m ∷ ms → ⊥
nil_cons m ms e = cc

head_is : (m n : MessageId) (ms ns : List MessageId) → m ∷ ms ≡ n ∷ ns → m ≡ n
head_is m n ms ns e = cc

tail_is : (m n : MessageId) (ms ns : List MessageId) → m ∷ ms ≡ n ∷ ns → ms ≡ ns
tail_is m n ms ns e = cc

-- the first message of a path is taken
path_tail : (edges : List Edge) (s : Sign) (p : StateId) (m : MessageId) (q u : StateId) (ms rest : List MessageId) → IsDirected edges → Path edges s p ms q → ms ≡ m ∷ rest → Leads edges p m s u → Path edges s u rest q
path_tail edges s p m q u [] rest sound walk is edge = absurd (nil_cons m rest is)
path_tail edges s p m q u (n ∷ ms) rest sound walk is edge =
    let same : walk.0 ≡ u = sound.one_end p m s walk.0 u (subst (λ x. Leads edges p x s walk.0) (head_is n m ms rest is) walk.1) edge in
    subst (λ x. Path edges s x rest q) same (subst (λ x. Path edges s walk.0 x q) (tail_is n m ms rest is) walk.2)

takes_front : (edges : List Edge) (s : Sign) (old new : Ends) → IsDirected edges → Holds edges s old → TakesFront edges s old new → Holds edges s new
takes_front edges s old new sound h m = record {
  empty = m.same ∙ h.empty;
  walk = subst (λ x. Path edges s (new.state (opposite s)) (new.queue s) x) (sym m.other)
      (path_tail edges s (old.state (opposite s)) m.message (old.state s) (new.state (opposite s)) (old.queue s) (new.queue s) sound h.walk m.taken m.edge);
}

-- if a state has an edge of the other sign, the walk from it is empty
walk_none : (edges : List Edge) (s t : Sign) (p : StateId) (m : MessageId) (q u : StateId) (ms : List MessageId) → IsDirected edges → (s ≡ t → ⊥) → Path edges s p ms q → Leads edges p m t u → (ms ≡ []) × (p ≡ q)
walk_none edges s t p m q u [] sound differ walk edge = (refl, walk)
walk_none edges s t p m q u (n ∷ ms) sound differ walk edge = absurd (differ (sound.one_way p n m s t walk.0 u walk.1 edge))

-- a send by the peer swaps the roles of the two sides
turns : (edges : List Edge) (s t : Sign) (old new : Ends) → IsDirected edges → opposite t ≡ s → opposite s ≡ t → (s ≡ t → ⊥) → Holds edges s old → Sends edges t old new → Holds edges t new
turns edges s t old new sound nt ns differ h m =
    let at : Path edges s (old.state t) (old.queue s) (old.state s) = subst (λ x. Path edges s (old.state x) (old.queue s) (old.state s)) ns h.walk in
    let none = walk_none edges s t (old.state t) m.message (old.state s) (new.state t) (old.queue s) sound differ at m.edge in
    let was : old.queue t ≡ [] = sym (ap old.queue ns) ∙ h.empty in
    let now : new.queue t ≡ m.message ∷ [] = m.sent ∙ ap (λ x. x ++ m.message ∷ []) was in
    let from : new.state (opposite t) ≡ old.state t = m.other ∙ ap old.state nt ∙ sym none.1 in
    record {
      empty = m.same ∙ ap old.queue nt ∙ none.0;
      walk = subst (λ x. Path edges t x (new.queue t) (new.state t)) (sym from)
          (subst (λ x. Path edges t (old.state t) x (new.state t)) (sym now) (new.state t, m.edge, refl));
    }

-- nothing can be taken from an empty queue
none_taken : (edges : List Edge) (s t : Sign) (old new : Ends) → opposite s ≡ t → Holds edges s old → TakesFront edges t old new → ⊥
none_taken edges s t old new ns h m = nil_cons m.message (new.queue t) (sym (sym (ap old.queue ns) ∙ h.empty) ∙ m.taken)

-- `Holds` for one of the signs, which each of the four moves keeps
abbrev Held : List Edge → Ends → Type 0
Held edges ends = Holds edges Send ends ⊎ Holds edges Receive ends

move_held : (edges : List Edge) (old new : Ends) → IsDirected edges → Held edges old → Move edges old new → Held edges new
move_held edges old new sound (inl h) (Send, inl m) = inl (sends_more edges Send old new h m)
move_held edges old new sound (inl h) (Send, inr m) = inl (takes_front edges Send old new sound h m)
move_held edges old new sound (inl h) (Receive, inl m) = inr (turns edges Send Receive old new sound refl refl send≢receive h m)
move_held edges old new sound (inl h) (Receive, inr m) = absurd (none_taken edges Send Receive old new refl h m)
move_held edges old new sound (inr h) (Receive, inl m) = inr (sends_more edges Receive old new h m)
move_held edges old new sound (inr h) (Receive, inr m) = inr (takes_front edges Receive old new sound h m)
move_held edges old new sound (inr h) (Send, inl m) = inl (turns edges Receive Send old new sound refl refl (λ e. send≢receive (sym e)) h m)
move_held edges old new sound (inr h) (Send, inr m) = absurd (none_taken edges Receive Send old new refl h m)

moves_held : (edges : List Edge) (n : ℕ) (old new : Ends) → IsDirected edges → Held edges old → Moves edges n old new → Held edges new
moves_held edges zero old new sound h moves = subst (λ x. Held edges x) moves h
moves_held edges (suc n) old new sound h moves = moves_held edges n moves.0 new sound (move_held edges old moves.0 sound h moves.1) moves.2

-- a path is a walk
walk_path : (edges : List Edge) (s : Sign) (walk : List Edge) (p q : StateId) → IsWalk edges p walk q → HasSign s walk → Path edges s p (map (λ (e : Edge). e.message) walk) q
walk_path edges s [] p q leads signs = leads
walk_path edges s (e ∷ walk) p q leads signs = (e.to, (e, leads.0, leads.1, refl, All-head (λ (x : Edge). x.sign ≡ s) e walk signs, refl), walk_path edges s walk e.to q leads.2 (All-tail (λ (x : Edge). x.sign ≡ s) e walk signs))

-- and a walk is a path
record Walked (edges : List Edge) (s : Sign) (p : StateId) (ms : List MessageId) (q : StateId) : Type 0 where
  walk : List Edge
  leads : IsWalk edges p walk q
  one_sign : HasSign s walk
  spells : map (λ (e : Edge). e.message) walk ≡ ms

path_walk : (edges : List Edge) (s : Sign) (p : StateId) (ms : List MessageId) (q : StateId) → Path edges s p ms q → Walked edges s p ms q
path_walk edges s p [] q path = record { walk = []; leads = path; one_sign = All-nil (λ (x : Edge). x.sign ≡ s); spells = refl }
path_walk edges s p (m ∷ ms) q path =
    let e = path.1.0 in
    let rest = path_walk edges s path.0 ms q path.2 in
    record {
      walk = e ∷ rest.walk;
      leads = (path.1.1, path.1.2, subst (λ x. IsWalk edges x rest.walk q) (sym path.1.5) rest.leads);
      one_sign = All-cons (λ (x : Edge). x.sign ≡ s) e rest.walk path.1.4 rest.one_sign;
      spells = ap (λ x. x ∷ map (λ (y : Edge). y.message) rest.walk) path.1.3 ∙ ap (λ l. m ∷ l) rest.spells;
    }

held_is : (edges : List Edge) (s : Sign) (ends : Ends) → Holds edges s ends → IsHeld edges s ends
held_is edges s ends h =
    let w = path_walk edges s (ends.state (opposite s)) (ends.queue s) (ends.state s) h.walk in
    record { empty = h.empty; walk = w.walk; leads = w.leads; one_sign = w.one_sign; spells = w.spells }

pub held_always : HeldAlways
held_always parts n ends whole sound moves = ⊎_elim
    (λ a. inl (held_is parts.edges Send ends a))
    (λ b. inr (held_is parts.edges Receive ends b))
    (moves_held parts.edges n (ends_at_start parts.first) ends (directed parts whole sound) (inl (record { empty = refl; walk = refl })) moves)

walk_push : (edges : List Edge) (way : List Edge) (p q u : StateId) (m : MessageId) (s : Sign) → IsWalk edges p way q → Leads edges q m s u → (more : List Edge) × IsWalk edges p more u
walk_push edges [] p q u m s walk edge = (edge.0 ∷ [], (edge.1, edge.2 ∙ sym walk, edge.5))
walk_push edges (e ∷ way) p q u m s walk edge = let rest = walk_push edges way e.to q u m s walk.2 edge in (e ∷ rest.0, (walk.0, walk.1, rest.1))

-- both states can be reached
abbrev Reached : List Edge → StateId → Ends → Type 0
Reached edges first ends = (b : Sign) → (way : List Edge) × IsWalk edges first way (ends.state b)

sides : (b s : Sign) → (b ≡ s) ⊎ (b ≡ opposite s)
sides Send Send = inl refl
sides Send Receive = inr refl
sides Receive Send = inr refl
sides Receive Receive = inl refl

move_reached : (edges : List Edge) (first : StateId) (old new : Ends) → Reached edges first old → Move edges old new → Reached edges first new
move_reached edges first old new r (s, inl m) b = ⊎_elim
    (λ this. let before = r s in subst (λ x. (way : List Edge) × IsWalk edges first way (new.state x)) (sym this) (walk_push edges before.0 first (old.state s) (new.state s) m.message s before.1 m.edge))
    (λ peer. subst (λ x. (way : List Edge) × IsWalk edges first way (new.state x)) (sym peer) (subst (λ x. (way : List Edge) × IsWalk edges first way x) (sym m.other) (r (opposite s))))
    (sides b s)
move_reached edges first old new r (s, inr m) b = ⊎_elim
    (λ this. subst (λ x. (way : List Edge) × IsWalk edges first way (new.state x)) (sym this) (subst (λ x. (way : List Edge) × IsWalk edges first way x) (sym m.other) (r s)))
    (λ peer. let before = r (opposite s) in subst (λ x. (way : List Edge) × IsWalk edges first way (new.state x)) (sym peer) (walk_push edges before.0 first (old.state (opposite s)) (new.state (opposite s)) m.message s before.1 m.edge))
    (sides b s)

moves_reached : (edges : List Edge) (first : StateId) (n : ℕ) (old new : Ends) → Reached edges first old → Moves edges n old new → Reached edges first new
moves_reached edges first zero old new r moves = subst (λ x. Reached edges first x) moves r
moves_reached edges first (suc n) old new r moves = moves_reached edges first n moves.0 new (move_reached edges first old moves.0 r moves.1) moves.2

-- the queue that a walk spells is no longer than the bound
spelt_within : (edges : List Edge) (first : StateId) (ends : Ends) (s : Sign) (bound : ℕ) → IsBound edges first s bound → Reached edges first ends → IsHeld edges s ends → length (ends.queue s) ≤ bound
spelt_within edges first ends s bound b r h =
    let from = r (opposite s) in
    let most = b.most (ends.state (opposite s)) (ends.state s) from.0 h.walk from.1 h.leads h.one_sign in
    let size = ap length h.spells in
    let same = length-map h.walk (λ (e : Edge). e.message) in
    omega (arith, most, size, same)

within : (edges : List Edge) (first : StateId) (ends : Ends) (s : Sign) (bound : ℕ) → IsBound edges first s bound → Reached edges first ends → IsHeld edges Send ends ⊎ IsHeld edges Receive ends → length (ends.queue s) ≤ bound
within edges first ends Send bound b r (inl h) = spelt_within edges first ends Send bound b r h
within edges first ends Receive bound b r (inr h) = spelt_within edges first ends Receive bound b r h
within edges first ends Receive bound b r (inl h) = let e = ap length h.empty in omega (arith, e)
within edges first ends Send bound b r (inr h) = let e = ap length h.empty in omega (arith, e)

pub never_longer : NeverLonger
never_longer parts n ends s bound whole sound b moves = within parts.edges parts.first ends s bound b
    (moves_reached parts.edges parts.first n (ends_at_start parts.first) ends (λ _. ([], refl)) moves)
    (held_always parts n ends whole sound moves)

-- what the side s has, and what its peer has
pick : {X : Type 0} → Sign → X → X → Sign → X
pick Send a b Send = a
pick Send a b Receive = b
pick Receive a b Send = b
pick Receive a b Receive = a

-- the side s is in q and has sent these messages, and its peer is in p
far : Sign → StateId → StateId → List MessageId → Ends
far s p q ms = record { state = pick s q p; queue = pick s ms [] }

first_sent : (edges : List Edge) (s : Sign) (p : StateId) (m : MessageId) (u : StateId) → Leads edges p m s u → Move edges (ends_at_start p) (far s p u (m ∷ []))
unfolding far pick
first_sent edges Send p m u edge = (Send, inl (record { message = m; edge = edge; other = refl; sent = refl; same = refl }))
first_sent edges Receive p m u edge = (Receive, inl (record { message = m; edge = edge; other = refl; sent = refl; same = refl }))

sent_on : (edges : List Edge) (s : Sign) (p q : StateId) (m : MessageId) (u : StateId) (done : List MessageId) → Leads edges q m s u → Move edges (far s p q done) (far s p u (done ++ m ∷ []))
unfolding far pick
sent_on edges Send p q m u done edge = (Send, inl (record { message = m; edge = edge; other = refl; sent = refl; same = refl }))
sent_on edges Receive p q m u done edge = (Receive, inl (record { message = m; edge = edge; other = refl; sent = refl; same = refl }))

taken_off : (edges : List Edge) (s : Sign) (p : StateId) (m : MessageId) (u : StateId) → Leads edges p m s u → Move edges (far s p u (m ∷ [])) (ends_at_start u)
unfolding far pick
taken_off edges Send p m u edge = (Send, inr (record { message = m; edge = edge; other = refl; taken = refl; same = refl }))
taken_off edges Receive p m u edge = (Receive, inr (record { message = m; edge = edge; other = refl; taken = refl; same = refl }))

moves_on : (edges : List Edge) (n : ℕ) (a b c : Ends) → Moves edges n a b → (k : ℕ) × Moves edges k b c → (k : ℕ) × Moves edges k a c
moves_on edges zero a b c first more = subst (λ x. (k : ℕ) × Moves edges k x c) (sym first) more
moves_on edges (suc n) a b c first more = let rest = moves_on edges n first.0 b c first.2 more in (suc rest.0, (first.0, first.1, rest.1))

-- each edge is sent and taken at once
both_go : (edges : List Edge) (way : List Edge) (p q : StateId) → IsWalk edges p way q → (k : ℕ) × Moves edges k (ends_at_start p) (ends_at_start q)
both_go edges [] p q walk = (0, ap ends_at_start walk)
both_go edges (e ∷ way) p q walk =
    let edge : Leads edges p e.message e.sign e.to = (e, walk.0, walk.1, refl, refl, refl) in
    let rest = both_go edges way e.to q walk.2 in
    (suc (suc rest.0), (far e.sign p e.to (e.message ∷ []), first_sent edges e.sign p e.message e.to edge, (ends_at_start e.to, taken_off edges e.sign p e.message e.to edge, rest.1)))

-- the messages of a walk are sent one by one
all_sent : (edges : List Edge) (s : Sign) (p q to : StateId) (done ms : List MessageId) → Path edges s q ms to → (k : ℕ) × Moves edges k (far s p q done) (far s p to (done ++ ms))
all_sent edges s p q to done [] walk = (0, ap (λ x. far s p x done) walk ∙ ap (λ x. far s p to x) (sym (append-nil done)))
all_sent edges s p q to done (m ∷ ms) walk =
    let rest = all_sent edges s p walk.0 to (done ++ m ∷ []) ms walk.2 in
    (suc rest.0, (far s p walk.0 (done ++ m ∷ []), sent_on edges s p q m walk.0 done walk.1, subst (λ x. Moves edges rest.0 (far s p walk.0 (done ++ m ∷ [])) (far s p to x)) (append_assoc done (m ∷ []) ms) rest.1))

queue_far : (s : Sign) (p q : StateId) (ms : List MessageId) → (far s p q ms).queue s ≡ ms
unfolding far pick
queue_far Send p q ms = refl
queue_far Receive p q ms = refl

sends_walk : (edges : List Edge) (s : Sign) (p q : StateId) (ms : List MessageId) → Path edges s p ms q → (ends : Ends) × ((k : ℕ) × Moves edges k (ends_at_start p) ends) × (ends.queue s ≡ ms)
sends_walk edges s p q [] walk = (ends_at_start p, (0, refl), refl)
sends_walk edges s p q (m ∷ ms) walk =
    let rest = all_sent edges s p walk.0 q (m ∷ []) ms walk.2 in
    (far s p q (m ∷ ms), (suc rest.0, (far s p walk.0 (m ∷ []), first_sent edges s p m walk.0 walk.1, rest.1)), queue_far s p q (m ∷ ms))

pub once_as_long : OnceAsLong
once_as_long parts s bound b =
    let edges = parts.edges in
    let go = both_go edges b.way parts.first b.from b.reached in
    let sent = sends_walk edges s b.from b.to (map (λ (e : Edge). e.message) b.walk) (walk_path edges s b.walk b.from b.to b.leads b.one_sign) in
    let all = moves_on edges go.0 (ends_at_start parts.first) (ends_at_start b.from) sent.0 go.1 sent.1 in
    (all.0, (sent.0, all.1, ap length sent.2 ∙ length-map b.walk (λ (e : Edge). e.message) ∙ b.long))
