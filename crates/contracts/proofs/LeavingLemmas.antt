-- The edges of one sign from a state, where a message leads along them, and the names of messages.
use Rattle.std.proofs.Common.{◌≡◌, ℕ, zero, suc, ◌+◌, ◌<◌, ◌==◌, Bool, cond, List, [], ◌∷◌, length, map, get_or, true, Option, Some, None, sym, refl, ap, ◌∙◌, subst, arith, inl, inr, ⊎_elim}
use Rattle.std.specs.Prelude.{◌⊎◌, All, Contains, filter, slice_get, string_bytes}
use Rattle.std.proofs.lemmas.Bool.{true≢false, eq-eqb, eqb-true, cases_Bool, cond-true, cond-false, and_parts, and_from, false_from_ne_true}
use Rattle.std.proofs.lemmas.List.{length-map, get_or-map}
use Rattle.std.proofs.lemmas.List.Elements.{All-contains, All-filter}
use Rattle.std.proofs.lemmas.List.FromFn.{length-range_with_len, get_or-range_with_len}
use Rattle.std.proofs.Math.Logic.{∥∥₁_elim}
use Rattle.std.proofs.Props.{props}
use Rattle.contracts.specs.declared.positions.Listing.{Listing}
use Rattle.program.specs.declared.contract.Edge.{Edge}
use Rattle.program.specs.declared.contract.Message.{Message}
use Rattle.program.specs.declared.contract.Sign.{Sign}
use Rattle.program.specs.declared.contract.Sign.TheVariants.{Send, Receive}
use Rattle.program.specs.declared.limits.TheConstants.{MOST_STATES}
use Rattle.program.specs.declared.number.MessageId.{MessageId}
use Rattle.program.specs.declared.number.StateId.{StateId}
use Rattle.contracts.specs.Conditions.{IsSound}
use Rattle.contracts.specs.Leaving.{same_sign, leaves, all_from, edges_from, end_on, name_among}
use Rattle.contracts.specs.Parts.{Parts, message_model, state_ids, IsWhole}
use Rattle.contracts.specs.Positions.{numbers_of}
use Rattle.contracts.specs.Walks.{IsNext}
use Rattle.contracts.proofs.ArcLemmas.{none_in}
use Rattle.contracts.proofs.PartLemmas.{all_from as each_from, contains_map}
use Rattle.contracts.proofs.ListLemmas.{contains_head, contains_tail, contains_either, kept_in, in_kept}
use Rattle.contracts.proofs.SoundLemmas.{same_edge, same_sign as one_sign}

state_of : ℕ → StateId
state_of n = record { 0 = n }

message_of : ℕ → MessageId
message_of n = record { 0 = n }

pub same_is : (a b : Sign) → same_sign a b ≡ true → a ≡ b
same_is Send Send h = refl
same_is Receive Receive h = refl
same_is Send Receive h = cc
same_is Receive Send h = cc

pub is_same : (a b : Sign) → a ≡ b → same_sign a b ≡ true
is_same Send Send h = refl
is_same Receive Receive h = refl
is_same Send Receive h = cc
is_same Receive Send h = cc

-- tests that agree on a list keep the same elements of it
filter_same : {A : Type 0} (p r : A → Bool) (xs : List A) → ((x : A) → Contains xs x → p x ≡ r x) → filter p xs ≡ filter r xs
filter_same p r [] each = refl
filter_same p r (x ∷ xs) each =
    ap (λ l. cond (p x) (x ∷ l) l) (filter_same p r xs (λ y c. each y (contains_tail x y xs c)))
    ∙ ap (λ b. cond b (x ∷ filter r xs) (filter r xs)) (each x (contains_head x xs))

-- if nothing in a list passes, nothing is kept
pub none_pass : {A : Type 0} (p : A → Bool) (xs : List A) → ((x : A) → Contains xs x → p x ≡ true → ⊥) → filter p xs ≡ []
none_pass p [] each = refl
none_pass p (x ∷ xs) each = cond-false (p x) (x ∷ filter p xs) (filter p xs) (false_from_ne_true (p x) (each x (contains_head x xs))) ∙ none_pass p xs (λ y c. each y (contains_tail x y xs c))

from_same : (e d : Edge) (q : ℕ) → (e.from.0 == q) ≡ true → (d.from.0 == q) ≡ true → e.from ≡ d.from
unfolding state_of
from_same e d q here there = ap state_of (eqb-true e.from.0 q here ∙ sym (eqb-true d.from.0 q there))

-- if one edge from a state of a sound contract has the sign, all have
pub all_of_sign : (parts : Parts) → ∥ IsWhole parts ∥₁ → IsSound parts → (s : Sign) (q : ℕ) (d : Edge) → Contains (all_from parts.edges q) d → d.sign ≡ s → all_from parts.edges q ≡ edges_from parts.edges s q
all_of_sign parts whole sound s q d c is = ∥∥₁_elim whole (Prim.hlevel props) (λ w.
    let kept = kept_in (λ (x : Edge). x.from.0 == q) parts.edges d c in
    filter_same (λ (x : Edge). x.from.0 == q) (leaves s q) parts.edges (λ e there. ⊎_elim
    (λ here. here ∙ sym (and_from (e.from.0 == q) (same_sign e.sign s) here (is_same e.sign s (one_sign parts w sound e d there kept.0 (from_same e d q here kept.1) e.sign s refl is))))
    (λ other. other ∙ sym (false_from_ne_true (leaves s q e) (λ both. true≢false (sym (and_parts (e.from.0 == q) (same_sign e.sign s) both).0 ∙ other))))
    (cases_Bool (e.from.0 == q))))

-- if one has the other sign, none has it
pub none_of_sign : (parts : Parts) → ∥ IsWhole parts ∥₁ → IsSound parts → (s : Sign) (q : ℕ) (d : Edge) → Contains (all_from parts.edges q) d → (d.sign ≡ s → ⊥) → [] ≡ edges_from parts.edges s q
none_of_sign parts whole sound s q d c other =
    let kept = kept_in (λ (x : Edge). x.from.0 == q) parts.edges d c in
    ∥∥₁_elim whole (Prim.hlevel props) (λ w.
    sym (none_pass (leaves s q) parts.edges (λ e there passes.
    let both = and_parts (e.from.0 == q) (same_sign e.sign s) passes in
    other (one_sign parts w sound d e kept.0 there (from_same d e q kept.1 both.0) d.sign s refl (same_is e.sign s both.1)))))

-- the first of a list is in it
pub first_in : (edges : List Edge) (d : Edge) → slice_get edges 0 ≡ Some d → Contains edges d
first_in [] d is = cc
first_in (e ∷ edges) d is = subst (Contains (e ∷ edges)) (one e d is) (contains_head e edges)
  where
    one : (a b : Edge) → Some a ≡ Some b → a ≡ b
    one a b same = cc

pub none_first : (edges : List Edge) → slice_get edges 0 ≡ None → edges ≡ []
none_first [] is = refl
none_first (e ∷ edges) is = cc

-- if no edge leaves a state, none of the sign does
pub none_from : (edges : List Edge) (s : Sign) (q : ℕ) → all_from edges q ≡ [] → [] ≡ edges_from edges s q
none_from edges s q none = sym (none_pass (leaves s q) edges (λ e there passes.
    none_in e (subst (λ l. Contains l e) none (in_kept (λ (x : Edge). x.from.0 == q) edges e there (and_parts (e.from.0 == q) (same_sign e.sign s) passes).0))))

-- an edge of the sign from the state on the message
record IsOn (edges : List Edge) (s : Sign) (q : StateId) (m : MessageId) (e : Edge) : Type 0 where
  listed : Contains edges e
  from : e.from ≡ q
  on : e.message ≡ m
  sign : e.sign ≡ s

-- one of the edges on the message ends there, or there is none
abbrev Ended : List Edge → ℕ → Option ℕ → Type 0
Ended edges m to = ((to ≡ None) × ((e : Edge) → Contains edges e → e.message.0 ≡ m → ⊥)) ⊎ ((e : Edge) × Contains edges e × (e.message.0 ≡ m) × (to ≡ Some e.to.0))

ended_tail : (d : Edge) (edges : List Edge) (m : ℕ) (to : Option ℕ) → (d.message.0 ≡ m → ⊥) → Ended edges m to → Ended (d ∷ edges) m to
ended_tail d edges m to other (inl none) = inl (none.0, λ e c on. contains_either ⊥ d e edges c (λ same. other (ap (λ (x : Edge). x.message.0) same ∙ on)) (λ later. none.1 e later on))
ended_tail d edges m to other (inr some) = inr (some.0, contains_tail d some.0 edges some.1, some.2, some.3)

ended : (edges : List Edge) (m : ℕ) → Ended edges m (end_on edges m)
ended [] m = inl (refl, λ e c on. none_in e c)
ended (d ∷ edges) m = ⊎_elim
    (λ yes. inr (d, contains_head d edges, eqb-true d.message.0 m yes, cond-true (d.message.0 == m) (Some d.to.0) (end_on edges m) yes))
    (λ no'. subst (Ended (d ∷ edges) m) (sym (cond-false (d.message.0 == m) (Some d.to.0) (end_on edges m) no'))
    (ended_tail d edges m (end_on edges m) (λ on. true≢false (sym (eq-eqb d.message.0 m on) ∙ no')) (ended edges m)))
    (cases_Bool (d.message.0 == m))

-- the edges of the sign from the state are those of the contract that have it and begin there
on_from : (edges : List Edge) (s : Sign) (q : StateId) (m : MessageId) (e : Edge) → Contains (edges_from edges s q.0) e → e.message.0 ≡ m.0 → IsOn edges s q m e
unfolding state_of message_of
on_from edges s q m e c on =
    let kept = kept_in (leaves s q.0) edges e c in
    let two = and_parts (e.from.0 == q.0) (same_sign e.sign s) kept.1 in
    record { listed = kept.0; from = ap state_of (eqb-true e.from.0 q.0 two.0); on = ap message_of on; sign = same_is e.sign s two.1 }

from_on : (edges : List Edge) (s : Sign) (q : StateId) (m : MessageId) (e : Edge) → IsOn edges s q m e → Contains (edges_from edges s q.0) e
from_on edges s q m e h = in_kept (leaves s q.0) edges e h.listed (and_from (e.from.0 == q.0) (same_sign e.sign s) (eq-eqb e.from.0 q.0 (ap (λ (x : StateId). x.0) h.from)) (is_same e.sign s h.sign))

end_none : (edges : List Edge) (s : Sign) (q : StateId) (m : MessageId) → ((d : Edge) → IsOn edges s q m d → ⊥) → None ≡ end_on (edges_from edges s q.0) m.0
end_none edges s q m none = ⊎_elim
    (λ is. sym is.0)
    (λ some. absurd (none some.0 (on_from edges s q m some.0 some.1 some.2)))
    (ended (edges_from edges s q.0) m.0)

end_some : (edges : List Edge) (s : Sign) (q : StateId) (m : MessageId) (e : Edge) → IsOn edges s q m e → ((d : Edge) → IsOn edges s q m d → d ≡ e) → Some e.to.0 ≡ end_on (edges_from edges s q.0) m.0
end_some edges s q m e h one = ⊎_elim
    (λ none. absurd (none.1 e (from_on edges s q m e h) (ap (λ (x : MessageId). x.0) h.on)))
    (λ some. sym (some.3 ∙ ap (λ (x : Edge). Some x.to.0) (one some.0 (on_from edges s q m some.0 some.1 some.2))))
    (ended (edges_from edges s q.0) m.0)

-- if the state has no edge on the message, the message leads nowhere
pub no_end : (edges : List Edge) (s : Sign) (q : StateId) (m : MessageId) → IsNext edges q m None → None ≡ end_on (edges_from edges s q.0) m.0
no_end edges s q m none = end_none edges s q m (λ d h. none d h.listed h.from h.on)

-- if its edge on the message has the sign, the message leads to the end of that edge
pub end_there : (parts : Parts) → ∥ IsWhole parts ∥₁ → IsSound parts → (s : Sign) (q : StateId) (m : MessageId) (e : Edge) → Contains parts.edges e → e.from ≡ q → e.message ≡ m → e.sign ≡ s → Some e.to.0 ≡ end_on (edges_from parts.edges s q.0) m.0
end_there parts whole sound s q m e c from on sign = ∥∥₁_elim whole (Prim.hlevel props) (λ w.
    end_some parts.edges s q m e (record { listed = c; from = from; on = on; sign = sign })
    (λ d h. same_edge parts w sound d e h.listed c (h.from ∙ sym from) (h.on ∙ sym on)))

-- if it has the other sign, the message leads nowhere
pub end_elsewhere : (parts : Parts) → ∥ IsWhole parts ∥₁ → IsSound parts → (s : Sign) (q : StateId) (m : MessageId) (e : Edge) → Contains parts.edges e → e.from ≡ q → e.message ≡ m → (e.sign ≡ s → ⊥) → None ≡ end_on (edges_from parts.edges s q.0) m.0
end_elsewhere parts whole sound s q m e c from on other = ∥∥₁_elim whole (Prim.hlevel props) (λ w.
    end_none parts.edges s q m
    (λ d h. other (sym (ap (λ (x : Edge). x.sign) (same_edge parts w sound d e h.listed c (h.from ∙ sym from) (h.on ∙ sym on))) ∙ h.sign)))

-- an edge of a contract ends in a state with an allowed number
pub to_numbered : (parts : Parts) → ∥ IsWhole parts ∥₁ → (e : Edge) → Contains parts.edges e → e.to.0 < MOST_STATES
to_numbered parts whole e c = ∥∥₁_elim whole (Prim.hlevel props) (λ w.
    All-contains (λ (q : StateId). q.0 < MOST_STATES) (state_ids parts) e.to w.numbered (w.to e c))

pub ends_numbered : (parts : Parts) → ∥ IsWhole parts ∥₁ → (s : Sign) (q : ℕ) → All (λ (e : Edge). e.to.0 < MOST_STATES) (edges_from parts.edges s q)
ends_numbered parts whole s q = All-filter (leaves s q) (λ (e : Edge). e.to.0 < MOST_STATES) parts.edges
    (each_from (λ (e : Edge). e.to.0 < MOST_STATES) parts.edges (to_numbered parts whole))

-- the name of the first message of a number
name_first : (messages : List Message) (x i : ℕ) (d : Message) → i < length messages → (get_or messages i d).id.0 ≡ x → ((k : ℕ) → k < i → (get_or messages k d).id.0 ≡ x → ⊥) → string_bytes (get_or messages i d).name ≡ name_among (map message_model messages) x
name_first [] x i d lt is before = absurd (omega (arith, lt))
name_first (m ∷ messages) x zero d lt is before = sym (cond-true (m.id.0 == x) (string_bytes m.name) (name_among (map message_model messages) x) (eq-eqb m.id.0 x is))
name_first (m ∷ messages) x (suc i) d lt is before =
    name_first messages x i d (omega (arith, lt)) is (λ k less. before (suc k) (omega (arith, less)))
    ∙ sym (cond-false (m.id.0 == x) (string_bytes m.name) (name_among (map message_model messages) x) (false_from_ne_true (m.id.0 == x) (λ e. before 0 (omega arith) (eqb-true m.id.0 x e))))

name_nowhere : (messages : List Message) (x : ℕ) → ((m : Message) → Contains messages m → m.id.0 ≡ x → ⊥) → [] ≡ name_among (map message_model messages) x
name_nowhere [] x none = refl
name_nowhere (m ∷ messages) x none =
    name_nowhere messages x (λ n c. none n (contains_tail m n messages c))
    ∙ sym (cond-false (m.id.0 == x) (string_bytes m.name) (name_among (map message_model messages) x) (false_from_ne_true (m.id.0 == x) (λ e. none m (contains_head m messages) (eqb-true m.id.0 x e))))

-- the first message with a number is at the position of that number
pub name_there : (messages : List Message) (numbers : Listing) (x i : ℕ) (d : Message) → numbers_of numbers ≡ map (λ (m : Message). m.id.0) messages → i < length (numbers_of numbers) → get_or (numbers_of numbers) i 0 ≡ x → string_bytes (get_or messages i d).name ≡ name_among (map message_model messages) x
name_there messages numbers x i d named lt is = name_first messages x i d (below i lt) (at i lt ∙ is) (λ k less same.
    let a = group k (omega (arith, less, lt)) in
    let b = group i lt in
    let e = at k (omega (arith, less, lt)) in
    absurd (omega (arith, a, b, e, same, is, less)))
  where
    group : (k : ℕ) → k < length (numbers_of numbers) → get_or (numbers_of numbers) k 0 ≡ numbers.first + k
    group k less = get_or-range_with_len numbers.first numbers.count k 0 (let size = length-range_with_len numbers.first numbers.count in omega (arith, less, size))

    below : (k : ℕ) → k < length (numbers_of numbers) → k < length messages
    below k less = let size = ap length named in let same = length-map messages (λ (m : Message). m.id.0) in omega (arith, less, size, same)

    at : (k : ℕ) → k < length (numbers_of numbers) → (get_or messages k d).id.0 ≡ get_or (numbers_of numbers) k 0
    at k less = sym (ap (λ l. get_or l k 0) named ∙ get_or-map (λ (m : Message). m.id.0) messages k d 0 (below k less))

-- if a number is not listed, no message has it
pub no_name : (messages : List Message) (numbers : List ℕ) (x : ℕ) → numbers ≡ map (λ (m : Message). m.id.0) messages → (Contains numbers x → ⊥) → [] ≡ name_among (map message_model messages) x
no_name messages numbers x named other = name_nowhere messages x (λ m c is.
    other (subst (λ l. Contains l x) (sym named) (subst (Contains (map (λ (m : Message). m.id.0) messages)) is (contains_map (λ (m : Message). m.id.0) messages m c))))
