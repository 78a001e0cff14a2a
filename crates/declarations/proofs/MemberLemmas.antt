-- The contracts among items, one item after another.
use Rattle.std.proofs.Common.{◌≡◌, ℕ, zero, suc, ◌+◌, ◌<◌, ◌≤◌, List, [], ◌∷◌, ◌++◌, length, map, take, drop, get_or, sym, ap, ◌∙◌, subst, arith, append-nil}
use Rattle.std.specs.Prelude.{All}
use Rattle.std.specs.List.{flat_map}
use Rattle.std.proofs.lemmas.List.{length-append, take-append-drop}
use Rattle.std.proofs.lemmas.List.Concat.{flat_map-append}
use Rattle.std.proofs.lemmas.List.Elements.{All-nil, All-cons, All-head, All-tail}
use Rattle.declarations.specs.Declarations.{counted_states}
use Rattle.declarations.specs.Outlines.{outlined_messages, outlined_states}
use Rattle.declarations.specs.Ready.{all_resolved, declared_in, declared_messages, declared_states, resolved_declared}
use Rattle.declarations.specs.Scopes.{declared_among}
use Rattle.declarations.specs.declared.members.Declared.{Declared}
use Rattle.declarations.specs.declared.members.Members.{Members}
use Rattle.declarations.specs.declared.members.Members.TheVariants as members
use Rattle.declarations.proofs.AddLemmas.{flat_map_taken}
use Rattle.declarations.proofs.BehindLemmas.{behind_push}

-- what holds of all holds of the front, and of the rest
all_front : {X : Type 0} (P : X → Type 0) (xs ys : List X) → All P (xs ++ ys) → All P xs
all_front P [] ys all = All-nil P
all_front P (x ∷ xs) ys all = All-cons P x xs (All-head P x (xs ++ ys) all) (all_front P xs ys (All-tail P x (xs ++ ys) all))

all_rest : {X : Type 0} (P : X → Type 0) (xs ys : List X) → All P (xs ++ ys) → All P ys
all_rest P [] ys all = all
all_rest P (x ∷ xs) ys all = all_rest P xs ys (All-tail P x (xs ++ ys) all)

-- what holds of all contracts holds of the one at an index
pub all_at : (P : Declared → Type 0) (items : List Members) (i : ℕ) (m : Members) → i < length items → m ≡ get_or items i m → All P (declared_in items) → All P (declared_among m)
all_at P [] i m lt is all = absurd (omega (arith, lt))
all_at P (n ∷ items) zero m lt is all = subst (λ k. All P (declared_among k)) (sym is) (all_front P (declared_among n) (declared_in items) all)
all_at P (n ∷ items) (suc i) m lt is all = all_at P items i m (omega (arith, lt)) is (all_rest P (declared_among n) (declared_in items) all)

grown : {Y : Type 0} (g : Declared → List Y) (items : List Members) (i : ℕ) (m : Members) → i < length items → m ≡ get_or items i m
    → length (flat_map g (declared_in (take (i + 1) items))) ≡ length (flat_map g (declared_in (take i items))) + length (flat_map g (declared_among m))
grown g items i m lt is =
    let front = declared_in (take i items) in
    ap (λ l. length (flat_map g l)) (sym (flat_map_taken declared_among items i m lt is))
    ∙ ap length (flat_map-append g front (declared_among m)) ∙ length-append (flat_map g front) (flat_map g (declared_among m))

-- the front has no more than the whole
in_front : {Y : Type 0} (g : Declared → List Y) (items : List Members) (k : ℕ) → length (flat_map g (declared_in (take k items))) ≤ length (flat_map g (declared_in items))
in_front g items k =
    let front = declared_in (take k items) in
    let rest = declared_in (drop k items) in
    let all : declared_in items ≡ front ++ rest = ap declared_in (sym (take-append-drop k items)) ∙ flat_map-append declared_among (take k items) (drop k items) in
    let size = ap (λ l. length (flat_map g l)) all ∙ ap length (flat_map-append g front rest) ∙ length-append (flat_map g front) (flat_map g rest) in
    omega (arith, size)

-- how the counts grow by an item
pub record Counts (items : List Members) (i : ℕ) (m : Members) : Type 0 where
  pub messages : declared_messages (declared_in (take (i + 1) items)) ≡ declared_messages (declared_in (take i items)) + declared_messages (declared_among m)
  pub states : declared_states (declared_in (take (i + 1) items)) ≡ declared_states (declared_in (take i items)) + declared_states (declared_among m)
  pub message_room : declared_messages (declared_in (take i items)) + declared_messages (declared_among m) ≤ declared_messages (declared_in items)
  pub state_room : declared_states (declared_in (take i items)) + declared_states (declared_among m) ≤ declared_states (declared_in items)

pub counts : (items : List Members) (i : ℕ) (m : Members) → i < length items → m ≡ get_or items i m → Counts items i m
counts items i m lt is =
    let messages = λ (d : Declared). outlined_messages d.outline in
    let states = λ (d : Declared). counted_states (outlined_states d.outline) in
    let more-messages = grown messages items i m lt is in
    let more-states = grown states items i m lt is in
    record {
      messages = more-messages;
      states = more-states;
      message_room = let room = in_front messages items (i + 1) in omega (arith, room, more-messages);
      state_room = let room = in_front states items (i + 1) in omega (arith, room, more-states);
    }

one_more : (text : List ℕ) (ds : List Declared) (m : Members) → all_resolved text (ds ++ declared_among m) ≡ all_resolved text ds ++ map (resolved_declared text (declared_messages ds) (declared_states ds)) (declared_among m)
one_more text ds (members.Contract d) = behind_push (λ b k. resolved_declared text (declared_messages b) (declared_states b) k ∷ []) [] ds d
one_more text ds (members.Struct f) = ap (all_resolved text) (append-nil ds) ∙ sym (append-nil (all_resolved text ds))
one_more text ds (members.Class c) = ap (all_resolved text) (append-nil ds) ∙ sym (append-nil (all_resolved text ds))

-- the contracts up to an index are resolved, and then the one there
pub resolved_more : (text : List ℕ) (items : List Members) (i : ℕ) (m : Members) → i < length items → m ≡ get_or items i m
    → all_resolved text (declared_in (take (i + 1) items)) ≡ all_resolved text (declared_in (take i items)) ++ map (resolved_declared text (declared_messages (declared_in (take i items))) (declared_states (declared_in (take i items)))) (declared_among m)
resolved_more text items i m lt is = ap (all_resolved text) (sym (flat_map_taken declared_among items i m lt is)) ∙ one_more text (declared_in (take i items)) m
