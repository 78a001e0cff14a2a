-- Any number of parts in a row: the sequence ends if the next symbol begins no part.
use Rattle.std.proofs.Common.{◌≡◌, Bool, true, false, List, [], ◌∷◌, ◌++◌, sym, refl, ap, ◌∙◌, subst, append_assoc, map}
use Rattle.std.specs.Prelude.{◌||◌}
use Rattle.std.specs.List.{flat_map}
use Rattle.std.proofs.lemmas.List.{flat_map_more, map-append}
use Rattle.tree.specs.Symbols.{Symbol}
use Rattle.syntax.specs.Reading.{never, Stops, leads, Rejects, Fails, Takes, last_at, many_at}
use Rattle.syntax.proofs.pieces.Pieces.{ReadsOneWay, Piece, stops_with, stops_left, stops_right, stops_both, stops_front, same_way, same_piece}
use Rattle.syntax.proofs.pieces.Beginnings.{Starts, Splits, Leaves, starts_not, stops_leads, leads_back}

module _ {X : Type 0} {a : X → List Symbol} {f starts on : Symbol → Bool} {at : X → Symbol → Bool} (begin : Starts a starts) (splits : Splits starts f on) (leaves : Leaves at starts) where
  pub many_stops : (xs : List X) (r : List Symbol) → Stops on r → Stops f (flat_map a xs ++ r)
  many_stops [] r h = stops_with on f splits.last r h
  many_stops (x ∷ xs) r h =
      let b = begin.each x in
      subst (Stops f) (ap (λ t. (t ++ flat_map a xs) ++ r) (sym b.is)) (splits.apart b.head b.first)

  -- the first part does not continue with what follows it
  pub at_stops : (x : X) (xs : List X) (r : List Symbol) → Stops (many_at starts at (x ∷ xs)) r → Stops (at x) (flat_map a xs ++ r)
  at_stops x [] r h = stops_left (at x) starts r h
  at_stops x (y ∷ ys) r h =
      let b = begin.each y in
      subst (Stops (at x)) (ap (λ t. (t ++ flat_map a ys) ++ r) (sym b.is)) (leaves.apart x b.head b.first)

  pub tail_stops : (x : X) (xs : List X) (r : List Symbol) → Stops (many_at starts at (x ∷ xs)) r → Stops (many_at starts at xs) r
  tail_stops x [] r h = stops_right (at x) starts r h
  tail_stops x (y ∷ ys) r h = h

  pub nil_open_way : ReadsOneWay (flat_map a) on (many_at starts at) []
  nil_open_way = record { only = none_only }
    where
      none_only : (ys : List X) (r s : List Symbol) → Stops on r → Stops (many_at starts at ys) s → flat_map a [] ++ r ≡ flat_map a ys ++ s → ([] ≡ ys) × (r ≡ s)
      none_only [] r s hr hs e = (refl, e)
      none_only (y ∷ ys) r s hr hs e = absurd (starts_not a starts y (flat_map a ys ++ s) r (begin.each y) (sym (append_assoc (a y) (flat_map a ys) s) ∙ sym e) (stops_with on starts splits.none r hr))

  pub cons_open_way : {x : X} {xs : List X} → ReadsOneWay a f at x → ReadsOneWay (flat_map a) on (many_at starts at) xs → ReadsOneWay (flat_map a) on (many_at starts at) (x ∷ xs)
  cons_open_way {x} {xs} first others = record { only = more_only }
    where
      more_only : (ys : List X) (r s : List Symbol) → Stops on r → Stops (many_at starts at ys) s → flat_map a (x ∷ xs) ++ r ≡ flat_map a ys ++ s → (x ∷ xs ≡ ys) × (r ≡ s)
      more_only [] r s hr hs e = absurd (starts_not a starts x (flat_map a xs ++ r) s (begin.each x) (sym (append_assoc (a x) (flat_map a xs) r) ∙ e) hs)
      more_only (y ∷ ys) r s hr hs e =
          let u = first.only y (flat_map a xs ++ r) (flat_map a ys ++ s) (many_stops xs r hr) (at_stops y ys s hs) (sym (append_assoc (a x) (flat_map a xs) r) ∙ e ∙ append_assoc (a y) (flat_map a ys) s) in
          let v = others.only ys r s hr (tail_stops y ys s hs) u.1 in
          (λ i. u.0 i ∷ v.0 i, v.1)

  -- another part begins here, so the one before does not continue
  front_stops : (x : X) (t : List Symbol) → leads starts t ≡ true → Stops (at x) t
  front_stops x [] h = tt
  front_stops x (y ∷ t) h = leaves.apart x y h

  pub rest_stops : (x : X) (xs : List X) (t : List Symbol) → leads starts t ≡ true → Stops (at x) (flat_map a xs ++ t)
  rest_stops x [] t h = front_stops x t h
  rest_stops x (y ∷ ys) t h =
      let b = begin.each y in
      subst (Stops (at x)) (ap (λ l. (l ++ flat_map a ys) ++ t) (sym b.is)) (leaves.apart x b.head b.first)

module _ {X : Type 0} {a : X → List Symbol} {f starts on : Symbol → Bool} {at : X → Symbol → Bool} (piece : Piece a f at) (begin : Starts a starts) (splits : Splits starts f on) (leaves : Leaves at starts) where
  pub many_open_piece : Piece (flat_map a) on (many_at starts at)
  many_open_piece = record { some = []; each = many_each }
    where
      many_each : (xs : List X) → ReadsOneWay (flat_map a) on (many_at starts at) xs
      many_each [] = nil_open_way begin splits leaves
      many_each (x ∷ xs) = cons_open_way begin splits leaves (piece.each x) (many_each xs)

  -- some are read, one more begins, and fails
  many_rejects : (xs ys : List X) (t r s : List Symbol) → leads starts (t ++ s) ≡ true → Rejects a f t → Stops on r → flat_map a ys ++ r ≡ flat_map a xs ++ (t ++ s) → ⊥
  many_rejects [] [] t r s more h hr e = stops_leads starts (t ++ s) more (subst (Stops starts) e (stops_with on starts splits.none r hr))
  many_rejects [] (y ∷ ys) t r s more h hr e = h y (flat_map a ys ++ r) s (many_stops begin splits leaves ys r hr) (sym (append_assoc (a y) (flat_map a ys) r) ∙ e)
  many_rejects (x ∷ xs) [] t r s more h hr e = starts_not a starts x (flat_map a xs ++ (t ++ s)) r (begin.each x) (sym (append_assoc (a x) (flat_map a xs) (t ++ s)) ∙ sym e) (stops_with on starts splits.none r hr)
  many_rejects (x ∷ xs) (y ∷ ys) t r s more h hr e =
      let u = (piece.each y).only x (flat_map a ys ++ r) (flat_map a xs ++ (t ++ s)) (many_stops begin splits leaves ys r hr) (rest_stops begin splits leaves x xs (t ++ s) more) (sym (append_assoc (a y) (flat_map a ys) r) ∙ e ∙ append_assoc (a x) (flat_map a xs) (t ++ s)) in
      many_rejects xs ys t r s more h hr u.1

  pub many_fails : {old mid new : List Symbol} (xs : List X) → old ≡ flat_map a xs ++ mid → leads starts mid ≡ true → Fails a f mid new → Fails (flat_map a) on old new
  many_fails {old} {mid} {new} xs read more h = record {
    front = flat_map a xs ++ h.front;
    next = h.next;
    rest = h.rest;
    old_is = read ∙ ap (λ t. flat_map a xs ++ t) h.old_is ∙ sym (append_assoc (flat_map a xs) h.front (h.next ∷ h.rest));
    new_is = h.new_is;
    piece = xs ++ h.piece ∷ [];
    more = h.more;
    begins = sym (flat_map_more a [] xs h.piece) ∙ ap (λ t. flat_map a xs ++ t) h.begins ∙ sym (append_assoc (flat_map a xs) h.front h.more);
    rejects = λ ys r s hr e.
        many_rejects xs ys (h.front ++ h.next ∷ []) r s
        (leads_back starts h.front h.next h.rest s (subst (λ l. leads starts l ≡ true) h.old_is more))
        h.rejects hr (e ∙ ap (λ t. t ++ s) (append_assoc (flat_map a xs) h.front (h.next ∷ [])) ∙ append_assoc (flat_map a xs) (h.front ++ h.next ∷ []) s);
  }

  -- one is read, and those after it fail
  pub more_fail : {old mid new : List Symbol} (x : X) → Takes a at old mid x → Fails (flat_map a) on mid new → Fails (flat_map a) on old new
  more_fail {old} {mid} {new} x read h = record {
    front = a x ++ h.front;
    next = h.next;
    rest = h.rest;
    old_is = read.0 ∙ ap (λ t. a x ++ t) h.old_is ∙ sym (append_assoc (a x) h.front (h.next ∷ h.rest));
    new_is = h.new_is;
    piece = x ∷ h.piece;
    more = h.more;
    begins = ap (λ t. a x ++ t) h.begins ∙ sym (append_assoc (a x) h.front h.more);
    rejects = λ ys r s hr e. none ys r s hr (e ∙ ap (λ t. t ++ s) (append_assoc (a x) h.front (h.next ∷ [])) ∙ append_assoc (a x) (h.front ++ h.next ∷ []) s);
  }
    where
      none : (ys : List X) (r s : List Symbol) → Stops on r → flat_map a ys ++ r ≡ a x ++ ((h.front ++ h.next ∷ []) ++ s) → ⊥
      none [] r s hr e = starts_not a starts x ((h.front ++ h.next ∷ []) ++ s) r (begin.each x) (sym e) (stops_with on starts splits.none r hr)
      none (y ∷ ys) r s hr e =
          let u = (piece.each y).only x (flat_map a ys ++ r) ((h.front ++ h.next ∷ []) ++ s) (many_stops begin splits leaves ys r hr) (stops_front (at x) h.front h.next h.rest s (subst (Stops (at x)) h.old_is read.1)) (sym (append_assoc (a y) (flat_map a ys) r) ∙ e) in
          h.rejects ys r s hr u.1

-- one is read, and more after it
pub more_reads : {X : Type 0} (a : X → List Symbol) (starts : Symbol → Bool) (at : X → Symbol → Bool) (old mid new : List Symbol) (x : X) (xs : List X) → Takes a at old mid x → Takes (flat_map a) (many_at starts at) mid new xs → Takes (flat_map a) (many_at starts at) old new (x ∷ xs)
more_reads {X = X} a starts at old mid new x xs first others = (first.0 ∙ ap (λ t. a x ++ t) others.0 ∙ sym (append_assoc (a x) (flat_map a xs) new), stops xs others)
  where
    stops : (xs : List X) → Takes (flat_map a) (many_at starts at) mid new xs → Stops (many_at starts at (x ∷ xs)) new
    stops [] others = stops_both (at x) starts new (subst (Stops (at x)) others.0 first.1) others.1
    stops (y ∷ ys) others = others.1

-- parts that each have an end of their own

pub ended_stops : {X : Type 0} (starts : Symbol → Bool) (xs : List X) (r : List Symbol) → Stops starts r → Stops (many_at starts (λ _. never) xs) r
ended_stops starts [] r h = h
ended_stops starts (x ∷ []) r h = h
ended_stops starts (x ∷ y ∷ xs) r h = ended_stops starts (y ∷ xs) r h

pub ended_leaves : {X : Type 0} {starts : Symbol → Bool} → Leaves {X = X} (λ _. never) starts
ended_leaves {X} {starts} = record { apart = λ x y h. refl }

open_stops : {X : Type 0} (starts : Symbol → Bool) (xs : List X) (r : List Symbol) → Stops (many_at starts (λ _. never) xs) r → Stops starts r
open_stops starts [] r h = h
open_stops starts (x ∷ []) r h = h
open_stops starts (x ∷ y ∷ xs) r h = open_stops starts (y ∷ xs) r h

module _ {X : Type 0} {a : X → List Symbol} {starts on : Symbol → Bool} (begin : Starts a starts) (splits : Splits starts never on) where
  pub nil_way : ReadsOneWay (flat_map a) on (λ _. starts) []
  nil_way = same_way (λ _. refl) (ended_stops starts) (nil_open_way begin splits ended_leaves)

  pub cons_way : {x : X} {xs : List X} → ReadsOneWay a never (λ _. never) x → ReadsOneWay (flat_map a) on (λ _. starts) xs → ReadsOneWay (flat_map a) on (λ _. starts) (x ∷ xs)
  cons_way {x} {xs} first others = same_way (λ _. refl) (ended_stops starts) (cons_open_way begin splits ended_leaves first (same_way (λ _. refl) (open_stops starts) others))

  pub many_piece : Piece a never (λ _. never) → Piece (flat_map a) on (λ _. starts)
  many_piece piece = same_piece (λ _. refl) (ended_stops starts) (many_open_piece piece begin splits ended_leaves)

-- the last part is the one that was read last
pub last_more : {X : Type 0} (at : X → Symbol → Bool) (xs : List X) (x : X) → last_at at (xs ++ x ∷ []) ≡ at x
last_more at [] x = refl
last_more at (y ∷ []) x = refl
last_more at (y ∷ z ∷ xs) x = last_more at (z ∷ xs) x

-- where the last part of a sequence that was read ends
pub last_read : {X Y : Type 0} (at : Y → Symbol → Bool) (view : X → Y) (x : X) (xs all : List X) (r : List Symbol) → all ≡ xs ++ x ∷ [] → Stops (at (view x)) r → Stops (last_at at (map view all)) r
last_read at view x xs all r is h =
    let last : last_at at (map view all) ≡ at (view x) =
    ap (λ t. last_at at (map view t)) is ∙ ap (last_at at) (map-append view xs (x ∷ [])) ∙ last_more at (map view xs) (view x) in
    subst (λ at. Stops at r) (sym last) h

-- if no part continues with a symbol that begins none, the sequence does not either
pub sequence_stops : {X : Type 0} (starts : Symbol → Bool) (at : X → Symbol → Bool) (y : Symbol) → starts y ≡ false → ((x : X) → at x y ≡ false) → (xs : List X) → many_at starts at xs y ≡ false
sequence_stops starts at y none each [] = none
sequence_stops starts at y none each (x ∷ []) = ap (λ b. b || starts y) (each x) ∙ none
sequence_stops starts at y none each (x ∷ z ∷ xs) = sequence_stops starts at y none each (z ∷ xs)
