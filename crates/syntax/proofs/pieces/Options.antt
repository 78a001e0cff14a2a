-- A part, or nothing.
use Rattle.std.proofs.Common.{◌≡◌, Bool, true, false, List, [], ◌∷◌, ◌++◌, Option, Some, None, sym, refl, ap, ◌∙◌, subst, append_assoc}
use Rattle.std.specs.Prelude.{is_some}
use Rattle.tree.specs.Symbols.{Symbol}
use Rattle.tree.specs.Spelling.{optional, when}
use Rattle.syntax.specs.Reading.{never, Stops, leads, Rejects, Fails, optional_at, when_at, open_at}
use Rattle.syntax.proofs.pieces.Pieces.{ReadsOneWay, Piece, Follows, both, stops_with, stops_left, stops_right, via_piece, via_fails, same_piece, same_fails}
use Rattle.syntax.proofs.pieces.Beginnings.{Starts, Splits, Leaves, starts_not, stops_leads, leads_back}

-- A symbol with which an option cannot continue begins no part, and a part that is present cannot continue with it.
pub record Opens (starts f on : Symbol → Bool) : Type 0 where
  pub none : (y : Symbol) → on y ≡ false → starts y ≡ false
  pub last : (y : Symbol) → on y ≡ false → f y ≡ false

module _ {X : Type 0} {a : X → List Symbol} {f starts on : Symbol → Bool} {at : X → Symbol → Bool} (begin : Starts a starts) (splits : Opens starts f on) where
  pub open_none_way : ReadsOneWay (optional a) on (optional_at starts at) None
  open_none_way = record { only = none_only }
    where
      none_only : (y : Option X) (r s : List Symbol) → Stops on r → Stops (optional_at starts at y) s → optional a None ++ r ≡ optional a y ++ s → (None ≡ y) × (r ≡ s)
      none_only None r s hr hs e = (refl, e)
      none_only (Some y) r s hr hs e = absurd (starts_not a starts y s r (begin.each y) (sym e) (stops_with on starts splits.none r hr))

  pub open_some_way : {x : X} → ReadsOneWay a f at x → ReadsOneWay (optional a) on (optional_at starts at) (Some x)
  open_some_way {x} way = record { only = some_only }
    where
      some_only : (y : Option X) (r s : List Symbol) → Stops on r → Stops (optional_at starts at y) s → optional a (Some x) ++ r ≡ optional a y ++ s → (Some x ≡ y) × (r ≡ s)
      some_only None r s hr hs e = absurd (starts_not a starts x r s (begin.each x) e hs)
      some_only (Some y) r s hr hs e =
          let u = way.only y r s (stops_with on f splits.last r hr) hs e in
          (ap (λ z. Some z) u.0, u.1)

module _ {X : Type 0} {a : X → List Symbol} {f starts on : Symbol → Bool} {at : X → Symbol → Bool} (piece : Piece a f at) (begin : Starts a starts) (splits : Opens starts f on) where
  pub open_opt_piece : Piece (optional a) on (optional_at starts at)
  open_opt_piece = record { some = None; each = opt_each }
    where
      opt_each : (x : Option X) → ReadsOneWay (optional a) on (optional_at starts at) x
      opt_each None = open_none_way begin splits
      opt_each (Some x) = open_some_way begin splits (piece.each x)

  opt_rejects : {old new : List Symbol} → leads starts old ≡ true → (h : Fails a f old new) → Rejects (optional a) on (h.front ++ h.next ∷ [])
  opt_rejects {old} {new} more h None r s hr e = stops_leads starts ((h.front ++ h.next ∷ []) ++ s) (leads_back starts h.front h.next h.rest s (subst (λ l. leads starts l ≡ true) h.old_is more)) (subst (Stops starts) e (stops_with on starts splits.none r hr))
  opt_rejects {old} {new} more h (Some x) r s hr e = h.rejects x r s (stops_with on f splits.last r hr) e

  -- one begins here, and fails
  pub open_opt_fails : {old new : List Symbol} → leads starts old ≡ true → Fails a f old new → Fails (optional a) on old new
  open_opt_fails {old} {new} more h = record {
    front = h.front;
    next = h.next;
    rest = h.rest;
    old_is = h.old_is;
    new_is = h.new_is;
    piece = Some h.piece;
    more = h.more;
    begins = h.begins;
    rejects = opt_rejects more h;
  }

-- the same, if no part continues with a symbol that begins one

opens : {starts f on : Symbol → Bool} → Splits starts f on → Opens starts f on
opens {starts} {f} {on} splits = record { none = splits.none; last = splits.last }

module _ {X : Type 0} {a : X → List Symbol} {f starts on : Symbol → Bool} {at : X → Symbol → Bool} (begin : Starts a starts) (splits : Splits starts f on) where
  pub none_way : ReadsOneWay (optional a) on (optional_at starts at) None
  none_way = open_none_way begin (opens splits)

  pub some_way : {x : X} → ReadsOneWay a f at x → ReadsOneWay (optional a) on (optional_at starts at) (Some x)
  some_way {x} way = open_some_way begin (opens splits) way

module _ {X : Type 0} {a : X → List Symbol} {f starts on : Symbol → Bool} {at : X → Symbol → Bool} (piece : Piece a f at) (begin : Starts a starts) (splits : Splits starts f on) where
  pub opt_piece : Piece (optional a) on (optional_at starts at)
  opt_piece = open_opt_piece piece begin (opens splits)

  pub opt_fails : {old new : List Symbol} → leads starts old ≡ true → Fails a f old new → Fails (optional a) on old new
  opt_fails {old} {new} more h = open_opt_fails piece begin (opens splits) more h

-- if the tree keeps only whether the part is present

abbrev pub flag : Bool → Option (Unit {0})
flag true = Some tt
flag false = None

abbrev pub unflag : Option (Unit {0}) → Bool
unflag (Some u) = true
unflag None = false

module _ (w : List Symbol) where
  pub when_spelled : (b : Bool) → optional {X = Unit {0}} (λ _. w) (flag b) ≡ when w b
  when_spelled true = refl
  when_spelled false = refl

  flagged : (b : Bool) → unflag (flag b) ≡ b
  flagged true = refl
  flagged false = refl

  unflagged : (o : Option (Unit {0})) → flag (unflag o) ≡ o
  unflagged (Some u) = refl
  unflagged None = refl

  when_stops : (starts : Symbol → Bool) (b : Bool) (r : List Symbol) → Stops (when_at starts b) r → Stops (optional_at starts (λ _. never) (flag b)) r
  when_stops starts true r h = h
  when_stops starts false r h = h

  pub when_piece : {starts on : Symbol → Bool} → Piece {X = Unit {0}} (λ _. w) never (λ _. never) → Starts {X = Unit {0}} (λ _. w) starts → Splits starts never on → Piece (when w) on (when_at starts)
  when_piece {starts} {on} piece begin splits = same_piece when_spelled (when_stops starts) (via_piece flag unflag flagged (opt_piece piece begin splits))

  pub when_fails : {starts on : Symbol → Bool} {old new : List Symbol} → Piece {X = Unit {0}} (λ _. w) never (λ _. never) → Starts {X = Unit {0}} (λ _. w) starts → Splits starts never on → leads starts old ≡ true → Fails {X = Unit {0}} (λ _. w) never old new → Fails (when w) on old new
  when_fails {starts} {on} {old} {new} piece begin splits here h = same_fails when_spelled (via_fails flag unflag unflagged (opt_fails piece begin splits here h))

-- Two parts in a row, if the second may be empty: `both_at` gives the symbols with which both together could continue.

pub record MeetsOpen {X Y : Type 0} (at : X → Symbol → Bool) (spell : Y → List Symbol) (later : Y → Symbol → Bool) (both_at : X × Y → Symbol → Bool) : Type 0 where
  pub here : (x : X) (y : Y) (r : List Symbol) → Stops (both_at (x, y)) r → Stops (at x) (spell y ++ r)
  pub last : (x : X) (y : Y) (r : List Symbol) → Stops (both_at (x, y)) r → Stops (later y) r

module _ {X Y : Type 0} {a : X → List Symbol} {b : Y → List Symbol} {f g : Symbol → Bool} {at : X → Symbol → Bool} {later : Y → Symbol → Bool} {both_at : X × Y → Symbol → Bool} where
  pub open_way : {x : X} {y : Y} → ReadsOneWay a f at x → ReadsOneWay b g later y → Follows f b g → MeetsOpen at b later both_at → ReadsOneWay (both a b) g both_at (x, y)
  open_way {x} {y} first second follows meet = record {
    only = λ q r s hr hs e.
        let u = first.only q.0 (b y ++ r) (b q.1 ++ s) (follows.each y r hr) (meet.here q.0 q.1 s hs) (sym (append_assoc (a x) (b y) r) ∙ e ∙ append_assoc (a q.0) (b q.1) s) in
        let v = second.only q.1 r s hr (meet.last q.0 q.1 s hs) u.1 in
        (λ i. (u.0 i, v.0 i), v.1);
  }

  pub open_piece : Piece a f at → Piece b g later → Follows f b g → MeetsOpen at b later both_at → Piece (both a b) g both_at
  open_piece first second follows meet = record {
    some = (first.some, second.some);
    each = λ p. open_way (first.each p.0) (second.each p.1) follows meet;
  }

-- a part, and an option after it that begins with no symbol with which the part continues
pub opt_meets : {X Y : Type 0} {at : X → Symbol → Bool} {b : Y → List Symbol} {starts : Symbol → Bool} → Starts b starts → Leaves at starts → MeetsOpen at (optional b) (optional_at starts (λ _. never)) (λ p. open_at (at p.0) starts (is_some p.1))
opt_meets {X} {Y} {at} {b} {starts} begin leaves = record { here = front; last = back }
  where
    front : (x : X) (y : Option Y) (r : List Symbol) → Stops (open_at (at x) starts (is_some y)) r → Stops (at x) (optional b y ++ r)
    front x None r h = stops_left (at x) starts r h
    front x (Some y) r h =
        let c = begin.each y in
        subst (Stops (at x)) (ap (λ t. t ++ r) (sym c.is)) (leaves.apart x c.head c.first)

    back : (x : X) (y : Option Y) (r : List Symbol) → Stops (open_at (at x) starts (is_some y)) r → Stops (optional_at starts (λ _. never) y) r
    back x None r h = stops_right (at x) starts r h
    back x (Some y) r h = h

-- the same, if the tree keeps only whether the option is present
pub when_meets : {X : Type 0} {at : X → Symbol → Bool} {starts : Symbol → Bool} (w : List Symbol) → Starts {X = Unit {0}} (λ _. w) starts → Leaves at starts → MeetsOpen at (when w) (when_at starts) (λ p. open_at (at p.0) starts p.1)
when_meets {X} {at} {starts} w begin leaves = record { here = front; last = back }
  where
    front : (x : X) (y : Bool) (r : List Symbol) → Stops (open_at (at x) starts y) r → Stops (at x) (when w y ++ r)
    front x false r h = stops_left (at x) starts r h
    front x true r h =
        let c = begin.each tt in
        subst (Stops (at x)) (ap (λ t. t ++ r) (sym c.is)) (leaves.apart x c.head c.first)

    back : (x : X) (y : Bool) (r : List Symbol) → Stops (open_at (at x) starts y) r → Stops (when_at starts y) r
    back x false r h = stops_right (at x) starts r h
    back x true r h = h
