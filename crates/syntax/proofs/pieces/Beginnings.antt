-- The symbols with which a part of the grammar begins.
use Rattle.std.proofs.Common.{◌≡◌, ◌<◌, suc, length, arith, Bool, true, false, List, [], ◌∷◌, ◌++◌, sym, refl, ap, ◌∙◌, subst}
use Rattle.std.specs.Prelude.{not}
use Rattle.std.proofs.lemmas.Bool.{true≢false}
use Rattle.tree.specs.Symbols.{Symbol}
use Rattle.syntax.specs.Reading.{never, Stops, leads, Fails}
use Rattle.syntax.proofs.pieces.Pieces.{Piece}

-- the spelling of this part begins with one of these symbols

pub record Begins {X : Type 0} (spell : X → List Symbol) (starts : Symbol → Bool) (x : X) : Type 0 where
  pub head : Symbol
  pub tail : List Symbol
  pub is : spell x ≡ head ∷ tail
  pub first : starts head ≡ true

-- every such part begins with one of these symbols
pub record Starts {X : Type 0} (spell : X → List Symbol) (starts : Symbol → Bool) : Type 0 where
  pub each : (x : X) → Begins spell starts x

pub starts_not : {X : Type 0} (spell : X → List Symbol) (starts : Symbol → Bool) (x : X) (t r : List Symbol) → Begins spell starts x → spell x ++ t ≡ r → Stops starts r → ⊥
starts_not spell starts x t [] b e h = cons_nil (b.tail ++ t) (ap (λ l. l ++ t) (sym b.is) ∙ e)
  where
    cons_nil : {y : Symbol} (ys : List Symbol) → y ∷ ys ≡ [] → ⊥
    cons_nil ys e = cc
starts_not spell starts x t (y ∷ r) b e h =
    let e' : b.head ∷ (b.tail ++ t) ≡ y ∷ r = ap (λ l. l ++ t) (sym b.is) ∙ e in
    let same : b.head ≡ y = cc in
    true≢false (sym b.first ∙ ap starts same ∙ h)

-- A symbol with which a list cannot continue begins no further part, and the last part cannot continue with it. A
-- symbol that begins a part continues none.
pub record Splits (starts f on : Symbol → Bool) : Type 0 where
  pub none : (y : Symbol) → on y ≡ false → starts y ≡ false
  pub last : (y : Symbol) → on y ≡ false → f y ≡ false
  pub apart : (y : Symbol) → starts y ≡ true → f y ≡ false

-- no such part continues with one of these symbols
pub record Leaves {X : Type 0} (at : X → Symbol → Bool) (starts : Symbol → Bool) : Type 0 where
  pub apart : (x : X) (y : Symbol) → starts y ≡ true → at x y ≡ false

pub stops_leads : (on : Symbol → Bool) (ys : List Symbol) → leads on ys ≡ true → Stops on ys → ⊥
stops_leads on [] h s = true≢false (sym h)
stops_leads on (y ∷ ys) h s = true≢false (sym h ∙ s)

pub leads_stops : (on : Symbol → Bool) (ys : List Symbol) → leads on ys ≡ false → Stops on ys
leads_stops on [] h = tt
leads_stops on (y ∷ ys) h = h

-- reading such a part leaves fewer symbols
pub begun_shorter : {X : Type 0} {a : X → List Symbol} {starts : Symbol → Bool} (x : X) (old new : List Symbol) → Starts a starts → old ≡ a x ++ new → length new < length old
begun_shorter {X} {a} {starts} x old new begin read =
    let b = begin.each x in
    let is : old ≡ b.head ∷ (b.tail ++ new) = read ∙ ap (λ t. t ++ new) b.is in
    subst (λ t. length new < length t) (sym is) (behind b.tail new)
  where
    behind : (xs ys : List Symbol) → length ys < suc (length (xs ++ ys))
    behind [] ys = omega arith
    behind (x ∷ xs) ys = let h = behind xs ys in omega arith

-- no such part begins here
pub none_fails : {X : Type 0} {a : X → List Symbol} {f starts : Symbol → Bool} {at : X → Symbol → Bool} → Piece a f at → Starts a starts → (ys : List Symbol) → (ys ≡ [] → ⊥) → Stops starts ys → Fails a f ys ys
none_fails {X} {a} {f} {starts} {at} piece begin [] some none = absurd (some refl)
none_fails {X} {a} {f} {starts} {at} piece begin (y ∷ ys) some none = record {
  front = [];
  next = y;
  rest = ys;
  old_is = refl;
  new_is = refl;
  piece = piece.some;
  more = a piece.some;
  begins = refl;
  rejects = λ x r s hr e. starts_not a starts x r (y ∷ s) (begin.each x) e none;
}

-- a list of parts with ends of their own continues with what begins a part
pub splits_self : {starts : Symbol → Bool} → Splits starts never starts
splits_self {starts} = record { none = λ y h. h; last = λ y h. refl; apart = λ y h. refl }

-- symbols with the same front and the same next symbol begin alike
pub leads_back : (on : Symbol → Bool) (front : List Symbol) (next : Symbol) (rest s : List Symbol) → leads on (front ++ next ∷ rest) ≡ true → leads on ((front ++ next ∷ []) ++ s) ≡ true
leads_back on [] next rest s h = h
leads_back on (y ∷ front) next rest s h = h

-- if something fails, there is a next symbol; if it is none of these, it is another one
pub fails_leads : {X : Type 0} {a : X → List Symbol} {f : Symbol → Bool} {old new : List Symbol} (on : Symbol → Bool) → Fails a f old new → Stops on old → leads (λ y. not (on y)) old ≡ true
fails_leads {X} {a} {f} {old} {new} on h stops = ap (leads (λ y. not (on y))) h.old_is ∙ leading h.front (subst (Stops on) h.old_is stops)
  where
    leading : (front : List Symbol) → Stops on (front ++ h.next ∷ h.rest) → leads (λ y. not (on y)) (front ++ h.next ∷ h.rest) ≡ true
    leading [] s = ap not s
    leading (y ∷ front) s = ap not s

-- a sequence begins as its first part does
pub sequence_starts : {X Z : Type 0} {a : X → List Symbol} {starts : Symbol → Bool} (first : Z → X) (rest : Z → List Symbol) → Starts a starts → Starts (λ z. a (first z) ++ rest z) starts
sequence_starts {X} {Z} {a} {starts} first rest begin = record {
  each = λ z.
      let b = begin.each (first z) in
      record { head = b.head; tail = b.tail ++ rest z; is = ap (λ t. t ++ rest z) b.is; first = b.first };
}
