-- One of several forms, known by its first symbol.
use Rattle.std.proofs.Common.{◌≡◌, Bool, true, List, [], ◌∷◌, ◌++◌, sym, ap, ◌∙◌, subst}
use Rattle.std.specs.Prelude.{not}
use Rattle.std.proofs.lemmas.Bool.{true≢false, not-true}
use Rattle.tree.specs.Symbols.{Symbol}
use Rattle.syntax.specs.Reading.{Stops, leads, Fails}
use Rattle.syntax.proofs.pieces.Pieces.{ReadsOneWay}
use Rattle.syntax.proofs.pieces.Beginnings.{Begins, Starts, leads_back}

-- one of several forms, known by its first symbol

pub data FormOf {X Z : Type 0} (spell : Z → List Symbol) (make : X → Z) (starts : Symbol → Bool) (z : Z) : Type 0 where
  Same : (x : X) → z ≡ make x → FormOf spell make starts z
  Other : Begins spell (λ y. not (starts y)) z → FormOf spell make starts z

pub record Form {X Z : Type 0} (spell : Z → List Symbol) (a : X → List Symbol) (make : X → Z) (starts : Symbol → Bool) : Type 0 where
  pub first : Starts a starts
  pub same : (x : X) → spell (make x) ≡ a x
  pub each : (z : Z) → FormOf spell make starts z

other_head : {X Z : Type 0} (spell : Z → List Symbol) (a : X → List Symbol) (starts : Symbol → Bool) (x : X) (z : Z) (r s : List Symbol) → Begins a starts x → Begins spell (λ y. not (starts y)) z → a x ++ r ≡ spell z ++ s → ⊥
other_head spell a starts x z r s b c e =
    let e' : b.head ∷ (b.tail ++ r) ≡ c.head ∷ (c.tail ++ s) = ap (λ l. l ++ r) (sym b.is) ∙ e ∙ ap (λ l. l ++ s) c.is in
    let heads : b.head ≡ c.head = cc in
    true≢false (sym b.first ∙ ap starts heads ∙ not-true (starts c.head) c.first)

module _ {X Z : Type 0} {spell : Z → List Symbol} {a : X → List Symbol} {make : X → Z} {starts f : Symbol → Bool} (form : Form spell a make starts) where
  pub form_way : {at : X → Symbol → Bool} {later : Z → Symbol → Bool} {x : X} → ((x : X) (r : List Symbol) → Stops (later (make x)) r → Stops (at x) r) → ReadsOneWay a f at x → ReadsOneWay spell f later (make x)
  form_way {at} {later} {x} stops way = record { only = λ z r s hr hs e. one z (form.each z) r s hr hs e }
    where
      one : (z : Z) → FormOf spell make starts z → (r s : List Symbol) → Stops f r → Stops (later z) s → spell (make x) ++ r ≡ spell z ++ s → (make x ≡ z) × (r ≡ s)
      one z (Same y is) r s hr hs e =
          let u = way.only y r s hr (stops y s (subst (λ z. Stops (later z) s) is hs)) (ap (λ l. l ++ r) (sym (form.same x)) ∙ e ∙ ap (λ z. spell z ++ s) is ∙ ap (λ l. l ++ s) (form.same y)) in
          (ap make u.0 ∙ sym is, u.1)
      one z (Other c) r s hr hs e = absurd (other_head spell a starts x z r s (form.first.each x) c (ap (λ l. l ++ r) (sym (form.same x)) ∙ e))

  -- the form whose first symbol is next fails
  pub form_fails : {old new : List Symbol} → leads starts old ≡ true → Fails a f old new → Fails spell f old new
  form_fails {old} {new} here h = record {
    front = h.front;
    next = h.next;
    rest = h.rest;
    old_is = h.old_is;
    new_is = h.new_is;
    piece = make h.piece;
    more = h.more;
    begins = form.same h.piece ∙ h.begins;
    rejects = λ z r s hr e. none z (form.each z) r s hr e;
  }
    where
      other_leads : (z : Z) (r ys : List Symbol) → Begins spell (λ y. not (starts y)) z → spell z ++ r ≡ ys → leads starts ys ≡ true → ⊥
      other_leads z r ys c e l =
          let first : c.head ∷ (c.tail ++ r) ≡ ys = ap (λ l. l ++ r) (sym c.is) ∙ e in
          true≢false (sym (ap (leads starts) first ∙ l) ∙ not-true (starts c.head) c.first)

      none : (z : Z) → FormOf spell make starts z → (r s : List Symbol) → Stops f r → spell z ++ r ≡ (h.front ++ h.next ∷ []) ++ s → ⊥
      none z (Same x is) r s hr e = h.rejects x r s hr (ap (λ l. l ++ r) (sym (form.same x)) ∙ ap (λ z. spell z ++ r) (sym is) ∙ e)
      none z (Other c) r s hr e = other_leads z r ((h.front ++ h.next ∷ []) ++ s) c e (leads_back starts h.front h.next h.rest s (subst (λ l. leads starts l ≡ true) h.old_is here))

-- a form is read
pub form_reads : {X Z : Type 0} {spell : Z → List Symbol} {a : X → List Symbol} {make : X → Z} {starts : Symbol → Bool} → Form spell a make starts → (x : X) (z : Z) (old new : List Symbol) → z ≡ make x → old ≡ a x ++ new → old ≡ spell z ++ new
form_reads {X} {Z} {spell} {a} {make} {starts} form x z old new is read = read ∙ ap (λ t. t ++ new) (sym (form.same x) ∙ ap spell (sym is))
