-- Forms that begin alike: each is known by what follows the front that they share.
use Rattle.std.proofs.Common.{◌≡◌, Bool, true, false, List, [], ◌∷◌, ◌++◌, sym, refl, ap, ◌∙◌, subst, append_assoc, inl, inr}
use Rattle.std.specs.Prelude.{◌⊎◌}
use Rattle.std.proofs.lemmas.List.{append_cancel_right}
use Rattle.tree.specs.Symbols.{Symbol}
use Rattle.syntax.specs.Reading.{Stops, leads, Fails}
use Rattle.syntax.proofs.pieces.Pieces.{stops_with}
use Rattle.syntax.proofs.pieces.Beginnings.{leads_back}

pub append_nil : (xs : List Symbol) → xs ++ [] ≡ xs
append_nil [] = refl
append_nil (x ∷ xs) = ap (λ t. x ∷ t) (append_nil xs)

pub heads : {x y : Symbol} {xs ys : List Symbol} → x ∷ xs ≡ y ∷ ys → x ≡ y
heads {x} {y} {xs} {ys} e = cc

pub tails : {x y : Symbol} {xs ys : List Symbol} → x ∷ xs ≡ y ∷ ys → xs ≡ ys
tails {x} {y} {xs} {ys} e = cc

-- a place at or after the end of these symbols
record Past (w mid front : List Symbol) (next : Symbol) (rest : List Symbol) : Type 0 where
  behind : List Symbol
  front_is : front ≡ w ++ behind
  mid_is : mid ≡ behind ++ next ∷ rest

past : (w mid front : List Symbol) (next : Symbol) (rest : List Symbol) → w ++ mid ≡ front ++ next ∷ rest → ((more : List Symbol) → w ≡ (front ++ next ∷ []) ++ more → ⊥) → Past w mid front next rest
past [] mid front next rest e none = record { behind = front; front_is = refl; mid_is = e }
past (x ∷ w) mid [] next rest e none = absurd (none w (ap (λ y. y ∷ w) (heads e)))
past (x ∷ w) mid (y ∷ front) next rest e none =
    let same = heads e in
    let p = past w mid front next rest (tails e) (λ more h. none more (λ i. same i ∷ h i)) in
    record { behind = p.behind; front_is = λ i. sym same i ∷ p.front_is i; mid_is = p.mid_is }

-- one of several forms fails after a front that it may have, if no other form continues from there with such a symbol
pub front_fails : {X Z : Type 0} {a : X → List Symbol} {spell : Z → List Symbol} {f g : Symbol → Bool} (make : X → Z) → ((x : X) → spell (make x) ≡ a x) → ((y : Symbol) → g y ≡ false → f y ≡ false) → (w mid new : List Symbol) (next : Symbol → Bool) (x : X) (more : List Symbol) → a x ≡ w ++ more → leads next mid ≡ true → ((z : Z) (r t : List Symbol) → Stops g r → spell z ++ r ≡ w ++ t → leads next t ≡ true → (x : X) × (z ≡ make x)) → Fails a f (w ++ mid) new → Fails spell g (w ++ mid) new
front_fails {X} {Z} {a} {spell} {f} {g} make same wide w mid new next x more begins here only h = record {
  front = h.front;
  next = h.next;
  rest = h.rest;
  old_is = h.old_is;
  new_is = h.new_is;
  piece = make h.piece;
  more = h.more;
  begins = same h.piece ∙ h.begins;
  rejects = rejects;
}
  where
    early : (left : List Symbol) → w ≡ (h.front ++ h.next ∷ []) ++ left → ⊥
    early left e = h.rejects x [] (left ++ more) tt (append_nil (a x) ∙ begins ∙ ap (λ t. t ++ more) e ∙ append_assoc (h.front ++ h.next ∷ []) left more)

    rejects : (z : Z) (r s : List Symbol) → Stops g r → spell z ++ r ≡ (h.front ++ h.next ∷ []) ++ s → ⊥
    rejects z r s hr e =
        let p = past w mid h.front h.next h.rest h.old_is early in
        let t = (p.behind ++ h.next ∷ []) ++ s in
        let split : (h.front ++ h.next ∷ []) ++ s ≡ w ++ t = ap (λ q. (q ++ h.next ∷ []) ++ s) p.front_is ∙ ap (λ q. q ++ s) (append_assoc w p.behind (h.next ∷ [])) ∙ append_assoc w (p.behind ++ h.next ∷ []) s in
        let led : leads next t ≡ true = leads_back next p.behind h.next h.rest s (subst (λ m. leads next m ≡ true) p.mid_is here) in
        let got = only z r t hr (e ∙ split) led in
        h.rejects got.0 r s (stops_with g f wide r hr) (ap (λ q. q ++ r) (sym (same got.0) ∙ ap spell (sym got.1)) ∙ e)

-- Two forms fail at one place, and no third form is possible there.
pub both_fail : {X Y Z : Type 0} {a : X → List Symbol} {b : Y → List Symbol} {spell : Z → List Symbol} {f k g : Symbol → Bool} {old new : List Symbol} (make : X → Z) → ((x : X) → spell (make x) ≡ a x) → ((y : Symbol) → g y ≡ false → f y ≡ false) → ((y : Symbol) → g y ≡ false → k y ≡ false) → (starts : Symbol → Bool) → leads starts old ≡ true → ((z : Z) (r t : List Symbol) → spell z ++ r ≡ t → leads starts t ≡ true → ((x : X) × (spell z ≡ a x)) ⊎ ((y : Y) × (spell z ≡ b y))) → Fails a f old new → Fails b k old new → Fails spell g old new
both_fail {X} {Y} {Z} {a} {b} {spell} {f} {k} {g} {old} {new} make same wide wider starts here each h other = record {
  front = h.front;
  next = h.next;
  rest = h.rest;
  old_is = h.old_is;
  new_is = h.new_is;
  piece = make h.piece;
  more = h.more;
  begins = same h.piece ∙ h.begins;
  rejects = λ z r s hr e. one z r s hr e (each z r ((h.front ++ h.next ∷ []) ++ s) e (leads_back starts h.front h.next h.rest s (subst (λ l. leads starts l ≡ true) h.old_is here)));
}
  where
    fronts : h.front ≡ other.front
    fronts = append_cancel_right h.front other.front new (ap (λ t. h.front ++ t) h.new_is ∙ sym h.old_is ∙ other.old_is ∙ ap (λ t. other.front ++ t) (sym other.new_is))

    nexts : h.next ≡ other.next
    nexts = heads (sym h.new_is ∙ other.new_is)

    places : h.front ++ h.next ∷ [] ≡ other.front ++ other.next ∷ []
    places = λ i. fronts i ++ nexts i ∷ []

    one : (z : Z) (r s : List Symbol) → Stops g r → spell z ++ r ≡ (h.front ++ h.next ∷ []) ++ s → ((x : X) × (spell z ≡ a x)) ⊎ ((y : Y) × (spell z ≡ b y)) → ⊥
    one z r s hr e (inl p) = h.rejects p.0 r s (stops_with g f wide r hr) (ap (λ t. t ++ r) (sym p.1) ∙ e)
    one z r s hr e (inr p) = other.rejects p.0 r s (stops_with g k wider r hr) (ap (λ t. t ++ r) (sym p.1) ∙ e ∙ ap (λ t. t ++ s) places)
