-- Symbols by their kind.
use Rattle.std.proofs.Common.{◌≡◌, Bool, true, false, List, [], ◌∷◌, Option, Some, None, sym, refl, ap, ◌∙◌, rules}
use Rattle.std.specs.Prelude.{not, ◌||◌}
use Rattle.std.proofs.lemmas.Bool.{true≢false}
use Rattle.source.specs.declared.kind.Kind.{Kind}
use Rattle.source.specs.contracts.kind.Kind.{the_type}
use denote.Enum.Bare.{same_true, true_same}
use Rattle.tree.specs.Symbols.{Symbol, Fixed, Placed, kind_at, kind_is, by_kind, is_kind}
use Rattle.tree.specs.Spelling.{token_at}
use Rattle.syntax.specs.Reading.{Stops, leads}
use Rattle.syntax.proofs.pieces.Beginnings.{Starts, leads_stops}
use Rattle.syntax.proofs.pieces.CursorLemmas.{fixed, leads_of, leads_by}

pub kind_self : (kind : Kind) → kind_is kind (Some kind) ≡ true
kind_self kind = true_same the_type kind kind refl

pub kind_only : (kind : Kind) (k : Option Kind) → kind_is kind k ≡ true → k ≡ Some kind
kind_only kind None h = absurd (true≢false (sym h))
kind_only kind (Some other) h = ap (λ k. Some k) (same_true the_type (search rules) other kind h)

pub kind_other : (kind : Kind) (k : Option Kind) → (k ≡ Some kind → ⊥) → kind_is kind k ≡ false
kind_other kind k f = cases (kind_is kind k) (kind_only kind k)
  where
    cases : (b : Bool) → (b ≡ true → k ≡ Some kind) → b ≡ false
    cases true h = absurd (f (h refl))
    cases false h = refl

-- a token of this kind is next, or no such token is
pub kind_leads : (kind : Kind) (ys : List Symbol) → kind_at ys ≡ Some kind → leads (is_kind kind) ys ≡ true
kind_leads kind ys is = leads_of (kind_is kind) ys kind is (kind_self kind)

pub kind_stops : (kind : Kind) (ys : List Symbol) → (kind_at ys ≡ Some kind → ⊥) → Stops (is_kind kind) ys
kind_stops kind ys f = leads_stops (is_kind kind) ys (leads_by (kind_is kind) ys refl ∙ kind_other kind (kind_at ys) f)

-- a symbol of some kinds is not of a kind that is not among them
pub kinds_apart : (p : Option Kind → Bool) (kind : Kind) → p (Some kind) ≡ false → (y : Symbol) → by_kind p y ≡ true → is_kind kind y ≡ false
kinds_apart p kind h y has = kind_other kind (kind_at (y ∷ [])) (λ e. true≢false (sym has ∙ ap p e ∙ h))

pub apart_kinds : (p : Option Kind → Bool) (kind : Kind) → p (Some kind) ≡ false → (y : Symbol) → is_kind kind y ≡ true → by_kind p y ≡ false
apart_kinds p kind h y has = ap p (kind_only kind (kind_at (y ∷ [])) has) ∙ h

-- the next symbol, by a test of its kind
pub test_leads : (p : Option Kind → Bool) (ys : List Symbol) → p None ≡ false → p (kind_at ys) ≡ true → leads (by_kind p) ys ≡ true
test_leads p ys none has = leads_by p ys none ∙ has

pub test_stops : (p : Option Kind → Bool) (ys : List Symbol) → p None ≡ false → p (kind_at ys) ≡ false → Stops (by_kind p) ys
test_stops p ys none has = leads_stops (by_kind p) ys (leads_by p ys none ∙ has)

-- something else is next
pub other_leads : (p : Option Kind → Bool) (ys : List Symbol) → (ys ≡ [] → ⊥) → p None ≡ false → p (kind_at ys) ≡ false → leads (λ y. not (by_kind p y)) ys ≡ true
other_leads p [] some none h = absurd (some refl)
other_leads p (y ∷ ys) some none h = ap not (leads_by p (y ∷ ys) none ∙ h)

pub fixed_starts : (kind : Kind) → Starts (fixed kind) (is_kind kind)
fixed_starts kind = record { each = λ u. record { head = Fixed kind; tail = []; is = refl; first = kind_self kind } }

pub placed_starts : (kind : Kind) → Starts (token_at kind) (is_kind kind)
placed_starts kind = record { each = λ span. record { head = Placed kind span; tail = []; is = refl; first = kind_self kind } }

-- a token of another kind is next
pub not_leads : (kind : Kind) (ys : List Symbol) → (ys ≡ [] → ⊥) → (kind_at ys ≡ Some kind → ⊥) → leads (λ y. not (is_kind kind y)) ys ≡ true
not_leads kind ys some other = other_leads (kind_is kind) ys some refl (kind_other kind (kind_at ys) other)

pub neither_leads : (a b : Kind) (ys : List Symbol) → (ys ≡ [] → ⊥) → (kind_at ys ≡ Some a → ⊥) → (kind_at ys ≡ Some b → ⊥) → leads (λ y. not (by_kind (λ k. kind_is a k || kind_is b k) y)) ys ≡ true
neither_leads a b ys some f g = other_leads (λ k. kind_is a k || kind_is b k) ys some refl (ap (λ c. c || kind_is b (kind_at ys)) (kind_other a (kind_at ys) f) ∙ kind_other b (kind_at ys) g)
