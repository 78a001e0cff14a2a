-- Single tokens.
use Rattle.std.proofs.lemmas.List.{at_drop_more}
use Rattle.std.proofs.Common.{◌≡◌, zero, suc, arith, ◌+◌, ◌<◌, ℕ, length, get_or, drop, List, [], ◌∷◌, Some, None, Option, Bool, true, false, sym, refl, ap, ◌∙◌}
use Rattle.source.specs.declared.kind.Kind.{Kind}
use Rattle.source.specs.declared.kind.Kind.TheVariants.{Name}
use Rattle.source.specs.declared.token.Span.{Span}
use Rattle.source.specs.declared.token.Token.{Token}
use Rattle.std.specs.Prelude.{if◌then◌else◌}
use Rattle.std.proofs.lemmas.Bool.{true≢false}
use Rattle.tree.specs.Symbols.{Symbol, Fixed, Placed, Named, End, is_placed, kind_at, by_kind, seen_as, symbols}
use Rattle.syntax.specs.Reading.{never, Fails, leads}
use Rattle.syntax.proofs.pieces.Pieces.{Piece}

kind_same : (y : Symbol) (r s : List Symbol) → kind_at (y ∷ r) ≡ kind_at (y ∷ s)
kind_same (Fixed kind) r s = refl
kind_same (Placed kind span) r s = refl
kind_same (Named span) r s = refl
kind_same End r s = refl

-- the expected token is not next
pub fixed_fails : (kind : Kind) (ys : List Symbol) → (ys ≡ [] → ⊥) → (kind_at ys ≡ Some kind → ⊥) → Fails {X = Unit {0}} (λ _. Fixed kind ∷ []) never ys ys
fixed_fails kind [] some other = absurd (some refl)
fixed_fails kind (y ∷ ys) some other = record {
  front = [];
  next = y;
  rest = ys;
  old_is = refl;
  new_is = refl;
  piece = tt;
  more = Fixed kind ∷ [];
  begins = refl;
  rejects = λ x r s h e. other (kind_same y ys s ∙ sym (ap kind_at e));
}

-- the same for a token that keeps its place
pub placed_fails : (kind : Kind) → Span → (ys : List Symbol) → (ys ≡ [] → ⊥) → (kind_at ys ≡ Some kind → ⊥) → Fails (λ span. Placed kind span ∷ []) never ys ys
placed_fails kind span [] some other = absurd (some refl)
placed_fails kind span (y ∷ ys) some other = record {
  front = [];
  next = y;
  rest = ys;
  old_is = refl;
  new_is = refl;
  piece = span;
  more = Placed kind span ∷ [];
  begins = refl;
  rejects = λ x r s h e. other (kind_same y ys s ∙ sym (ap kind_at e));
}

-- no name is next
pub named_fails : Span → (ys : List Symbol) → (ys ≡ [] → ⊥) → (kind_at ys ≡ Some Name → ⊥) → Fails (λ span. Named span ∷ []) never ys ys
named_fails span [] some other = absurd (some refl)
named_fails span (y ∷ ys) some other = record {
  front = [];
  next = y;
  rest = ys;
  old_is = refl;
  new_is = refl;
  piece = span;
  more = Named span ∷ [];
  begins = refl;
  rejects = λ x r s h e. other (kind_same y ys s ∙ sym (ap kind_at e));
}

-- a token of one kind, as a part of the grammar
abbrev pub fixed : Kind → Unit {0} → List Symbol
fixed kind u = Fixed kind ∷ []

pub fixed_piece : (kind : Kind) → Piece {X = Unit {0}} (λ _. Fixed kind ∷ []) never (λ _. never)
fixed_piece kind = record { some = tt; each = λ x. record { only = λ y r s hr hs e. (refl, cc) } }

-- one that keeps its place
pub placed_piece : (kind : Kind) → Piece (λ span. Placed kind span ∷ []) never (λ _. never)
placed_piece kind = record { some = record { start = 0; end = 0; place = record { line = 1; col = 1 } }; each = λ x. record { only = λ y r s hr hs e. (cc, cc) } }

-- a name
pub named_piece : Piece (λ span. Named span ∷ []) never (λ _. never)
named_piece = record { some = record { start = 0; end = 0; place = record { line = 1; col = 1 } }; each = λ x. record { only = λ y r s hr hs e. (cc, cc) } }

-- the first token, by its kind
other_fixed : (b : Bool) (k : Kind) (span : Span) (ys : List Symbol) (kind : Kind) → is_placed k ≡ b → is_placed kind ≡ false → kind_at ((if b then Placed k span else Fixed k) ∷ ys) ≡ Some kind → (if b then Placed k span else Fixed k) ≡ Fixed kind
other_fixed true k span ys kind is none e =
    let same : k ≡ kind = cc in
    absurd (true≢false (sym is ∙ ap is_placed same ∙ none))
other_fixed false k span ys kind is none e = cc

pub seen_fixed : (k : Kind) (span : Span) (ys : List Symbol) (kind : Kind) → (kind ≡ Name → ⊥) → is_placed kind ≡ false → kind_at (seen_as k span ∷ ys) ≡ Some kind → seen_as k span ≡ Fixed kind
seen_fixed Name span ys kind n none e = absurd (n cc)
seen_fixed k span ys kind n none e = other_fixed (is_placed k) k span ys kind refl none e

other_placed : (b : Bool) (k : Kind) (span : Span) (ys : List Symbol) (kind : Kind) → is_placed k ≡ b → is_placed kind ≡ true → kind_at ((if b then Placed k span else Fixed k) ∷ ys) ≡ Some kind → (if b then Placed k span else Fixed k) ≡ Placed kind span
other_placed true k span ys kind is has e = cc
other_placed false k span ys kind is has e =
    let same : k ≡ kind = cc in
    absurd (true≢false (sym has ∙ sym (ap is_placed same) ∙ is))

pub seen_placed : (k : Kind) (span : Span) (ys : List Symbol) (kind : Kind) → is_placed kind ≡ true → kind_at (seen_as k span ∷ ys) ≡ Some kind → seen_as k span ≡ Placed kind span
seen_placed Name span ys kind has e =
    let same : Name ≡ kind = cc in
    absurd (true≢false (sym has ∙ sym (ap is_placed same)))
seen_placed k span ys kind has e = other_placed (is_placed k) k span ys kind refl has e

pub seen_named : (k : Kind) (span : Span) (ys : List Symbol) → kind_at (seen_as k span ∷ ys) ≡ Some Name → seen_as k span ≡ Named span
seen_named Name span ys e = refl
seen_named k span ys e = cc

-- symbols are never empty, since the end is one
pub symbols_some : (ts : List Token) → symbols ts ≡ [] → ⊥
symbols_some [] e = cc
symbols_some (t ∷ ts) e = cc

-- if tokens are left, the first symbol is that of the next token
pub symbols_at : (ts : List Token) (n : ℕ) (d : Token) → n < length ts → symbols (drop n ts) ≡ seen_as (get_or ts n d).kind (get_or ts n d).span ∷ symbols (drop (n + 1) ts)
symbols_at ts n d lt = at_drop_more symbols ts n d lt

-- the next token, if it is no name and keeps no place
pub fixed_at : (ts : List Token) (n : ℕ) (kind : Kind) → (kind ≡ Name → ⊥) → is_placed kind ≡ false → kind_at (symbols (drop n ts)) ≡ Some kind → symbols (drop n ts) ≡ Fixed kind ∷ symbols (drop (n + 1) ts)
fixed_at [] zero kind not_name none e = cc
fixed_at [] (suc n) kind not_name none e = cc
fixed_at (t ∷ ts) zero kind not_name none e = ap (λ y. y ∷ symbols ts) (seen_fixed t.kind t.span (symbols ts) kind not_name none e) ∙ (let later : 1 ≡ 0 + 1 = omega arith in ap (λ k. Fixed kind ∷ symbols (drop k (t ∷ ts))) later)
fixed_at (t ∷ ts) (suc n) kind not_name none e = fixed_at ts n kind not_name none e ∙ (let later : suc (n + 1) ≡ suc n + 1 = omega arith in ap (λ k. Fixed kind ∷ symbols (drop k (t ∷ ts))) later)

-- the next token, if it keeps its place
pub placed_at : (ts : List Token) (n : ℕ) (d : Token) (kind : Kind) → is_placed kind ≡ true → kind_at (symbols (drop n ts)) ≡ Some kind → symbols (drop n ts) ≡ Placed kind (get_or ts n d).span ∷ symbols (drop (n + 1) ts)
placed_at [] zero d kind has e = cc
placed_at [] (suc n) d kind has e = cc
placed_at (t ∷ ts) zero d kind has e = ap (λ y. y ∷ symbols ts) (seen_placed t.kind t.span (symbols ts) kind has e) ∙ (let later : 1 ≡ 0 + 1 = omega arith in ap (λ k. Placed kind t.span ∷ symbols (drop k (t ∷ ts))) later)
placed_at (t ∷ ts) (suc n) d kind has e = placed_at ts n d kind has e ∙ (let later : suc (n + 1) ≡ suc n + 1 = omega arith in ap (λ k. Placed kind (get_or ts n d).span ∷ symbols (drop k (t ∷ ts))) later)

-- the next symbol, by its kind
pub leads_by : (p : Option Kind → Bool) (ys : List Symbol) → p None ≡ false → leads (by_kind p) ys ≡ p (kind_at ys)
leads_by p [] none = sym none
leads_by p (y ∷ ys) none = ap p (kind_same y [] ys)

pub leads_of : (p : Option Kind → Bool) (ys : List Symbol) (kind : Kind) → kind_at ys ≡ Some kind → p (Some kind) ≡ true → leads (by_kind p) ys ≡ true
leads_of p [] kind is has = cc
leads_of p (y ∷ ys) kind is has = ap p (kind_same y [] ys ∙ is) ∙ has
