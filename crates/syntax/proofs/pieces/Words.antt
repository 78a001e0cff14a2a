-- One word of several.
use Rattle.std.proofs.Common.{◌≡◌, Bool, true, false, List, [], ◌∷◌, ◌++◌, Option, Some, None, sym, refl, ap, ◌∙◌}
use Rattle.std.specs.Prelude.{is_some}
use Rattle.source.specs.declared.kind.Kind.{Kind}
use Rattle.source.specs.declared.kind.Kind.TheVariants.{Name}
use Rattle.source.specs.declared.token.Span.{Span}
use Rattle.tree.specs.Symbols.{Symbol, Fixed, Placed, is_placed, kind_at, by_kind}
use Rattle.tree.specs.Spelling.{word, token_at}
use Rattle.syntax.specs.Reading.{never, Stops, Fails}
use Rattle.syntax.proofs.pieces.Pieces.{Piece}
use Rattle.syntax.proofs.pieces.Beginnings.{Starts, none_fails}
use Rattle.syntax.proofs.pieces.KindLemmas.{test_stops}

pub one_some : {X : Type 0} {x y : X} → Some x ≡ Some y → x ≡ y
one_some {X} {x} {y} e = cc

pub none_some : {X : Type 0} {x : X} → None ≡ Some x → ⊥
none_some {X} {x} e = cc

-- each of these has a word, and is what that word means
pub record Words {X : Type 0} (word_of : X → Kind) (meaning : Option Kind → Option X) : Type 0 where
  pub some : X
  pub known : (x : X) → meaning (Some (word_of x)) ≡ Some x
  pub blank : meaning None ≡ None
  pub only : (k : Kind) (x : X) → meaning (Some k) ≡ Some x → k ≡ word_of x
  pub plain : (x : X) → word_of x ≡ Name → ⊥

-- whether it means something
abbrev pub means : {X : Type 0} → (Option Kind → Option X) → Option Kind → Bool
means meaning k = is_some (meaning k)

module _ {X : Type 0} {word_of : X → Kind} {meaning : Option Kind → Option X} (words : Words word_of meaning) where
  pub words_piece : Piece (λ x. word (word_of x)) never (λ _. never)
  words_piece = record { some = words.some; each = λ x. record { only = same x } }
    where
      same : (x y : X) (r s : List Symbol) → Stops never r → Stops never s → word (word_of x) ++ r ≡ word (word_of y) ++ s → (x ≡ y) × (r ≡ s)
      same x y r s hr hs e =
          let kinds : word_of x ≡ word_of y = cc in
          let one : Some x ≡ Some y = sym (words.known x) ∙ ap (λ k. meaning (Some k)) kinds ∙ words.known y in
          (cc, cc)

  -- the same, each with its place
  pub marks_piece : Piece {X = X × Span} (λ p. token_at (word_of p.0) p.1) never (λ _. never)
  marks_piece = record { some = (words.some, record { start = 0; end = 0; place = record { line = 1; col = 1 } }); each = λ p. record { only = same p } }
    where
      same : (p q : X × Span) (r s : List Symbol) → Stops never r → Stops never s → token_at (word_of p.0) p.1 ++ r ≡ token_at (word_of q.0) q.1 ++ s → (p ≡ q) × (r ≡ s)
      same p q r s hr hs e =
          let kinds : word_of p.0 ≡ word_of q.0 = cc in
          let spans : p.1 ≡ q.1 = cc in
          let one : Some p.0 ≡ Some q.0 = sym (words.known p.0) ∙ ap (λ k. meaning (Some k)) kinds ∙ words.known q.0 in
          let first = one_some one in
          (λ i. (first i, spans i), cc)

  pub marks_starts : Starts {X = X × Span} (λ p. token_at (word_of p.0) p.1) (by_kind (means meaning))
  marks_starts = record { each = λ p. record { head = Placed (word_of p.0) p.1; tail = []; is = refl; first = ap is_some (words.known p.0) } }

  pub marks_fails : (ys : List Symbol) → (ys ≡ [] → ⊥) → meaning (kind_at ys) ≡ None → Fails {X = X × Span} (λ p. token_at (word_of p.0) p.1) never ys ys
  marks_fails ys some none = none_fails marks_piece marks_starts ys some (test_stops (means meaning) ys (ap is_some words.blank) (ap is_some none))

  pub words_starts : Starts (λ x. word (word_of x)) (by_kind (means meaning))
  words_starts = record { each = λ x. record { head = Fixed (word_of x); tail = []; is = refl; first = ap is_some (words.known x) } }

  pub words_kind : (k : Option Kind) (x : X) → meaning k ≡ Some x → k ≡ Some (word_of x)
  words_kind None x e = absurd (none_some (sym words.blank ∙ e))
  words_kind (Some k) x e = ap (λ k. Some k) (words.only k x e)

  -- one of them is read
  pub words_taken : (x : X) (old new : List Symbol) → meaning (kind_at old) ≡ Some x → is_placed (word_of x) ≡ false → ((kind : Kind) → (kind ≡ Name → ⊥) → is_placed kind ≡ false → kind_at old ≡ Some kind → old ≡ Fixed kind ∷ new) → old ≡ word (word_of x) ++ new
  words_taken x old new is low taken = taken (word_of x) (words.plain x) low (words_kind (kind_at old) x is)

  pub marks_taken : (x : X) (span : Span) (old new : List Symbol) → meaning (kind_at old) ≡ Some x → is_placed (word_of x) ≡ true → ((kind : Kind) → is_placed kind ≡ true → kind_at old ≡ Some kind → old ≡ Placed kind span ∷ new) → old ≡ token_at (word_of x) span ++ new
  marks_taken x span old new is high taken = taken (word_of x) high (words_kind (kind_at old) x is)

  -- none of them is next
  pub words_fails : (ys : List Symbol) → (ys ≡ [] → ⊥) → meaning (kind_at ys) ≡ None → Fails (λ x. word (word_of x)) never ys ys
  words_fails ys some none = none_fails words_piece words_starts ys some (test_stops (means meaning) ys (ap is_some words.blank) (ap is_some none))
