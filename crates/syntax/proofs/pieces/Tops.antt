-- The tokens of a whole text: read to the end, or wrong at one of them.
use Rattle.std.proofs.Common.{◌≡◌, Bool, true, false, ℕ, zero, add-one, ◌+◌, ◌-◌, ◌≤◌, take, drop, length-drop, suc, length, arith, List, [], ◌∷◌, ◌++◌, sym, refl, ap, ◌∙◌, subst, append_assoc}
use Rattle.std.proofs.lemmas.List.{take-append-drop, take_at, take_all}
use Rattle.std.proofs.lemmas.Bool.{true≢false, and_parts}
use Rattle.std.specs.List.{list_all}
use Rattle.source.specs.declared.kind.Kind.{Kind}
use Rattle.source.specs.declared.kind.Kind.TheVariants.{Name}
use Rattle.source.specs.declared.token.Span.{Span}
use Rattle.source.specs.declared.token.Token.{Token}
use Rattle.tree.specs.Symbols.{Symbol, End, seen_as, symbols}
use Rattle.syntax.specs.Reading.{never, Stops, Fails}
use Rattle.syntax.specs.Parsing.{IsFirstWrong, Viable}
use Rattle.tree.specs.Spelled.{Spells, whole}
use Rattle.syntax.proofs.pieces.Pieces.{Piece, Follows, fails_first, fails_second, via_fails}
use Rattle.syntax.proofs.pieces.SharedFronts.{append_nil, heads, tails}

len_both : (xs ys : List Symbol) → length (xs ++ ys) ≡ length xs + length ys
len_both [] ys = omega arith
len_both (x ∷ xs) ys = let h = len_both xs ys in omega arith

-- the symbols before this one, and those up to it
front_is : (old front : List Symbol) (next : Symbol) (rest : List Symbol) (k : ℕ) → old ≡ front ++ next ∷ rest → length front ≡ k → take k old ≡ front
front_is old front next rest k is count = ap (λ t. take k t) is ∙ ap (λ n. take n (front ++ next ∷ rest)) (sym count) ∙ take_at front (next ∷ rest) _ refl

front_more : (old front : List Symbol) (next : Symbol) (rest : List Symbol) (k : ℕ) → old ≡ front ++ next ∷ rest → length front ≡ k → take (k + 1) old ≡ front ++ next ∷ []
front_more old front next rest k is count =
    let counted : length (front ++ next ∷ []) ≡ k + 1 = len_both front (next ∷ []) ∙ ap (λ n. n + 1) count in
    ap (λ t. take (k + 1) t) (is ∙ sym (append_assoc front (next ∷ []) rest)) ∙ ap (λ n. take n ((front ++ next ∷ []) ++ rest)) (sym counted) ∙ take_at (front ++ next ∷ []) rest _ refl

first_wrong : {X : Type 0} {a : X → List Symbol} {new : List Symbol} (ts : List Token) (k : ℕ) → k + length new ≡ length (symbols ts) → Fails (whole a) never (symbols ts) new → IsFirstWrong a ts k
first_wrong {X} {a} {new} ts k is h = record {
  good = subst (Viable (whole a)) (sym (front_is (symbols ts) h.front h.next h.rest k h.old_is counted)) (record { piece = h.piece; more = h.more; begins = h.begins });
  bad = λ v.
      let w = subst (Viable (whole a)) (front_more (symbols ts) h.front h.next h.rest k h.old_is counted) v in
      h.rejects w.piece [] w.more tt (append_nil (whole a w.piece) ∙ w.begins);
}
  where
    counted : length h.front ≡ k
    counted =
        let olds : length (symbols ts) ≡ length h.front + length (h.next ∷ h.rest) = ap length h.old_is ∙ len_both h.front (h.next ∷ h.rest) in
        let news : length new ≡ length (h.next ∷ h.rest) = ap length h.new_is in
        omega arith

seen_no_end : (k : Kind) (span : Span) → seen_as k span ≡ End → ⊥
seen_no_end Name span e = cc
seen_no_end k span e = cc

-- the end is only at the end
nothing_more : (w : List Symbol) (y : Symbol) (ys : List Symbol) → [] ≡ w ++ y ∷ ys → ⊥
nothing_more [] y ys e = cc
nothing_more (x ∷ w) y ys e = cc

end_last : (ts : List Token) (w ys : List Symbol) → symbols ts ≡ w ++ End ∷ ys → ys ≡ []
end_last [] [] ys e = sym (tails e)
end_last [] (x ∷ w) ys e = absurd (nothing_more w End ys (tails e))
end_last (t ∷ ts) [] ys e = absurd (seen_no_end t.kind t.span (heads e))
end_last (t ∷ ts) (x ∷ w) ys e = end_last ts w ys (tails e)

last_end : (ts : List Token) (w : List Symbol) (y : Symbol) → symbols ts ≡ w ++ y ∷ [] → y ≡ End
last_end [] [] y e = sym (heads e)
last_end [] (x ∷ w) y e = absurd (nothing_more w y [] (tails e))
last_end (t ∷ ts) [] y e = absurd (symbols_some ts (tails e))
  where
    symbols_some : (ts : List Token) → symbols ts ≡ [] → ⊥
    symbols_some [] e = cc
    symbols_some (t ∷ ts) e = cc
last_end (t ∷ ts) (x ∷ w) y e = last_end ts w y (tails e)

pub top_ok : (ts : List Token) (w new : List Symbol) → symbols ts ≡ w ++ new → length new ≡ 1 → w ++ End ∷ [] ≡ symbols ts
top_ok ts w [] e one = absurd (none one)
  where
    none : ◌≡◌ {A = ℕ} 0 1 → ⊥
    none e = omega arith
top_ok ts w (y ∷ []) e one = ap (λ s. w ++ s ∷ []) (sym (last_end ts w y e)) ∙ sym e
top_ok ts w (y ∷ z ∷ ys) e one = absurd (more (length ys) one)
  where
    more : (n : ℕ) → suc (suc n) ≡ 1 → ⊥
    more n e = omega arith

abbrev to : {X : Type 0} → X → X × Unit {0}
to x = (x, tt)

abbrev from : {X : Type 0} → X × Unit {0} → X
from p = p.0

end_piece : Piece {X = Unit {0}} (λ _. End ∷ []) never (λ _. never)
end_piece = record { some = tt; each = λ x. record { only = λ y r s hr hs e. (refl, cc) } }

end_follows : (f : Symbol → Bool) → f End ≡ false → Follows {Y = Unit {0}} f (λ _. End ∷ []) never
end_follows f h = record { each = λ y r _. h }

end_fails : (ts : List Token) (w new : List Symbol) → symbols ts ≡ w ++ new → (new ≡ [] → ⊥) → (length new ≡ 1 → ⊥) → Fails {X = Unit {0}} (λ _. End ∷ []) never new new
end_fails ts w [] e some one = absurd (some refl)
end_fails ts w (y ∷ ys) e some one = record {
  front = [];
  next = y;
  rest = ys;
  old_is = refl;
  new_is = refl;
  piece = tt;
  more = End ∷ [];
  begins = refl;
  rejects = λ x r s h is.
      let ended : End ≡ y = heads is in
      one (ap (λ l. suc (length l)) (end_last ts w ys (e ∙ ap (λ y. w ++ y ∷ ys) (sym ended))));
}

module _ {X : Type 0} {a : X → List Symbol} {f : Symbol → Bool} {at : X → Symbol → Bool} (piece : Piece a f at) (apart : f End ≡ false) where
  -- a part is read, and something other than the end is next
  pub top_rest : (ts : List Token) (x : X) (new : List Symbol) (k : ℕ) → (symbols ts ≡ a x ++ new) × Stops (at x) new → (new ≡ [] → ⊥) → (length new ≡ 1 → ⊥) → k + length new ≡ length (symbols ts) → IsFirstWrong a ts k
  top_rest ts x new k read some more is = first_wrong ts k is (via_fails to from (λ _. refl) (fails_second x piece read (end_follows f apart) (end_fails ts (a x) new read.0 some more)))

  -- the part fails
  pub top_fails : (ts : List Token) (new : List Symbol) (k : ℕ) → Fails a f (symbols ts) new → k + length new ≡ length (symbols ts) → IsFirstWrong a ts k
  top_fails ts new k h is = first_wrong ts k is (via_fails to from (λ _. refl) (fails_first h end_piece (end_follows f apart)))

pub symbols_length : (ts : List Token) → length (symbols ts) ≡ length ts + 1
symbols_length [] = omega arith
symbols_length (t ∷ ts) = let h = symbols_length ts in omega arith

pub symbols_left : (ts : List Token) (n : ℕ) → n ≤ length ts → length ts - n + 1 ≡ length (symbols (drop n ts))
symbols_left ts n le =
    let h = symbols_length (drop n ts) in
    let d = length-drop n ts in
    omega arith

-- the same with the cursor's count of tokens left, for the outermost call

pub left_ok : (ts : List Token) (w old new : List Symbol) (left : ℕ) → old ≡ symbols ts → old ≡ w ++ new → left + 1 ≡ length new → left ≤ length ts
left_ok ts w old new left start read is =
    let all : length (symbols ts) ≡ length w + length new = ap length (sym start ∙ read) ∙ len_both w new in
    let n = symbols_length ts in
    omega arith

fails_split : {X : Type 0} {spell : X → List Symbol} {f : Symbol → Bool} {old new : List Symbol} → (h : Fails spell f old new) → old ≡ h.front ++ new
fails_split {X} {spell} {f} {old} {new} h = h.old_is ∙ ap (λ t. h.front ++ t) (sym h.new_is)

pub left_err : {X : Type 0} {spell : X → List Symbol} {f : Symbol → Bool} (ts : List Token) (old new : List Symbol) (left : ℕ) → old ≡ symbols ts → Fails spell f old new → left + 1 ≡ length new → left ≤ length ts
left_err {X} {spell} {f} ts old new left start h is = left_ok ts h.front old new left start (fails_split h) is

pub parsed : (ts : List Token) (w old new : List Symbol) (left : ℕ) → old ≡ symbols ts → old ≡ w ++ new → left + 1 ≡ length new → left ≡ 0 → w ++ End ∷ [] ≡ symbols ts
parsed ts w old new left start read is none = top_ok ts w new (sym start ∙ read) (omega arith)

at_left : (n all new left : ℕ) → all ≡ n + 1 → left ≤ n → left + 1 ≡ new → (n - left) + new ≡ all
at_left n all new left a b c = omega arith

no_list : (left : ℕ) (new : List Symbol) → left + 1 ≡ length new → new ≡ [] → ⊥
no_list left [] is e = absurd (none left is)
  where
    none : (n : ℕ) → n + 1 ≡ 0 → ⊥
    none n e = omega arith
no_list left (y ∷ ys) is e = cc

not_one : (left n : ℕ) → left + 1 ≡ n → (left ≡ 0 → ⊥) → n ≡ 1 → ⊥
not_one left n is f e = f (omega arith)

module _ {X : Type 0} {a : X → List Symbol} {f : Symbol → Bool} {at : X → Symbol → Bool} (piece : Piece a f at) (apart : f End ≡ false) where
  pub wrong_rest : (ts : List Token) (x : X) (old new : List Symbol) (left : ℕ) → old ≡ symbols ts → (old ≡ a x ++ new) × Stops (at x) new → left + 1 ≡ length new → (left ≡ 0 → ⊥) → IsFirstWrong a ts (length ts - left)
  wrong_rest ts x old new left start read is some =
      top_rest piece apart ts x new (length ts - left) (sym start ∙ read.0, read.1) (no_list left new is) (not_one left (length new) is some)
      (at_left (length ts) (length (symbols ts)) (length new) left (symbols_length ts) (left_ok ts (a x) old new left start read.0 is) is)

  pub wrong_piece : (ts : List Token) (old new : List Symbol) (left : ℕ) → old ≡ symbols ts → Fails a f old new → left + 1 ≡ length new → IsFirstWrong a ts (length ts - left)
  wrong_piece ts old new left start h is =
      top_fails piece apart ts new (length ts - left) (subst (λ t. Fails a f t new) start h)
      (at_left (length ts) (length (symbols ts)) (length new) left (symbols_length ts) (left_err ts old new left start h is) is)

-- a tree with this spelling

pub one_tree : {X : Type 0} {a : X → List Symbol} {f : Symbol → Bool} {at : X → Symbol → Bool} → Piece a f at → f End ≡ false → ((x : X) → at x End ≡ false) → (ts : List Token) (x y : X) → Spells a x ts → Spells a y ts → x ≡ y
one_tree {X} {a} {f} {at} piece apart ended ts x y this other = ((piece.each x).only y (End ∷ []) (End ∷ []) apart (ended y) (this ∙ sym other)).0

pub not_wrong : {X : Type 0} {a : X → List Symbol} (ts : List Token) (k : ℕ) (x : X) → Spells a x ts → IsFirstWrong a ts k → ⊥
not_wrong {X} {a} ts k x spelled wrong = wrong.bad (record { piece = x; more = drop (k + 1) (symbols ts); begins = spelled ∙ sym (take-append-drop (k + 1) (symbols ts)) })

-- two trees with one spelling are one
pub one_spelling : {X : Type 0} {a : X → List Symbol} {f : Symbol → Bool} {at : X → Symbol → Bool} → Piece a f at → (x y : X) → a x ≡ a y → x ≡ y
one_spelling {X} {a} {f} {at} piece x y e = ((piece.each x).only y [] [] tt tt (ap (λ t. t ++ []) e)).0

-- tokens that spell nothing have a first wrong one, or the end is it

-- whether a symbol is that of a token, not the end
abbrev pub is_token : Symbol → Bool
is_token End = false
is_token y = true

-- the end is in no spelling
abbrev pub SpellsTokens : {X : Type 0} → (X → List Symbol) → Type 0
SpellsTokens {X} a = (x : X) → list_all is_token (a x) ≡ true

-- if the tokens with their end begin a spelling with its end, they are all of it
ends_there : (ts : List Token) (w more : List Symbol) → list_all is_token w ≡ true
    → w ++ End ∷ [] ≡ symbols ts ++ more → w ++ End ∷ [] ≡ symbols ts
ends_there [] [] more h e = refl
ends_there [] (x ∷ w) more h e = absurd (true≢false (sym (and_parts _ _ h).0 ∙ ap is_token (heads e)))
ends_there (t ∷ ts) [] more h e = absurd (seen_no_end t.kind t.span (sym (heads e)))
ends_there (t ∷ ts) (x ∷ w) more h e = λ i. heads e i ∷ ends_there ts w more (and_parts _ _ h).1 (tails e) i

module _ {X : Type 0} {a : X → List Symbol} (some : X) (ts : List Token) (right : (k : ℕ) → IsFirstWrong a ts k → ⊥) where
  -- if no token is the first wrong one, any number of tokens begins a spelling
  viable : (k : ℕ) → (Viable (whole a) (take k (symbols ts)) → ⊥) → ⊥
  viable zero f = f (record { piece = some; more = whole a some; begins = refl })
  viable (suc k) f = viable k (λ v. right k (record { good = v; bad = λ w. f (rw add-one at w) }))

  pub spelled : SpellsTokens a → ((x : X) → Spells a x ts → ⊥) → ⊥
  spelled tokens none = viable (length (symbols ts)) (λ v.
      let all : take (length (symbols ts)) (symbols ts) ≡ symbols ts = take_all _ (symbols ts) (omega arith) in
      none v.piece (ends_there ts (a v.piece) v.more (tokens v.piece) (v.begins ∙ ap (λ t. t ++ v.more) all)))
