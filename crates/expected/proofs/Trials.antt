-- What parsing a front of a text with one more token shows of the front.
use Rattle.std.proofs.Common.{◌≡◌, ◌≤◌, ◌<◌, ◌+◌, ℕ, List, [], ◌∷◌, ◌++◌, length, take, drop, map, sym, refl, ap, subst, ◌∙◌, append_assoc, arith, inl, inr}
use Rattle.std.proofs.lemmas.Bool.{cases_lt}
use Rattle.std.proofs.lemmas.List.{take-append-drop, take-append-le, take_all, take-map, map-append, length-map, length-take-le, length-append}
use Rattle.source.specs.declared.kind.Kind.{Kind}
use Rattle.source.specs.declared.token.Span.{Span}
use Rattle.source.specs.declared.token.Token.{Token}
use Rattle.tree.specs.Programs.{program}
use Rattle.tree.specs.Spelled.{whole, Spells}
use Rattle.tree.specs.Symbols.{Symbol, End, seen_as, symbols}
use Rattle.tree.specs.Trees.{ItemTree}
use Rattle.syntax.specs.Parsing.{Viable, IsFirstWrong}
use Rattle.expected.specs.Expected.{IsExpected}
use Rattle.syntax.proofs.pieces.Tops.{symbols_length}

abbrev pub seen : Token → Symbol
seen t = seen_as t.kind t.span

symbols_model : (ts : List Token) → symbols ts ≡ map seen ts ++ End ∷ []
symbols_model [] = refl
symbols_model (t ∷ ts) = ap (λ ys. seen t ∷ ys) (symbols_model ts)

-- the first symbols of a text are those of its first tokens
front_seen : (n : ℕ) (ts : List Token) → n ≤ length ts → take n (symbols ts) ≡ map seen (take n ts)
front_seen n ts h =
    let within : n ≤ length (map seen ts) = subst (λ m. n ≤ m) (sym (length-map ts seen)) h in
    ap (take n) (symbols_model ts) ∙ take-append-le n (map seen ts) (End ∷ []) within ∙ take-map seen n ts

-- and all symbols before the end are those of all tokens
all_seen : (ts : List Token) → take (length ts) (symbols ts) ≡ map seen ts
all_seen ts = front_seen (length ts) ts (omega arith) ∙ ap (map seen) (take_all (length ts) ts (omega arith))

-- the front of a text as a text of its own
front_same : (n : ℕ) (ts : List Token) → n ≤ length ts → take (length (take n ts)) (symbols (take n ts)) ≡ take n (symbols ts)
front_same n ts h = all_seen (take n ts) ∙ sym (front_seen n ts h)

-- the symbols up to a token at the end
with_last : (ts : List Token) (t : Token) → take (length ts + 1) (symbols (ts ++ t ∷ [])) ≡ take (length ts) (symbols ts) ++ seen t ∷ []
with_last ts t =
    let counted : length (ts ++ t ∷ []) ≡ length ts + 1 = omega (arith, length-append ts (t ∷ [])) in
    ap (λ n. take n (symbols (ts ++ t ∷ []))) (sym counted) ∙ all_seen (ts ++ t ∷ []) ∙ map-append seen ts (t ∷ [])
    ∙ ap (λ ys. ys ++ seen t ∷ []) (sym (all_seen ts))

take_twice : {X : Type 0} (m n : ℕ) (xs : List X) → m ≤ n → take m (take n xs) ≡ take m xs
take_twice m n xs h = elim (cases_lt n (length xs)) [
  | inl less ↦
      let within : m ≤ length (take n xs) = omega (arith, length-take-le n xs (omega arith)) in
      sym (take-append-le m (take n xs) (drop n xs) within) ∙ ap (take m) (take-append-drop n xs)
  | inr all ↦ ap (take m) (take_all n xs all)
]

-- a front of a viable front is viable
shorter : {X : Type 0} {a : X → List Symbol} (m n : ℕ) (xs : List Symbol) → m ≤ n → Viable a (take n xs) → Viable a (take m xs)
shorter m n xs h v =
    let split : take n xs ≡ take m xs ++ drop m (take n xs) =
    sym (take-append-drop m (take n xs)) ∙ ap (λ ys. ys ++ drop m (take n xs)) (take_twice m n xs h) in
    record {
      piece = v.piece;
      more = drop m (take n xs) ++ v.more;
      begins = v.begins ∙ ap (λ ys. ys ++ v.more) split ∙ append_assoc (take m xs) (drop m (take n xs)) v.more;
    }

-- the first wrong token is one of the tokens, or the end
pub wrong_within : (ts : List Token) (k : ℕ) → IsFirstWrong program ts k → k ≤ length ts
wrong_within ts k w = elim (cases_lt (length ts) k) [
  | inl past ↦
      let counted = symbols_length ts in
      let one : take k (symbols ts) ≡ symbols ts = take_all k (symbols ts) (omega arith) in
      let two : take (k + 1) (symbols ts) ≡ symbols ts = take_all (k + 1) (symbols ts) (omega arith) in
      absurd (w.bad (subst (Viable (whole program)) (one ∙ sym two) w.good))
  | inr within ↦ within
]

-- if the tokens with one more are a program, a program continues with it
pub goes_on_to_end : (ts : List Token) (t : Token) (x : List ItemTree) → Spells program x (ts ++ t ∷ []) → IsExpected ts (length ts) t.span t.kind
goes_on_to_end ts t x is =
    subst (Viable (whole program)) (with_last ts t) (record {
      piece = x;
      more = drop (length ts + 1) (symbols (ts ++ t ∷ []));
      begins = is ∙ sym (take-append-drop (length ts + 1) (symbols (ts ++ t ∷ [])));
    })

-- if the first wrong token comes after it, a program continues with it
pub goes_on : (ts : List Token) (t : Token) (k : ℕ) → IsFirstWrong program (ts ++ t ∷ []) k → length ts < k → IsExpected ts (length ts) t.span t.kind
goes_on ts t k w later =
    subst (Viable (whole program)) (with_last ts t) (shorter (length ts + 1) k (symbols (ts ++ t ∷ [])) (omega arith) w.good)

-- and if not, no program does
pub goes_wrong : (ts : List Token) (t : Token) (k : ℕ) → IsFirstWrong program (ts ++ t ∷ []) k → k ≤ length ts → IsExpected ts (length ts) t.span t.kind → ⊥
goes_wrong ts t k w sooner v =
    w.bad (shorter (k + 1) (length ts + 1) (symbols (ts ++ t ∷ [])) (omega arith) (subst (Viable (whole program)) (sym (with_last ts t)) v))

-- a front as a text of its own continues with the same tokens as the text does after that front
pub of_front : (ts front : List Token) (n : ℕ) (at : Span) (kind : Kind) → n ≤ length ts → front ≡ take n ts
    → (IsExpected front (length front) at kind → IsExpected ts n at kind) × (IsExpected ts n at kind → IsExpected front (length front) at kind)
of_front ts front n at kind h is =
    let same : take (length front) (symbols front) ≡ take n (symbols ts) =
    ap (λ f. take (length f) (symbols f)) is ∙ front_same n ts h in
    (subst (λ ys. Viable (whole program) (ys ++ seen_as kind at ∷ [])) same, subst (λ ys. Viable (whole program) (ys ++ seen_as kind at ∷ [])) (sym same))
