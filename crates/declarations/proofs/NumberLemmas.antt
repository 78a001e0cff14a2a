-- Consecutive numbers, and properties of all elements of a list that grows.
use Rattle.std.proofs.Common.{◌≡◌, ◌≢◌, ℕ, zero, suc, ◌+◌, ◌-◌, ◌<◌, ◌≤◌, List, [], ◌∷◌, ◌++◌, length, map, take, get_or, sym, refl, ap, ◌∙◌, subst, arith, append_assoc, append-nil}
use Rattle.std.specs.Prelude.{All, AllPairs, Contains}
use Rattle.std.specs.List.{enumerate_from}
use Rattle.std.proofs.lemmas.List.{get_or-map, length-map}
use Rattle.std.proofs.lemmas.List.Elements.{All-nil, All-append}
use Rattle.program.specs.Parts.{AreConsecutive}
use Rattle.declarations.specs.Resolution.{each_behind}

-- the number of the element at index i is first + i
number_at : {Y Z I : Type 0} (f : ℕ → Y → Z) (id : Z → I) (make : ℕ → I) → ((n : ℕ) (y : Y) → id (f n y) ≡ make n) → (first : ℕ) (ys : List Y) (i : ℕ) (d : I) → i < length ys
    → get_or (map id (map (λ p. f p.0 p.1) (enumerate_from first ys))) i d ≡ make (first + i)
number_at f id make same first [] i d lt = absurd (omega (arith, lt))
number_at f id make same first (y ∷ ys) zero d lt = same first y ∙ ap make (omega arith)
number_at f id make same first (y ∷ ys) (suc i) d lt = number_at f id make same (first + 1) ys i d (omega (arith, lt)) ∙ ap make (omega arith)

numbers : {Y Z I : Type 0} (f : ℕ → Y → Z) (id : Z → I) (first : ℕ) (ys : List Y) → length (map id (map (λ p. f p.0 p.1) (enumerate_from first ys))) ≡ length ys
numbers f id first [] = refl
numbers f id first (y ∷ ys) = ap suc (numbers f id (first + 1) ys)

-- n is one of `many` consecutive numbers, beginning with `first`
pub record Among (first many n : ℕ) : Type 0 where
  pub low : first ≤ n
  pub high : n < first + many

pub among_numbers : {Y Z I : Type 0} (f : ℕ → Y → Z) (id : Z → I) (make : ℕ → I) → ((n : ℕ) (y : Y) → id (f n y) ≡ make n) → (first : ℕ) (ys : List Y) (n : ℕ) → Among first (length ys) n
    → Contains (map id (map (λ p. f p.0 p.1) (enumerate_from first ys))) (make n)
among_numbers f id make same first ys n h =
    let k = n - first in
    let low = h.low in
    let high = h.high in
    let lt : k < length ys = omega (arith, low, high) in
    let size = numbers f id first ys in
    (k, omega (arith, lt, size), number_at f id make same first ys k (make n) lt ∙ ap make (omega (arith, low)))

-- what holds of each number in a range holds of the number of each element
pub all_numbered : {Y Z I : Type 0} (P : I → Type 0) (f : ℕ → Y → Z) (id : Z → I) (make : ℕ → I)
    → ((n : ℕ) (y : Y) → id (f n y) ≡ make n) → (first : ℕ) (ys : List Y) → ((n : ℕ) → Among first (length ys) n → P (make n))
    → All P (map id (map (λ p. f p.0 p.1) (enumerate_from first ys)))
all_numbered P f id make same first ys each = λ k d lt.
    let size = numbers f id first ys in
    let within : k < length ys = omega (arith, lt, size) in
    let among : Among first (length ys) (first + k) = record { low = omega arith; high = omega (arith, within) } in
    subst P (sym (number_at f id make same first ys k d within)) (each (first + k) among)

pub once_numbered : {Y Z I : Type 0} (f : ℕ → Y → Z) (id : Z → I) (make : ℕ → I) (value : I → ℕ) → ((n : ℕ) (y : Y) → id (f n y) ≡ make n) → ((n : ℕ) → value (make n) ≡ n) → (first : ℕ) (ys : List Y)
    → AllPairs (λ x y. x ≢ y) (map id (map (λ p. f p.0 p.1) (enumerate_from first ys)))
once_numbered f id make value same back first ys = λ i j d less lt e.
    let size = numbers f id first ys in
    let left = number_at f id make same first ys i d (omega (arith, less, lt, size)) in
    let right = number_at f id make same first ys j d (omega (arith, lt, size)) in
    let equal : first + i ≡ first + j = sym (back (first + i)) ∙ ap value (sym left ∙ e ∙ right) ∙ back (first + j) in
    absurd (omega (arith, less, equal))

-- and the numbers go up by one, beginning with `first`
pub consecutive_numbered : {Y Z I : Type 0} (f : ℕ → Y → Z) (id : Z → I) (make : ℕ → I) (value : I → ℕ) → ((n : ℕ) (y : Y) → id (f n y) ≡ make n) → ((n : ℕ) → value (make n) ≡ n) → (first : ℕ) (ys : List Y)
    → AreConsecutive first (map value (map id (map (λ p. f p.0 p.1) (enumerate_from first ys))))
consecutive_numbered f id make value same back first ys = λ i lt.
    let ids = map id (map (λ p. f p.0 p.1) (enumerate_from first ys)) in
    let size = length-map ids value in
    let many = numbers f id first ys in
    get_or-map value ids i (make 0) 0 (omega (arith, lt, size))
    ∙ ap value (number_at f id make same first ys i (make 0) (omega (arith, lt, size, many))) ∙ back (first + i)

-- also if they are counted from the first element
pub consecutive_from_first : (first : ℕ) (ns : List ℕ) → AreConsecutive first ns → AreConsecutive (get_or ns 0 0) ns
consecutive_from_first first ns sequence = λ i lt. let start = sequence 0 (omega (arith, lt)) in let here = sequence i lt in omega (arith, start, here)

-- what holds of all that each element adds holds of the whole list
pub all_behind : {X Y : Type 0} (P : Y → Type 0) (f : List X → X → List Y) (before xs : List X) → ((i : ℕ) (x : X) → i < length xs → x ≡ get_or xs i x → All P (f (before ++ take i xs) x)) → All P (each_behind f before xs)
all_behind P f before [] each = All-nil P
all_behind P f before (x ∷ xs) each =
    All-append P (f before x) (each_behind f (before ++ x ∷ []) xs) (subst (λ b. All P (f b x)) (append-nil before) (each 0 x (omega arith) refl))
    (all_behind P f (before ++ x ∷ []) xs (λ i y lt is. subst (λ b. All P (f b y)) (sym (append_assoc before (x ∷ []) (take i xs))) (each (suc i) y (omega (arith, lt)) is)))
