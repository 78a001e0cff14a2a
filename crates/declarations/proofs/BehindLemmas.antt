-- Lists whose elements depend on those before them: one more element.
use Rattle.std.proofs.Common.{◌≡◌, ℕ, zero, suc, ◌+◌, ◌<◌, ◌≤◌, List, [], ◌∷◌, ◌++◌, length, map, take, get_or, sym, refl, ap, ◌∙◌, arith, append_assoc, append-nil}
use Rattle.std.specs.List.{flat_map, enumerate_from}
use Rattle.std.proofs.lemmas.List.{map-append, take_more, length-take-le, length-map, take-map, get_or-map, nil_from_length}
use Rattle.std.proofs.lemmas.List.Folds.{length-flat_map-take}
use Rattle.lemmas.proofs.Lists.{enumerate_push}
use Rattle.declarations.specs.Resolution.{each_behind}

-- the first i elements, and one more
pub mapped_more : {X Y : Type 0} (g : X → Y) (xs : List X) (i : ℕ) (x : X) → i < length xs → x ≡ get_or xs i x → map g (take (i + 1) xs) ≡ map g (take i xs) ++ g x ∷ []
mapped_more g xs i x lt is =
    ap (map g) (take_more xs i x lt ∙ ap (λ y. take i xs ++ y ∷ []) (sym is)) ∙ map-append g (take i xs) (x ∷ [])

pub behind_push : {X Y : Type 0} (f : List X → X → List Y) (before xs : List X) (x : X) → each_behind f before (xs ++ x ∷ []) ≡ each_behind f before xs ++ f (before ++ xs) x
behind_push f before [] x = append-nil (f before x) ∙ sym (ap (λ l. f l x) (append-nil before))
behind_push f before (y ∷ ys) x =
    ap (λ l. f before y ++ l) (behind_push f (before ++ y ∷ []) ys x ∙ ap (λ l. each_behind f (before ++ y ∷ []) ys ++ f l x) (append_assoc before (y ∷ []) ys))
    ∙ sym (append_assoc (f before y) (each_behind f (before ++ y ∷ []) ys) (f (before ++ (y ∷ ys)) x))

pub behind_more : {X Y Z : Type 0} (f : List Y → Y → List Z) (g : X → Y) (xs : List X) (i : ℕ) (x : X) → i < length xs → x ≡ get_or xs i x
    → each_behind f [] (map g (take (i + 1) xs)) ≡ each_behind f [] (map g (take i xs)) ++ f (map g (take i xs)) (g x)
behind_more f g xs i x lt is = ap (each_behind f []) (mapped_more g xs i x lt is) ∙ behind_push f [] (map g (take i xs)) (g x)

-- the front and what one more element adds are no longer than the whole
pub flat_room : {X Y Z : Type 0} (f : Y → List Z) (g : X → Y) (xs : List X) (i : ℕ) (x : X) → i < length xs → x ≡ get_or xs i x
    → length (flat_map f (map g (take i xs))) + length (f (g x)) ≤ length (flat_map f (map g xs))
flat_room f g xs i x lt is =
    let all = length-flat_map-take f (map g xs) i (g x) (let size = length-map xs g in omega (arith, lt, size)) in
    let front : length (flat_map f (take i (map g xs))) ≡ length (flat_map f (map g (take i xs))) = ap (λ l. length (flat_map f l)) (take-map g i xs) in
    let here : length (f (get_or (map g xs) i (g x))) ≡ length (f (g x)) = ap (λ y. length (f y)) (get_or-map g xs i x (g x) lt ∙ sym (ap g is)) in
    omega (arith, all, front, here)

-- if nothing is added in all, no element adds anything
pub nothing_in : {X Y : Type 0} (f : X → List Y) (xs : List X) (i : ℕ) (d : X) → i < length xs → flat_map f xs ≡ [] → f (get_or xs i d) ≡ []
nothing_in f xs i d lt none =
    let room = length-flat_map-take f xs i d lt in
    let size : length (flat_map f xs) ≡ 0 = ap length none in
    nil_from_length (f (get_or xs i d)) (omega (arith, room, size))

pub nothing_at : {X Y Z : Type 0} (f : Y → List Z) (g : X → Y) (xs : List X) (i : ℕ) (x : X) → i < length xs → x ≡ get_or xs i x → flat_map f (map g xs) ≡ [] → f (g x) ≡ []
nothing_at f g xs i x lt is none =
    let size = length-map xs g in
    sym (ap f (get_or-map g xs i x (g x) lt ∙ sym (ap g is))) ∙ nothing_in f (map g xs) i (g x) (omega (arith, lt, size)) none

-- one more number
pub number_more : {X Y Z W : Type 0} (f : ℕ → Y → Z) (part : W → Z) (g : X → Y) (n : ℕ) (xs : List X) (i : ℕ) (x : X) (ws more : List W) (w : W) → i < length xs → x ≡ get_or xs i x
    → map part ws ≡ map (λ p. f p.0 p.1) (enumerate_from n (map g (take i xs))) → more ≡ ws ++ w ∷ [] → part w ≡ f (n + i) (g x)
    → map part more ≡ map (λ p. f p.0 p.1) (enumerate_from n (map g (take (i + 1) xs)))
number_more f part g n xs i x ws more w lt is all new one =
    let front = map g (take i xs) in
    let each = λ (p : ℕ × _). f p.0 p.1 in
    let size : length front ≡ i = length-map (take i xs) g ∙ length-take-le i xs (omega (arith, lt)) in
    ap (map part) new ∙ map-append part ws (w ∷ []) ∙ ap (λ l. l ++ part w ∷ []) all ∙ ap (λ z. map each (enumerate_from n front) ++ z ∷ []) (one ∙ ap (λ k. f (n + k) (g x)) (sym size))
    ∙ sym (map-append each (enumerate_from n front) ((n + length front, g x) ∷ []))
    ∙ ap (map each) (sym (enumerate_push n front (g x)) ∙ ap (enumerate_from n) (sym (mapped_more g xs i x lt is)))

-- the one element that index i adds
pub single_at : {X Y : Type 0} (f : List X → Y) (before xs : List X) (i : ℕ) (d : Y) → i < length xs → get_or (each_behind (λ b x. f b ∷ []) before xs) i d ≡ f (before ++ take i xs)
single_at f before [] i d lt = absurd (omega (arith, lt))
single_at f before (x ∷ xs) zero d lt = ap f (sym (append-nil before))
single_at f before (x ∷ xs) (suc i) d lt = single_at f (before ++ x ∷ []) xs i d (omega (arith, lt)) ∙ ap f (append_assoc before (x ∷ []) (take i xs))

pub singles : {X Y : Type 0} (f : List X → Y) (before xs : List X) → length (each_behind (λ b x. f b ∷ []) before xs) ≡ length xs
singles f before [] = refl
singles f before (x ∷ xs) = let rest = singles f (before ++ x ∷ []) xs in omega (arith, rest)
