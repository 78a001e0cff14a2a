-- Lines and pieces in order, one more at the end.
use Rattle.std.proofs.Common.{◌≡◌, ◌<◌, ◌+◌, ℕ, Bool, cond, List, [], ◌∷◌, ◌++◌, length, map, take, get_or, refl, ap, sym, ◌∙◌, arith, append_assoc, append-nil, add-zero, lt-ltb}
use Rattle.std.proofs.lemmas.Grind.{flat_map-append}
use Rattle.std.proofs.lemmas.List.{length-map, length-take-le, map-append, take_more}
use Rattle.std.specs.List.{enumerate_from, flat_map, join_with_byte}
use Rattle.replays.specs.Fronts.{separator}

enumerate_push : {X : Type 0} (n : ℕ) (xs : List X) (y : X) → enumerate_from n (xs ++ y ∷ []) ≡ enumerate_from n xs ++ (n + length xs, y) ∷ []
enumerate_push {X} n [] y = ap (λ k. (k, y) ∷ []) (sym (add-zero n))
enumerate_push {X} n (x ∷ xs) y = ap (λ l. (n, x) ∷ l) (enumerate_push (n + 1) xs y ∙ ap (λ k. enumerate_from (n + 1) xs ++ (k, y) ∷ []) (omega arith))

view_more : {A X : Type 0} (view : A → X) (xs : List A) (i : ℕ) (d x : A) → i < length xs → x ≡ get_or xs i d → map view (take (i + 1) xs) ≡ map view (take i xs) ++ view x ∷ []
view_more view xs i d x lt is = ap (map view) (take_more xs i d lt) ∙ map-append view (take i xs) (get_or xs i d ∷ []) ∙ ap (λ y. map view (take i xs) ++ view y ∷ []) (sym is)

so_many : {A X : Type 0} (view : A → X) (xs : List A) (i : ℕ) → i < length xs → length (map view (take i xs)) ≡ i
so_many view xs i lt = length-map (take i xs) view ∙ length-take-le i xs (omega arith)

-- one more line
pub line_more : {A X : Type 0} (view : A → X) (f : ℕ × X → List ℕ) (old answer new : List ℕ) (xs : List A) (i : ℕ) (d x : A) → i < length xs → x ≡ get_or xs i d
    → answer ≡ old ++ flat_map f (enumerate_from 0 (map view (take i xs))) → new ≡ answer ++ f (i, view x) → new ≡ old ++ flat_map f (enumerate_from 0 (map view (take (i + 1) xs)))
line_more view f old answer new xs i d x lt is before e =
    let place : 0 + length (map view (take i xs)) ≡ i = omega (arith, so_many view xs i lt) in
    let told = enumerate_from 0 (map view (take i xs)) in
    let lines : flat_map f (enumerate_from 0 (map view (take (i + 1) xs))) ≡ flat_map f told ++ f (i, view x) =
    ap (λ l. flat_map f (enumerate_from 0 l)) (view_more view xs i d x lt is)
    ∙ ap (flat_map f) (enumerate_push 0 (map view (take i xs)) (view x))
    ∙ flat_map-append f told ((0 + length (map view (take i xs)), view x) ∷ [])
    ∙ ap (λ k. flat_map f told ++ (f (k, view x) ++ [])) place
    ∙ ap (λ l. flat_map f told ++ l) (append-nil (f (i, view x))) in
    e ∙ ap (λ a. a ++ f (i, view x)) before ∙ append_assoc old (flat_map f told) (f (i, view x)) ∙ ap (λ l. old ++ l) (sym lines)

before_some : (n c : ℕ) → 0 < n → separator n c ≡ c ∷ []
before_some n c h = ap (λ (b : Bool). cond b (c ∷ []) []) (lt-ltb 0 n h)

join_push : (c : ℕ) (xs : List (List ℕ)) (y : List ℕ) → join_with_byte c (xs ++ y ∷ []) ≡ join_with_byte c xs ++ (separator (length xs) c ++ y)
join_push c [] y = refl
join_push c (x ∷ []) y = refl
join_push c (x ∷ z ∷ xs) y = ap (λ l. x ++ (c ∷ l)) (join_push c (z ∷ xs) y)
    ∙ sym (append_assoc x (c ∷ join_with_byte c (z ∷ xs)) (separator (length (z ∷ xs)) c ++ y))
    ∙ ap (λ s. (x ++ (c ∷ join_with_byte c (z ∷ xs))) ++ (s ++ y)) (before_some (length (z ∷ xs)) c (omega arith) ∙ sym (before_some (length (x ∷ z ∷ xs)) c (omega arith)))

-- one more piece, after its separator
pub piece_more : {A : Type 0} (view : A → List ℕ) (c : ℕ) (old answer between new : List ℕ) (xs : List A) (i : ℕ) (d x : A) → i < length xs → x ≡ get_or xs i d
    → answer ≡ old ++ join_with_byte c (map view (take i xs)) → between ≡ answer ++ separator i c → new ≡ between ++ view x → new ≡ old ++ join_with_byte c (map view (take (i + 1) xs))
piece_more view c old answer between new xs i d x lt is before sep e =
    let pieces = join_with_byte c (map view (take i xs)) in
    let joined : join_with_byte c (map view (take (i + 1) xs)) ≡ pieces ++ (separator i c ++ view x) =
    ap (join_with_byte c) (view_more view xs i d x lt is) ∙ join_push c (map view (take i xs)) (view x) ∙ ap (λ k. pieces ++ (separator k c ++ view x)) (so_many view xs i lt) in
    e ∙ ap (λ l. l ++ view x) (sep ∙ ap (λ a. a ++ separator i c) before)
    ∙ append_assoc (old ++ pieces) (separator i c) (view x) ∙ append_assoc old pieces (separator i c ++ view x) ∙ ap (λ l. old ++ l) (sym joined)

-- two maps in sequence are one
pub map_twice : {A B C : Type 0} (f : B → C) (g : A → B) (xs : List A) → map f (map g xs) ≡ map (λ x. f (g x)) xs
map_twice f g [] = refl
map_twice f g (x ∷ xs) = ap (λ l. f (g x) ∷ l) (map_twice f g xs)

-- four pieces appended in turn
pub four_added : (a b c d x y z w : List ℕ) → x ≡ [] → y ≡ x ++ a → z ≡ y ++ b → w ≡ z ++ c → (v : List ℕ) → v ≡ w ++ d → v ≡ a ++ (b ++ (c ++ d))
four_added a b c d x y z w e f g h v k =
    k ∙ ap (λ l. l ++ d) (h ∙ ap (λ l. l ++ c) (g ∙ ap (λ l. l ++ b) (f ∙ ap (λ l. l ++ a) e)))
    ∙ append_assoc (a ++ b) c d ∙ append_assoc a b (c ++ d)

-- five pieces appended in turn
pub five_added : (a b c d e o x y z w v : List ℕ) → x ≡ o ++ a → y ≡ x ++ b → z ≡ y ++ c → w ≡ z ++ d → v ≡ w ++ e → v ≡ o ++ (a ++ (b ++ (c ++ (d ++ e))))
five_added a b c d e o x y z w v f g h k m =
    m ∙ ap (λ l. l ++ e) (k ∙ ap (λ l. l ++ d) (h ∙ ap (λ l. l ++ c) (g ∙ ap (λ l. l ++ b) f)))
    ∙ append_assoc (((o ++ a) ++ b) ++ c) d e ∙ append_assoc ((o ++ a) ++ b) c (d ++ e) ∙ append_assoc (o ++ a) b (c ++ (d ++ e)) ∙ append_assoc o a (b ++ (c ++ (d ++ e)))
