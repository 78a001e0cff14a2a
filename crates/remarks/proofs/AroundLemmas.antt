-- Searches in a list of trees, by their nodes in memory.
use Rattle.std.proofs.Common.{◌≡◌, ℕ, ◌+◌, Bool, Bor, true, false, cond, not, List, [], ◌∷◌, ◌++◌, length, map, reverse, Option, Some, None, sym, refl, ap, ◌∙◌, arith}
use Rattle.std.specs.Prelude.{find, nat_lt, option_map, option_and_then, position, slice_get}
use Rattle.std.specs.List.{position_or_len}
use Rattle.std.proofs.lemmas.Bool.Decides.{nat_tests}
use Rattle.std.proofs.lemmas.List.{length-map, map-append, reverse-append}
use Rattle.std.proofs.lemmas.List.Folds.{find_at}
use Rattle.std.proofs.lemmas.Option.{slice_get_past}
use Rattle.std.proofs.lemmas.Simd.{map-map}
use Rattle.source.specs.declared.token.Span.{Span}
use Rattle.tables.specs.Words.{word_at, words_at}

in_two_steps : {X Y Z : Type 0} (g : Y → Z) (f : X → Y) (o : Option X) → option_map (λ x. g (f x)) o ≡ option_map g (option_map f o)
in_two_steps g f None = refl
in_two_steps g f (Some x) = refl

mapped_choice : {X Y : Type 0} (f : X → Y) (b : Bool) (x : X) (o : Option X) → cond b (Some (f x)) (option_map f o) ≡ option_map f (cond b (Some x) o)
mapped_choice f true x o = refl
mapped_choice f false x o = refl

find_mapped : {X Y : Type 0} (f : X → Y) (test : Y → Bool) (xs : List X) → find test (map f xs) ≡ option_map f (find (λ x. test (f x)) xs)
find_mapped f test [] = refl
find_mapped f test (x ∷ xs) =
    ap (cond (test (f x)) (Some (f x))) (find_mapped f test xs) ∙ mapped_choice f (test (f x)) x (find (λ x. test (f x)) xs)

reverse_mapped : {X Y : Type 0} (f : X → Y) (xs : List X) → reverse (map f xs) ≡ map f (reverse xs)
reverse_mapped f [] = refl
reverse_mapped f (x ∷ xs) =
    reverse-append (f x ∷ []) (map f xs) ∙ ap (λ l. l ++ f x ∷ []) (reverse_mapped f xs) ∙ sym (map-append f (reverse xs) (x ∷ []))
    ∙ ap (map f) (sym (reverse-append (x ∷ []) xs))

-- the last that passes a test
pub last_seen : {X Y : Type 0} (f : X → Y) (test : Y → Bool) (xs : List X) (o : Option (Bor X)) → option_map (λ x. x.now) o ≡ find (λ x. test (f x)) (reverse xs)
    → option_map (λ x. f x.now) o ≡ find test (reverse (map f xs))
last_seen f test xs o found =
    in_two_steps f (λ x. x.now) o ∙ ap (option_map f) found ∙ sym (find_mapped f test (reverse xs)) ∙ ap (find test) (sym (reverse_mapped f xs))

place_mapped : {X Y : Type 0} (f : X → Y) (test : Y → Bool) (xs : List X) → position_or_len test (map f xs) ≡ position_or_len (λ x. test (f x)) xs
place_mapped f test [] = refl
place_mapped f test (x ∷ xs) = ap (λ n. cond (not (test (f x))) (1 + n) 0) (place_mapped f test xs)

there : {X : Type 0} (xs : List X) (n : ℕ) → option_and_then (slice_get xs) (cond (nat_lt n (length xs)) (Some n) None) ≡ slice_get xs n
there xs n = grind (arith, nat_tests, slice_get_past)

-- the first element with an image that passes a test
first_mapped : {X Y : Type 0} (f : X → Y) (test : Y → Bool) (xs : List X) → option_and_then (slice_get xs) (position test (map f xs)) ≡ find (λ x. test (f x)) xs
first_mapped f test xs =
    ap (λ n. option_and_then (slice_get xs) (cond (nat_lt n (length (map f xs))) (Some n) None)) (place_mapped f test xs)
    ∙ ap (λ k. option_and_then (slice_get xs) (cond (nat_lt (position_or_len (λ x. test (f x)) xs) k) (Some (position_or_len (λ x. test (f x)) xs)) None)) (length-map xs f)
    ∙ there xs (position_or_len (λ x. test (f x)) xs)
    ∙ sym (find_at (λ x. test (f x)) xs)

-- the first with a name that passes a test
pub first_seen : {X Y : Type 0} (f : X → Y) (text : List ℕ) (name : Y → Span) (test : List ℕ → Bool) (xs : List X) (o : Option (Bor X)) → option_map (λ x. x.now) o ≡ find (λ x. test (word_at text (name (f x)))) xs
    → option_map (λ x. f x.now) o ≡ option_and_then (slice_get (map f xs)) (position test (words_at text (map name (map f xs))))
first_seen f text name test xs o found =
    in_two_steps f (λ x. x.now) o ∙ ap (option_map f) found ∙ sym (find_mapped f (λ y. test (word_at text (name y))) xs)
    ∙ sym (first_mapped (λ y. word_at text (name y)) test (map f xs))
    ∙ ap (λ words. option_and_then (slice_get (map f xs)) (position test words)) (sym (map-map (word_at text) name (map f xs)))
