-- Mistakes that are added one after another.
use Rattle.std.proofs.Common.{◌≡◌, ℕ, ◌+◌, ◌<◌, List, [], ◌∷◌, ◌++◌, length, take, get_or, sym, ap, ◌∙◌, append_assoc, append-nil}
use Rattle.std.specs.List.{flat_map}
use Rattle.std.proofs.lemmas.List.{flat_map_more, take_more}
use Rattle.declarations.specs.Mistakes.{Adds}
use Rattle.declarations.specs.declared.mistake.Mistake.{Mistake}

pub adds_none : (old : List Mistake) → Adds old old []
adds_none old = record { all = sym (append-nil old) }

pub adds_then : {old mid new : List Mistake} {a b : List Mistake} → Adds old mid a → Adds mid new b → Adds old new (a ++ b)
adds_then {a = a} {b = b} first second = record { all = second.all ∙ ap (λ l. l ++ b) first.all ∙ append_assoc _ a b }

pub flat_map_taken : {X A : Type 0} (f : X → List A) (xs : List X) (i : ℕ) (x : X) → i < length xs → x ≡ get_or xs i x → flat_map f (take i xs) ++ f x ≡ flat_map f (take (i + 1) xs)
flat_map_taken f xs i x lt is = flat_map_more f [] (take i xs) x ∙ ap (flat_map f) (sym (take_more xs i x lt ∙ ap (λ y. take i xs ++ y ∷ []) (sym is)))

-- one more element adds its mistakes after those of the elements before it
pub adds_more : {X : Type 0} {old mid new : List Mistake} (f : X → List Mistake) (xs : List X) (i : ℕ) (x : X) → i < length xs → x ≡ get_or xs i x → Adds old mid (flat_map f (take i xs)) → Adds mid new (f x) → Adds old new (flat_map f (take (i + 1) xs))
adds_more {old = old} f xs i x lt is first second = record {
  all = (adds_then first second).all ∙ ap (λ l. old ++ l) (flat_map_taken f xs i x lt is);
}

-- the same for the element at an index
pub adds_at : {X : Type 0} {old mid new : List Mistake} (f : X → List Mistake) (xs : List X) (i : ℕ) (d : X) → i < length xs → Adds old mid (flat_map f (take i xs)) → Adds mid new (f (get_or xs i d)) → Adds old new (flat_map f (take (i + 1) xs))
adds_at {old = old} f xs i d lt first second = record {
  all = (adds_then first second).all ∙ ap (λ l. old ++ l) (flat_map_more f [] (take i xs) (get_or xs i d) ∙ ap (flat_map f) (sym (take_more xs i d lt)));
}
