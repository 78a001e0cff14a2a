-- Groups of one list by their ends.
use Rattle.std.proofs.Common.{◌≡◌, ℕ, zero, suc, ◌+◌, ◌-◌, ◌<◌, ◌≤◌, List, [], ◌∷◌, ◌++◌, length, map, get_or, take, drop, sym, refl, ap, ◌∙◌, arith, ⊎_elim}
use Rattle.std.specs.List.{between}
use Rattle.std.proofs.Math.ListN.{length-append}
use Rattle.std.proofs.lemmas.Bool.{cases_eq}
use Rattle.std.proofs.lemmas.List.{drop_at, get_or_append_left, get_or_push, take_all, take-append-le, take-map, drop-map}
use Rattle.std.proofs.lemmas.Slice.{between_is}
use Rattle.contracts.specs.Graphs.{group_at}
use Rattle.contracts.specs.Spans.{AreWithin, cut, cut_from, start_of}

-- after the first group, the next one is the first
shift : (start end : ℕ) (ends : List ℕ) (v : ℕ) → start_of start (end ∷ ends) (suc v) ≡ start_of end ends v
shift start end ends zero = refl
shift start end ends (suc v) = refl

pub cut_long : {T : Type 0} (start : ℕ) (items : List T) (ends : List ℕ) → length (cut_from start items ends) ≡ length ends
cut_long start items [] = refl
cut_long start items (end ∷ ends) = ap suc (cut_long end items ends)

-- where a group other than the first begins
pub start_is : (ends : List ℕ) (v : ℕ) → (v ≡ 0 → ⊥) → get_or ends (v - 1) 0 ≡ start_of 0 ends v
start_is ends zero other = absurd (other refl)
start_is ends (suc v) other = ap (λ k. get_or ends k 0) (let one : suc v - 1 ≡ v = omega arith in one)

-- the group at an index
pub cut_at : {T : Type 0} (start : ℕ) (items : List T) (ends : List ℕ) (v : ℕ) → v < length ends → between (start_of start ends v) (get_or ends v 0) items ≡ group_at (cut_from start items ends) v
cut_at start items [] v lt = absurd (omega (arith, lt))
cut_at start items (end ∷ ends) zero lt = refl
cut_at start items (end ∷ ends) (suc v) lt = ap (λ k. between k (get_or ends v 0) items) (shift start end ends v) ∙ cut_at end items ends v (omega (arith, lt))

-- the groups of a mapped list
pub cut_map : {A B : Type 0} (f : A → B) (start : ℕ) (items : List A) (ends : List ℕ) → cut_from start (map f items) ends ≡ map (map f) (cut_from start items ends)
cut_map f start items [] = refl
cut_map f start items (end ∷ ends) =
    ap (λ r. r ∷ cut_from end (map f items) ends) (between_is (map f items) start end ∙ ap (drop start) (take-map f end items) ∙ drop-map f start (take end items) ∙ ap (map f) (sym (between_is items start end)))
    ∙ ap (λ l. map f (between start end items) ∷ l) (cut_map f end items ends)

-- items added at the end change no group
cut_same : {T : Type 0} (start : ℕ) (items more : List T) (ends : List ℕ) → ((v : ℕ) → v < length ends → get_or ends v 0 ≤ length items) → cut_from start (items ++ more) ends ≡ cut_from start items ends
cut_same start items more [] each = refl
cut_same start items more (end ∷ ends) each =
    ap (λ r. r ∷ cut_from end (items ++ more) ends) (between_is (items ++ more) start end ∙ ap (drop start) (take-append-le end items more (each 0 (omega arith))) ∙ sym (between_is items start end))
    ∙ ap (λ l. between start end items ∷ l) (cut_same end items more ends (λ v lt. each (suc v) (omega (arith, lt))))

-- one group more
cut_push : {T : Type 0} (start : ℕ) (items : List T) (ends : List ℕ) (end : ℕ) → cut_from start items (ends ++ end ∷ []) ≡ cut_from start items ends ++ between (start_of start ends (length ends)) end items ∷ []
cut_push start items [] end = refl
cut_push start items (e ∷ ends) end =
    ap (λ l. between start e items ∷ l) (cut_push e items ends end
    ∙ ap (λ k. cut_from e items ends ++ between k end items ∷ []) (sym (shift start e ends (length ends))))

-- the items added last are a group
cut_last : {T : Type 0} (items more : List T) → between (length items) (length (items ++ more)) (items ++ more) ≡ more
cut_last items more = between_is (items ++ more) (length items) (length (items ++ more)) ∙ ap (drop (length items)) (take_all (length (items ++ more)) (items ++ more) (omega arith)) ∙ drop_at items more (length items) refl

pub cut_more : {T : Type 0} (items more : List T) (ends : List ℕ) (end : ℕ) → end ≡ length (items ++ more) → start_of 0 ends (length ends) ≡ length items → AreWithin items ends
    → cut (items ++ more) (ends ++ end ∷ []) ≡ cut items ends ++ more ∷ []
cut_more items more ends end is closed within =
    cut_push 0 (items ++ more) ends end
    ∙ ap (λ l. l ++ between (start_of 0 ends (length ends)) end (items ++ more) ∷ []) (cut_same 0 items more ends (λ v lt. (within v lt).1))
    ∙ ap (λ r. cut items ends ++ r ∷ []) (ap (λ k. between k end (items ++ more)) closed ∙ ap (λ k. between (length items) k (items ++ more)) is ∙ cut_last items more)

-- the last group ends with the items
pub closed_more : (ends : List ℕ) (end : ℕ) → start_of 0 (ends ++ end ∷ []) (length (ends ++ end ∷ [])) ≡ end
closed_more ends end = ap (start_of 0 (ends ++ end ∷ [])) (let size = length-append ends (end ∷ []) in let one : length (ends ++ end ∷ []) ≡ suc (length ends) = omega (arith, size) in one) ∙ get_or_push ends end 0 (length ends) refl

pub within_more : {T : Type 0} (items more : List T) (ends : List ℕ) (end : ℕ) → end ≡ length (items ++ more) → start_of 0 ends (length ends) ≡ length items → AreWithin items ends
    → AreWithin (items ++ more) (ends ++ end ∷ [])
within_more items more ends end is closed within = λ v lt. ⊎_elim
    (λ same.
    let to = get_or_push ends end 0 v (sym same) in
    let from = begins v (omega (arith, same)) ∙ ap (start_of 0 ends) same ∙ closed in
    (omega (arith, to, from, is, longer), omega (arith, to, is)))
    (λ other.
    let less : v < length ends = grind (arith, lt, other, size) in
    let to = get_or_append_left ends (end ∷ []) 0 v less in
    let from = begins v (omega (arith, less)) in
    let old = within v less in
    (omega (arith, to, from, old.0), omega (arith, to, old.1, longer)))
    (cases_eq v (length ends))
  where
    size : length (ends ++ end ∷ []) ≡ length ends + 1
    size = length-append ends (end ∷ [])

    longer : length items ≤ length (items ++ more)
    longer = let long = length-append items more in omega (arith, long)

    begins : (v : ℕ) → v ≤ length ends → start_of 0 (ends ++ end ∷ []) v ≡ start_of 0 ends v
    begins zero le = refl
    begins (suc v) le = get_or_append_left ends (end ∷ []) 0 v (omega (arith, le))
