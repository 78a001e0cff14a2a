-- Names that repeat an earlier one.
use Rattle.std.proofs.Common.{◌≡◌, ℕ, ◌+◌, ◌<◌, ◌≤◌, zero, suc, Bool, true, not, cond, ltb, List, [], ◌∷◌, ◌++◌, length, take, drop, get_or, Some, None, sym, refl, ap, ◌∙◌, subst, arith, append_assoc, take-append-drop, drop-cons, ⊎_elim}
use Rattle.std.specs.Prelude.{option_and_then, option_map, slice_get}
use Rattle.std.specs.List.{position_or_len}
use Rattle.std.proofs.lemmas.Bool.{cond-true, cond-false, lt-ltb, le-ltb, cases_lt}
use Rattle.std.proofs.lemmas.List.{take_more, map-append, length-map, length-take-le, drop_all, append-nil}
use Rattle.std.proofs.lemmas.List.Sums.{prefix_len-le-length}
use Rattle.std.proofs.lemmas.Option.{slice_get-map, slice_get-get_or}
use Rattle.std.proofs.lemmas.Slice.Eq.{bytes_eq-Decides}
use Rattle.std.proofs.Math.ListN.{length-append}
use Rattle.declarations.specs.declared.mistake.Mistake.{Mistake}
use Rattle.source.specs.declared.token.Span.{Span}
use Rattle.declarations.specs.Listed.{name_among, twice, twice_behind, twice_among}
use Rattle.tables.specs.Firsts.{IsApart, first_of}
use Rattle.declarations.specs.Mistakes.{Adds}
use Rattle.tables.specs.Words.{word_at, words_at, same_word}
use Rattle.declarations.proofs.AddLemmas.{adds_then, adds_none}

-- if an element passes, the first one that does is that element or one before it
first_behind : {X : Type 0} (p : X → Bool) (xs : List X) (y : X) (ys : List X) → p y ≡ true → position_or_len p (xs ++ y ∷ ys) ≡ position_or_len p xs
first_behind p [] y ys passes = cond-false {A = ℕ} (not (p y)) (1 + position_or_len p ys) 0 (ap not passes)
first_behind p (x ∷ xs) y ys passes = ap (λ n. cond (not (p x)) (1 + n) 0) (first_behind p xs y ys passes)

-- a word that follows others is new, or is among them
pub record Behind (words : List (List ℕ)) (word : List ℕ) (all : List (List ℕ)) : Type 0 where
  pub new : first_of all word ≡ Some (length words) → first_of words word ≡ None
  pub old : (first_of all word ≡ Some (length words) → ⊥) → (n : ℕ) × (n < length words) × (first_of words word ≡ Some n) × (first_of all word ≡ Some n)

pub behind : (words : List (List ℕ)) (word : List ℕ) (more : List (List ℕ)) → Behind words word (words ++ word ∷ more)
behind words word more =
    let p : List ℕ → Bool = same_word word in
    let n = position_or_len p words in
    let size = length-append words (word ∷ more) in
    let most = prefix_len-le-length (λ x. not (p x)) words in
    let here : position_or_len p (words ++ word ∷ more) ≡ n = first_behind p words word more ((bytes_eq-Decides word word).1 refl) in
    let less : n < length (words ++ word ∷ more) = omega (arith, size, most) in
    let all : first_of (words ++ word ∷ more) word ≡ Some n = ap (λ i. cond (ltb i (length (words ++ word ∷ more))) (Some i) None) here ∙ cond-true (ltb n (length (words ++ word ∷ more))) (Some n) None (lt-ltb n _ less) in
    record {
      new = λ e. let same : Some n ≡ Some (length words) = sym all ∙ e in let at : n ≡ length words = cc in
          cond-false (ltb n (length words)) (Some n) None (le-ltb n (length words) (omega (arith, at)));
      old = λ ne. ⊎_elim
          (λ lt. (n, lt, cond-true (ltb n (length words)) (Some n) None (lt-ltb n (length words) lt), all))
          (λ le. let at : n ≡ length words = omega (arith, le, most) in absurd (ne (all ∙ ap Some at)))
          (cases_lt n (length words));
    }

-- an element of the front has the same index in the whole list
kept : {X : Type 0} (xs : List X) (i n : ℕ) → n < i → slice_get (take i xs) n ≡ slice_get xs n
kept xs zero n lt = absurd (omega (arith, lt))
kept [] (suc i) n lt = refl
kept (x ∷ xs) (suc i) zero lt = refl
kept (x ∷ xs) (suc i) (suc n) lt = kept xs i n (omega (arith, lt))

-- the names from an index on
rest_is : (names : List Span) (i : ℕ) (d : Span) → i < length names → drop i names ≡ get_or names i d ∷ drop (i + 1) names
rest_is names i d lt = let next : suc i ≡ i + 1 = omega arith in drop-cons names i d lt ∙ ap (λ n. get_or names i d ∷ drop n names) next

-- the names before index i were checked
pub record TwiceSoFar (text : List ℕ) (names : List Span) (i : ℕ) (old new : List Mistake) : Type 0 where
  pub more : List Mistake
  pub adds : Adds old new more
  pub rest : twice_among text names ≡ more ++ twice_behind text (take i names) (drop i names)

pub twice_start : (text : List ℕ) (names : List Span) (old : List Mistake) → TwiceSoFar text names 0 old old
twice_start text names old = record { more = []; adds = adds_none old; rest = refl }

pub twice_end : {text : List ℕ} {names : List Span} {i : ℕ} {old new : List Mistake} → TwiceSoFar text names i old new → length names ≤ i → Adds old new (twice_among text names)
twice_end {text = text} {names = names} {i = i} {old = old} {new = new} so le = subst (Adds old new) (sym (so.rest ∙ ap (λ l. so.more ++ twice_behind text (take i names) l) (drop_all i names le) ∙ append-nil so.more)) so.adds

-- the mistake that a name adds, if it repeats an earlier one
abbrev pub twice_here : List ℕ → List Span → ℕ → Span → List Mistake
twice_here text names i name = twice name (name_among text (take i names) name)

pub twice_step : (text : List ℕ) (names : List Span) (i : ℕ) (d : Span) (old mid new : List Mistake) → TwiceSoFar text names i old mid → i < length names
    → Adds mid new (twice_here text names i (get_or names i d)) → TwiceSoFar text names (i + 1) old new
twice_step text names i d old mid new so lt one =
    let name = get_or names i d in
    record {
      more = so.more ++ twice_here text names i name;
      adds = adds_then so.adds one;
      rest = so.rest
          ∙ ap (λ l. so.more ++ twice_behind text (take i names) l) (rest_is names i d lt)
          ∙ sym (append_assoc so.more (twice_here text names i name) (twice_behind text (take i names ++ name ∷ []) (drop (i + 1) names)))
          ∙ ap (λ l. (so.more ++ twice_here text names i name) ++ twice_behind text l (drop (i + 1) names)) (sym (take_more names i d lt));
    }

behind_here : (text : List ℕ) (names : List Span) (i : ℕ) (d : Span) → i < length names → Behind (words_at text (take i names)) (word_at text (get_or names i d)) (words_at text names)
behind_here text names i d lt =
    let name = get_or names i d in
    subst (Behind (words_at text (take i names)) (word_at text name))
    (sym (ap (words_at text) (sym (take-append-drop i names) ∙ ap (λ l. take i names ++ l) (rest_is names i d lt)) ∙ map-append (word_at text) (take i names) (name ∷ drop (i + 1) names)))
    (behind (words_at text (take i names)) (word_at text name) (words_at text (drop (i + 1) names)))

count_here : (text : List ℕ) (names : List Span) (i : ℕ) → i < length names → length (words_at text (take i names)) ≡ i
count_here text names i lt = length-map (take i names) (word_at text) ∙ length-take-le i names (omega (arith, lt))

-- a name adds nothing if it is the first of its kind, and else a mistake that shows the first
pub first_adds : (text : List ℕ) (names : List Span) (i : ℕ) (d : Span) (old : List Mistake) → i < length names → first_of (words_at text names) (word_at text (get_or names i d)) ≡ Some i → Adds old old (twice_here text names i (get_or names i d))
first_adds text names i d old lt first =
    let name = get_or names i d in
    let none = (behind_here text names i d lt).new (first ∙ ap Some (sym (count_here text names i lt))) in
    subst (λ o. Adds old old (twice name (option_and_then (slice_get (take i names)) o))) (sym none) (adds_none old)

pub later_adds : (text : List ℕ) (names : List Span) (i : ℕ) (d : Span) (old new : List Mistake) → i < length names → (first_of (words_at text names) (word_at text (get_or names i d)) ≡ Some i → ⊥) → Adds old new (twice (get_or names i d) (name_among text names (get_or names i d))) → Adds old new (twice_here text names i (get_or names i d))
later_adds text names i d old new lt later one =
    let name = get_or names i d in
    let first = (behind_here text names i d lt).old (λ e. later (e ∙ ap Some (count_here text names i lt))) in
    let counted = count_here text names i lt in
    let is : name_among text (take i names) name ≡ name_among text names name =
    ap (option_and_then (slice_get (take i names))) first.2 ∙ kept names i first.0 (omega (arith, first.1, counted)) ∙ sym (ap (option_and_then (slice_get names)) first.3) in
    subst (λ o. Adds old new (twice name o)) (sym is) one

-- if no name occurs twice, no name adds a mistake
none_so_far : (text : List ℕ) (names : List Span) (d : Span) (old : List Mistake) → IsApart (words_at text names) → (k : ℕ) → k ≤ length names → TwiceSoFar text names k old old
none_so_far text names d old apart zero le = twice_start text names old
none_so_far text names d old apart (suc k) le =
    let lt : k < length names = omega (arith, le) in
    let word = word_at text (get_or names k d) in
    let at : slice_get (words_at text names) k ≡ Some word = slice_get-map (word_at text) names k ∙ ap (option_map (word_at text)) (slice_get-get_or names k d lt) in
    let next : k + 1 ≡ suc k = omega arith in
    subst (λ i. TwiceSoFar text names i old old) next
    (twice_step text names k d old old old (none_so_far text names d old apart k (omega (arith, le))) lt (first_adds text names k d old lt (apart.first k word at)))

pub apart_adds : (text : List ℕ) (names : List Span) (d : Span) (old : List Mistake) → IsApart (words_at text names) → Adds old old (twice_among text names)
apart_adds text names d old apart = twice_end (none_so_far text names d old apart (length names) (omega arith)) (omega arith)
