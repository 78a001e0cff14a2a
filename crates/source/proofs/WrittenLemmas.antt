-- Which kind has these bytes, by what the bytes of all kinds have in common.
use Rattle.std.proofs.Common.{◌≡◌, ◌≢◌, ℕ, ◌<◌, Bool, true, false, List, [], ◌∷◌, length, leb, Some, None, sym, refl, ◌∙◌, ap, arith, eqb-true}
use Rattle.std.specs.Prelude.{◌&&◌, nat_eq, if◌then◌else◌}
use Rattle.std.specs.List.{list_all}
use Rattle.std.specs.Cmp.Lexicographic.{pointwise, unequal}
use Rattle.std.proofs.lemmas.Bool.{false≢true, and_parts, leb-true}
use Rattle.source.specs.declared.kind.Kind.{Kind}
use Rattle.source.specs.Words.{written_so}

-- whether each byte of each of these passes a test
abbrev pub all_bytes : (ℕ → Bool) → List (Kind × List ℕ) → Bool
all_bytes q written = list_all (λ w. list_all q w.1) written

-- a byte that fails the test begins none of them
none_begun : (q : ℕ → Bool) (text : List ℕ) (b : ℕ) (bs : List ℕ) → list_all q text ≡ true → q b ≡ false → pointwise nat_eq text (b ∷ bs) ≡ false
none_begun q [] b bs all out = refl
none_begun q (x ∷ xs) b bs all out = by (nat_eq x b) refl
  where
    by : (t : Bool) → nat_eq x b ≡ t → (t && pointwise nat_eq xs bs) ≡ false
    by true is = absurd (false≢true (sym out ∙ ap q (sym (eqb-true x b is)) ∙ (and_parts (q x) (list_all q xs) all).0))
    by false is = refl

pub none_begins : (q : ℕ → Bool) (written : List (Kind × List ℕ)) (b : ℕ) (bs : List ℕ) → all_bytes q written ≡ true → q b ≡ false → written_so written (b ∷ bs) ≡ None
none_begins q [] b bs all out = refl
none_begins q (w ∷ written) b bs all out =
    let both = and_parts (list_all q w.1) (all_bytes q written) all in
    ap (λ t. if t then Some w.0 else written_so written (b ∷ bs)) (none_begun q w.1 b bs both.0 out) ∙ none_begins q written b bs both.1 out

-- what is longer than each of them is none of them
pub none_longer : (most : ℕ) (written : List (Kind × List ℕ)) (bytes : List ℕ) → list_all (λ w. leb (length w.1) most) written ≡ true → most < length bytes → written_so written bytes ≡ None
none_longer most [] bytes all long = refl
none_longer most (w ∷ written) bytes all long =
    let both = and_parts (leb (length w.1) most) (list_all (λ w. leb (length w.1) most) written) all in
    let apart : length w.1 ≢ length bytes = λ e. omega (arith, e, long, leb-true (length w.1) most both.0) in
    ap (λ t. if t then Some w.0 else written_so written bytes) (unequal nat_eq w.1 bytes apart) ∙ none_longer most written bytes both.1 long

same_bytes : (q : ℕ → Bool) (xs ys : List ℕ) → pointwise nat_eq xs ys ≡ true → list_all q xs ≡ list_all q ys
same_bytes q [] [] h = refl
same_bytes q [] (y ∷ ys) h = absurd (false≢true h)
same_bytes q (x ∷ xs) [] h = absurd (false≢true h)
same_bytes q (x ∷ xs) (y ∷ ys) h =
    let both = and_parts (nat_eq x y) (pointwise nat_eq xs ys) h in
    λ i. q (eqb-true x y both.0 i) && same_bytes q xs ys both.1 i

-- and each byte of one of them passes it
pub bytes_written : (q : ℕ → Bool) (written : List (Kind × List ℕ)) (bytes : List ℕ) (kind : Kind) → all_bytes q written ≡ true → written_so written bytes ≡ Some kind → list_all q bytes ≡ true
bytes_written q [] bytes kind all is = cc
bytes_written q (w ∷ written) bytes kind all is = by (pointwise nat_eq w.1 bytes) refl is (bytes_written q written bytes kind both.1)
  where
    both : (list_all q w.1 ≡ true) × (all_bytes q written ≡ true)
    both = and_parts (list_all q w.1) (all_bytes q written) all

    by : (t : Bool) → pointwise nat_eq w.1 bytes ≡ t → (if t then Some w.0 else written_so written bytes) ≡ Some kind
        → (written_so written bytes ≡ Some kind → list_all q bytes ≡ true) → list_all q bytes ≡ true
    by true same is further = sym (same_bytes q w.1 bytes same) ∙ both.0
    by false other is further = further is
