-- Counts of tasks that were put, and of results.
use Rattle.std.proofs.Common.{◌≡◌, ◌==◌, ℕ, ◌+◌, List, [], ◌∷◌, ◌++◌, cond}
use Rattle.std.proofs.lemmas.List.Sums.{sum_by-append}
use Rattle.pool.specs.Counts.{times}

-- the occurrences of a number in two lists add up
pub times-append : (n : ℕ) (xs ys : List ℕ) → times n (xs ++ ys) ≡ times n xs + times n ys
times-append n xs ys = sum_by-append (λ x. cond (x == n) 1 0) xs ys

pub times-cons : (n x : ℕ) (xs : List ℕ) → times n (x ∷ xs) ≡ times n (x ∷ []) + times n xs
times-cons n x xs = times-append n (x ∷ []) xs
