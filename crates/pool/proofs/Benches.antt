-- What a worker has done grows with what it takes.
use Rattle.std.proofs.Common.{◌≡◌, ℕ, ◌+◌, List, ◌++◌, ap, ◌∙◌, arith}
use Rattle.pool.specs.declared.bench.Bench.{Bench}
use Rattle.pool.specs.declared.held.Hand.{Hand}
use Rattle.pool.specs.declared.held.HeldTask.{HeldTask}
use Rattle.pool.specs.Rule.{copies, hand}
use Rattle.pool.specs.Counts.{Does}
use Rattle.pool.proofs.Shares.{copies-append}

module _ {S X : Type 0} (gives : ℕ → X → Type 0) where
  -- one more task was taken and done
  pub does_more : (before mid more after : ℕ → ℕ) (first old new : Bench S X) → ((n : ℕ) → after n ≡ mid n + more n) → Does gives before mid first old
      → Does gives (λ n. 0) more old new → Does gives before after first new
  does_more before mid more after first old new sum so_far one = record {
    counted = λ n. let a = so_far.counted n in let b = one.counted n in let s = sum n in omega arith;
    given = λ g. one.given (so_far.given g);
  }

-- the tasks taken, after more of them are added to a hand
pub took_more : (v w : Hand) (xs : List HeldTask) → w ≡ hand v.parts v.put (v.taken ++ xs) → (n : ℕ) → copies n w.taken ≡ copies n v.taken + copies n xs
took_more v w xs is n = ap (λ (u : Hand). copies n u.taken) is ∙ copies-append n v.taken xs
