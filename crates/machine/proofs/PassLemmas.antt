-- What follows if tests pass.
use Rattle.std.proofs.Common.{◌≡◌, ◌==◌, ℕ, zero, suc, ◌+◌, ◌<◌, Bool, true, false, List, [], ◌∷◌, Some, None, refl, sym, ap, ◌∙◌}
use Rattle.std.proofs.Common.{length, arith, ◌⊎◌, inl, inr, ⊎_elim}
use Rattle.std.specs.Prelude.{Option, get_or, if◌then◌else◌, ◌||◌, ◌&&◌, not}
use Rattle.std.proofs.lemmas.Bool.Decides.{eqb_tells}
use Rattle.program.specs.Lists.{is_among}
use Rattle.program.specs.declared.call.Argument.{Argument}
use Rattle.program.specs.declared.statement.Mention.{Mention}
use Rattle.machine.specs.Answers.{Pass, own_tests}
use Rattle.machine.specs.Blocks.{argument_tests, is_own_still}
use Rattle.machine.specs.Frames.{address, addresses, payloads_claimed}
use Rattle.machine.specs.Heaps.{AreOnce, AreOwned, AreOwnedBy, occurs, one_if}
use Rattle.machine.specs.Outcomes.{Faulty, FaultTest, Waits, test}
use Rattle.machine.specs.World.{Block, block_at, is_own, owns, read}
use Rattle.machine.specs.declared.halts.Fault.{Fault}
use Rattle.machine.specs.declared.halts.Fault.TheVariants.{F1, F3}
use Rattle.machine.proofs.HeapLemmas.{of_some}

-- if tests pass, the first of them holds
first_passes : (own : Bool) (fault : Fault) (tests : List FaultTest) → Pass (test own fault ∷ tests) → own ≡ true
first_passes true fault tests pass = refl
first_passes false fault tests pass = absurd (let bad : Faulty fault ≡ Waits = pass [] Waits in cc)

rest_pass : (own : Bool) (fault : Fault) (tests : List FaultTest) → own ≡ true → Pass (test own fault ∷ tests) → Pass tests
rest_pass true fault tests is pass = λ more o. pass more o
rest_pass false fault tests is pass = absurd (cc)

-- the process owns the block in each of these variables
pub pass_each : (bs : List Block) (self : ℕ) (variables : List (Option ℕ)) (es : List Mention) (i : ℕ) (d : Mention) → i < length es → Pass (own_tests bs self variables es)
    → is_own bs self (read variables (get_or es i d).variable.0) ≡ true
pass_each bs self variables [] i d short pass = absurd (omega arith)
pass_each bs self variables (e ∷ es) zero d short pass = first_passes (is_own bs self (read variables e.variable.0)) F1 (own_tests bs self variables es) pass
pass_each bs self variables (e ∷ es) (suc i) d short pass =
    let first : is_own bs self (read variables e.variable.0) ≡ true = first_passes (is_own bs self (read variables e.variable.0)) F1 (own_tests bs self variables es) pass in
    pass_each bs self variables es i d (omega arith) (rest_pass (is_own bs self (read variables e.variable.0)) F1 (own_tests bs self variables es) first pass)

pub own_at : (bs : List Block) (self : ℕ) (x : Option ℕ) → is_own bs self x ≡ true → owns bs self (address x) ≡ true
own_at bs self None own = absurd (cc)
own_at bs self (Some a) own = own

-- ---- what is given
and_first : (s t : Bool) → (s && t) ≡ true → s ≡ true
and_first true t is = refl
and_first false t is = is

and_not : (s t : Bool) → (s && not t) ≡ true → t ≡ false
and_not true true is = absurd (cc)
and_not true false is = refl
and_not false t is = absurd (cc)

among_own : (x j : ℕ) (rest : List ℕ) → is_among (x ∷ rest) j ≡ true → ((x ≡ j) ⊎ (is_among rest j ≡ true))
among_own x j rest is = ⊎_elim (λ h. inl h.1) (λ h. inr (ap (λ t. t || is_among rest j) (sym h.0) ∙ is)) (eqb_tells x j)

still_owned : (bs : List Block) (self : ℕ) (taken : List ℕ) (x : Option ℕ) → is_own_still bs self taken x ≡ true
    → owns bs self (address x) ≡ true
still_owned bs self taken None own = absurd (cc)
still_owned bs self taken (Some a) own = and_first (owns bs self a) (not (is_among taken a)) own

still_free : (bs : List Block) (self : ℕ) (taken : List ℕ) (x : Option ℕ) → is_own_still bs self taken x ≡ true → is_among taken (address x) ≡ false
still_free bs self taken None own = absurd (cc)
still_free bs self taken (Some a) own = and_not (owns bs self a) (is_among taken a) own

-- arguments that pass their tests are blocks that the process owns
pub pass_owned_by : (bs : List Block) (self : ℕ) (variables : List (Option ℕ)) (taken : List ℕ) (arguments : List Argument)
    → Pass (argument_tests bs self variables taken arguments) → AreOwnedBy bs self (addresses variables arguments)
pass_owned_by bs self variables taken [] pass = record { own = λ j is. absurd (cc) }
pass_owned_by bs self variables taken (a ∷ arguments) pass =
    let x = read variables a.mention.variable.0 in
    let fault = if a.claimed then F3 else F1 in
    let more = if a.claimed then address x ∷ taken else taken in
    let tests = argument_tests bs self variables more arguments in
    let own : is_own_still bs self taken x ≡ true = first_passes (is_own_still bs self taken x) fault tests pass in
    let rest = pass_owned_by bs self variables more arguments (rest_pass (is_own_still bs self taken x) fault tests own pass) in
    record {
      own = λ j is. ⊎_elim (λ same. ap (owns bs self) (sym same) ∙ still_owned bs self taken x own) (λ there. rest.own j there)
          (among_own (address x) j (addresses variables arguments) is);
    }

pub pass_owned : (bs : List Block) (self : ℕ) (variables : List (Option ℕ)) (taken : List ℕ) (arguments : List Argument)
    → Pass (argument_tests bs self variables taken arguments) → AreOwned bs (addresses variables arguments)
pass_owned bs self variables taken arguments pass = record {
  own = λ j is. of_some (block_at bs j).owner self ((pass_owned_by bs self variables taken arguments pass).own j is);
}

-- what a message or a new block claims occurs once, and was not taken before
pub record Once (taken given : List ℕ) : Type 0 where
  pub once : (j : ℕ) → occurs given j ≡ one_if (is_among given j)
  pub apart : (j : ℕ) → is_among taken j ≡ true → is_among given j ≡ false

once_more : (taken rest : List ℕ) (a : ℕ) → is_among taken a ≡ false → Once (a ∷ taken) rest → Once taken (a ∷ rest)
once_more taken rest a free h = record {
  once = λ j. one_at (a == j) (is_among rest j) (occurs rest j) (h.once j) (λ e. h.apart j (ap (λ t. t || is_among taken j) e));
  apart = λ j there.
      ⊎_elim (λ e. absurd (let bad : false ≡ true = sym (ap (is_among taken) (sym e.1) ∙ free) ∙ there in cc))
      (λ e. ap (λ t. t || is_among rest j) e.0 ∙ h.apart j (ap (λ t. t || is_among taken j) e.0 ∙ there)) (eqb_tells a j);
}
  where
    one_at : (here more : Bool) (n : ℕ) → n ≡ one_if more → (here ≡ true → more ≡ false) → one_if here + n ≡ one_if (here || more)
    one_at true more n is not_more = let none : n ≡ 0 = is ∙ ap one_if (not_more refl) in omega arith
    one_at false more n is not_more = let same : n ≡ one_if more = is in omega arith

pass_apart : (bs : List Block) (self : ℕ) (variables : List (Option ℕ)) (taken : List ℕ) (payloads : List Mention) → Pass (argument_tests bs self variables taken (payloads_claimed payloads))
    → Once taken (addresses variables (payloads_claimed payloads))
pass_apart bs self variables taken [] pass = record { once = λ j. refl; apart = λ j there. refl }
pass_apart bs self variables taken (v ∷ payloads) pass =
    let x = read variables v.variable.0 in
    let tests = argument_tests bs self variables (address x ∷ taken) (payloads_claimed payloads) in
    let own : is_own_still bs self taken x ≡ true = first_passes (is_own_still bs self taken x) F3 tests pass in
    once_more taken (addresses variables (payloads_claimed payloads)) (address x) (still_free bs self taken x own)
    (pass_apart bs self variables (address x ∷ taken) payloads (rest_pass (is_own_still bs self taken x) F3 tests own pass))

pub pass_once : (bs : List Block) (self : ℕ) (variables : List (Option ℕ)) (payloads : List Mention) → Pass (argument_tests bs self variables [] (payloads_claimed payloads))
    → AreOnce (addresses variables (payloads_claimed payloads))
pass_once bs self variables payloads pass = record { once = (pass_apart bs self variables [] payloads pass).once }
