-- What follows if the tests of an event pass.
use Rattle.std.proofs.Common.{◌≡◌, ◌∷◌, ◌++◌, ℕ, Bool, true, false, List, [], Contains, Option, Some, None}
use Rattle.std.proofs.Common.{map, refl, subst, ⊎_elim}
use Rattle.std.specs.Prelude.{if◌then◌else◌, slice_get}
use Rattle.std.proofs.lemmas.List.{append-nil}
use Rattle.std.proofs.lemmas.Option.{get_or_from_slice_get, slice_get_within}
use Rattle.program.specs.declared.call.Argument.{Argument}
use Rattle.program.specs.declared.statement.Mention.{Mention}
use Rattle.machine.specs.Blocks.{argument_tests, is_own_still}
use Rattle.machine.specs.Frames.{address, addresses}
use Rattle.machine.specs.Outcomes.{FaultTest, Moved, Outcome, after_tests, test}
use Rattle.machine.specs.World.{Block, Frame, World, is_own, read}
use Rattle.machine.specs.declared.halts.Fault.{Fault}
use Rattle.machine.specs.declared.halts.Fault.TheVariants.{F1, F3}
use Rattle.lost.proofs.MarkLemmas.{first_or, none_in}
use Rattle.lost.proofs.StayLemmas.{AreKept, AreListed, IsNext, IsOldOrNew}
use Rattle.lost.proofs.StayLemmas.{read_kept}

-- a variable whose block a process owns has an address
pub own_some : (bs : List Block) (self : ℕ) (x : Option ℕ) → is_own bs self x ≡ true → x ≡ Some (address x)
own_some bs self None own = absurd (cc)
own_some bs self (Some a) own = refl

pub still_some : (bs : List Block) (self : ℕ) (taken : List ℕ) (x : Option ℕ) → is_own_still bs self taken x ≡ true → x ≡ Some (address x)
still_some bs self taken None own = absurd (cc)
still_some bs self taken (Some a) own = refl

-- what is at an index of a list is in it
pub in_list : {X : Type 0} (xs : List X) (k : ℕ) (x : X) → slice_get xs k ≡ Some x → Contains xs x
in_list xs k x is = (k, slice_get_within xs k x is, get_or_from_slice_get xs k x x is)

-- if the event is a step, this is true of the next world
abbrev pub IsAfter : (World → Type 0) → Outcome → Type 0
IsAfter Q (Moved v) = Q v
IsAfter Q _ = Unit {0}

module _ (Q : World → Type 0) where
  pub one_test : (holds : Bool) (fault : Fault) (tests : List FaultTest) (o : Outcome) → (holds ≡ true → IsAfter Q (after_tests tests o))
      → IsAfter Q (after_tests (test holds fault ∷ tests) o)
  one_test true fault tests o go = go refl
  one_test false fault tests o go = tt

  pub any_tests : (tests : List FaultTest) (o : Outcome) → IsAfter Q o → IsAfter Q (after_tests tests o)
  any_tests [] o still = still
  any_tests (Some fault ∷ tests) o still = tt
  any_tests (None ∷ tests) o still = any_tests tests o still

module _ (w : World) (self : ℕ) (f : Frame) (kept : AreKept w f.variables) where
  pub variable_kept : (v : Mention) → read f.variables v.variable.0 ≡ Some (address (read f.variables v.variable.0))
      → IsOldOrNew w (address (read f.variables v.variable.0))
  variable_kept v is = read_kept w f.variables v.variable.0 (address (read f.variables v.variable.0)) kept is

  pub given_test : (taken : List ℕ) (arguments : List Argument) (more : List FaultTest) (o : Outcome)
      → (AreListed w (addresses f.variables arguments) → IsAfter (IsNext w) (after_tests more o))
      → IsAfter (IsNext w) (after_tests (argument_tests w.blocks self f.variables taken arguments ++ more) o)
  given_test taken [] more o go = go (λ a has. absurd (none_in [] a refl has))
  given_test taken (x ∷ arguments) more o go =
      let y = read f.variables x.mention.variable.0 in
      let next = if x.claimed then address y ∷ taken else taken in
      one_test (IsNext w) (is_own_still w.blocks self taken y) (if x.claimed then F3 else F1)
      (argument_tests w.blocks self f.variables next arguments ++ more) o
      (λ own. given_test next arguments more o
      (λ listed. go (λ a has. ⊎_elim
      (λ same. subst (IsOldOrNew w) same (variable_kept x.mention (still_some w.blocks self taken y own)))
      (λ later. listed a later)
      (first_or (address y) (addresses f.variables arguments) a has))))

  pub given_all : (arguments : List Argument) (o : Outcome) → (AreListed w (addresses f.variables arguments) → IsAfter (IsNext w) o)
      → IsAfter (IsNext w) (after_tests (argument_tests w.blocks self f.variables [] arguments) o)
  given_all arguments o go =
      subst (λ tests. IsAfter (IsNext w) (after_tests tests o)) (append-nil (argument_tests w.blocks self f.variables [] arguments))
      (given_test [] arguments [] o go)

  pub each_test : (es : List Mention) (o : Outcome)
      → (((v : Mention) → Contains es v → is_own w.blocks self (read f.variables v.variable.0) ≡ true) → IsAfter (IsNext w) o)
      → IsAfter (IsNext w) (after_tests (map (λ e. test (is_own w.blocks self (read f.variables e.variable.0)) F1) es) o)
  each_test [] o go = go (λ v has. absurd (none_in [] v refl has))
  each_test (e ∷ es) o go =
      one_test (IsNext w) (is_own w.blocks self (read f.variables e.variable.0)) F1
      (map (λ e. test (is_own w.blocks self (read f.variables e.variable.0)) F1) es) o
      (λ own. each_test es o (λ all. go (λ v has. ⊎_elim
      (λ same. subst (λ (u : Mention). is_own w.blocks self (read f.variables u.variable.0) ≡ true) same own)
      (λ more. all v more)
      (first_or e es v has))))
