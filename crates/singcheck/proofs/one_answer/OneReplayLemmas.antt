-- A text, an entry and a schedule have one result of `replay`.
use Rattle.std.proofs.Common.{◌≡◌, ℕ, Bool, true, false, List, refl, sym, ap, ◌∙◌, subst}
use Rattle.std.specs.Prelude.{nat_eq}
use Rattle.std.specs.Cmp.Lexicographic.{pointwise, same_text, other_text}
use Rattle.program.specs.Programs.{ProgramModel}
use Rattle.tree.specs.Trees.{ItemTree}
use Rattle.machine.specs.Outcomes.{QueueBounds}
use Rattle.machine.specs.Replays as graph_replays
use Rattle.machine.specs.Replays.{ReplayModel}
use Rattle.machine.specs.Runs.{AreBounds}
use Rattle.machine.specs.declared.halts.Event.{Event}
use Rattle.replays.specs.Schedules.{IsFirstMalformed, IsSchedule}
use Rattle.replays.specs.Names.{Words}
use Rattle.devices.specs.declared.fault.Status.{Status}
use Rattle.devices.specs.declared.fault.Status.TheVariants.{Empty, Found}
use Rattle.singcheck.specs.Checks.{HasProgram}
use Rattle.singcheck.specs.Entered.{MayBegin}
use Rattle.singcheck.specs.Replays.{HasEntry, IsFirstAt, IsPrinted, IsRan, LacksEntry, LacksSchedule, OfFindings, OfRun, Replays, method_names}
use Rattle.singcheck.specs.Replays.{stop_status, struct_names}
use Rattle.singcheck.proofs.EntryLemmas.{first_once}
use Rattle.singcheck.proofs.PrintedLemmas.{Agreeing, one_printed}
use Rattle.singcheck.proofs.one_answer.OneCheckLemmas.{before_or_methods, one_items, one_seen}
use Rattle.singcheck.proofs.one_answer.OnlyLemmas.{Laws, one_findings}
use Rattle.singcheck.proofs.one_answer.SameLemmas.{one_report}

-- laws of the crates below about replays
pub record ReplayLaws : Type 0 where
  pub laws : Laws
  pub bounds : (text : List ℕ) (p : ProgramModel) → HasProgram text p → ((bound : QueueBounds) → AreBounds p bound → ⊥) → ⊥
  pub reading : (bytes : List ℕ) (a b : List Event) → IsSchedule bytes a → IsSchedule bytes b → a ≡ b
  pub apart : (bytes : List ℕ) (events : List Event) (n : ℕ) → IsSchedule bytes events → IsFirstMalformed bytes n → ⊥
  pub replays : (p : ProgramModel) (bound : QueueBounds) (n : ℕ) (events : List Event) (r s : ReplayModel)
      → graph_replays.IsReplay p bound n events r → graph_replays.IsReplay p bound n events s → r ≡ s
  pub agree : Agreeing

-- bytes that cannot differ are the same
equal_or_not : (a b : List ℕ) (is : Bool) → pointwise nat_eq a b ≡ is → ((a ≡ b → ⊥) → ⊥) → a ≡ b
equal_or_not a b true is both = same_text a b (sym is)
equal_or_not a b false is both = absurd (both (other_text a b (sym is)))

never_differ : (a b : List ℕ) → ((a ≡ b → ⊥) → ⊥) → a ≡ b
never_differ a b both = equal_or_not a b (pointwise nat_eq a b) refl both

status_never_differs : (s t : Status) → ((s ≡ t → ⊥) → ⊥) → s ≡ t
status_never_differs Empty Empty both = refl
status_never_differs Found Found both = refl
status_never_differs Empty Found both = absurd (both (λ e. cc))
status_never_differs Found Empty both = absurd (both (λ e. cc))

-- two runs have the same program, the same method and the same events
module _ (known : ReplayLaws) (entry lines text a b : List ℕ) (s t : Status) (x : IsRan entry lines text a s)
    (y : IsRan entry lines text b t) where
  one_program : x.program ≡ y.program
  one_program = one_seen known.laws text x.program y.program x.entered.has y.entered.has

  same_items : x.entered.has.resolved.items ≡ y.entered.has.resolved.items
  same_items = one_items known.laws text x.program y.program x.entered.has y.entered.has

  one_method : x.n ≡ y.n
  one_method = first_once (method_names text y.entered.has.resolved.items) entry x.n y.n
      (subst (λ items. IsFirstAt (method_names text items) entry x.n) same_items x.entered.at.named) y.entered.at.named

  one_events : x.events ≡ y.events
  one_events = known.reading lines x.events y.events x.told y.told

  abbrev words : List ItemTree → ProgramModel → Words
  words items p = record { program = p; structs = struct_names text items }

  moved : (bound : QueueBounds) → AreBounds y.program bound
      → IsPrinted (words y.entered.has.resolved.items y.program) bound y.n y.events x.steps x.halt a
  moved bound are =
      subst (λ l. IsPrinted (words y.entered.has.resolved.items y.program) bound y.n l x.steps x.halt a) one_events
      (subst (λ m. IsPrinted (words y.entered.has.resolved.items y.program) bound m x.events x.steps x.halt a) one_method
      (subst (λ items. IsPrinted (words items y.program) bound x.n x.events x.steps x.halt a) same_items
      (subst (λ p. IsPrinted (words x.entered.has.resolved.items p) bound x.n x.events x.steps x.halt a) one_program
      (x.led bound (subst (λ p. AreBounds p bound) (sym one_program) are)))))

  same_some : ((a ≡ b) × (s ≡ t) → ⊥) → ⊥
  same_some differ = known.bounds text y.program y.entered.has (λ bound are.
      let one = one_printed known.agree known.replays (words y.entered.has.resolved.items y.program) bound y.n y.events x.steps y.steps
      x.halt y.halt a b (moved bound are) (y.led bound are) in
      differ (one.0, x.is ∙ (ap stop_status one.1 ∙ sym y.is)))

  ran_bytes : a ≡ b
  ran_bytes = never_differ a b (λ differ. same_some (λ same. differ same.0))

  ran_status : s ≡ t
  ran_status = status_never_differs s t (λ differ. same_some (λ same. differ same.1))

pub one_bytes : ReplayLaws → (entry lines text a b : List ℕ) (s t : Status) → Replays entry lines text a s → Replays entry lines text b t
    → a ≡ b
one_bytes known entry lines text a b s t (OfFindings x found) (OfFindings y also) =
    one_report x.found y.found a b (one_findings known.laws text x.found y.found x.are y.are) x.told y.told
one_bytes known entry lines text a b s t (OfFindings x found) (OfRun y) =
    absurd (before_or_methods known.laws text x.found y.program x.are y.entered.has)
one_bytes known entry lines text a b s t (OfRun x) (OfFindings y found) =
    absurd (before_or_methods known.laws text y.found x.program y.are x.entered.has)
one_bytes known entry lines text a b s t (OfRun x) (OfRun y) = ran_bytes known entry lines text a b s t x y

pub one_status : ReplayLaws → (entry lines text a b : List ℕ) (s t : Status) → Replays entry lines text a s → Replays entry lines text b t
    → s ≡ t
one_status known entry lines text a b s t (OfFindings x found) (OfFindings y also) = found ∙ sym also
one_status known entry lines text a b s t (OfFindings x found) (OfRun y) =
    absurd (before_or_methods known.laws text x.found y.program x.are y.entered.has)
one_status known entry lines text a b s t (OfRun x) (OfFindings y found) =
    absurd (before_or_methods known.laws text y.found x.program y.are x.entered.has)
one_status known entry lines text a b s t (OfRun x) (OfRun y) = ran_status known entry lines text a b s t x y

-- if there is no such entry, or a line is malformed, there is no result of a run
entered_or_lacking : ReplayLaws → (text entry : List ℕ) (p : ProgramModel) (n : ℕ) → HasEntry text entry p n → LacksEntry text entry → ⊥
entered_or_lacking known text entry p n has lacks =
    let program = one_seen known.laws text p lacks.program has.has lacks.has in
    let items = one_items known.laws text p lacks.program has.has lacks.has in
    lacks.none n (record {
      named = subst (λ l. IsFirstAt (method_names text l) entry n) items has.at.named;
      begins = subst (λ (q : ProgramModel). MayBegin q n) program has.at.begins;
    })

pub no_entry : ReplayLaws → (entry lines text bytes : List ℕ) (status : Status) → LacksEntry text entry
    → Replays entry lines text bytes status → ⊥
no_entry known entry lines text bytes status lacks (OfFindings x found) =
    before_or_methods known.laws text x.found lacks.program x.are lacks.has
no_entry known entry lines text bytes status lacks (OfRun x) = entered_or_lacking known text entry x.program x.n x.entered lacks

pub no_schedule : ReplayLaws → (entry lines text bytes : List ℕ) (status : Status) (n : ℕ) → LacksSchedule text entry lines n
    → Replays entry lines text bytes status → ⊥
no_schedule known entry lines text bytes status n lacks (OfFindings x found) =
    before_or_methods known.laws text x.found lacks.program x.are lacks.entered.has
no_schedule known entry lines text bytes status n lacks (OfRun x) = known.apart lines x.events n x.told lacks.malformed
