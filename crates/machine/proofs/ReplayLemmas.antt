-- A list of events has one replay.
use Rattle.std.proofs.Common.{◌≡◌, ℕ, zero, suc, ◌<◌, ◌≤◌, List, [], ◌∷◌, ◌++◌, length, take, Option, None, Some, Err, refl, sym, ap, ◌∙◌}
use Rattle.std.proofs.Common.{subst, arith, slice_get, ⊎_elim}
use Rattle.std.proofs.lemmas.Bool.{cases_lt}
use Rattle.program.specs.Programs.{ProgramModel}
use Rattle.machine.specs.Machine.{event_outcome}
use Rattle.machine.specs.Outcomes.{QueueBounds, Outcome, Moved, Faulty, Waits, NoProcess, NoChoice, TellsStep}
use Rattle.machine.specs.Places.{process_place}
use Rattle.machine.specs.Replays.{EndsWith, MayEndReplay, IsReplay, ReplayModel}
use Rattle.machine.specs.Runs.{RunsTo, moves, start_of, stays}
use Rattle.machine.specs.World.{World}
use Rattle.machine.specs.declared.halts.Event.{Event}
use Rattle.machine.specs.declared.halts.Halt.{Halt}
use Rattle.machine.specs.declared.halts.Halt.TheVariants as halt
use Rattle.source.specs.declared.place.Place.{Place}

-- the outcome of these events after an outcome
abbrev after : ProgramModel → QueueBounds → Outcome → List Event → Outcome
after p bound o [] = o
after p bound (Moved w) (e ∷ events) = after p bound (event_outcome p bound w e) events
after p bound o (e ∷ events) = o

after_both : (p : ProgramModel) (bound : QueueBounds) (o : Outcome) (xs ys : List Event)
    → after p bound o (xs ++ ys) ≡ after p bound (after p bound o xs) ys
after_both p bound o [] ys = refl
after_both p bound (Moved w) (e ∷ xs) ys = after_both p bound (event_outcome p bound w e) xs ys
after_both p bound (Faulty f) (e ∷ xs) [] = refl
after_both p bound (Faulty f) (e ∷ xs) (y ∷ ys) = refl
after_both p bound Waits (e ∷ xs) [] = refl
after_both p bound Waits (e ∷ xs) (y ∷ ys) = refl
after_both p bound NoProcess (e ∷ xs) [] = refl
after_both p bound NoProcess (e ∷ xs) (y ∷ ys) = refl
after_both p bound NoChoice (e ∷ xs) [] = refl
after_both p bound NoChoice (e ∷ xs) (y ∷ ys) = refl

-- events that lead to a world have it as their outcome
leads_to : (p : ProgramModel) (bound : QueueBounds) (w v : World) (events : List Event) → RunsTo p bound w events v
    → after p bound (Moved w) events ≡ Moved v
leads_to p bound w _ _ stays = refl
leads_to p bound w _ _ (moves events v u e led is) =
    after_both p bound (Moved w) events (e ∷ []) ∙ (ap (λ o. after p bound o (e ∷ [])) (leads_to p bound w v events led) ∙ is)

moved_same : (w v : World) → Moved w ≡ Moved v → w ≡ v
moved_same w v is = cc

-- an outcome from which events lead to a world is a step
went : (p : ProgramModel) (bound : QueueBounds) (o : Outcome) (events : List Event) (v : World) → after p bound o events ≡ Moved v
    → (w : World) × (o ≡ Moved w)
went p bound (Moved w) events v is = (w, refl)
went p bound (Faulty f) [] v is = absurd (cc)
went p bound (Faulty f) (e ∷ events) v is = absurd (cc)
went p bound Waits [] v is = absurd (cc)
went p bound Waits (e ∷ events) v is = absurd (cc)
went p bound NoProcess [] v is = absurd (cc)
went p bound NoProcess (e ∷ events) v is = absurd (cc)
went p bound NoChoice [] v is = absurd (cc)
went p bound NoChoice (e ∷ events) v is = absurd (cc)

-- no halt matches a step
halt_stays : (why : Halt) (w v : World) (o : Outcome) (place : Option Place) → MayEndReplay (Some why) → o ≡ Moved w
    → TellsStep {X = Unit {0}} (Err why) o place v → ⊥
halt_stays halt.NoSuchProcess w v o place known is tells = absurd (let bad : NoProcess ≡ Moved w = sym tells ∙ is in cc)
halt_stays halt.NoSuchChoice w v o place known is tells = absurd (let bad : NoChoice ≡ Moved w = sym tells ∙ is in cc)
halt_stays (halt.Fault f at) w v o place known is tells = absurd (let bad : Faulty f ≡ Moved w = sym tells.0 ∙ is in cc)
halt_stays halt.Waits w v o place known is tells = absurd (let bad : Waits ≡ Moved w = sym tells ∙ is in cc)
halt_stays halt.Memory w v o place known is tells = absurd known

-- an index with an event is within the list
some_short : (events : List Event) (n : ℕ) (e : Event) → slice_get events n ≡ Some e → n < length events
some_short [] n e is = absurd (cc)
some_short (x ∷ events) zero e is = omega arith
some_short (x ∷ events) (suc n) e is = let less : n < length events = some_short events n e is in omega arith

ends_within : (p : ProgramModel) (bound : QueueBounds) (w : World) (events : List Event) (n : ℕ) (why : Option Halt)
    → EndsWith p bound w events n why → n ≤ length events
ends_within p bound w events n None ends = let all : n ≡ length events = ends in omega arith
ends_within p bound w events n (Some why) ends = let short : n < length events = some_short events n ends.event ends.there in omega arith

-- a longer front of events begins with a shorter one
take_apart : (events : List Event) (n k : ℕ) → n < k → k ≤ length events
    → (e : Event) × (more : List Event) × (slice_get events n ≡ Some e) × (take k events ≡ take n events ++ e ∷ more)
take_apart [] n k less short = absurd (omega arith)
take_apart (x ∷ events) zero zero less short = absurd (omega arith)
take_apart (x ∷ events) zero (suc k) less short = (x, take k events, refl, refl)
take_apart (x ∷ events) (suc n) zero less short = absurd (omega arith)
take_apart (x ∷ events) (suc n) (suc k) less short =
    let rest = take_apart events n k (omega arith) (omega arith) in
    (rest.0, rest.1, rest.2, ap (λ l. x ∷ l) rest.3)

one_event : (o : Option Event) (e d : Event) → o ≡ Some e → o ≡ Some d → e ≡ d
one_event o e d one two = let same : Some e ≡ Some d = sym one ∙ two in cc

-- no replay goes on where another ends
no_further : (p : ProgramModel) (bound : QueueBounds) (o : Outcome) (w v : World) (events : List Event) (n k : ℕ) (why : Option Halt)
    → after p bound o (take n events) ≡ Moved w → after p bound o (take k events) ≡ Moved v → n < k → k ≤ length events
    → EndsWith p bound w events n why → MayEndReplay why → ⊥
no_further p bound o w v events n k None one two less short ends known = absurd (let all : n ≡ length events = ends in omega arith)
no_further p bound o w v events n k (Some why) one two less short ends known =
    let apart = take_apart events n k less short in
    let e = apart.0 in
    let on : after p bound (event_outcome p bound w e) apart.1 ≡ Moved v =
    ap (λ t. after p bound t (e ∷ apart.1)) (sym one) ∙ (sym (after_both p bound o (take n events) (e ∷ apart.1))
    ∙ (ap (after p bound o) (sym apart.3) ∙ two)) in
    let moved = went p bound (event_outcome p bound w e) apart.1 v on in
    let same : ends.event ≡ e = one_event (slice_get events n) ends.event e ends.there apart.2 in
    halt_stays why moved.0 w (event_outcome p bound w ends.event) (process_place p w ends.event.process) known
    (ap (event_outcome p bound w) same ∙ moved.1) ends.tells

-- an outcome has one halt
one_halt : (x y : Halt) (o : Outcome) (place : Option Place) (v : World) → MayEndReplay (Some x) → MayEndReplay (Some y)
    → TellsStep {X = Unit {0}} (Err x) o place v → TellsStep {X = Unit {0}} (Err y) o place v → x ≡ y
one_halt halt.NoSuchProcess halt.NoSuchProcess o place v kx ky tx ty = refl
one_halt halt.NoSuchProcess halt.NoSuchChoice o place v kx ky tx ty = absurd (let bad : NoProcess ≡ NoChoice = sym tx ∙ ty in cc)
one_halt halt.NoSuchProcess (halt.Fault f at) o place v kx ky tx ty = absurd (let bad : NoProcess ≡ Faulty f = sym tx ∙ ty.0 in cc)
one_halt halt.NoSuchProcess halt.Waits o place v kx ky tx ty = absurd (let bad : NoProcess ≡ Waits = sym tx ∙ ty in cc)
one_halt halt.NoSuchProcess halt.Memory o place v kx ky tx ty = absurd ky
one_halt halt.NoSuchChoice halt.NoSuchProcess o place v kx ky tx ty = absurd (let bad : NoChoice ≡ NoProcess = sym tx ∙ ty in cc)
one_halt halt.NoSuchChoice halt.NoSuchChoice o place v kx ky tx ty = refl
one_halt halt.NoSuchChoice (halt.Fault f at) o place v kx ky tx ty = absurd (let bad : NoChoice ≡ Faulty f = sym tx ∙ ty.0 in cc)
one_halt halt.NoSuchChoice halt.Waits o place v kx ky tx ty = absurd (let bad : NoChoice ≡ Waits = sym tx ∙ ty in cc)
one_halt halt.NoSuchChoice halt.Memory o place v kx ky tx ty = absurd ky
one_halt (halt.Fault f at) halt.NoSuchProcess o place v kx ky tx ty = absurd (let bad : Faulty f ≡ NoProcess = sym tx.0 ∙ ty in cc)
one_halt (halt.Fault f at) halt.NoSuchChoice o place v kx ky tx ty = absurd (let bad : Faulty f ≡ NoChoice = sym tx.0 ∙ ty in cc)
one_halt (halt.Fault f at) (halt.Fault g to) o place v kx ky tx ty =
    let faults : Faulty f ≡ Faulty g = sym tx.0 ∙ ty.0 in
    let places : Some at ≡ Some to = sym tx.1 ∙ ty.1 in
    cc
one_halt (halt.Fault f at) halt.Waits o place v kx ky tx ty = absurd (let bad : Faulty f ≡ Waits = sym tx.0 ∙ ty in cc)
one_halt (halt.Fault f at) halt.Memory o place v kx ky tx ty = absurd ky
one_halt halt.Waits halt.NoSuchProcess o place v kx ky tx ty = absurd (let bad : Waits ≡ NoProcess = sym tx ∙ ty in cc)
one_halt halt.Waits halt.NoSuchChoice o place v kx ky tx ty = absurd (let bad : Waits ≡ NoChoice = sym tx ∙ ty in cc)
one_halt halt.Waits (halt.Fault f at) o place v kx ky tx ty = absurd (let bad : Waits ≡ Faulty f = sym tx ∙ ty.0 in cc)
one_halt halt.Waits halt.Waits o place v kx ky tx ty = refl
one_halt halt.Waits halt.Memory o place v kx ky tx ty = absurd ky
one_halt halt.Memory y o place v kx ky tx ty = absurd kx

-- after the same steps, two replays end alike
one_end : (p : ProgramModel) (bound : QueueBounds) (w : World) (events : List Event) (n : ℕ) (x y : Option Halt) → MayEndReplay x → MayEndReplay y
    → EndsWith p bound w events n x → EndsWith p bound w events n y → x ≡ y
one_end p bound w events n None None kx ky ex ey = refl
one_end p bound w events n None (Some y) kx ky ex ey =
    absurd (
    let all : n ≡ length events = ex in
    let short : n < length events = some_short events n ey.event ey.there in
    omega arith)
one_end p bound w events n (Some x) None kx ky ex ey =
    absurd (
    let all : n ≡ length events = ey in
    let short : n < length events = some_short events n ex.event ex.there in
    omega arith)
one_end p bound w events n (Some x) (Some y) kx ky ex ey =
    let same : ey.event ≡ ex.event = one_event (slice_get events n) ey.event ex.event ey.there ex.there in
    ap (λ h. Some h) (one_halt x y (event_outcome p bound w ex.event) (process_place p w ex.event.process) w kx ky ex.tells
    (subst (λ (e : Event). TellsStep {X = Unit {0}} (Err y) (event_outcome p bound w e) (process_place p w e.process) w) same ey.tells))

-- replays with the same steps, end and world are equal
same_parts : (r s : ReplayModel) → r.world ≡ s.world → r.steps ≡ s.steps → r.halt ≡ s.halt → r ≡ s
same_parts r s world steps halt = λ i. record { world = world i; steps = steps i; halt = halt i }

-- two replays of one method and one list of events are equal
pub one_replay : (p : ProgramModel) (bound : QueueBounds) (m : ℕ) (events : List Event) (r s : ReplayModel)
    → IsReplay p bound m events r → IsReplay p bound m events s → r ≡ s
one_replay p bound m events r s one two =
    let begins = Moved (start_of p m) in
    let first : after p bound begins (take r.steps events) ≡ Moved r.world =
    leads_to p bound (start_of p m) r.world (take r.steps events) one.leads in
    let second : after p bound begins (take s.steps events) ≡ Moved s.world =
    leads_to p bound (start_of p m) s.world (take s.steps events) two.leads in
    let all : r.steps ≤ length events = ends_within p bound r.world events r.steps r.halt one.ends in
    let too : s.steps ≤ length events = ends_within p bound s.world events s.steps s.halt two.ends in
    let less : s.steps ≤ r.steps = ⊎_elim
    (λ h. absurd (no_further p bound begins r.world s.world events r.steps s.steps r.halt first second h too one.ends one.known))
    (λ h. h) (cases_lt r.steps s.steps) in
    let more : r.steps ≤ s.steps = ⊎_elim
    (λ h. absurd (no_further p bound begins s.world r.world events s.steps r.steps s.halt second first h all two.ends two.known))
    (λ h. h) (cases_lt s.steps r.steps) in
    let steps : r.steps ≡ s.steps = omega arith in
    let world : r.world ≡ s.world =
    moved_same r.world s.world (sym first ∙ (ap (λ n. after p bound begins (take n events)) steps ∙ second)) in
    let ends = subst (λ w. EndsWith p bound w events r.steps s.halt) (sym world)
    (subst (λ n. EndsWith p bound s.world events n s.halt) (sym steps) two.ends) in
    same_parts r s world steps (one_end p bound r.world events r.steps r.halt s.halt one.known two.known one.ends ends)
