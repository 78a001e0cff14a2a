use Rattle.std.proofs.Common.{◌≡◌, List, ℕ, subst}
use Rattle.std.specs.Prelude.{Err}
use Rattle.replays.specs.Schedules.{IsFirstMalformed, IsSchedule, ReadsSchedule}
use Rattle.singcheck.specs.declared.limits.TheConstants.{MAX_SCHEDULE_READ}
use Rattle.singcheck.proofs.ReplayLemmas.{of_read}
use Rattle.singcheck.proofs.Texts.{rest_is, text_is}
use Rattle.singcheck.proofs.replaying.scheduled_events.Goals as goal

pub returns-in-Ok-clause-told : goal.returns-in-Ok-clause-told
returns-in-Ok-clause-told g c =
    let bytes = c.in_ok-bytes.bytes.items in
    let events = c.in-Ok.events.items in
    let is = text_is (g.Q.Source.remaining c.args.schedule.now) (g.Q.Source.remaining c.read_up_to.new.reader) bytes MAX_SCHEDULE_READ c.in_ok-bytes.ensures.bytes c.in_ok-bytes.ensures.long c.in_ok-bytes.ensures.end in
    let told = subst (λ (b : List ℕ). IsSchedule b events) c.deref.ensures.value c.in-Ok.ensures in
    of_read (λ xs. IsSchedule xs events) (g.Q.Source.remaining c.args.schedule.now) bytes (λ xs. c.a_front_tells_all.ensures.events xs events) is told

pub returns-in-Err-Malformed-clause-line : goal.returns-in-Err-Malformed-clause-line
returns-in-Err-Malformed-clause-line g c = λ n told.
    let bytes = c.in_ok-bytes.bytes.items in
    let line = c.in-Err-Malformed.line in
    let same : line ≡ n = cc in
    let is = text_is (g.Q.Source.remaining c.args.schedule.now) (g.Q.Source.remaining c.read_up_to.new.reader) bytes MAX_SCHEDULE_READ c.in_ok-bytes.ensures.bytes c.in_ok-bytes.ensures.long c.in_ok-bytes.ensures.end in
    let wrong = subst (λ (b : List ℕ). IsFirstMalformed b line) c.deref.ensures.value (subst (λ f. ReadsSchedule c.deref.result.now (Err f)) c.in-Err-Malformed.field-0-is c.in-Err-Malformed.ensures) in
    of_read (λ xs. IsFirstMalformed xs n) (g.Q.Source.remaining c.args.schedule.now) bytes (λ xs. c.a_front_tells_all.ensures.line xs n) is (subst (IsFirstMalformed bytes) same wrong)

pub returns-in-Ok-clause-rest : goal.returns-in-Ok-clause-rest
returns-in-Ok-clause-rest g c = rest_is (g.Q.Source.remaining c.args.schedule.now) (g.Q.Source.remaining c.read_up_to.new.reader) c.in_ok-bytes.bytes.items MAX_SCHEDULE_READ c.in_ok-bytes.ensures.bytes c.in_ok-bytes.ensures.long c.in_ok-bytes.ensures.end
