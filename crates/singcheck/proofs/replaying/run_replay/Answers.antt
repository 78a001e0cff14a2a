use Rattle.std.proofs.Common.{List, ℕ, subst, rules}
use Rattle.std.specs.Prelude.{IfSome}
use Rattle.std.specs.Io.KnownBytes.{Appends}
use Rattle.devices.specs.Devices.{TakesBeginning}
use Rattle.devices.specs.Runs.{LeavesRest}
use Rattle.devices.specs.declared.reading.TheConstants.{MAX_READ}
use Rattle.singcheck.specs.Replays.{HasSomeEntry, LacksSchedule, Replays}
use Rattle.singcheck.specs.Safety.{HasEmptyReport, ReplaysWithinBounds, RunsSafely}
use Rattle.singcheck.specs.declared.limits.TheConstants.{MAX_SCHEDULE_READ}
use Rattle.singcheck.proofs.ReplayLemmas.{line_lacks, replay_begun, replay_bounded, replay_safe, replay_written, where_entry}
use Rattle.singcheck.proofs.Texts.{rest_is, text_is}
use Rattle.singcheck.proofs.replaying.run_replay.Goals as goal

pub returns-in_err-answer-clause-line : goal.returns-in_err-answer-clause-line
returns-in_err-answer-clause-line g c = λ n told.
    let is = text_is (g.R.Source.remaining c.args.reader.now) (g.R.Source.remaining c.read_text.new.reader) c.in_ok-text.text.items MAX_READ c.in_ok-text.ensures.bytes c.in_ok-text.ensures.long c.in_ok-text.ensures.end in
    line_lacks c.args.entry.now n (g.R.Source.remaining c.args.reader.now) (g.Q.Source.remaining c.args.schedule.now) c.in_ok-text.text.items is
    (subst (λ (t : List ℕ). IfSome (g.Q.Source.remaining c.args.schedule.now) (λ lines. LacksSchedule t c.args.entry.now lines n)) c.deref.ensures.value (c.in_err-answer.ensures.line n (search rules)))

pub returns-in_err-write_all-clause-begun : goal.returns-in_err-write_all-clause-begun
returns-in_err-write_all-clause-begun g c = λ told.
    let answer = c.in_ok-answer.answer in
    let is = text_is (g.R.Source.remaining c.args.reader.now) (g.R.Source.remaining c.read_text.new.reader) c.in_ok-text.text.items MAX_READ c.in_ok-text.ensures.bytes c.in_ok-text.ensures.long c.in_ok-text.ensures.end in
    replay_begun c.args.entry.now (g.R.Source.remaining c.args.reader.now) (g.Q.Source.remaining c.args.schedule.now) (g.W.Sink.contents c.args.writer.now) (g.W.Sink.contents c.write_all.new.writer) c.in_ok-text.text.items answer.bytes.items answer.status is
    (subst (λ (t : List ℕ). IfSome (g.Q.Source.remaining c.args.schedule.now) (λ lines. Replays c.args.entry.now lines t answer.bytes.items answer.status)) c.deref.ensures.value c.in_ok-answer.ensures.replays)
    (subst (λ b. TakesBeginning (g.W.Sink.contents c.args.writer.now) (g.W.Sink.contents c.write_all.new.writer) b) c.deref-2.ensures.value c.in_err-write_all.ensures.begun)

pub returns-clause-written : goal.returns-clause-written
returns-clause-written g c =
    let answer = c.in_ok-answer.answer in
    let is = text_is (g.R.Source.remaining c.args.reader.now) (g.R.Source.remaining c.read_text.new.reader) c.in_ok-text.text.items MAX_READ c.in_ok-text.ensures.bytes c.in_ok-text.ensures.long c.in_ok-text.ensures.end in
    replay_written c.args.entry.now (g.R.Source.remaining c.args.reader.now) (g.Q.Source.remaining c.args.schedule.now) (g.W.Sink.contents c.args.writer.now) (g.W.Sink.contents c.write_all.new.writer) c.in_ok-text.text.items answer.bytes.items answer.status is
    (subst (λ (t : List ℕ). IfSome (g.Q.Source.remaining c.args.schedule.now) (λ lines. Replays c.args.entry.now lines t answer.bytes.items answer.status)) c.deref.ensures.value c.in_ok-answer.ensures.replays)
    (subst (λ b. Appends (g.W.Sink.contents c.args.writer.now) (g.W.Sink.contents c.write_all.new.writer) b) c.deref-2.ensures.value c.in_ok-write_all.ensures.all)

pub returns-clause-safe : goal.returns-clause-safe
returns-clause-safe g c =
    let answer = c.in_ok-answer.answer in
    let is = text_is (g.R.Source.remaining c.args.reader.now) (g.R.Source.remaining c.read_text.new.reader) c.in_ok-text.text.items MAX_READ c.in_ok-text.ensures.bytes c.in_ok-text.ensures.long c.in_ok-text.ensures.end in
    replay_safe c.args.entry.now (g.R.Source.remaining c.args.reader.now) (g.Q.Source.remaining c.args.schedule.now) (g.W.Sink.contents c.args.writer.now) (g.W.Sink.contents c.write_all.new.writer) c.in_ok-text.text.items answer.bytes.items answer.status is
    (subst (λ (t : List ℕ). IfSome (g.Q.Source.remaining c.args.schedule.now) (λ lines. HasEmptyReport t → RunsSafely c.args.entry.now lines t answer.bytes.items answer.status)) c.deref.ensures.value c.in_ok-answer.ensures.safe)
    (subst (λ b. Appends (g.W.Sink.contents c.args.writer.now) (g.W.Sink.contents c.write_all.new.writer) b) c.deref-2.ensures.value c.in_ok-write_all.ensures.all)

pub returns-clause-rest : goal.returns-clause-rest
returns-clause-rest g c = rest_is (g.R.Source.remaining c.args.reader.now) (g.R.Source.remaining c.read_text.new.reader) c.in_ok-text.text.items MAX_READ c.in_ok-text.ensures.bytes c.in_ok-text.ensures.long c.in_ok-text.ensures.end

pub returns-clause-bounded : goal.returns-clause-bounded
returns-clause-bounded g c =
    let answer = c.in_ok-answer.answer in
    let is = text_is (g.R.Source.remaining c.args.reader.now) (g.R.Source.remaining c.read_text.new.reader) c.in_ok-text.text.items MAX_READ c.in_ok-text.ensures.bytes c.in_ok-text.ensures.long c.in_ok-text.ensures.end in
    replay_bounded c.args.entry.now (g.R.Source.remaining c.args.reader.now) (g.Q.Source.remaining c.args.schedule.now) (g.W.Sink.contents c.args.writer.now) (g.W.Sink.contents c.write_all.new.writer) c.in_ok-text.text.items answer.bytes.items answer.status is
    (subst (λ (t : List ℕ). IfSome (g.Q.Source.remaining c.args.schedule.now) (λ lines. ReplaysWithinBounds c.args.entry.now lines t answer.bytes.items answer.status)) c.deref.ensures.value c.in_ok-answer.ensures.bounded)
    (subst (λ b. Appends (g.W.Sink.contents c.args.writer.now) (g.W.Sink.contents c.write_all.new.writer) b) c.deref-2.ensures.value c.in_ok-write_all.ensures.all)

pub returns-clause-rest_of_schedule : goal.returns-clause-rest_of_schedule
returns-clause-rest_of_schedule g c =
    let is = text_is (g.R.Source.remaining c.args.reader.now) (g.R.Source.remaining c.read_text.new.reader) c.in_ok-text.text.items MAX_READ c.in_ok-text.ensures.bytes c.in_ok-text.ensures.long c.in_ok-text.ensures.end in
    where_entry c.args.entry.now (g.R.Source.remaining c.args.reader.now) c.in_ok-text.text.items is
    (subst (λ (t : List ℕ). HasSomeEntry t c.args.entry.now → LeavesRest MAX_SCHEDULE_READ (g.Q.Source.remaining c.args.schedule.now) (g.Q.Source.remaining c.answer_to.new.schedule)) c.deref.ensures.value c.in_ok-answer.ensures.rest)
