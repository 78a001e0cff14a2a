use Rattle.std.proofs.Common.{List, ℕ, subst, rules}
use Rattle.std.specs.Prelude.{IfSome}
use Rattle.std.specs.Io.KnownBytes.{Appends}
use Rattle.devices.specs.Devices.{TakesBeginning}
use Rattle.devices.specs.declared.reading.TheConstants.{MAX_READ}
use Rattle.singcheck.specs.Replays.{LacksSchedule}
use Rattle.singcheck.specs.Safety.{HasEmptyReport}
use Rattle.singcheck.specs.TracedReplays.{Traces, TracesSafely}
use Rattle.singcheck.proofs.ReplayLemmas.{line_lacks}
use Rattle.singcheck.proofs.Texts.{rest_is, text_is}
use Rattle.singcheck.proofs.TraceLemmas.{trace_begun, trace_safe, trace_written}
use Rattle.singcheck.proofs.traced_replays.run_trace.Goals as goal

pub returns-in_err-answer-clause-line : goal.returns-in_err-answer-clause-line
returns-in_err-answer-clause-line g c = λ n told.
    let is = text_is (g.R.Source.remaining c.args.reader.now) (g.R.Source.remaining c.read_text.new.reader) c.in_ok-text.text.items MAX_READ c.in_ok-text.ensures.bytes c.in_ok-text.ensures.long c.in_ok-text.ensures.end in
    line_lacks c.args.entry.now n (g.R.Source.remaining c.args.reader.now) (g.Q.Source.remaining c.args.schedule.now) c.in_ok-text.text.items is
    (subst (λ (t : List ℕ). IfSome (g.Q.Source.remaining c.args.schedule.now) (λ lines. LacksSchedule t c.args.entry.now lines n)) c.deref.ensures.value (c.in_err-answer.ensures.line n (search rules)))

pub returns-in_err-write_all-clause-begun : goal.returns-in_err-write_all-clause-begun
returns-in_err-write_all-clause-begun g c = λ told.
    let answer = c.in_ok-answer.answer in
    let is = text_is (g.R.Source.remaining c.args.reader.now) (g.R.Source.remaining c.read_text.new.reader) c.in_ok-text.text.items MAX_READ c.in_ok-text.ensures.bytes c.in_ok-text.ensures.long c.in_ok-text.ensures.end in
    trace_begun c.args.entry.now c.args.detail (g.R.Source.remaining c.args.reader.now) (g.Q.Source.remaining c.args.schedule.now) (g.W.Sink.contents c.args.writer.now) (g.W.Sink.contents c.write_all.new.writer) c.in_ok-text.text.items answer.bytes.items answer.status is
    (subst (λ (t : List ℕ). IfSome (g.Q.Source.remaining c.args.schedule.now) (λ lines. Traces c.args.entry.now c.args.detail lines t answer.bytes.items answer.status)) c.deref.ensures.value c.in_ok-answer.ensures.traces)
    (subst (λ b. TakesBeginning (g.W.Sink.contents c.args.writer.now) (g.W.Sink.contents c.write_all.new.writer) b) c.deref-2.ensures.value c.in_err-write_all.ensures.begun)

pub returns-clause-written : goal.returns-clause-written
returns-clause-written g c =
    let answer = c.in_ok-answer.answer in
    let is = text_is (g.R.Source.remaining c.args.reader.now) (g.R.Source.remaining c.read_text.new.reader) c.in_ok-text.text.items MAX_READ c.in_ok-text.ensures.bytes c.in_ok-text.ensures.long c.in_ok-text.ensures.end in
    trace_written c.args.entry.now c.args.detail (g.R.Source.remaining c.args.reader.now) (g.Q.Source.remaining c.args.schedule.now) (g.W.Sink.contents c.args.writer.now) (g.W.Sink.contents c.write_all.new.writer) c.in_ok-text.text.items answer.bytes.items answer.status is
    (subst (λ (t : List ℕ). IfSome (g.Q.Source.remaining c.args.schedule.now) (λ lines. Traces c.args.entry.now c.args.detail lines t answer.bytes.items answer.status)) c.deref.ensures.value c.in_ok-answer.ensures.traces)
    (subst (λ b. Appends (g.W.Sink.contents c.args.writer.now) (g.W.Sink.contents c.write_all.new.writer) b) c.deref-2.ensures.value c.in_ok-write_all.ensures.all)

pub returns-clause-safe : goal.returns-clause-safe
returns-clause-safe g c =
    let answer = c.in_ok-answer.answer in
    let is = text_is (g.R.Source.remaining c.args.reader.now) (g.R.Source.remaining c.read_text.new.reader) c.in_ok-text.text.items MAX_READ c.in_ok-text.ensures.bytes c.in_ok-text.ensures.long c.in_ok-text.ensures.end in
    trace_safe c.args.entry.now c.args.detail (g.R.Source.remaining c.args.reader.now) (g.Q.Source.remaining c.args.schedule.now) (g.W.Sink.contents c.args.writer.now) (g.W.Sink.contents c.write_all.new.writer) c.in_ok-text.text.items answer.bytes.items answer.status is
    (subst (λ (t : List ℕ). IfSome (g.Q.Source.remaining c.args.schedule.now) (λ lines. HasEmptyReport t → TracesSafely c.args.entry.now c.args.detail lines t answer.bytes.items answer.status)) c.deref.ensures.value c.in_ok-answer.ensures.safe)
    (subst (λ b. Appends (g.W.Sink.contents c.args.writer.now) (g.W.Sink.contents c.write_all.new.writer) b) c.deref-2.ensures.value c.in_ok-write_all.ensures.all)

pub returns-clause-rest : goal.returns-clause-rest
returns-clause-rest g c = rest_is (g.R.Source.remaining c.args.reader.now) (g.R.Source.remaining c.read_text.new.reader) c.in_ok-text.text.items MAX_READ c.in_ok-text.ensures.bytes c.in_ok-text.ensures.long c.in_ok-text.ensures.end
