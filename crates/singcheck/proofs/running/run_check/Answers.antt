use Rattle.std.proofs.Common.{◌≡◌, subst, rules}
use Rattle.std.specs.Io.KnownBytes.{Appends}
use Rattle.devices.specs.Devices.{TakesBeginning}
use Rattle.devices.specs.declared.fault.Status.TheVariants.{Empty}
use Rattle.devices.specs.declared.reading.TheConstants.{MAX_READ}
use Rattle.singcheck.specs.Checks.{Checks}
use Rattle.singcheck.specs.Safety.{IsSafeText}
use Rattle.singcheck.proofs.FaultLemmas.{read_explains}
use Rattle.singcheck.proofs.LongLemmas.{checks_of_front}
use Rattle.singcheck.proofs.SafetyLemmas.{safe_read}
use Rattle.singcheck.proofs.Texts.{text_is, rest_is, writes_is, begins_is}
use Rattle.singcheck.proofs.running.run_check.Goals as goal

pub returns-in_err-text-clause-fault : goal.returns-in_err-text-clause-fault
returns-in_err-text-clause-fault g c =
    let told = read_explains c.args.workers c.args.slots c.in_err-text.field-0.0 c.in_ok-judge_numbers.ensures.workers c.in_ok-judge_numbers.ensures.slots c.in_err-text.ensures.only in
    search rules

pub returns-in_err-write_all-clause-begun : goal.returns-in_err-write_all-clause-begun
returns-in_err-write_all-clause-begun g c = λ told.
    let report = c.in_ok-report.report in
    let is = text_is (g.I.Source.remaining c.args.reader.now) (g.I.Source.remaining c.read_text.new.reader) c.in_ok-text.text.items MAX_READ c.in_ok-text.ensures.bytes c.in_ok-text.ensures.long c.in_ok-text.ensures.end in
    begins_is Checks (g.I.Source.remaining c.args.reader.now) (g.O.Sink.contents c.args.writer.now) (g.O.Sink.contents c.write_all.new.writer) c.in_ok-text.text.items report.bytes.items report.status MAX_READ checks_of_front is
    (subst (λ t. Checks t report.bytes.items report.status) c.deref.ensures.value c.in_ok-report.ensures.report)
    (subst (λ b. TakesBeginning (g.O.Sink.contents c.args.writer.now) (g.O.Sink.contents c.write_all.new.writer) b) c.deref-2.ensures.value c.in_err-write_all.ensures.begun)

pub returns-clause-written : goal.returns-clause-written
returns-clause-written g c =
    let report = c.in_ok-report.report in
    let is = text_is (g.I.Source.remaining c.args.reader.now) (g.I.Source.remaining c.read_text.new.reader) c.in_ok-text.text.items MAX_READ c.in_ok-text.ensures.bytes c.in_ok-text.ensures.long c.in_ok-text.ensures.end in
    writes_is Checks (g.I.Source.remaining c.args.reader.now) (g.O.Sink.contents c.args.writer.now) (g.O.Sink.contents c.write_all.new.writer) c.in_ok-text.text.items report.bytes.items report.status MAX_READ checks_of_front is
    (subst (λ t. Checks t report.bytes.items report.status) c.deref.ensures.value c.in_ok-report.ensures.report)
    (subst (λ b. Appends (g.O.Sink.contents c.args.writer.now) (g.O.Sink.contents c.write_all.new.writer) b) c.deref-2.ensures.value c.in_ok-write_all.ensures.all)

pub returns-clause-safe : goal.returns-clause-safe
returns-clause-safe g c =
    let report = c.in_ok-report.report in
    let is = text_is (g.I.Source.remaining c.args.reader.now) (g.I.Source.remaining c.read_text.new.reader) c.in_ok-text.text.items MAX_READ c.in_ok-text.ensures.bytes c.in_ok-text.ensures.long c.in_ok-text.ensures.end in
    safe_read (g.I.Source.remaining c.args.reader.now) c.in_ok-text.text.items report.status is
    (subst (λ t. report.status ≡ Empty → IsSafeText t) c.deref.ensures.value c.in_ok-report.ensures.safe)

pub returns-clause-rest : goal.returns-clause-rest
returns-clause-rest g c = rest_is (g.I.Source.remaining c.args.reader.now) (g.I.Source.remaining c.read_text.new.reader) c.in_ok-text.text.items MAX_READ c.in_ok-text.ensures.bytes c.in_ok-text.ensures.long c.in_ok-text.ensures.end
