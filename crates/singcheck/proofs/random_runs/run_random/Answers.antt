use Rattle.std.proofs.Common.{List, ℕ, subst}
use Rattle.std.specs.Io.KnownBytes.{Appends}
use Rattle.devices.specs.Devices.{TakesBeginning}
use Rattle.devices.specs.declared.reading.TheConstants.{MAX_READ}
use Rattle.singcheck.specs.PrintedRuns.{RunsAtRandom, RunsFaultless}
use Rattle.singcheck.specs.Safety.{HasEmptyReport}
use Rattle.singcheck.proofs.RunLemmas.{run_begun, run_safe, run_written}
use Rattle.singcheck.proofs.Texts.{rest_is, text_is}
use Rattle.singcheck.proofs.random_runs.run_random.Goals as goal

pub returns-in_err-write_all-clause-begun : goal.returns-in_err-write_all-clause-begun
returns-in_err-write_all-clause-begun g c = λ told.
    let ran = c.in_ok-ran.ran in
    let is = text_is (g.R.Source.remaining c.args.reader.now) (g.R.Source.remaining c.read_text.new.reader) c.in_ok-text.text.items MAX_READ c.in_ok-text.ensures.bytes c.in_ok-text.ensures.long c.in_ok-text.ensures.end in
    run_begun c.args.entry.now c.args.options.now.detail ran.schedule (g.R.Source.remaining c.args.reader.now) (g.W.Sink.contents c.args.writer.now) (g.W.Sink.contents c.write_all.new.writer) c.in_ok-text.text.items ran.report.bytes.items ran.report.status is
    (subst (λ (t : List ℕ). RunsAtRandom c.args.entry.now c.args.options.now.detail ran.schedule t ran.report.bytes.items ran.report.status) c.deref.ensures.value c.in_ok-ran.ensures.runs)
    (subst (λ b. TakesBeginning (g.W.Sink.contents c.args.writer.now) (g.W.Sink.contents c.write_all.new.writer) b) c.deref-2.ensures.value c.in_err-write_all.ensures.begun)

pub returns-clause-written : goal.returns-clause-written
returns-clause-written g c =
    let ran = c.in_ok-ran.ran in
    let is = text_is (g.R.Source.remaining c.args.reader.now) (g.R.Source.remaining c.read_text.new.reader) c.in_ok-text.text.items MAX_READ c.in_ok-text.ensures.bytes c.in_ok-text.ensures.long c.in_ok-text.ensures.end in
    run_written c.args.entry.now c.args.options.now.detail ran.schedule (g.R.Source.remaining c.args.reader.now) (g.W.Sink.contents c.args.writer.now) (g.W.Sink.contents c.write_all.new.writer) c.in_ok-text.text.items ran.report.bytes.items ran.report.status is
    (subst (λ (t : List ℕ). RunsAtRandom c.args.entry.now c.args.options.now.detail ran.schedule t ran.report.bytes.items ran.report.status) c.deref.ensures.value c.in_ok-ran.ensures.runs)
    (subst (λ b. Appends (g.W.Sink.contents c.args.writer.now) (g.W.Sink.contents c.write_all.new.writer) b) c.deref-2.ensures.value c.in_ok-write_all.ensures.all)

pub returns-clause-safe : goal.returns-clause-safe
returns-clause-safe g c =
    let ran = c.in_ok-ran.ran in
    let is = text_is (g.R.Source.remaining c.args.reader.now) (g.R.Source.remaining c.read_text.new.reader) c.in_ok-text.text.items MAX_READ c.in_ok-text.ensures.bytes c.in_ok-text.ensures.long c.in_ok-text.ensures.end in
    run_safe c.args.entry.now c.args.options.now.detail ran.schedule (g.R.Source.remaining c.args.reader.now) (g.W.Sink.contents c.args.writer.now) (g.W.Sink.contents c.write_all.new.writer) c.in_ok-text.text.items ran.report.bytes.items ran.report.status is
    (subst (λ (t : List ℕ). HasEmptyReport t → RunsFaultless c.args.entry.now c.args.options.now.detail ran.schedule t ran.report.bytes.items ran.report.status) c.deref.ensures.value c.in_ok-ran.ensures.safe)
    (subst (λ b. Appends (g.W.Sink.contents c.args.writer.now) (g.W.Sink.contents c.write_all.new.writer) b) c.deref-2.ensures.value c.in_ok-write_all.ensures.all)

pub returns-clause-rest : goal.returns-clause-rest
returns-clause-rest g c = rest_is (g.R.Source.remaining c.args.reader.now) (g.R.Source.remaining c.read_text.new.reader) c.in_ok-text.text.items MAX_READ c.in_ok-text.ensures.bytes c.in_ok-text.ensures.long c.in_ok-text.ensures.end
