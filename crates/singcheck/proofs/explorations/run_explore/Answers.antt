use Rattle.std.proofs.Common.{List, ℕ, subst}
use Rattle.std.specs.Io.KnownBytes.{Appends}
use Rattle.devices.specs.Devices.{TakesBeginning}
use Rattle.devices.specs.declared.reading.TheConstants.{MAX_READ}
use Rattle.singcheck.specs.PrintedRuns.{Explores}
use Rattle.singcheck.proofs.ExploreLemmas.{explore_begun, explore_written}
use Rattle.singcheck.proofs.Texts.{rest_is, text_is}
use Rattle.singcheck.proofs.explorations.run_explore.Goals as goal

pub returns-in_err-write_all-clause-begun : goal.returns-in_err-write_all-clause-begun
returns-in_err-write_all-clause-begun g c = λ told.
    let ran = c.in_ok-ran.ran in
    let is = text_is (g.R.Source.remaining c.args.reader.now) (g.R.Source.remaining c.read_text.new.reader) c.in_ok-text.text.items MAX_READ c.in_ok-text.ensures.bytes c.in_ok-text.ensures.long c.in_ok-text.ensures.end in
    explore_begun c.args.entry.now c.args.worlds ran.schedule (g.R.Source.remaining c.args.reader.now) (g.W.Sink.contents c.args.writer.now) (g.W.Sink.contents c.write_all.new.writer) c.in_ok-text.text.items ran.report.bytes.items ran.report.status is
    (subst (λ (t : List ℕ). Explores c.args.entry.now c.args.worlds ran.schedule t ran.report.bytes.items ran.report.status) c.deref.ensures.value c.in_ok-ran.ensures.explores)
    (subst (λ b. TakesBeginning (g.W.Sink.contents c.args.writer.now) (g.W.Sink.contents c.write_all.new.writer) b) c.deref-2.ensures.value c.in_err-write_all.ensures.begun)

pub returns-clause-written : goal.returns-clause-written
returns-clause-written g c =
    let ran = c.in_ok-ran.ran in
    let is = text_is (g.R.Source.remaining c.args.reader.now) (g.R.Source.remaining c.read_text.new.reader) c.in_ok-text.text.items MAX_READ c.in_ok-text.ensures.bytes c.in_ok-text.ensures.long c.in_ok-text.ensures.end in
    explore_written c.args.entry.now c.args.worlds ran.schedule (g.R.Source.remaining c.args.reader.now) (g.W.Sink.contents c.args.writer.now) (g.W.Sink.contents c.write_all.new.writer) c.in_ok-text.text.items ran.report.bytes.items ran.report.status is
    (subst (λ (t : List ℕ). Explores c.args.entry.now c.args.worlds ran.schedule t ran.report.bytes.items ran.report.status) c.deref.ensures.value c.in_ok-ran.ensures.explores)
    (subst (λ b. Appends (g.W.Sink.contents c.args.writer.now) (g.W.Sink.contents c.write_all.new.writer) b) c.deref-2.ensures.value c.in_ok-write_all.ensures.all)

pub returns-clause-rest : goal.returns-clause-rest
returns-clause-rest g c = rest_is (g.R.Source.remaining c.args.reader.now) (g.R.Source.remaining c.read_text.new.reader) c.in_ok-text.text.items MAX_READ c.in_ok-text.ensures.bytes c.in_ok-text.ensures.long c.in_ok-text.ensures.end
