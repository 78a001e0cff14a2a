use Rattle.std.proofs.Common.{subst}
use Rattle.std.specs.Io.KnownBytes.{Appends}
use Rattle.devices.specs.Devices.{TakesBeginning}
use Rattle.devices.specs.declared.reading.TheConstants.{MAX_READ}
use Rattle.singcheck.specs.Explains.{Explains}
use Rattle.singcheck.proofs.LongLemmas.{explains_of_front}
use Rattle.singcheck.proofs.Texts.{text_is, rest_is, writes_is, begins_is}
use Rattle.singcheck.proofs.why.run_why.Goals as goal

pub returns-in_err-write_all-clause-begun : goal.returns-in_err-write_all-clause-begun
returns-in_err-write_all-clause-begun g c = λ told.
    let answer = c.in_ok-answer.answer in
    let is = text_is (g.R.Source.remaining c.args.reader.now) (g.R.Source.remaining c.read_text.new.reader) c.in_ok-text.text.items MAX_READ c.in_ok-text.ensures.bytes c.in_ok-text.ensures.long c.in_ok-text.ensures.end in
    begins_is (Explains c.args.named) (g.R.Source.remaining c.args.reader.now) (g.W.Sink.contents c.args.writer.now) (g.W.Sink.contents c.write_all.new.writer) c.in_ok-text.text.items answer.bytes.items answer.status MAX_READ (explains_of_front c.args.named) is
    (subst (λ t. Explains c.args.named t answer.bytes.items answer.status) c.deref.ensures.value c.in_ok-answer.ensures)
    (subst (λ b. TakesBeginning (g.W.Sink.contents c.args.writer.now) (g.W.Sink.contents c.write_all.new.writer) b) c.deref-2.ensures.value c.in_err-write_all.ensures.begun)

pub returns-clause-written : goal.returns-clause-written
returns-clause-written g c =
    let answer = c.in_ok-answer.answer in
    let is = text_is (g.R.Source.remaining c.args.reader.now) (g.R.Source.remaining c.read_text.new.reader) c.in_ok-text.text.items MAX_READ c.in_ok-text.ensures.bytes c.in_ok-text.ensures.long c.in_ok-text.ensures.end in
    writes_is (Explains c.args.named) (g.R.Source.remaining c.args.reader.now) (g.W.Sink.contents c.args.writer.now) (g.W.Sink.contents c.write_all.new.writer) c.in_ok-text.text.items answer.bytes.items answer.status MAX_READ (explains_of_front c.args.named) is
    (subst (λ t. Explains c.args.named t answer.bytes.items answer.status) c.deref.ensures.value c.in_ok-answer.ensures)
    (subst (λ b. Appends (g.W.Sink.contents c.args.writer.now) (g.W.Sink.contents c.write_all.new.writer) b) c.deref-2.ensures.value c.in_ok-write_all.ensures.all)

pub returns-clause-rest : goal.returns-clause-rest
returns-clause-rest g c = rest_is (g.R.Source.remaining c.args.reader.now) (g.R.Source.remaining c.read_text.new.reader) c.in_ok-text.text.items MAX_READ c.in_ok-text.ensures.bytes c.in_ok-text.ensures.long c.in_ok-text.ensures.end
