use Rattle.std.proofs.Common.{◌++◌, codes, subst}
use Rattle.std.specs.Io.KnownBytes.{Appends}
use Rattle.std.proofs.KnownBytes.{Appends-trans}
use Rattle.std.proofs.lemmas.Result.{on_ok_weaker, on_err_weaker}
use Rattle.devices.specs.Devices.{TakesBeginning}
use Rattle.devices.proofs.BeginLemmas.{begins_first, begins_second, on_err_always}
use Rattle.devices.proofs.endings.write_named.Goals as goal

pub returns-in_err-write_all-clause-begun : goal.returns-in_err-write_all-clause-begun
returns-in_err-write_all-clause-begun g c = on_err_always c.from_residual.result (begins_first (g.W.Sink.contents c.args.writer.now) (g.W.Sink.contents c.write_all.new.writer) c.args.front.now (c.args.name.now ++ codes "\n") c.in_err-write_all.ensures.begun)

pub returns-in_err-write_all-2-clause-begun : goal.returns-in_err-write_all-2-clause-begun
returns-in_err-write_all-2-clause-begun g c =
    let name = begins_first (g.W.Sink.contents c.write_all.new.writer) (g.W.Sink.contents c.write_all-2.new.writer) c.args.name.now (codes "\n") (subst (λ l. TakesBeginning (g.W.Sink.contents c.write_all.new.writer) (g.W.Sink.contents c.write_all-2.new.writer) l) c.as_bytes.ensures.value c.in_err-write_all-2.ensures.begun) in
    on_err_always c.from_residual-in_err-write_all-2.result (begins_second (g.W.Sink.contents c.args.writer.now) (g.W.Sink.contents c.write_all.new.writer) (g.W.Sink.contents c.write_all-2.new.writer) c.args.front.now (c.args.name.now ++ codes "\n") c.in_ok-write_all.ensures.all name)

pub returns-clause-all : goal.returns-clause-all
returns-clause-all g c =
    let name = subst (λ l. Appends (g.W.Sink.contents c.write_all.new.writer) (g.W.Sink.contents c.write_all-2.new.writer) l) c.as_bytes.ensures.value c.in_ok-write_all-2.ensures.all in
    on_ok_weaker c.write_all-3.result (λ h. Appends-trans (g.W.Sink.contents c.args.writer.now) (g.W.Sink.contents c.write_all.new.writer) (g.W.Sink.contents c.write_all-3.new.writer) c.args.front.now (c.args.name.now ++ codes "\n") c.in_ok-write_all.ensures.all
    (Appends-trans (g.W.Sink.contents c.write_all.new.writer) (g.W.Sink.contents c.write_all-2.new.writer) (g.W.Sink.contents c.write_all-3.new.writer) c.args.name.now (codes "\n") name h)) c.write_all-3.ensures.all

pub returns-clause-begun : goal.returns-clause-begun
returns-clause-begun g c =
    let name = subst (λ l. Appends (g.W.Sink.contents c.write_all.new.writer) (g.W.Sink.contents c.write_all-2.new.writer) l) c.as_bytes.ensures.value c.in_ok-write_all-2.ensures.all in
    on_err_weaker c.write_all-3.result (λ h. begins_second (g.W.Sink.contents c.args.writer.now) (g.W.Sink.contents c.write_all.new.writer) (g.W.Sink.contents c.write_all-3.new.writer) c.args.front.now (c.args.name.now ++ codes "\n") c.in_ok-write_all.ensures.all
    (begins_second (g.W.Sink.contents c.write_all.new.writer) (g.W.Sink.contents c.write_all-2.new.writer) (g.W.Sink.contents c.write_all-3.new.writer) c.args.name.now (codes "\n") name h)) c.write_all-3.ensures.begun
