use Rattle.std.proofs.Common.{◌++◌, codes, subst, OnOk}
use Rattle.std.specs.Io.KnownBytes.{Appends}
use Rattle.devices.proofs.endings.write_schedule_line.Goals as goal

pub returns-clause-all : goal.returns-clause-all
returns-clause-all g c =
    subst (λ l. OnOk c.write_named.result (Appends (g.W.Sink.contents c.args.writer.now) (g.W.Sink.contents c.write_named.new.writer) (codes "singcheck: schedule line " ++ (l ++ codes "\n")))) c.format.ensures.text c.write_named.ensures.all
