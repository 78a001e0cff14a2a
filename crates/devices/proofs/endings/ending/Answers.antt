use Rattle.devices.specs.Endings.{line_of}
use Rattle.devices.proofs.BeginLemmas.{begins_either, whole_unless}
use Rattle.devices.proofs.endings.ending.Goals as goal

pub returns-clause-begun : goal.returns-clause-begun
returns-clause-begun g c = begins_either c.write_line.result (g.W.Sink.contents c.args.writer.now) (g.W.Sink.contents c.write_line.new.writer) (line_of c.args.fault.now c.args.name.now) c.write_line.ensures.all c.write_line.ensures.begun

pub returns-clause-whole : goal.returns-clause-whole
returns-clause-whole g c = whole_unless c.write_line.result (g.W.Sink.contents c.args.writer.now) (g.W.Sink.contents c.write_line.new.writer) (line_of c.args.fault.now c.args.name.now) (g.W.Sink.failed c.args.writer.now) (g.W.Sink.failed c.write_line.new.writer) c.write_line.ensures.all c.write_line.ensures.write
