use Rattle.std.proofs.Common.{◌≡◌, ◌≤◌, ◌-◌, length, vec_len}
use Rattle.std.specs.Io.KnownBytes.{Consumes}
use Rattle.devices.proofs.reading.read_up_to.Given as goal

abbrev pub invariant-reads : goal.invariant-reads
invariant-reads g l = record {
  long : length l.bytes.items ≤ l.most;
  bytes : Consumes (g.R.Source.remaining l.fn.reader) (g.R.Source.remaining l.reader) l.bytes.items;
  same : g.R.Source.failed l.reader ≡ g.R.Source.failed l.fn.reader;
}

abbrev pub decreases-reads : goal.decreases-reads
decreases-reads g l = l.most - vec_len l.bytes
