use Rattle.std.proofs.Common.{◌≡◌, ◌++◌, List, ℕ, length}
use Rattle.std.specs.Io.KnownBytes.{Appends}
use Rattle.devices.proofs.writing.write_all.Given as goal

abbrev pub invariant-writes : goal.invariant-writes
invariant-writes g l = record {
  done : List ℕ;
  all : done ++ l.rest ≡ l.bytes;
  bytes : Appends (g.W.Sink.contents l.fn.writer) (g.W.Sink.contents l.writer) done;
  same : g.W.Sink.failed l.writer ≡ g.W.Sink.failed l.fn.writer;
}

abbrev pub decreases-writes : goal.decreases-writes
decreases-writes g l = length l.rest
