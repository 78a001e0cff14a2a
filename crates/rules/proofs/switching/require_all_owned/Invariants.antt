use Rattle.std.proofs.Common.{drop, map}
use Rattle.rules.specs.Mentions.{require_owned}
use Rattle.rules.specs.Sites.{row_of}
use Rattle.rules.proofs.ArgumentLemmas.{Left}
use Rattle.rules.proofs.switching.require_all_owned.Given as goal

abbrev pub invariant-loop-endpoint : goal.invariant-loop-endpoint
invariant-loop-endpoint l =
    let one = require_owned (row_of l.here) in
    Left (map one l.endpoints) (map one (drop l.endpoint-index l.endpoints))
