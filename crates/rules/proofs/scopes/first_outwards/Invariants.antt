use Rattle.std.specs.Option.{option_map}
use Rattle.rules.specs.Sites.{method_of, row_of}
use Rattle.rules.proofs.ScopeLemmas.{Looked}
use Rattle.rules.proofs.scopes.first_outwards.Given as goal

abbrev pub invariant-loop : goal.invariant-loop
invariant-loop l = Looked (method_of l.here) (row_of l.here) l.given l.outer l.fn.last l.at l.counter (option_map (λ v. v.0) l.first)
