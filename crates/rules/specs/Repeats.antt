-- Repeated arguments. They depend on no row.
use Rattle.std.specs.Prelude.{ℕ, List, [], ◌∷◌, Option, None, Some, if◌then◌else◌, slice_get}
use Rattle.std.specs.BTreeMap.{get}
use Rattle.std.specs.Option.{option_and_then, option_map}
use Rattle.std.specs.Ordering.{nat_cmp}
use Rattle.flow.specs.Graphs.{GraphModel, Instruction, Call, Start}
use Rattle.program.specs.Lists.{is_among}
use Rattle.program.specs.declared.call.Argument.{Argument}
use Rattle.program.specs.declared.statement.Mention.{Mention}
use Rattle.rules.specs.Outcomes.{Check, breach_at}
use Rattle.rules.specs.declared.breach.Reason.TheVariants.{Twice}
use Rattle.rules.specs.declared.repeats.Repeats.{Repeats}

-- the first argument whose variable is one of these, or is given by an earlier argument too
abbrev pub first_again : List ℕ → List Argument → Option Mention
first_again earlier [] = None
first_again earlier (a ∷ arguments) =
    if is_among earlier a.mention.variable.0 then Some a.mention else first_again (a.mention.variable.0 ∷ earlier) arguments

-- the first repeated argument of a call or a start
abbrev pub given_again : Instruction → Option Mention
given_again (Call place method arguments target next) = first_again [] arguments
given_again (Start place method arguments next) = first_again [] arguments
given_again _ = None

-- the first repeated argument at a point of a graph
abbrev pub again_in : GraphModel → ℕ → Option Mention
again_in graph point = option_and_then given_again (slice_get graph.instructions point)

-- the same from the table of the code
abbrev pub repeated_in : Repeats → ℕ → Option Mention
repeated_in repeats point = get nat_cmp repeats.firsts point

-- the check that no argument is repeated
abbrev pub require_none_again : Option Mention → Check
require_none_again again = option_map (λ x. breach_at x.place (Twice x.variable)) again
