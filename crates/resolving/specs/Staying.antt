-- Which variables stay in scope when a loop or a switch is left.
use Rattle.std.specs.Prelude.{ℕ, Option}
use Rattle.resolving.specs.Locals.{LocalFrame}

-- The last variable of the exchange heap that stays in scope at a `break`, and at a `continue`. Those declared after it go out of scope.
pub record Staying : Type 0 where
  pub at_break : Option ℕ
  pub at_continue : Option ℕ

-- what stays at a `break` or a `continue` in a loop that begins in this frame, or in a method whose body does
abbrev pub stays_here : LocalFrame → Staying
stays_here f = record { at_break = f.last; at_continue = f.last }

-- what stays in a switch that begins in this frame: a `break` leaves the switch, a `continue` goes on with the loop around it
abbrev pub in_switch : Staying → LocalFrame → Staying
in_switch s f = record { at_break = f.last; at_continue = s.at_continue }
