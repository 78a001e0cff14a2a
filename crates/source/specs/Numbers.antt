-- The values of numbers.
use Rattle.std.specs.Prelude.{ℕ, List}
use Rattle.std.specs.Str.Parse.{digits_value}

-- the number that decimal digits write; leading zeros do not matter
abbrev pub number_value : List ℕ → ℕ
number_value digits = digits_value 10 digits
