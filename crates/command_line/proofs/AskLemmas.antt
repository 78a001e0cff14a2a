-- The result of a parse is what the words ask for.
use Rattle.std.proofs.Common.{◌≡◌, List, Option, Some, None, true, option_map, refl, sym, ap, ◌∙◌}
use Rattle.std.specs.Prelude.{Box}
use Rattle.std.specs.Box.{box_value}
use Rattle.clap.specs.Words.{App, HasMatchesOf, Row, Text, first_of, first_value, found_of, is_simple, rows_of, subcommand_of}
use Rattle.clap.specs.Matches.{subcommand_name_of}
use Rattle.clap.specs.Simple.{subcommand_rows}
use Rattle.clap.specs.declared.parser.matches.ArgMatches.{ArgMatches}
use Rattle.clap.specs.declared.parser.matches.ArgMatches.TheViews.{out-ArgMatches, out-SubCommand}
use Rattle.clap.specs.declared.parser.matches.SubCommand.{SubCommand}
use Rattle.clap.proofs.OnLiterals.{clap_on_literals}
use Rattle.clap.proofs.WalkLemmas.{first_value-rows}
use Rattle.command_line.specs.Asking.{Asks, Gives, IsAskOf, whole_command}
use Rattle.command_line.specs.declared.request.Ask.{Ask}

whole_is_simple : is_simple whole_command ≡ true
unfolding clap_on_literals
whole_is_simple = refl

both_of : {Z : Type 0} (found : Option (Box SubCommand Z)) (name : Text) (rows : List Row) → option_map (λ b. (out-SubCommand (box_value b)).name.now) found ≡ Some name → option_map (λ p. p.1) (subcommand_rows found) ≡ Some rows → subcommand_rows found ≡ Some (name, rows)
both_of None name rows e f = absurd (cc)
both_of (Some b) name rows e f = cc

-- what the arguments of the subcommand that was found ask for, the words ask for
pub asks_of : (words : List Text) (m inner : ArgMatches) (subcommand : Text) (command : App) (asked : Ask) → command ≡ whole_command → HasMatchesOf command words m → subcommand_name_of m ≡ Some subcommand
    → option_map (λ p. p.1) (subcommand_rows (out-ArgMatches m).subcommand) ≡ Some (rows_of (found_of inner)) → IsAskOf subcommand (rows_of (found_of inner)) asked → Asks words asked
asks_of words m inner subcommand command asked is has name rows given = record {
  subcommand = subcommand;
  rows = rows_of (found_of inner);
  named = sym (ap (λ a. subcommand_of a words) is) ∙ sym (has (ap is_simple is ∙ whole_is_simple)).1 ∙ both_of (out-ArgMatches m).subcommand subcommand (rows_of (found_of inner)) name rows;
  given = given;
}

-- the first text that a name has
pub gives : (inner : ArgMatches) (name text : Text) → first_value (found_of inner) name ≡ Some text → Gives (rows_of (found_of inner)) name text
gives inner name text first = sym (first_value-rows (found_of inner) name) ∙ first

-- a name that has no text
pub gives_none : (inner : ArgMatches) (name : Text) → first_value (found_of inner) name ≡ None → first_of name (rows_of (found_of inner)) ≡ None
gives_none inner name none = sym (first_value-rows (found_of inner) name) ∙ none

-- the text that a name has, if it has one
pub gives_in : (inner : ArgMatches) (name : Text) (text : Option Text) → text ≡ first_value (found_of inner) name → first_of name (rows_of (found_of inner)) ≡ text
gives_in inner name text is = sym (first_value-rows (found_of inner) name) ∙ sym is
