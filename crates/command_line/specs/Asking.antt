-- What the words of a command line ask for, by what `clap` specifies of a simple command.
use Rattle.std.specs.Prelude.{◌≡◌, ◌++◌, List, Option, Some, None, option_map, true, false, codes}
use Rattle.std.specs.Borrow.{Bor}
use Rattle.std.specs.Str.Parse.{digits_value, without_leading_plus}
use Rattle.clap.specs.Words.{App, Row, Rule, Text, app_of, first_of, new_app, new_rule, subcommand_of, with_rule, with_subcommand}
use Rattle.clap.specs.declared.builder.ArgAction.TheVariants.{Set, SetTrue}
use Rattle.clap.specs.declared.builder.command.Command.{Command}
use Rattle.clap.specs.declared.builder.value_parser.ValueParser.TheVariants.{Unsigned}
use Rattle.clap.specs.declared.builder.command.Command.TheViews.{out-Command}
use Rattle.source.specs.declared.place.Place.{Place}
use Rattle.command_line.specs.declared.request.Ask.{Ask}
use Rattle.command_line.specs.declared.request.Ask.TheVariants.{Bounds, Check, Explore, Replay, Run, Why}

-- a required text
abbrev pub text_rule : Text → Rule
text_rule name = record (new_rule name) { required = true; action = Some Set }

-- an optional text
abbrev pub optional_rule : Text → Rule
optional_rule name = record (new_rule name) { action = Some Set }

-- an optional number of 64 bits
abbrev pub number_rule : Text → Rule
number_rule name = record (new_rule name) {
  long = Some name;
  value_names = 1;
  action = Some Set;
  parser = Some (Unsigned 0 18446744073709551615);
}

-- an option with a text
abbrev pub option_rule : Text → Rule
option_rule name = record (new_rule name) { long = Some name; value_names = 1; action = Some Set }

-- a flag
abbrev pub flag_rule : Text → Rule
flag_rule name = record (new_rule name) { long = Some name; action = Some SetTrue }

-- a subcommand with a file
abbrev pub file_command : Text → App
file_command name = with_rule (new_app name) (text_rule (codes "FILE"))

-- `bounds FILE`
abbrev pub bounds_command : App
bounds_command = file_command (codes "bounds")

-- `check FILE [--workers N] [--slots N]`
abbrev pub check_command : App
check_command = with_rule (with_rule (file_command (codes "check")) (number_rule (codes "workers"))) (number_rule (codes "slots"))

-- `why FILE [LINE:COL]`
abbrev pub why_command : App
why_command = with_rule (file_command (codes "why")) (optional_rule (codes "LINE:COL"))

-- a subcommand with a file and an entry
abbrev pub entry_command : Text → App
entry_command name = with_rule (file_command name) (text_rule (codes "ENTRY"))

-- `replay FILE ENTRY SCHEDULE [--trace] [--all]`
abbrev pub replay_command : App
replay_command =
    with_rule (with_rule (with_rule (entry_command (codes "replay")) (text_rule (codes "SCHEDULE"))) (flag_rule (codes "trace")))
    (flag_rule (codes "all"))

-- `run FILE ENTRY [--seed N] [--steps N] [--runs N] [--all] [--schedule OUT]`
abbrev pub run_command : App
run_command =
    with_rule (with_rule (with_rule (with_rule (with_rule (entry_command (codes "run")) (number_rule (codes "seed")))
    (number_rule (codes "steps"))) (number_rule (codes "runs"))) (flag_rule (codes "all"))) (option_rule (codes "schedule"))

-- `explore FILE ENTRY [--worlds N] [--schedule OUT]`
abbrev pub explore_command : App
explore_command = with_rule (with_rule (entry_command (codes "explore")) (number_rule (codes "worlds"))) (option_rule (codes "schedule"))

-- `singcheck` without its subcommands, of which one is required; it has a version
abbrev pub bare_command : App
bare_command = record (new_app (codes "singcheck")) {
  top = record (new_app (codes "singcheck")).top { has_version = true; subcommand_required = true; arg_required_else_help = true };
}

-- `singcheck` with the four commands that judge a text or replay a schedule
abbrev pub judging_command : App
judging_command =
    with_subcommand (with_subcommand (with_subcommand (with_subcommand bare_command bounds_command.top)
    check_command.top) replay_command.top) why_command.top

-- the same, and the two commands that choose runs
abbrev pub whole_command : App
whole_command = with_subcommand (with_subcommand judging_command run_command.top) explore_command.top

-- a command in memory is this one, and has no arguments that its subcommands share
pub record IsCommand (app : App) (c : Command) : Type 0 where
  pub same : app_of c ≡ app
  pub local : (out-Command c).has_globals ≡ false

-- the first text of this name among arguments is this one
abbrev pub Gives : List Row → (name text : Text) → Type 0
Gives rows name text = first_of name rows ≡ Some text

-- the arguments give these three texts
abbrev pub GivesReplay : (file entry schedule : Text) → List Row → Type 0
GivesReplay file entry schedule rows =
    Gives rows (codes "FILE") file × Gives rows (codes "ENTRY") entry × Gives rows (codes "SCHEDULE") schedule

-- the arguments give a file and an entry, and a file for a schedule if they name one
pub record GivesRun (file entry : Text) (schedule : Option Text) (rows : List Row) : Type 0 where
  pub its_file : Gives rows (codes "FILE") file
  pub its_entry : Gives rows (codes "ENTRY") entry
  pub its_schedule : first_of (codes "schedule") rows ≡ schedule

-- the text spells this place: a line and a column with a colon between them
pub record IsPlaceText (text : Text) (place : Place) : Type 0 where
  pub line : Text
  pub col : Text
  pub is : text ≡ line ++ (codes ":" ++ col)
  pub reads_line : digits_value 10 (without_leading_plus line) ≡ place.line
  pub reads_col : digits_value 10 (without_leading_plus col) ≡ place.col

-- the arguments name a place, or none
abbrev pub NamesPlace : List Row → Option Place → Type 0
NamesPlace rows None = first_of (codes "LINE:COL") rows ≡ None
NamesPlace rows (Some place) = (text : Text) × Gives rows (codes "LINE:COL") text × IsPlaceText text place

-- a text that may be there
abbrev pub text_in : Option (Bor Text) → Option Text
text_in x = option_map (λ t. t.now) x

-- the arguments of this subcommand ask for this; the numbers of options and the flags are not specified
abbrev pub IsAskOf : (subcommand : Text) → List Row → Ask → Type 0
IsAskOf subcommand rows (Bounds file) = subcommand ≡ codes "bounds" × Gives rows (codes "FILE") file.now
IsAskOf subcommand rows (Check file workers slots) = subcommand ≡ codes "check" × Gives rows (codes "FILE") file.now
IsAskOf subcommand rows (Why file named) = subcommand ≡ codes "why" × Gives rows (codes "FILE") file.now × NamesPlace rows named
IsAskOf subcommand rows (Replay file entry schedule lines) = subcommand ≡ codes "replay" × GivesReplay file.now entry.now schedule.now rows
IsAskOf subcommand rows (Run file entry wanted) = subcommand ≡ codes "run" × GivesRun file.now entry.now (text_in wanted.schedule) rows
IsAskOf subcommand rows (Explore file entry worlds schedule) =
    subcommand ≡ codes "explore" × GivesRun file.now entry.now (text_in schedule) rows

-- the words name a subcommand, and its arguments ask for this
pub record Asks (words : List Text) (asked : Ask) : Type 0 where
  pub subcommand : Text
  pub rows : List Row
  pub named : subcommand_of whole_command words ≡ Some (subcommand, rows)
  pub given : IsAskOf subcommand rows asked
