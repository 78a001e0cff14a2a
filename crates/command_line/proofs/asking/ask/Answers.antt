use Rattle.std.proofs.Common.{map, sym}
use Rattle.clap.specs.Words.{app_of}
use Rattle.command_line.proofs.AskLemmas.{asks_of}
use Rattle.command_line.proofs.asking.ask.Goals as goal

pub returns-in-Some-arguments_asked : goal.returns-in-Some-arguments_asked
returns-in-Some-arguments_asked c =
    asks_of (map (λ w. w.now) c.args.words.now) c.in_ok-matches.matches c.in-Some.inner.now c.in-Some.subcommand.now (app_of c.in_ok-command.command) c.in-Some-arguments_asked.asked c.in_ok-command.ensures.same c.in_ok-matches.ensures.ok.2 (sym c.in-Some.ensures.name) (sym c.in-Some.ensures.rows) c.in-Some-arguments_asked.ensures
