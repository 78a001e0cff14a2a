use Rattle.std.proofs.Common.{◌∙◌}
use Rattle.source.proofs.WordLemmas.{kind_of_first}
use Rattle.source.proofs.words.of_word_in_s.Goals as goal

pub returns : goal.returns
returns c = c.among.ensures ∙ kind_of_first c.args.word.now 115 c.requires
