use Rattle.std.proofs.Common.{◌≡◌, map, take}
use Rattle.names.specs.Heads.{key_words, awaited_word}
use Rattle.tables.specs.Words.{word_at}
use Rattle.names.proofs.heads.keys_of.Given as goal

abbrev pub invariant-loop-case : goal.invariant-loop-case
invariant-loop-case l = map key_words l.keys.items ≡ map (λ a. (word_at l.text a.endpoint, awaited_word l.text a.awaited)) (take l.case-index l.list)
