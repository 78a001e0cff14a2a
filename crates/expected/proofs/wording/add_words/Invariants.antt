use Rattle.std.proofs.Common.{◌≡◌, ◌++◌, map, take}
use Rattle.expected.specs.KindWords.{word_of}
use Rattle.expected.proofs.wording.add_words.Given as goal

abbrev pub invariant-loop-kind : goal.invariant-loop-kind
invariant-loop-kind l =
    map (λ word. word.now) l.words.items ≡ map (λ word. word.now) l.fn.words.items ++ map word_of (take l.kind-index l.kinds)
