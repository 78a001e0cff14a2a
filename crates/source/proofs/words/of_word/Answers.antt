use Rattle.std.proofs.Common.{◌∙◌, arith}
use Rattle.std.specs.Prelude.{slice_index}
use Rattle.source.proofs.WordLemmas.{kind_of_first, letter_is_name, name_of_first, no_first}
use Rattle.source.proofs.words.of_word.Goals as goal

pub returns-then-word-eq1 : goal.returns-then-word-eq1
returns-then-word-eq1 c = letter_is_name c.args.word.now (omega arith)

pub returns-in-98 : goal.returns-in-98
returns-in-98 c = c.among.ensures ∙ kind_of_first c.args.word.now 98 c.in-98.is

pub returns-in-99 : goal.returns-in-99
returns-in-99 c = c.among-in-99.ensures ∙ kind_of_first c.args.word.now 99 c.in-99.is

pub returns-in-67 : goal.returns-in-67
returns-in-67 c = c.among-in-67.ensures ∙ kind_of_first c.args.word.now 67 c.in-67.is

pub returns-in-100 : goal.returns-in-100
returns-in-100 c = c.among-in-100.ensures ∙ kind_of_first c.args.word.now 100 c.in-100.is

pub returns-in-101 : goal.returns-in-101
returns-in-101 c = c.among-in-101.ensures ∙ kind_of_first c.args.word.now 101 c.in-101.is

pub returns-in-69 : goal.returns-in-69
returns-in-69 c = c.among-in-69.ensures ∙ kind_of_first c.args.word.now 69 c.in-69.is

pub returns-in-102 : goal.returns-in-102
returns-in-102 c = c.among-in-102.ensures ∙ kind_of_first c.args.word.now 102 c.in-102.is

pub returns-in-105 : goal.returns-in-105
returns-in-105 c = c.among-in-105.ensures ∙ kind_of_first c.args.word.now 105 c.in-105.is

pub returns-in-73 : goal.returns-in-73
returns-in-73 c = c.among-in-73.ensures ∙ kind_of_first c.args.word.now 73 c.in-73.is

pub returns-in-109 : goal.returns-in-109
returns-in-109 c = c.among-in-109.ensures ∙ kind_of_first c.args.word.now 109 c.in-109.is

pub returns-in-110 : goal.returns-in-110
returns-in-110 c = c.among-in-110.ensures ∙ kind_of_first c.args.word.now 110 c.in-110.is

pub returns-in-78 : goal.returns-in-78
returns-in-78 c = c.among-in-78.ensures ∙ kind_of_first c.args.word.now 78 c.in-78.is

pub returns-in-111 : goal.returns-in-111
returns-in-111 c = c.among-in-111.ensures ∙ kind_of_first c.args.word.now 111 c.in-111.is

pub returns-in-112 : goal.returns-in-112
returns-in-112 c = c.among-in-112.ensures ∙ kind_of_first c.args.word.now 112 c.in-112.is

pub returns-in-114 : goal.returns-in-114
returns-in-114 c = c.among-in-114.ensures ∙ kind_of_first c.args.word.now 114 c.in-114.is

pub returns-in-116 : goal.returns-in-116
returns-in-116 c = c.among-in-116.ensures ∙ kind_of_first c.args.word.now 116 c.in-116.is

pub returns-in-118 : goal.returns-in-118
returns-in-118 c = c.among-in-118.ensures ∙ kind_of_first c.args.word.now 118 c.in-118.is

pub returns-in-119 : goal.returns-in-119
returns-in-119 c = c.among-in-119.ensures ∙ kind_of_first c.args.word.now 119 c.in-119.is

pub returns-in_default : goal.returns-in_default
returns-in_default c = name_of_first c.args.word.now (no_first (slice_index c.args.word.now 0) (omega arith) (omega arith) (omega arith) (omega arith) (omega arith) (omega arith) (omega arith) (omega arith) (omega arith) (omega arith) (omega arith) (omega arith) (omega arith) (omega arith) (omega arith) (omega arith) (omega arith) (omega arith) (omega arith))
