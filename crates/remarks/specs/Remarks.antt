-- Remarks on mistakes in names or types.
use Rattle.std.specs.Prelude.{ℕ, List, [], ◌++◌, codes, drop, Option, Some, option_and_then}
use Rattle.std.specs.Fmt.{decimal}
use Rattle.program.specs.declared.types.Side.{Side}
use Rattle.program.specs.declared.types.Side.TheVariants.{Imp, Exp}
use Rattle.source.specs.declared.place.Place.{Place}
use Rattle.declarations.specs.Mistakes.{most_of}
use Rattle.declarations.specs.Program.{ProgramText}
use Rattle.declarations.specs.Resolution.{printed_name}
use Rattle.declarations.specs.declared.mistake.Limit.{Limit}
use Rattle.declarations.specs.declared.mistake.Limit.TheVariants as limit
use Rattle.declarations.specs.declared.mistake.Mismatch.{Mismatch}
use Rattle.declarations.specs.declared.mistake.Mismatch.TheVariants as mismatch
use Rattle.declarations.specs.declared.mistake.Mistake.{Mistake}
use Rattle.declarations.specs.declared.mistake.NameSort.{NameSort}
use Rattle.declarations.specs.declared.mistake.NameSort.TheVariants as sort
use Rattle.nearest.specs.Nearest.{nearest_name}
use Rattle.remarks.specs.Candidates.{candidates}
use Rattle.source.specs.declared.token.Span.{Span}
use Rattle.declarations.specs.declared.mistake.Mistake.TheVariants as mistake
use Rattle.remarks.specs.TypeWords.{cut_name, demand_words, type_words}
use Rattle.explanations.specs.Lines.{LineModel, line}
use Rattle.std.specs.Str.Lossy.{utf8_lossy}
use Rattle.tables.specs.Words.{word_at}

-- a remark with this text at the place
abbrev pub at : Place → List ℕ → Option LineModel
at place text = Some (line place text)

abbrev pub side_words : Side → List ℕ
side_words Imp = codes "the importer"
side_words Exp = codes "the exporter"

-- why a type is wrong
abbrev pub mismatch_words : ProgramText → Mismatch → List ℕ
mismatch_words p (mismatch.Given asked given) = codes "expected " ++ (demand_words p asked ++ (codes ", found " ++ type_words p given))
mismatch_words p (mismatch.NoValue k) = codes "return needs a value of type " ++ type_words p k
mismatch_words p mismatch.ValueReturned = codes "a void method returns no value"
mismatch_words p (mismatch.NotSent side word) = side_words side ++ (codes " does not send " ++ utf8_lossy (drop 4 (word_at p.text word)))
mismatch_words p (mismatch.NotReceived side word) = side_words side ++ (codes " does not receive " ++ printed_name p.text word)
mismatch_words p mismatch.SendStarted = codes "start takes a method call, not a send"
mismatch_words p mismatch.LengthWritten = codes "the length of an array cannot be assigned"
mismatch_words p mismatch.FieldOwns = codes "an owning field can only be used in exchange"

-- what has a limit: a phrase before the number, and one after it
abbrev pub limit_front : Limit → List ℕ
limit_front limit.Parameters = codes "a message may have at most "
limit_front limit.Fields = codes "a struct may have at most "
limit_front limit.Variables = codes "a method may have at most "
limit_front _ = codes "a program may have at most "

abbrev pub limit_back : Limit → List ℕ
limit_back limit.Contracts = codes " contracts"
limit_back limit.States = codes " states"
limit_back limit.Parameters = codes " parameters"
limit_back limit.Fields = codes " owning fields"
limit_back limit.Methods = codes " methods"
limit_back limit.Variables = codes " variables of the exchange heap"

-- the word that is compared with the names of a sort, and what is written before such a name
abbrev pub word_sought : ProgramText → Span → NameSort → List ℕ
word_sought p name (sort.Sent n) = drop 4 (word_at p.text name)
word_sought p name _ = word_at p.text name

abbrev pub front_words : NameSort → List ℕ
front_words (sort.Sent n) = codes "Send"
front_words _ = []

-- the nearest of the names that could be meant, if one is near
abbrev pub near_remark : ProgramText → Span → NameSort → Option LineModel
near_remark p name s = option_and_then
    (λ near. at near.place (codes "the nearest name is " ++ (front_words s ++ cut_name (word_at p.text near))))
    (nearest_name p.text (word_sought p name s) (candidates p name.place s))

-- the remark on a name of a sort that nothing declares
abbrev pub unknown_remark : ProgramText → Span → NameSort → Option LineModel
unknown_remark p name sort.Length = at name.place (codes "the only field of an array is Length")
unknown_remark p name s = near_remark p name s

-- the remark on a mistake
abbrev pub remark_of : ProgramText → Mistake → Option LineModel
remark_of p (mistake.DeclaredTwice name first) = at first (codes "first declared here")
remark_of p (mistake.Unknown name sort) = unknown_remark p name sort
remark_of p (mistake.WrongType place why) = at place (mismatch_words p why)
remark_of p (mistake.WrongNumber place asked given) =
    at place (codes "expected " ++ (decimal asked ++ (codes ", found " ++ decimal given)))
remark_of p (mistake.BreakOutside place) = at place (codes "break must be in a loop or a switch")
remark_of p (mistake.ContinueOutside place) = at place (codes "continue must be in a loop")
remark_of p (mistake.LimitPassed place limit) = at place (limit_front limit ++ (decimal (most_of limit) ++ limit_back limit))
remark_of p (mistake.NotStarted name) = at name.place (codes "it returns a value, or takes a block without [Claims]")
remark_of p (mistake.CaseTwice endpoint awaited) = at endpoint.place (codes "an earlier case already receives this")
remark_of p (mistake.LacksClosed name) = at name.place (codes "missing case " ++ (printed_name p.text name ++ codes ".ChannelClosed()"))
