-- Kinds of tokens as a person reads them.
use Rattle.std.specs.Prelude.{ℕ, List, codes}
use Rattle.source.specs.Words.{text_of}
use Rattle.source.specs.declared.kind.Kind.{Kind}
use Rattle.source.specs.declared.kind.Kind.TheVariants.{Name, Number}

-- a symbol or a reserved word as it is written, and a phrase for each of the other two kinds
abbrev pub word_of : Kind → List ℕ
word_of Name = codes "a name"
word_of Number = codes "a number"
word_of kind = text_of kind
