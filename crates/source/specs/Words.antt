-- How symbols and reserved words are written.
use Rattle.std.specs.Prelude.{ℕ, List, [], ◌∷◌, ◌++◌, Option, None, Some, if◌then◌else◌, find, nat_eq, unwrap_or, codes, drop}
use Rattle.std.specs.Cmp.Lexicographic.{pointwise}
use denote.Enum.Bare.{sameb}
use Rattle.source.specs.contracts.kind.Kind.{the_type}
use Rattle.source.specs.declared.kind.Kind.{Kind}
use Rattle.source.specs.declared.kind.Kind.TheVariants.{Name, Bool as BoolWord, Break, Byte, Case, Class, ChannelClosed, Claims}
use Rattle.source.specs.declared.kind.Kind.TheVariants.{Continue, Contract, Delete, Else, Exchange, Exp, ExHeap, False, If, Imp, In, Int}
use Rattle.source.specs.declared.kind.Kind.TheVariants.{Internal, Message, New, NewChannel, One, Out, Private, Public, Receive}
use Rattle.source.specs.declared.kind.Kind.TheVariants.{Rep, Return, Start, State, Static, Struct, Switch, True, Void, While}
use Rattle.source.specs.declared.kind.Kind.TheVariants.{OpenBrace, CloseBrace, OpenParen, CloseParen, OpenBracket, CloseBracket}
use Rattle.source.specs.declared.kind.Kind.TheVariants.{Semicolon, Colon, Comma, Dot, Star, Bang, Question, Equal, EqualEqual, NotEqual}
use Rattle.source.specs.declared.kind.Kind.TheVariants.{Less, LessEqual, Greater, GreaterEqual, Plus, Minus, AndAnd, OrOr, Arrow}

-- the symbols, each with its spelling
abbrev pub all_symbols : List (Kind × List ℕ)
all_symbols =
    (OpenBrace, codes "{") ∷ (CloseBrace, codes "}") ∷ (OpenParen, codes "(") ∷ (CloseParen, codes ")")
    ∷ (OpenBracket, codes "[") ∷ (CloseBracket, codes "]") ∷ (Semicolon, codes ";") ∷ (Colon, codes ":")
    ∷ (Comma, codes ",") ∷ (Dot, codes ".") ∷ (Star, codes "*") ∷ (Bang, codes "!") ∷ (Question, codes "?")
    ∷ (Equal, codes "=") ∷ (Less, codes "<") ∷ (Greater, codes ">") ∷ (Plus, codes "+") ∷ (Minus, codes "-")
    ∷ (EqualEqual, codes "==") ∷ (NotEqual, codes "!=") ∷ (LessEqual, codes "<=") ∷ (GreaterEqual, codes ">=")
    ∷ (AndAnd, codes "&&") ∷ (OrOr, codes "||") ∷ (Arrow, codes "->") ∷ []

-- the reserved words, each with its spelling: first those of declarations and types, then those of statements and expressions
abbrev pub reserved_words : List (Kind × List ℕ)
reserved_words =
    (BoolWord, codes "bool") ∷ (Byte, codes "byte") ∷ (Class, codes "class") ∷ (Claims, codes "Claims")
    ∷ (Contract, codes "contract") ∷ (Exp, codes "Exp") ∷ (ExHeap, codes "ExHeap") ∷ (Imp, codes "Imp")
    ∷ (In, codes "in") ∷ (Int, codes "int") ∷ (Internal, codes "internal") ∷ (Message, codes "message")
    ∷ (One, codes "one") ∷ (Out, codes "out") ∷ (Private, codes "private") ∷ (Public, codes "public")
    ∷ (Rep, codes "rep") ∷ (State, codes "state") ∷ (Static, codes "static") ∷ (Struct, codes "struct")
    ∷ (Void, codes "void") ∷ (Break, codes "break") ∷ (Case, codes "case") ∷ (ChannelClosed, codes "ChannelClosed")
    ∷ (Continue, codes "continue") ∷ (Delete, codes "delete") ∷ (Else, codes "else")
    ∷ (Exchange, codes "exchange") ∷ (False, codes "false") ∷ (If, codes "if") ∷ (New, codes "new")
    ∷ (NewChannel, codes "NewChannel") ∷ (Receive, codes "receive") ∷ (Return, codes "return")
    ∷ (Start, codes "start") ∷ (Switch, codes "switch") ∷ (True, codes "true") ∷ (While, codes "while") ∷ []

-- the kind in this table whose spelling is these bytes
abbrev pub written_so : List (Kind × List ℕ) → List ℕ → Option Kind
written_so [] bytes = None
written_so (w ∷ written) bytes = if pointwise nat_eq w.1 bytes then Some w.0 else written_so written bytes

-- the symbol that the bytes are as a whole, if they are one
abbrev pub symbol : List ℕ → Option Kind
symbol bytes = written_so all_symbols bytes

-- the kind of a whole word: a reserved word if it is spelled like one, else a name
unfoldable pub word_kind : List ℕ → Kind
word_kind bytes = unwrap_or (written_so reserved_words bytes) Name

-- how a kind in this table is written; empty for any other kind
abbrev pub text_among : List (Kind × List ℕ) → Kind → List ℕ
text_among [] kind = []
text_among (w ∷ written) kind = if sameb the_type w.0 kind then w.1 else text_among written kind

-- how a symbol or a reserved word is written; empty for a name or a number
abbrev pub text_of : Kind → List ℕ
text_of kind = text_among (all_symbols ++ reserved_words) kind

-- how a reserved word is written; empty for any other kind
abbrev pub reserved_text : Kind → List ℕ
reserved_text kind = text_among reserved_words kind

-- how a reserved word of statements or expressions is written; empty for any other kind
abbrev pub statement_text : Kind → List ℕ
statement_text kind = text_among (drop 21 reserved_words) kind

-- the first of these kinds whose reserved word is these bytes, else a name
abbrev pub kind_among : List Kind → List ℕ → Kind
kind_among kinds bytes = unwrap_or (find (λ k. pointwise nat_eq (reserved_text k) bytes) kinds) Name
