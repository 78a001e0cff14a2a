-- States and members by their parts, and the symbols with which they could continue.
use Rattle.std.specs.Prelude.{Bool, ◌||◌, List, [], ◌∷◌}
use Rattle.std.specs.List.{flat_map}
use Rattle.source.specs.declared.kind.Kind.TheVariants as kind
use Rattle.tree.specs.Symbols.{Symbol, is_kind, by_kind}
use Rattle.source.specs.declared.token.Span.{Span}
use Rattle.tree.specs.Spelling.{word, token_at, name, sequence, when, in_braces}
use Rattle.syntax.specs.Reading.{never, when_at}
use Rattle.tree.specs.ContractTrees.{PathTree, BodyTree, Empty, Path, One, StateTree, MemberTree, Message, State}
use Rattle.tree.specs.Grammar.{line, sign_word}
use Rattle.syntax.specs.Firsts.{opens_member}
use Rattle.syntax.specs.declared.states.Hop.{Hop}

-- hop = sign "->" ID .
abbrev pub hop : Hop → List Symbol
hop h = sequence (token_at (sign_word h.sign) h.mark ∷ word kind.Arrow ∷ name h.target ∷ [])

-- lines = "{" { line } "}" .
abbrev pub lines : List PathTree × Span → List Symbol
lines = in_braces (flat_map line)

-- one = "one" lines [ ";" ] .
abbrev pub one : (List PathTree × Span) × Bool → List Symbol
one p = sequence (word kind.One ∷ lines p.0 ∷ when (word kind.Semicolon) p.1 ∷ [])

-- the symbols with which such a body could continue
abbrev pub one_at : (List PathTree × Span) × Bool → Symbol → Bool
one_at p = when_at (is_kind kind.Semicolon) p.1

-- the symbols with which some state could continue: a semicolon after the brace
abbrev pub state_on : Symbol → Bool
state_on = is_kind kind.Semicolon

-- the symbols with which this body could continue
abbrev pub body_at : BodyTree → Symbol → Bool
body_at Empty = never
body_at (Path p) = never
body_at (One paths close semicolon) = when_at state_on semicolon

-- the symbols with which this state could continue
abbrev pub state_at : StateTree → Symbol → Bool
state_at s = body_at s.body

-- the symbols with which this member could continue
abbrev pub member_at : MemberTree → Symbol → Bool
member_at (Message m) = never
member_at (State s) = state_at s

-- the symbols with which some sequence of members could continue
abbrev pub members_on : Symbol → Bool
members_on y = state_on y || by_kind opens_member y
