-- Parts of statements that hold no others.
use Rattle.std.proofs.Common.{List, Option, Some, None, refl}
use Rattle.source.specs.declared.kind.Kind.{Kind}
use Rattle.source.specs.declared.kind.Kind.TheVariants as kind
use Rattle.source.specs.declared.token.Span.{Span}
use Rattle.tree.specs.Symbols.{Fixed, by_kind, is_kind}
use Rattle.tree.specs.Spelling.{optional}
use Rattle.syntax.specs.Reading.{never, optional_at}
use Rattle.tree.specs.Expressions.{ExpressionTree, expression, dot_name}
use Rattle.syntax.specs.ExpressionReads.{opens_expression, expression_on, expression_at}
use Rattle.tree.specs.Values.{ValueTree, CallTree, value_spelling, arguments}
use Rattle.syntax.specs.ValueReads.{value_on, value_at}
use Rattle.tree.specs.StatementGrammar.{init, exchange}
use Rattle.syntax.specs.StatementParts.{init_on, result_on, declared, assigned, called, channel_ends, jump, start, return_parts}
use Rattle.tree.specs.declared.statement as made
use Rattle.syntax.specs.declared.statement_ends.ChannelEnds.{ChannelEnds}
use Rattle.syntax.proofs.pieces.Pieces.{Piece, Follows, Meets, both, both_piece, next, via_piece, or_right}
use Rattle.syntax.proofs.pieces.Beginnings.{Starts}
use Rattle.syntax.proofs.pieces.Options.{Opens, open_opt_piece}
use Rattle.syntax.proofs.pieces.CursorLemmas.{fixed, fixed_piece, placed_piece, named_piece}
use Rattle.syntax.proofs.ExpressionFails.{expression_piece, expression_starts, expression_apart}
use Rattle.syntax.proofs.ValueFails.{value_piece, value_apart}
use Rattle.syntax.proofs.ValueForms.{call_piece, maybe_dot_piece, dot_follows, dot_meets}
use Rattle.syntax.proofs.ValueRules.{arguments_piece}
use Rattle.lemmas.proofs.Bools.{or_left}

-- a value and the semicolon after it

pub value_follows : Follows value_on (fixed kind.Semicolon) never
value_follows = record { each = λ u r h. refl }

value_meets : Meets value_at (fixed kind.Semicolon) (λ _. never)
value_meets = record { here = λ v u r h. value_apart v (Fixed kind.Semicolon) refl }

pub value_end : Piece (both value_spelling (fixed kind.Semicolon)) never (λ _. never)
value_end = both_piece value_piece (fixed_piece kind.Semicolon) value_follows value_meets

-- init = "=" value .

abbrev pub init_to : ValueTree → Unit {0} × ValueTree
init_to v = (tt, v)

abbrev pub init_from : Unit {0} × ValueTree → ValueTree
init_from p = p.1

pub init_piece : Piece init value_on value_at
init_piece = via_piece init_to init_from (λ _. refl) (next (fixed_piece kind.Equal) value_piece)

pub init_starts : Starts init (is_kind kind.Equal)
init_starts = record { each = λ v. record { head = Fixed kind.Equal; tail = value_spelling v; is = refl; first = refl } }

pub init_opens : Opens (is_kind kind.Equal) value_on init_on
init_opens = record { none = λ y h. or_left (is_kind kind.Equal y) (value_on y) h; last = λ y h. or_right (is_kind kind.Equal y) (value_on y) h }

pub maybe_init_piece : Piece (optional init) init_on (optional_at (is_kind kind.Equal) value_at)
maybe_init_piece = open_opt_piece init_piece init_starts init_opens

pub maybe_init_follows : Follows init_on (fixed kind.Semicolon) never
maybe_init_follows = record { each = λ u r h. refl }

maybe_init_meets : Meets (optional_at (is_kind kind.Equal) value_at) (fixed kind.Semicolon) (λ _. never)
maybe_init_meets = record { here = elim [ None ↦ λ u r h. refl | Some v ↦ λ u r h. value_apart v (Fixed kind.Semicolon) refl ] }

pub maybe_init_end : Piece (both (optional init) (fixed kind.Semicolon)) never (λ _. never)
maybe_init_end = both_piece maybe_init_piece (fixed_piece kind.Semicolon) maybe_init_follows maybe_init_meets

-- declared = ID [ init ] ";" .

abbrev pub declared_to : Span × Option ValueTree → Span × (Option ValueTree × Unit {0})
declared_to p = (p.0, (p.1, tt))

abbrev pub declared_from : Span × (Option ValueTree × Unit {0}) → Span × Option ValueTree
declared_from p = (p.0, p.1.0)

pub declared_piece : Piece declared never (λ _. never)
declared_piece = via_piece declared_to declared_from (λ _. refl) (next named_piece maybe_init_end)

-- assigned = "=" value ";" .

abbrev pub assigned_to : ValueTree → Unit {0} × (ValueTree × Unit {0})
assigned_to v = (tt, (v, tt))

abbrev pub assigned_from : Unit {0} × (ValueTree × Unit {0}) → ValueTree
assigned_from p = p.1.0

pub assigned_piece : Piece assigned never (λ _. never)
assigned_piece = via_piece assigned_to assigned_from (λ _. refl) (next (fixed_piece kind.Equal) value_end)

-- called = arguments ";" .

abbrev pub called_to : Span × List ExpressionTree → (Span × List ExpressionTree) × Unit {0}
called_to p = (p, tt)

abbrev pub called_from : (Span × List ExpressionTree) × Unit {0} → Span × List ExpressionTree
called_from p = p.0

pub called_piece : Piece called never (λ _. never)
called_piece = via_piece called_to called_from (λ _. refl) (next arguments_piece (fixed_piece kind.Semicolon))

-- jump = word ";" .

abbrev pub jump_to : Span → Span × Unit {0}
jump_to span = (span, tt)

abbrev pub jump_from : Span × Unit {0} → Span
jump_from p = p.0

pub jump_piece : (opening : Kind) → Piece (jump opening) never (λ _. never)
jump_piece opening = via_piece jump_to jump_from (λ _. refl) (next (placed_piece opening) (fixed_piece kind.Semicolon))

-- call = ID [ dot_name ] arguments .

pub member_end : Piece (both (optional dot_name) arguments) never (λ _. never)
member_end = both_piece maybe_dot_piece arguments_piece dot_follows dot_meets

-- start = "start" call ";" .

abbrev pub start_to : Span × CallTree → Span × (CallTree × Unit {0})
start_to p = (p.0, (p.1, tt))

abbrev pub start_from : Span × (CallTree × Unit {0}) → Span × CallTree
start_from p = (p.0, p.1.0)

pub start_piece : Piece start never (λ _. never)
start_piece = via_piece start_to start_from (λ _. refl) (next (placed_piece kind.Start) (next call_piece (fixed_piece kind.Semicolon)))

-- return = "return" [ expression ] ";" .

pub result_opens : Opens (by_kind opens_expression) expression_on result_on
result_opens = record { none = λ y h. or_left (by_kind opens_expression y) (expression_on y) h; last = λ y h. or_right (by_kind opens_expression y) (expression_on y) h }

pub maybe_expression_piece : Piece (optional expression) result_on (optional_at (by_kind opens_expression) expression_at)
maybe_expression_piece = open_opt_piece expression_piece expression_starts result_opens

pub result_follows : Follows result_on (fixed kind.Semicolon) never
result_follows = record { each = λ u r h. refl }

result_meets : Meets (optional_at (by_kind opens_expression) expression_at) (fixed kind.Semicolon) (λ _. never)
result_meets = record { here = elim [ None ↦ λ u r h. refl | Some e ↦ λ u r h. expression_apart e (Fixed kind.Semicolon) refl ] }

pub result_end : Piece (both (optional expression) (fixed kind.Semicolon)) never (λ _. never)
result_end = both_piece maybe_expression_piece (fixed_piece kind.Semicolon) result_follows result_meets

abbrev pub return_to : Span × Option ExpressionTree → Span × (Option ExpressionTree × Unit {0})
return_to p = (p.0, (p.1, tt))

abbrev pub return_from : Span × (Option ExpressionTree × Unit {0}) → Span × Option ExpressionTree
return_from p = (p.0, p.1.0)

pub return_piece : Piece return_parts never (λ _. never)
return_piece = via_piece return_to return_from (λ _. refl) (next (placed_piece kind.Return) result_end)

-- channel_ends = "NewChannel" "(" "out" ID "," "out" ID ")" ";" .

abbrev pub Ends : Type 0
Ends = Span × (Span × (Unit {0} × (Span × (Unit {0} × (Unit {0} × (Span × (Unit {0} × Unit {0})))))))

abbrev pub ends_to : ChannelEnds → Ends
ends_to c = (c.word, (c.open, (tt, (c.first, (tt, (tt, (c.second, (tt, tt))))))))

abbrev pub ends_from : Ends → ChannelEnds
ends_from p = record { word = p.0; «open» = p.1.0; first = p.1.1.1.0; second = p.1.1.1.1.1.1.0 }

pub channel_ends_piece : Piece channel_ends never (λ _. never)
channel_ends_piece = via_piece ends_to ends_from (λ _. refl) (next (placed_piece kind.NewChannel) (next (placed_piece kind.OpenParen) (next (fixed_piece kind.Out) (next named_piece (next (fixed_piece kind.Comma) (next (fixed_piece kind.Out) (next named_piece (next (fixed_piece kind.CloseParen) (fixed_piece kind.Semicolon)))))))))

-- exchange = "exchange" "(" ID "." ID "," ID ")" ";" .

abbrev pub Exchanged : Type 0
Exchanged = Span × (Span × (Span × (Unit {0} × (Span × (Unit {0} × (Span × (Unit {0} × Unit {0})))))))

abbrev pub exchange_to : made.Exchange.Exchange → Exchanged
exchange_to e = (e.word, (e.«open», (e.holder, (tt, (e.field, (tt, (e.given, (tt, tt))))))))

abbrev pub exchange_from : Exchanged → made.Exchange.Exchange
exchange_from p = record { word = p.0; «open» = p.1.0; holder = p.1.1.0; field = p.1.1.1.1.0; given = p.1.1.1.1.1.1.0 }

pub exchange_piece : Piece exchange never (λ _. never)
exchange_piece = via_piece exchange_to exchange_from (λ _. refl) (next (placed_piece kind.Exchange) (next (placed_piece kind.OpenParen) (next named_piece (next (fixed_piece kind.Dot) (next named_piece (next (fixed_piece kind.Comma) (next named_piece (next (fixed_piece kind.CloseParen) (fixed_piece kind.Semicolon)))))))))
