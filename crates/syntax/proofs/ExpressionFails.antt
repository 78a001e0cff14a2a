-- Where an expression fails, by the part of it that fails.
use Rattle.std.proofs.Common.{◌≡◌, true, false, List, [], ◌∷◌, ◌++◌, Some, Result, Ok, Err, sym, refl, ap, ◌∙◌, subst, append_assoc}
use Rattle.std.specs.List.{flat_map}
use Rattle.source.specs.declared.kind.Kind.TheVariants as kind
use Rattle.source.specs.declared.token.Span.{Span}
use Rattle.tree.specs.Symbols.{Symbol, Placed, Named, by_kind, kind_at}
use Rattle.tree.specs.Spelling.{within, parens, name, optional}
use Rattle.syntax.specs.Reading.{never, Stops, leads, Fails, Takes, Reads, AtFault}
use Rattle.syntax.specs.declared.cursor.Stuck.{Stuck}
use Rattle.syntax.specs.declared.cursor.Stuck.TheVariants.{Unexpected, Memory}
use Rattle.tree.specs.Operators.{Operators, Or, And, Equal, Compare, Add, Multiply, Level, Single, Joined, below, OperatorOf, operator, prefix}
use Rattle.syntax.specs.OperatorReads.{joins, opens_prefix, opens_rest}
use Rattle.tree.specs.Expressions.{LevelTree, AtomTree, Unary, Chain, Done, Number, True, False, Target, Parens, Variable, Field, Element, ExpressionTree, steps, StepOf, level, atom, target, step, expression, dot_name}
use Rattle.syntax.specs.ExpressionReads.{expression_on, expression_at, opens_expression, level_on, level_at, step_at, steps_end, target_on, target_at, atom_at}
use Rattle.tree.specs.Factors.{step_sequence}
use Rattle.tree.specs.declared.expression.Prefix.{Prefix}
use Rattle.tree.specs.declared.expression.PrefixOperator.{PrefixOperator}
use Rattle.tree.specs.declared.expression.PrefixOperator.TheVariants as prefixes
use Rattle.syntax.proofs.pieces.Pieces.{Piece, ReadsOneWay, both, via_fails, same_fails, wide_fails, fails_first, fails_second, fails_here, fails_after, stops_never, stops_with}
use Rattle.syntax.proofs.pieces.Beginnings.{Begins, Starts, splits_self}
use Rattle.syntax.proofs.pieces.Options.{opt_piece, opt_fails}
use Rattle.syntax.proofs.pieces.Choices.{form_way, form_fails}
use Rattle.syntax.proofs.pieces.KindLemmas.{kind_leads}
use Rattle.syntax.proofs.pieces.Enclosed.{parens_piece, brackets_piece}
use Rattle.syntax.proofs.pieces.Chains.{chain, chain_on, chain_at, chain_first_fails, chain_links_fail, chain_reads, operator_fails, part_fails, link_fails, link_starts}
use Rattle.syntax.proofs.pieces.CursorLemmas.{placed_piece, named_piece, leads_of}
use Rattle.syntax.proofs.LevelRules.{on_split, level_joins, chain_to, chain_from, chain_there, chain_spelled, stops_chain, level_wide}
use Rattle.syntax.proofs.AtomRules.{in_parens, in_brackets, unary_to, unary_from, unary_spelled, prefixes_piece, prefixes_follow, Rest, Dotted, Indexed, rest, index, rest_at, named_rest, rest_starts, dotted_form, indexed_form, dot_piece, target_to, target_from, target_there, target_spelled}
use Rattle.syntax.proofs.ExpressionRules.{level_way, atom_way, target_way}

-- each level has an expression

some_place : Span
some_place = (placed_piece kind.Number).some

some_level : (l : Level) → LevelTree l
some_level Single = Unary [] (Number some_place)
some_level (Joined Multiply) = Chain Multiply (Unary [] (Number some_place)) (Done Multiply)
some_level (Joined Add) = Chain Add (Chain Multiply (Unary [] (Number some_place)) (Done Multiply)) (Done Add)
some_level (Joined Compare) = Chain Compare (Chain Add (Chain Multiply (Unary [] (Number some_place)) (Done Multiply)) (Done Add)) (Done Compare)
some_level (Joined Equal) = Chain Equal (Chain Compare (Chain Add (Chain Multiply (Unary [] (Number some_place)) (Done Multiply)) (Done Add)) (Done Compare)) (Done Equal)
some_level (Joined And) = Chain And (Chain Equal (Chain Compare (Chain Add (Chain Multiply (Unary [] (Number some_place)) (Done Multiply)) (Done Add)) (Done Compare)) (Done Equal)) (Done And)
some_level (Joined Or) = Chain Or (Chain And (Chain Equal (Chain Compare (Chain Add (Chain Multiply (Unary [] (Number some_place)) (Done Multiply)) (Done Add)) (Done Compare)) (Done Equal)) (Done And)) (Done Or)

pub level_piece : (l : Level) → Piece (level {l = l}) (level_on l) level_at
level_piece l = record { some = some_level l; each = level_way }

pub atom_piece : Piece atom (level_on Single) atom_at
atom_piece = record { some = Number some_place; each = atom_way }

pub target_piece : Piece target target_on target_at
target_piece = record { some = Variable some_place; each = target_way }

pub expression_piece : Piece expression (level_on (Joined Or)) level_at
expression_piece = level_piece (Joined Or)

pub parens_expression_piece : Piece (parens expression) never (λ _. never)
parens_expression_piece = parens_piece in_parens expression_piece

pub index_piece : Piece (within kind.OpenBracket expression kind.CloseBracket) never (λ _. never)
index_piece = brackets_piece in_brackets expression_piece

-- a chain fails if its first part fails, or what follows it

abbrev chained : (l : Operators) → LevelTree (Joined l) → List Symbol
chained l z = chain (level {l = below l}) (operator l) (chain_to {l = l} z)

chain_fails : (l : Operators) {old new : List Symbol} → Fails (chain (level {l = below l}) (operator l)) (chain_on (level_on (below l)) (by_kind (joins l))) old new → Fails (level {l = Joined l}) (level_on (Joined l)) old new
chain_fails l {old} {new} h =
    let parts : Fails {X = LevelTree (Joined l)} (chained l) (chain_on (level_on (below l)) (by_kind (joins l))) old new = via_fails (chain_to {l = l}) (chain_from l) (chain_there l) h in
    wide_fails (on_split l) (same_fails {a = chained l} {b = level {l = Joined l}} (chain_spelled l) parts)

pub first_fails : (l : Operators) {old new : List Symbol} → Fails (level {l = below l}) (level_on (below l)) old new → Fails (level {l = Joined l}) (level_on (Joined l)) old new
first_fails l {old} {new} h = chain_fails l (chain_first_fails (level_joins l) (level_piece (below l)) h)

pub others_fail : (l : Operators) {old mid new : List Symbol} (x : LevelTree (below l)) → Takes level level_at old mid x → Fails (flat_map (step l)) (chain_on (level_on (below l)) (by_kind (joins l))) mid new → Fails (level {l = Joined l}) (level_on (Joined l)) old new
others_fail l {old} {mid} {new} x read h = chain_fails l (chain_links_fail (level_joins l) (level_piece (below l)) x read h)

-- an expression fails if its first unary does
pub unary_fails : (l : Level) {old new : List Symbol} → Fails (level {l = Single}) (level_on Single) old new → Fails (level {l = l}) (level_on l) old new
unary_fails Single h = h
unary_fails (Joined Multiply) h = first_fails Multiply h
unary_fails (Joined Add) h = first_fails Add (first_fails Multiply h)
unary_fails (Joined Compare) h = first_fails Compare (first_fails Add (first_fails Multiply h))
unary_fails (Joined Equal) h = first_fails Equal (first_fails Compare (first_fails Add (first_fails Multiply h)))
unary_fails (Joined And) h = first_fails And (first_fails Equal (first_fails Compare (first_fails Add (first_fails Multiply h))))
unary_fails (Joined Or) h = first_fails Or (first_fails And (first_fails Equal (first_fails Compare (first_fails Add (first_fails Multiply h)))))

-- a step fails if its operator fails, or the part after it; steps fail if one more does

pub mark_fails : (l : Operators) {old new : List Symbol} → Fails (operator l) never old new → Fails (step l) (level_on (below l)) old new
mark_fails l {old} {new} h = operator_fails (level_joins l) (level_piece (below l)) h

pub behind_fails : (l : Operators) {old mid new : List Symbol} (o : OperatorOf l) → Takes (operator l) (λ _. never) old mid o → Fails (level {l = below l}) (level_on (below l)) mid new → Fails (step l) (level_on (below l)) old new
behind_fails l {old} {mid} {new} o read h = part_fails (level_joins l) (level_piece (below l)) o read h

pub step_fails : (l : Operators) {old mid new : List Symbol} (ps : List (StepOf l)) → old ≡ flat_map (step l) ps ++ mid → leads (by_kind (joins l)) mid ≡ true → Fails (step l) (level_on (below l)) mid new → Fails (flat_map (step l)) (chain_on (level_on (below l)) (by_kind (joins l))) old new
step_fails l {old} {mid} {new} ps read more h = link_fails (level_joins l) (level_piece (below l)) ps read more h

-- a chain is read
pub chain_is_read : (l : Operators) (old mid new : List Symbol) (x : LevelTree (below l)) (ps : List (StepOf l)) (z : LevelTree (Joined l)) → z ≡ Chain l x (step_sequence l ps) → Takes level level_at old mid x → Takes (flat_map (step l)) (steps_end l) mid new ps → Takes level level_at old new z
chain_is_read l old mid new x ps z is first others =
    let read : Takes (chain level (operator l)) (chain_at level_at (by_kind (joins l))) old new (x, ps) = chain_reads (level_joins l) old mid new x ps first others in
    let made = chain_from l (x, ps) in
    let same = sym (chain_there l (x, ps)) in
    let all : Takes (chain level (operator l)) (chain_at level_at (by_kind (joins l))) old new (chain_to made) = subst (Takes (chain level (operator l)) (chain_at level_at (by_kind (joins l))) old new) same read in
    subst (Takes level level_at old new) (sym is) (all.0 ∙ ap (λ t. t ++ new) (chain_spelled l made), stops_chain l made new all.1)

-- unary = { "!" | "-" } atom .

abbrev prefixed : List Prefix × AtomTree → List Symbol
prefixed = both (flat_map prefix) atom

unary_of_fails : {old new : List Symbol} → Fails prefixed (level_on Single) old new → Fails (level {l = Single}) (level_on Single) old new
unary_of_fails {old} {new} h = same_fails {b = level {l = Single}} unary_spelled (via_fails {a = prefixed} unary_to unary_from (λ _. refl) h)

pub prefixes_fail : {old new : List Symbol} → Fails (flat_map prefix) (by_kind opens_prefix) old new → Fails (level {l = Single}) (level_on Single) old new
prefixes_fail {old} {new} h = unary_of_fails (fails_first h atom_piece prefixes_follow)

pub atom_fails : {old mid new : List Symbol} (ps : List Prefix) → (old ≡ flat_map prefix ps ++ mid) × Stops (by_kind opens_prefix) mid → Fails atom (level_on Single) mid new → Fails (level {l = Single}) (level_on Single) old new
atom_fails {old} {mid} {new} ps read h = unary_of_fails (fails_second ps prefixes_piece read prefixes_follow h)

-- target = ID [ "." ID | "[" expression "]" ] .

rest_piece : Piece rest never (λ _. never)
rest_piece = record { some = Dotted some_place; each = way }
  where
    way : (r : Rest) → ReadsOneWay rest never (λ _. never) r
    way (Dotted span) = form_way dotted_form (λ _ r h. h) (dot_piece.each span)
    way (Indexed e) = form_way indexed_form (λ _ r h. h) (index_piece.each e)

maybe_rest_piece : Piece (optional rest) target_on rest_at
maybe_rest_piece = opt_piece rest_piece rest_starts splits_self

target_fails : {old new : List Symbol} → Fails named_rest target_on old new → Fails target target_on old new
target_fails {old} {new} h = same_fails target_spelled (via_fails {a = named_rest} target_to target_from target_there h)

pub variable_fails : {old new : List Symbol} → Fails name never old new → Fails target target_on old new
variable_fails {old} {new} h = target_fails (fails_here h maybe_rest_piece)

rest_fails : {mid new : List Symbol} (variable : Span) → leads target_on mid ≡ true → Fails rest never mid new → Fails target target_on (name variable ++ mid) new
rest_fails {mid} {new} variable here h = target_fails (fails_after variable named_piece (refl, stops_never mid) (opt_fails rest_piece rest_starts splits_self here h))

pub dotted_fails : {mid new : List Symbol} (variable : Span) → kind_at mid ≡ Some kind.Dot → Fails dot_name never mid new → Fails target target_on (name variable ++ mid) new
dotted_fails {mid} {new} variable is h = rest_fails variable (leads_of opens_rest mid kind.Dot is refl) (form_fails dotted_form (kind_leads kind.Dot mid is) h)

pub indexed_fails : {mid new : List Symbol} (variable : Span) → kind_at mid ≡ Some kind.OpenBracket → Fails index never mid new → Fails target target_on (name variable ++ mid) new
indexed_fails {mid} {new} variable is h = rest_fails variable (leads_of opens_rest mid kind.OpenBracket is refl) (form_fails indexed_form (kind_leads kind.OpenBracket mid is) h)

-- a unary is read
pub unary_is_read : (old mid new : List Symbol) (ps : List Prefix) (a : AtomTree) (z : LevelTree Single) → z ≡ Unary ps a → Takes (flat_map prefix) (λ _. by_kind opens_prefix) old mid ps → Takes atom atom_at mid new a → Takes level level_at old new z
unary_is_read old mid new ps a z is first second =
    let all : Takes level level_at old new (Unary ps a) = (first.0 ∙ ap (λ t. flat_map prefix ps ++ t) second.0 ∙ sym (append_assoc (flat_map prefix ps) (atom a) new), stops_with (atom_at a) (level_at (Unary ps a)) (λ y h. h) new second.1) in
    subst (Takes level level_at old new) (sym is) all

-- the result for the part after an operator, as a result for the step

faulted : (fault : Stuck) (P Q : Type 0) → (P → Q) → AtFault fault P → AtFault fault Q
faulted Unexpected P Q f h = f h
faulted Memory P Q f h = tt

pub step_tail : (l : Operators) {X : Type 0} (view : X → LevelTree (below l)) (o : OperatorOf l) (old mid new : List Symbol) (r : Result X Stuck) → Takes (operator l) (λ _. never) old mid o → Reads view level (level_on (below l)) level_at mid new r → Reads {Y = StepOf l} (λ x. (o, view x)) (step l) (level_on (below l)) (step_at l) old new r
step_tail l {X} view o old mid new (Ok x) read h = (read.0 ∙ ap (λ t. operator l o ++ t) h.0 ∙ sym (append_assoc (operator l o) (level (view x)) new), h.1)
step_tail l {X} view o old mid new (Err fault) read h = faulted fault (Fails (level {l = below l}) (level_on (below l)) mid new) (Fails (step l) (level_on (below l)) old new) (behind_fails l o read) h

-- a step begins with its operator
pub step_starts : (l : Operators) → Starts (step l) (by_kind (joins l))
step_starts l = link_starts (level_joins l)

-- an atom is read
pub atom_is_read : (old new : List Symbol) (z a : AtomTree) → z ≡ a → old ≡ atom a ++ new → Stops (atom_at a) new → Takes atom atom_at old new z
atom_is_read old new z a is read stops = subst (Takes atom atom_at old new) (sym is) (read, stops)

-- the tokens with which an expression begins

prefix_opens : (p : Prefix) → Begins prefix (by_kind opens_expression) p
prefix_opens p = opens p.operator p.span
  where
    opens : (o : PrefixOperator) (span : Span) → Begins prefix (by_kind opens_expression) (record { operator = o; span = span })
    opens prefixes.Not span = record { head = Placed kind.Bang span; tail = []; is = refl; first = refl }
    opens prefixes.Negate span = record { head = Placed kind.Minus span; tail = []; is = refl; first = refl }

atom_opens : (a : AtomTree) → Begins atom (by_kind opens_expression) a
atom_opens (Number span) = record { head = Placed kind.Number span; tail = []; is = refl; first = refl }
atom_opens (True span) = record { head = Placed kind.True span; tail = []; is = refl; first = refl }
atom_opens (False span) = record { head = Placed kind.False span; tail = []; is = refl; first = refl }
atom_opens (Target (Variable variable)) = record { head = Named variable; tail = []; is = refl; first = refl }
atom_opens (Target (Field variable field)) = record { head = Named variable; tail = _; is = refl; first = refl }
atom_opens (Target (Element variable e)) = record { head = Named variable; tail = _; is = refl; first = refl }
atom_opens (Parens left inner) = record { head = Placed kind.OpenParen left; tail = _; is = refl; first = refl }

level_opens : {l : Level} (x : LevelTree l) → Begins (level {l = l}) (by_kind opens_expression) x
level_opens (Unary [] a) =
    let b = atom_opens a in
    record { head = b.head; tail = b.tail; is = b.is; first = b.first }
level_opens (Unary (p ∷ ps) a) =
    let b = prefix_opens p in
    record { head = b.head; tail = (b.tail ++ flat_map prefix ps) ++ atom a; is = ap (λ t. (t ++ flat_map prefix ps) ++ atom a) b.is; first = b.first }
level_opens (Chain l first others) =
    let b = level_opens first in
    record { head = b.head; tail = b.tail ++ steps others; is = ap (λ t. t ++ steps others) b.is; first = b.first }

pub expression_starts : Starts expression (by_kind opens_expression)
expression_starts = record { each = level_opens }

pub expression_apart : (x : ExpressionTree) (y : Symbol) → expression_on y ≡ false → expression_at x y ≡ false
expression_apart x y h = level_wide x y h
