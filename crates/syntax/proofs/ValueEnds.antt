-- Where an expression ends, if it could be the names of a call.
use Rattle.std.proofs.Common.{◌≡◌, Bool, true, false, List, [], ◌∷◌, ◌++◌, sym, refl, ap, ◌∙◌, subst}
use Rattle.std.specs.Prelude.{◌||◌, ◌&&◌, not}
use Rattle.std.proofs.lemmas.Bool.{true≢false}
use Rattle.source.specs.declared.kind.Kind.TheVariants as kind
use Rattle.source.specs.declared.token.Span.{Span}
use Rattle.tree.specs.Symbols.{Symbol, is_kind, by_kind, kind_is}
use Rattle.tree.specs.Spelling.{name}
use Rattle.syntax.specs.Reading.{Stops, leads, Fails}
use Rattle.tree.specs.Operators.{Level, Single, Joined, Or}
use Rattle.tree.specs.Expressions.{LevelTree, TargetTree, Unary, Chain, Done, More, Target, Variable, Field, ExpressionTree, level, target, expression, dot_name}
use Rattle.syntax.specs.ExpressionReads.{level_at, target_on, target_at, expression_on, expression_at}
use Rattle.tree.specs.ExpressionTrees.{unary_tree, target_tree}
use Rattle.tree.specs.Values.{Expression}
use Rattle.syntax.specs.ValueReads.{value_at, is_callee}
use Rattle.tree.specs.declared.expression.Target as targets
use Rattle.tree.specs.declared.expression.Unary.TheVariants as unary
use Rattle.tree.specs.declared.expression.Atom.TheVariants as made
use Rattle.syntax.proofs.pieces.Pieces.{stops_with}
use Rattle.syntax.proofs.pieces.Choices.{form_fails}
use Rattle.syntax.proofs.pieces.SharedFronts.{append_nil, tails}
use Rattle.syntax.proofs.AtomRules.{target_form}
use Rattle.syntax.proofs.ExpressionFails.{unary_fails, atom_fails}
use Rattle.syntax.proofs.TreeLemmas.{plain_made, target_made}
use Rattle.syntax.proofs.ValueForms.{opens_call}

-- one name, or two with a dot between them
pub data Callee (s : List Symbol) : Type 0 where
  One : (span : Span) → s ≡ name span → Callee s
  Two : (span member : Span) → s ≡ name span ++ dot_name member → Callee s

behind_nothing : (s : List Symbol) → Callee s → Callee (s ++ [])
behind_nothing s (One span is) = One span (append_nil s ∙ is)
behind_nothing s (Two span member is) = Two span member (append_nil s ∙ is)

callee_of : {l : Level} (x : LevelTree l) → is_callee x ≡ true → Callee (level x)
callee_of (Unary [] (Target (Variable variable))) h = One variable refl
callee_of (Unary [] (Target (Field variable field))) h = Two variable field refl
callee_of (Unary prefixes a) h = absurd (true≢false (sym h))
callee_of (Chain l first (Done _)) h = behind_nothing (level first) (callee_of first h)
callee_of (Chain l first (More _ o x xs)) h = absurd (true≢false (sym h))

-- an expression that is read is a value that is read, unless it could be the names of a call and "(" follows
pub value_ends : (e : ExpressionTree) (new : List Symbol) → Stops (expression_at e) new → (Callee (expression e) → Stops (is_kind kind.OpenParen) new) → Stops (value_at (Expression e)) new
value_ends e [] stops callee = tt
value_ends e (y ∷ new) stops callee = ap (λ b. b || (is_callee e && is_kind kind.OpenParen y)) stops ∙ both (is_callee e) (λ h. callee (callee_of e h))
  where
    both : (b : Bool) → (b ≡ true → is_kind kind.OpenParen y ≡ false) → (b && is_kind kind.OpenParen y) ≡ false
    both true h = h refl
    both false h = refl

other_stops : (mid : List Symbol) → leads (λ y. not (is_kind kind.OpenParen y)) mid ≡ true → Stops (is_kind kind.OpenParen) mid
other_stops [] h = tt
other_stops (y ∷ mid) h = other (is_kind kind.OpenParen y) h
  where
    other : (b : Bool) → not b ≡ true → b ≡ false
    other true h = sym h
    other false h = refl

neither_stops : (mid : List Symbol) → leads (λ y. not (by_kind opens_call y)) mid ≡ true → Stops (is_kind kind.OpenParen) mid
neither_stops [] h = tt
neither_stops (y ∷ mid) h = other (is_kind kind.OpenParen y) (is_kind kind.Dot y) h
  where
    other : (a b : Bool) → not (a || b) ≡ true → a ≡ false
    other true b h = sym h
    other false b h = refl

-- after a name that neither "(" nor "." follows
pub named_ends : (span : Span) (e : ExpressionTree) (mid new : List Symbol) → leads (λ y. not (by_kind opens_call y)) mid ≡ true → name span ++ mid ≡ expression e ++ new → Callee (expression e) → Stops (is_kind kind.OpenParen) new
named_ends span e mid new here read (One other is) = subst (Stops (is_kind kind.OpenParen)) (tails (read ∙ ap (λ t. t ++ new) is)) (neither_stops mid here)
named_ends span e mid new here read (Two other member is) = absurd (true≢false (sym here ∙ ap (leads (λ y. not (by_kind opens_call y))) (tails (read ∙ ap (λ t. t ++ new) is))))

-- after two names that "(" does not follow
pub member_ends : (span member : Span) (e : ExpressionTree) (mid new : List Symbol) → leads (λ y. not (is_kind kind.OpenParen y)) mid ≡ true → name span ++ (dot_name member ++ mid) ≡ expression e ++ new → Callee (expression e) → Stops (is_kind kind.OpenParen) new
member_ends span member e mid new here read (One other is) = subst (Stops (is_kind kind.OpenParen)) (tails (read ∙ ap (λ t. t ++ new) is)) refl
member_ends span member e mid new here read (Two other field is) = subst (Stops (is_kind kind.OpenParen)) (tails (tails (tails (read ∙ ap (λ t. t ++ new) is)))) (other_stops mid here)

-- if neither "new" nor a name is first
pub plain_ends : (e : ExpressionTree) (old new : List Symbol) → leads (λ y. not (by_kind (λ k. kind_is kind.New k || kind_is kind.Name k) y)) old ≡ true → old ≡ expression e ++ new → Callee (expression e) → Stops (is_kind kind.OpenParen) new
plain_ends e old new here read (One span is) = absurd (true≢false (sym here ∙ ap (leads (λ y. not (by_kind (λ k. kind_is kind.New k || kind_is kind.Name k) y))) (read ∙ ap (λ t. t ++ new) is)))
plain_ends e old new here read (Two span member is) = absurd (true≢false (sym here ∙ ap (leads (λ y. not (by_kind (λ k. kind_is kind.New k || kind_is kind.Name k) y))) (read ∙ ap (λ t. t ++ new) is)))

-- if a target fails, so does the expression
pub target_expression_fails : {mid new : List Symbol} (span : Span) → Fails target target_on (name span ++ mid) new → Fails expression expression_on (name span ++ mid) new
target_expression_fails {mid} {new} span h = unary_fails (Joined Or) (atom_fails [] (refl, refl) (form_fails target_form refl h))

-- a target without prefixes, as a unary
pub target_unary : (t : targets.Target) → unary_tree (unary.Atom (made.Target t)) ≡ Unary [] (Target (target_tree t))
target_unary t = plain_made (made.Target t) ∙ ap (Unary []) (target_made t)

pub target_unary_stops : (t : TargetTree) (u : LevelTree Single) (r : List Symbol) → u ≡ Unary [] (Target t) → Stops (target_at t) r → Stops (level_at u) r
target_unary_stops t u r is h = subst (λ u. Stops (level_at u) r) (sym is) (stops_with (target_at t) (level_at (Unary [] (Target t))) (λ y e. e) r h)
