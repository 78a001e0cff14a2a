-- Expressions without mistakes: their types, and the variables that they read.
use Rattle.std.proofs.Common.{◌≡◌, ℕ, ◌<◌, Bool, true, false, not, ◌||◌, List, [], ◌∷◌, ◌++◌, length, if◌then◌else◌, refl, sym, ap, subst, arith}
use Rattle.std.proofs.lemmas.Bool.{not-true}
use Rattle.std.specs.Option.{option_map_or}
use Rattle.std.specs.Prelude.{Option, None, Some, is_some, option_and_then, IsSomeAnd}
use Rattle.source.specs.declared.token.Span.{Span}
use Rattle.tree.specs.Expressions as trees
use Rattle.tree.specs.Expressions.{LevelTree, StepTrees, AtomTree, TargetTree, ExpressionTree}
use Rattle.tree.specs.Operators.{Level, Operators}
use Rattle.tree.specs.Trees.{StructTree}
use Rattle.tree.specs.declared.class as made
use Rattle.tree.specs.declared.expression.PrefixOperator.{PrefixOperator}
use Rattle.tree.specs.declared.expression.PrefixOperator.TheVariants as signs
use Rattle.tree.specs.declared.types as type_nodes
use Rattle.tree.specs.declared.types.Type.TheVariants as type
use Rattle.program.specs.declared.types.Scalar.TheVariants as scalar
use Rattle.names.specs.Expressions.{type_of, place_of, expression_mistakes, whole_mistakes, field_type, field_mistakes, is_length, owns, element_type, element_mistakes, variable_mistakes, mention_mistakes, asked_number, sign_asked, left_asked, right_asked, signed_type, joined_type, type_named}
use Rattle.declarations.specs.Named.{field_named}
use Rattle.declarations.specs.declared.mistake.Mistake.TheVariants.{Unknown}
use Rattle.declarations.specs.declared.mistake.NameSort.TheVariants as sort
use Rattle.declarations.specs.Types.{is_block, is_heap, is_number, is_truth, is_unknown, type_meant, unless}
use Rattle.declarations.specs.Program.{ProgramText, Numbered, as_struct, item_at}
use Rattle.names.specs.Shapes as shapes
use Rattle.names.specs.Shapes.{Shape, shape}
use Rattle.names.specs.Variables as names
use Rattle.declarations.specs.declared.value_type as declared
use Rattle.declarations.specs.declared.value_type.ValueType.TheVariants as ty
use Rattle.program.specs.Methods.{VariableModel}
use Rattle.program.specs.declared.statement.Mention.{Mention}
use Rattle.resolving.specs.Locals.{LocalFrame, mention}
use Rattle.resolving.specs.Reads.{reads, step_reads, atom_reads, target_reads, mention_list}
use Rattle.tree.specs.Alone.{lone_name}
use Rattle.program.specs.Lists.{Each}
use Rattle.names.proofs.WholeNames.{not_lone}
use Rattle.wellformed.proofs.HeapTypeLemmas.{known_certain}
use Rattle.wellformed.proofs.ListLemmas.{both_none, each_append}
use Rattle.wellformed.proofs.FindingLemmas.{none_said, unless_none}
use Rattle.wellformed.proofs.MentionLemmas.{field_meant, IsMentioned, block_mentioned, held_known, mention_within}
use Rattle.wellformed.proofs.Standing.{IsKnown, AreStanding, scope_of}

-- Each block that an expression reads is a variable of the method.
listed_within : (p : ProgramText) (vs : List VariableModel) (f : LocalFrame) (g : names.NameFrame) → AreStanding p vs f g → (name : Span) (o : Option Mention) → mention p.text f.locals name ≡ o
    → Each (λ m. m.variable.0 < length vs) (mention_list o)
listed_within p vs f g standing name None is = tt
listed_within p vs f g standing name (Some m) is = (mention_within p vs f g name m standing is, tt)

mutual
  level_within : (p : ProgramText) (vs : List VariableModel) (f : LocalFrame) (g : names.NameFrame) → AreStanding p vs f g → {l : Level} → (e : LevelTree l) → Each (λ m. m.variable.0 < length vs) (reads p.text f.locals e)
  level_within p vs f g standing (trees.Unary prefixes a) = atom_within p vs f g standing a
  level_within p vs f g standing (trees.Chain l first others) =
      each_append (λ m. m.variable.0 < length vs) (reads p.text f.locals first) (step_reads p.text f.locals others) (level_within p vs f g standing first) (steps_within p vs f g standing others)

  steps_within : (p : ProgramText) (vs : List VariableModel) (f : LocalFrame) (g : names.NameFrame) → AreStanding p vs f g → {l : Operators} → (xs : StepTrees l) → Each (λ m. m.variable.0 < length vs) (step_reads p.text f.locals xs)
  steps_within p vs f g standing (trees.Done l) = tt
  steps_within p vs f g standing (trees.More l o x xs) =
      each_append (λ m. m.variable.0 < length vs) (reads p.text f.locals x) (step_reads p.text f.locals xs) (level_within p vs f g standing x) (steps_within p vs f g standing xs)

  atom_within : (p : ProgramText) (vs : List VariableModel) (f : LocalFrame) (g : names.NameFrame) → AreStanding p vs f g → (a : AtomTree) → Each (λ m. m.variable.0 < length vs) (atom_reads p.text f.locals a)
  atom_within p vs f g standing (trees.Number span) = tt
  atom_within p vs f g standing (trees.True span) = tt
  atom_within p vs f g standing (trees.False span) = tt
  atom_within p vs f g standing (trees.Target t) = target_within p vs f g standing t
  atom_within p vs f g standing (trees.Parens left inner) = level_within p vs f g standing inner

  target_within : (p : ProgramText) (vs : List VariableModel) (f : LocalFrame) (g : names.NameFrame) → AreStanding p vs f g → (t : TargetTree) → Each (λ m. m.variable.0 < length vs) (target_reads p.text f.locals t)
  target_within p vs f g standing (trees.Variable name) = tt
  target_within p vs f g standing (trees.Field name field) = listed_within p vs f g standing name (mention p.text f.locals name) refl
  target_within p vs f g standing (trees.Element name index) =
      each_append (λ m. m.variable.0 < length vs) (mention_list (mention p.text f.locals name)) (reads p.text f.locals index) (listed_within p vs f g standing name (mention p.text f.locals name) refl) (level_within p vs f g standing index)

pub reads_within : (p : ProgramText) (vs : List VariableModel) (f : LocalFrame) (g : names.NameFrame) → AreStanding p vs f g
    → {l : Level} → (e : LevelTree l) → Each (λ m. m.variable.0 < length vs) (reads p.text f.locals e)
reads_within p vs f g standing e = level_within p vs f g standing e

-- the length of an array
length_scalar : (p : ProgramText) (b : Bool) → b ≡ true → IsKnown p (if b then ty.Scalar scalar.Int else ty.Unknown) × (is_block (if b then ty.Scalar scalar.Int else ty.Unknown) ≡ false)
length_scalar p true is = (tt, refl)
length_scalar p false is = absurd (cc)

-- the type of a field that does not own
type_scalar : (p : ProgramText) (t : type_nodes.Type.Type) → is_heap t ≡ false → IsKnown p (type_meant p t) × (is_block (type_meant p t) ≡ false)
type_scalar p (type.Scalar s) own = (tt, refl)
type_scalar p (type.Heap h) own = absurd (cc)

part_scalar : (p : ProgramText) (o : Option made.Field.Field) → is_some o ≡ true → option_map_or (λ f. is_heap f.ty) o false ≡ false
    → IsKnown p (field_meant p o) × (is_block (field_meant p o) ≡ false)
part_scalar p None is own = absurd (cc)
part_scalar p (Some x) is own = type_scalar p x.ty own

struct_scalar : (p : ProgramText) (n : ℕ) (o : Option (Numbered StructTree)) (field : Span) → IsSomeAnd o (λ s. Unit {0})
    → option_map_or (λ x. if is_some (field_named p.text x.1 field) then [] else Unknown field (sort.Field n) ∷ []) o [] ≡ []
    → option_map_or (λ (f : made.Field.Field). is_heap f.ty) (option_and_then (λ x. field_named p.text x.1 field) o) false ≡ false
    → IsKnown p (field_meant p (option_and_then (λ x. field_named p.text x.1 field) o)) × (is_block (field_meant p (option_and_then (λ x. field_named p.text x.1 field) o)) ≡ false)
struct_scalar p n None field known none own = absurd known
struct_scalar p n (Some x) field known none own = part_scalar p (field_named p.text x.1 field) (none_said (is_some (field_named p.text x.1 field)) (Unknown field (sort.Field n)) none) own

-- a field that does not own, or an element, is a scalar
pub field_scalar : (p : ProgramText) (g : names.NameFrame) (k : declared.ValueType.ValueType) (name field : Span) → IsKnown p k → field_mistakes (scope_of p g) k name field ≡ [] → owns (scope_of p g) k field ≡ false
    → IsKnown p (field_type (scope_of p g) k field) × (is_block (field_type (scope_of p g) k field) ≡ false)
field_scalar p g (ty.Scalar s) name field known none own = absurd (cc)
field_scalar p g (ty.Array element) name field known none own = length_scalar p (is_length (scope_of p g) field) (none_said (is_length (scope_of p g) field) (Unknown field sort.Length) none)
field_scalar p g (ty.Pointer n) name field known none own = struct_scalar p n (item_at as_struct p n) field known none own
field_scalar p g (ty.Endpoint side n) name field known none own = absurd (cc)
field_scalar p g ty.Missing name field known none own = absurd known
field_scalar p g ty.Unknown name field known none own = absurd known

pub element_scalar : (p : ProgramText) (k : declared.ValueType.ValueType) (name : Span) → IsKnown p k → element_mistakes k name ≡ []
    → IsKnown p (element_type k false) × (is_block (element_type k false) ≡ false)
element_scalar p (ty.Array element) name known none = (tt, refl)
element_scalar p (ty.Scalar s) name known none = absurd (cc)
element_scalar p (ty.Pointer n) name known none = absurd (cc)
element_scalar p (ty.Endpoint side n) name known none = absurd (cc)
element_scalar p ty.Missing name known none = absurd known
element_scalar p ty.Unknown name known none = absurd known

-- what an operator gives, if its operands are known
gives_scalar : (p : ProgramText) (lost : Bool) (k : declared.ValueType.ValueType) → lost ≡ false → IsKnown p k × (is_block k ≡ false) → IsKnown p (if lost then ty.Unknown else k) × (is_block (if lost then ty.Unknown else k) ≡ false)
gives_scalar p true k certain scalar = absurd (cc)
gives_scalar p false k certain scalar = scalar

neither : (a b : Bool) → a ≡ false → b ≡ false → (a || b) ≡ false
neither true b first second = cc
neither false b first second = second

-- a number or a truth value is a scalar, and operators give nothing else
counted_scalar : (p : ProgramText) (k : declared.ValueType.ValueType) → (is_number k || is_truth k) ≡ true → IsKnown p k × (is_block k ≡ false)
counted_scalar p (ty.Scalar s) is = (tt, refl)
counted_scalar p (ty.Pointer n) is = absurd (cc)
counted_scalar p (ty.Array element) is = absurd (cc)
counted_scalar p (ty.Endpoint side n) is = absurd (cc)
counted_scalar p ty.Missing is = absurd (cc)
counted_scalar p ty.Unknown is = absurd (cc)

signed_counted : (sign : PrefixOperator) → (is_number (signed_type sign) || is_truth (signed_type sign)) ≡ true
signed_counted signs.Not = refl
signed_counted signs.Negate = refl

joined_counted : (joint : _) → (is_number (joined_type joint) || is_truth (joined_type joint)) ≡ true
joined_counted joint = grind arith

mention_scalar : (p : ProgramText) (vs : List VariableModel) (f : LocalFrame) (g : names.NameFrame) → AreStanding p vs f g → (name : Span) → mention_mistakes (scope_of p g) name ≡ []
    → IsKnown p (type_named (scope_of p g) name) × (is_block (type_named (scope_of p g) name) ≡ false)
mention_scalar p vs f g standing name none =
    let both = both_none (variable_mistakes (scope_of p g) name) (unless (not (is_block (type_named (scope_of p g) name))) name.place _) none in
    (held_known p vs f g name standing both.0, not-true (is_block (type_named (scope_of p g) name)) (unless_none _ (not (is_block (type_named (scope_of p g) name))) name.place both.1))

-- so is an expression with operators, numbers, fields and the like
pub expression_scalar : (p : ProgramText) (vs : List VariableModel) (f : LocalFrame) (g : names.NameFrame) → AreStanding p vs f g
    → (e : Shape) → expression_mistakes (scope_of p g) e ≡ [] → IsKnown p (type_of (scope_of p g) e) × (is_block (type_of (scope_of p g) e) ≡ false)
expression_scalar p vs f g standing (shapes.Number place) none = (tt, refl)
expression_scalar p vs f g standing (shapes.Truth place) none = (tt, refl)
expression_scalar p vs f g standing (shapes.Mention name) none = mention_scalar p vs f g standing name none
expression_scalar p vs f g standing (shapes.Field name field) none =
    let s = scope_of p g in
    let k = type_named s name in
    let both = both_none (variable_mistakes s name) (field_mistakes s k name field ++ unless (not (owns s k field)) name.place _) none in
    let inner = both_none (field_mistakes s k name field) (unless (not (owns s k field)) name.place _) both.1 in
    let own = not-true (owns s k field) (unless_none _ (not (owns s k field)) name.place inner.1) in
    field_scalar p g k name field (held_known p vs f g name standing both.0) inner.0 own
expression_scalar p vs f g standing (shapes.Element name index) none =
    let s = scope_of p g in
    let k = type_named s name in
    let first = both_none (expression_mistakes s index) (asked_number (type_of s index) (place_of index) ++ (variable_mistakes s name ++ element_mistakes k name)) none in
    let second = both_none (asked_number (type_of s index) (place_of index)) (variable_mistakes s name ++ element_mistakes k name) first.1 in
    let third = both_none (variable_mistakes s name) (element_mistakes k name) second.1 in
    let certain = known_certain p (type_of s index) (expression_scalar p vs f g standing index first.0).0 in
    subst (λ lost. IsKnown p (element_type k lost) × (is_block (element_type k lost) ≡ false)) (sym certain) (element_scalar p k name (held_known p vs f g name standing third.0) third.1)
expression_scalar p vs f g standing (shapes.Parens place inner) none = expression_scalar p vs f g standing inner none
expression_scalar p vs f g standing (shapes.Signed sign place inner) none =
    let s = scope_of p g in
    let both = both_none (expression_mistakes s inner) (sign_asked sign (type_of s inner) (place_of inner)) none in
    gives_scalar p (is_unknown (type_of s inner)) (signed_type sign) (known_certain p (type_of s inner) (expression_scalar p vs f g standing inner both.0).0) (counted_scalar p (signed_type sign) (signed_counted sign))
expression_scalar p vs f g standing (shapes.Joined joint left right) none =
    let s = scope_of p g in
    let first = both_none (expression_mistakes s left) (expression_mistakes s right ++ (left_asked joint (type_of s left) (place_of left) ++ right_asked joint (type_of s left) (type_of s right) (place_of right))) none in
    let second = both_none (expression_mistakes s right) (left_asked joint (type_of s left) (place_of left) ++ right_asked joint (type_of s left) (type_of s right) (place_of right)) first.1 in
    let certain = neither (is_unknown (type_of s left)) (is_unknown (type_of s right)) (known_certain p (type_of s left) (expression_scalar p vs f g standing left first.0).0) (known_certain p (type_of s right) (expression_scalar p vs f g standing right second.0).0) in
    gives_scalar p (is_unknown (type_of s left) || is_unknown (type_of s right)) (joined_type joint) certain (counted_scalar p (joined_type joint) (joined_counted joint))

pub whole_known : (p : ProgramText) (vs : List VariableModel) (f : LocalFrame) (g : names.NameFrame) → AreStanding p vs f g
    → (e : Shape) → whole_mistakes (scope_of p g) e ≡ [] → IsKnown p (type_of (scope_of p g) e)
whole_known p vs f g standing (shapes.Mention name) none = held_known p vs f g name standing none
whole_known p vs f g standing e none = (expression_scalar p vs f g standing e none).0

-- A whole expression that is of the exchange heap is a name alone.
pub record IsLone (p : ProgramText) (vs : List VariableModel) (f : LocalFrame) (g : names.NameFrame) (e : ExpressionTree) : Type 0 where
  pub name : Span
  pub is : lone_name e ≡ Some name
  pub ty : type_of (scope_of p g) (shape e) ≡ type_named (scope_of p g) name
  pub mentioned : IsMentioned p vs f g name

lone_by : (p : ProgramText) (vs : List VariableModel) (f : LocalFrame) (g : names.NameFrame) → AreStanding p vs f g → (e : ExpressionTree) (x : Shape) → shape e ≡ x
    → whole_mistakes (scope_of p g) x ≡ [] → is_block (type_of (scope_of p g) x) ≡ true → IsLone p vs f g e
lone_by p vs f g standing e (shapes.Mention name) is none block = record { name = name; is = not_lone e name is; ty = ap (type_of (scope_of p g)) is; mentioned = block_mentioned p vs f g name standing none block }
lone_by p vs f g standing e x is none block =
    let scalar = (expression_scalar p vs f g standing x none).1 in
    absurd (cc)

pub block_lone : (p : ProgramText) (vs : List VariableModel) (f : LocalFrame) (g : names.NameFrame) → AreStanding p vs f g
    → (e : ExpressionTree) → whole_mistakes (scope_of p g) (shape e) ≡ [] → is_block (type_of (scope_of p g) (shape e)) ≡ true → IsLone p vs f g e
block_lone p vs f g standing e none block = lone_by p vs f g standing e (shape e) refl none block
