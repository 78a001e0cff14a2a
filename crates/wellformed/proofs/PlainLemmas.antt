-- Statements without mistakes that hold no others.
use Rattle.std.proofs.Common.{◌≡◌, ℕ, Bool, true, false, not, List, [], ◌++◌, length, sym, refl, ap, ◌∙◌, subst}
use Rattle.std.specs.Option.{option_map_or}
use Rattle.std.specs.Prelude.{Option, None, Some, option_map, slice_get}
use Rattle.std.proofs.lemmas.Bool.{not-true}
use Rattle.source.specs.declared.token.Span.{Span}
use Rattle.tree.specs.Expressions as trees
use Rattle.tree.specs.Expressions.{TargetTree}
use Rattle.tree.specs.StatementTrees as stated
use Rattle.tree.specs.StatementTrees.{DeclareTree}
use Rattle.tree.specs.Trees.{ClassTree}
use Rattle.tree.specs.Values.{ValueTree}
use Rattle.tree.specs.declared.types as tree
use Rattle.names.specs.Expressions.{asked_number, expression_mistakes, place_of, element_mistakes, element_type, field_mistakes, type_of, number_mistakes, owns, variable_mistakes, type_named}
use Rattle.declarations.specs.declared.mistake.Mismatch.TheVariants.{FieldOwns}
use Rattle.declarations.specs.Types.{is_block, type_meant, type_unknown, unless}
use Rattle.declarations.specs.Program.{ProgramText}
use Rattle.names.specs.Shapes.{shape}
use Rattle.names.specs.Values.{length_mistakes, target_mistakes, target_type, value_mistakes}
use Rattle.names.specs.Variables as names
use Rattle.tables.specs.Words.{word_at}
use Rattle.declarations.specs.declared.value_type as declared
use Rattle.program.specs.Methods.{VariableModel}
use Rattle.program.specs.declared.types.HeapType.{HeapType}
use Rattle.program.specs.declared.method.Role.{Role}
use Rattle.program.specs.declared.method.Role.TheVariants as role
use Rattle.program.specs.declared.statement.Action.TheVariants.{Delete}
use Rattle.program.specs.declared.statement.Mention.{Mention}
use Rattle.resolving.specs.Types.{heap_type, state_in, type_held}
use Rattle.resolving.specs.Locals.{LocalFrame, declared_as, mention, mention_of, next_number, number_of}
use Rattle.resolving.specs.Plain.{assign_statement, effect_on, first_value, frame_behind, write_statement}
use Rattle.resolving.specs.Reads.{mention_list, reads}
use Rattle.program.specs.Lists.{Each}
use Rattle.program.specs.Scopes.{IsInScope}
use Rattle.program.specs.WellFormed.{IsEffect, IsMention, IsStatement, Setting}
use Rattle.wellformed.proofs.ExpressionLemmas.{element_scalar, expression_scalar, field_scalar, reads_within}
use Rattle.wellformed.proofs.MentionLemmas.{block_mentioned, held_known, mention_within, scalar_not_mentioned}
use Rattle.wellformed.proofs.HeapTypeLemmas.{held_as, known_certain, type_known}
use Rattle.wellformed.proofs.PlaceLemmas.{at_seam}
use Rattle.wellformed.proofs.LeadLemmas.{leads_here}
use Rattle.wellformed.proofs.FindingLemmas.{unless_none}
use Rattle.wellformed.proofs.ListLemmas.{both_none}
use Rattle.wellformed.proofs.ScopeLemmas.{block_held}
use Rattle.wellformed.proofs.Standing.{Around, AreStanding, IsHeldAs, IsKnown, Within, last_of, scope_of}
use Rattle.wellformed.proofs.ValueLemmas.{part_taken_fits, scalar_taken_fits, taken_fits}

-- a name is a mention of a variable, or of none
name_within : (p : ProgramText) (s : Setting) (f : LocalFrame) (g : names.NameFrame) → AreStanding p s.variables f g → (name : Span) (o : Option Mention) → mention p.text f.locals name ≡ o → Each (IsMention s) (mention_list o)
name_within p s f g standing name None is = tt
name_within p s f g standing name (Some m) is = (mention_within p s.variables f g name m standing is, tt)

pub name_mentioned : (p : ProgramText) (s : Setting) (f : LocalFrame) (g : names.NameFrame) → AreStanding p s.variables f g → (name : Span) → Each (IsMention s) (mention_list (mention p.text f.locals name))
name_mentioned p s f g standing name = name_within p s f g standing name (mention p.text f.locals name) refl

-- a variable takes a value
variable_fits : (p : ProgramText) (t : ClassTree) (class : ℕ) (result : Option tree.Type.Type) (s : Setting) (f : LocalFrame) (g : names.NameFrame) (name : Span) (value : ValueTree) (b : Bool)
    → is_block (type_named (scope_of p g) name) ≡ b → Around p t class result s → s.scope ≡ last_of f → AreStanding p s.variables f g → variable_mistakes (scope_of p g) name ≡ []
    → value_mistakes (record { scope = scope_of p g; class = t }) (type_named (scope_of p g) name) value ≡ [] → IsStatement s (assign_statement p class f (mention p.text f.locals name) value)
variable_fits p t class result s f g name value false scalar around here standing none given =
    let known = held_known p s.variables f g name standing none in
    subst (λ o. IsStatement s (assign_statement p class f o value)) (sym (scalar_not_mentioned p s.variables f g name standing none scalar))
    (scalar_taken_fits p t class result s f g (type_named (scope_of p g) name) value around standing known scalar given)
variable_fits p t class result s f g name value true block around here standing none given =
    let known = held_known p s.variables f g name standing none in
    let m = block_mentioned p s.variables f g name standing none block in
    subst (λ o. IsStatement s (assign_statement p class f o value)) (sym m.is)
    (taken_fits p t class result s f g (type_named (scope_of p g) name) (mention_of name m.number) m.variable value around standing known block m.there m.holds (subst (λ o. IsInScope s.variables o (number_of m.number)) (sym here) m.inside) given)

-- an assignment
pub assign_fits : (p : ProgramText) (t : ClassTree) (class : ℕ) (result : Option tree.Type.Type) (s : Setting) (f : LocalFrame) (g : names.NameFrame) (target : TargetTree) (value : ValueTree)
    → Around p t class result s → s.scope ≡ last_of f → AreStanding p s.variables f g → target_mistakes (scope_of p g) target ≡ []
    → value_mistakes (record { scope = scope_of p g; class = t }) (target_type (scope_of p g) target) value ≡ [] → IsStatement s (write_statement p class f target value)
assign_fits p t class result s f g (trees.Variable name) value around here standing none given =
    variable_fits p t class result s f g name value (is_block (type_named (scope_of p g) name)) refl around here standing none given
assign_fits p t class result s f g (trees.Field name field) value around here standing none given =
    let k = type_named (scope_of p g) name in
    let own = owns (scope_of p g) k field in
    let length = length_mistakes (scope_of p g) k field in
    let both = both_none (variable_mistakes (scope_of p g) name) (field_mistakes (scope_of p g) k name field ++ (length ++ unless (not own) field.place FieldOwns)) none in
    let fields = both_none (field_mistakes (scope_of p g) k name field) (length ++ unless (not own) field.place FieldOwns) both.1 in
    let owning = not-true own (unless_none _ (not own) field.place (both_none length (unless (not own) field.place FieldOwns) fields.1).1) in
    let scalar = field_scalar p g k name field (held_known p s.variables f g name standing both.0) fields.0 owning in
    part_taken_fits p t class result s f g (target_type (scope_of p g) (trees.Field name field)) [] (mention p.text f.locals name) value around standing scalar.0 scalar.1 tt (name_mentioned p s f g standing name) given
assign_fits p t class result s f g (trees.Element name index) value around here standing none given =
    let k = type_named (scope_of p g) name in
    let i = type_of (scope_of p g) (shape index) in
    let both = both_none (number_mistakes (scope_of p g) (shape index)) (variable_mistakes (scope_of p g) name ++ element_mistakes k name) none in
    let whole = both_none (variable_mistakes (scope_of p g) name) (element_mistakes k name) both.1 in
    let number = both_none (expression_mistakes (scope_of p g) (shape index)) (asked_number i (place_of (shape index))) both.0 in
    let certain = known_certain p i (expression_scalar p s.variables f g standing (shape index) number.0).0 in
    let scalar = element_scalar p k name (held_known p s.variables f g name standing whole.0) whole.1 in
    part_taken_fits p t class result s f g (target_type (scope_of p g) (trees.Element name index)) (reads p.text f.locals index) (mention p.text f.locals name) value around standing
    (subst (λ b. IsKnown p (element_type k b)) (sym certain) scalar.0) (subst (λ b. is_block (element_type k b) ≡ false) (sym certain) scalar.1) (reads_within p s.variables f g standing index) (name_mentioned p s f g standing name) given

-- a declared variable takes its first value
first_fits : (p : ProgramText) (t : ClassTree) (class : ℕ) (result : Option tree.Type.Type) (s : Setting) (f : LocalFrame) (g : names.NameFrame) (name : Span) (k : declared.ValueType.ValueType) (state : Option Span) (role : Role) (value : ValueTree)
    (o : Option HeapType) (rest : List VariableModel) → heap_type p k state ≡ o → s.variables ≡ (declared_as p.text (record { name = name; ty = k; held = o; role = role }) o f).variables ++ rest → IsHeldAs p k o
    → s.scope ≡ last_of (declared_as p.text (record { name = name; ty = k; held = o; role = role }) o f) → Around p t class result s → AreStanding p s.variables f g → IsKnown p k
    → value_mistakes (record { scope = scope_of p g; class = t }) k value ≡ [] → IsStatement s (assign_statement p class f (option_map (mention_of name) (next_number o f)) value)
first_fits p t class result s f g name k state role value None rest is within holds here around standing known none = scalar_taken_fits p t class result s f g k value around standing known holds none
first_fits p t class result s f g name k state role value (Some held) rest is within holds here around standing known none =
    let v : VariableModel = record { name = word_at p.text name; ty = held; role = role; outer = option_map number_of f.last } in
    let there = ap (λ vs. slice_get vs (length f.variables)) within ∙ at_seam f.variables rest v in
    taken_fits p t class result s f g k (mention_of name (length f.variables)) v value around standing known (block_held p k held holds) there holds
    (subst (λ o. IsInScope s.variables o (number_of (length f.variables))) (sym here) (leads_here s.variables (Some (number_of (length f.variables))))) none

value_fits : (p : ProgramText) (t : ClassTree) (class : ℕ) (result : Option tree.Type.Type) (s : Setting) (f : LocalFrame) (g : names.NameFrame) (d : DeclareTree) (value : Option ValueTree)
    → s.scope ≡ last_of (frame_behind p class f (stated.Declare d)) → Around p t class result s → AreStanding p s.variables f g → Within s.variables (frame_behind p class f (stated.Declare d)) → type_unknown p d.ty ≡ []
    → option_map_or (value_mistakes (record { scope = scope_of p g; class = t }) (type_meant p d.ty)) value [] ≡ [] → IsStatement s (first_value p class f d.name (next_number (type_held p d.ty) f) value)
value_fits p t class result s f g d None here around standing within known none = (tt, tt)
value_fits p t class result s f g d (Some value) here around standing within known none =
    let k = type_meant p d.ty in
    let sure = type_known p d.ty known in
    first_fits p t class result s f g d.name k (state_in d.ty) role.Local value (type_held p d.ty) within.rest refl within.is (held_as p k (state_in d.ty) sure) here around standing sure none

pub declare_fits : (p : ProgramText) (t : ClassTree) (class : ℕ) (result : Option tree.Type.Type) (s : Setting) (f : LocalFrame) (g : names.NameFrame) (d : DeclareTree)
    → s.scope ≡ last_of (frame_behind p class f (stated.Declare d)) → Around p t class result s → AreStanding p s.variables f g → Within s.variables (frame_behind p class f (stated.Declare d)) → type_unknown p d.ty ≡ []
    → option_map_or (value_mistakes (record { scope = scope_of p g; class = t }) (type_meant p d.ty)) d.value [] ≡ []
    → IsStatement s (first_value p class f d.name (next_number (type_held p d.ty) f) d.value)
declare_fits p t class result s f g d here around standing within known none = value_fits p t class result s f g d d.value here around standing within known none

deleted_fits : (s : Setting) (o : Option Mention) → Each (IsMention s) (mention_list o) → IsEffect s (effect_on Delete o)
deleted_fits s None within = tt
deleted_fits s (Some m) within = within.0

pub delete_fits : (p : ProgramText) (s : Setting) (f : LocalFrame) (g : names.NameFrame) → AreStanding p s.variables f g → (name : Span) → IsEffect s (effect_on Delete (mention p.text f.locals name))
delete_fits p s f g standing name = deleted_fits s (mention p.text f.locals name) (name_mentioned p s f g standing name)
