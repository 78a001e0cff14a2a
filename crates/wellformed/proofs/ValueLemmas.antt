-- Values that variables and parts of blocks take.
use Rattle.std.proofs.Common.{◌≡◌, ℕ, Bool, true, false, not, List, [], ◌++◌, length, map, sym, refl, ap, ◌∙◌, subst, ◌⊎◌, inl, inr}
use Rattle.std.specs.Option.{option_map_or}
use Rattle.std.specs.Prelude.{Option, None, Some, option_map, slice_get, IsSomeAnd}
use Rattle.std.proofs.lemmas.Bool.{eqb-true, not-true}
use Rattle.std.proofs.lemmas.List.{length-map}
use Rattle.source.specs.declared.token.Span.{Span}
use Rattle.tree.specs.Expressions.{ExpressionTree}
use Rattle.tree.specs.Trees.{ClassTree, MethodTree, StructTree}
use Rattle.tree.specs.Values as values
use Rattle.tree.specs.Values.{CallTree, MadeTree, NewTree, ValueTree}
use Rattle.tree.specs.declared.types as tree
use Rattle.declarations.specs.Types.{agree, alike, is_block, is_silent, pointer_type, type_meant, unless, type_unknown}
use Rattle.names.specs.Findings.{program_mistakes}
use Rattle.declarations.specs.Program.{Numbered, ProgramText, as_struct, item_at, struct_named}
use Rattle.names.specs.Shapes.{shape}
use Rattle.names.specs.Values.{argument_mistakes, made_mistakes, made_type, new_mistakes, number_of_arguments, struct_made_mistakes, value_mistakes}
use Rattle.declarations.specs.Owning.{owning_fields}
use Rattle.tree.specs.declared.class.Field.{Field}
use Rattle.names.specs.Variables as names
use Rattle.declarations.specs.declared.value_type as declared
use Rattle.declarations.specs.declared.value_type.ValueType.TheVariants as ty
use Rattle.program.specs.declared.types.HeapType.{HeapType}
use Rattle.program.specs.declared.types.Scalar.{Scalar}
use Rattle.program.specs.Methods.{VariableModel}
use Rattle.program.specs.Statements.{Call}
use Rattle.program.specs.declared.statement.Action.TheVariants.{Move, Use}
use Rattle.program.specs.declared.statement.Effect.TheVariants as effects
use Rattle.program.specs.declared.statement.Mention.{Mention}
use Rattle.resolving.specs.Counts.{structs_before}
use Rattle.resolving.specs.Fields.{fields_held, structs_told}
use Rattle.resolving.specs.Types.{result_held, state_in}
use Rattle.resolving.specs.Locals.{LocalFrame}
use Rattle.program.specs.Statements as seen
use Rattle.resolving.specs.Plain.{call_of, call_statement, lone, made_arguments, made_reads, effect_on, new_of, part_taken, payloads, scalar_taken, take_statement}
use Rattle.resolving.specs.Reads.{mention_list, reads}
use Rattle.program.specs.Lists.{Each}
use Rattle.program.specs.WellFormed.{HoldAll, Holds, IsEffect, IsIn, IsMention, IsNew, IsStatement, IsTaken, Setting, field_types, is_end}
use Rattle.wellformed.proofs.ArgumentLemmas.{asked_block, asked_known, holds_there, payloads_given}
use Rattle.wellformed.proofs.CallLemmas.{CallsMethod, call_fits, call_means}
use Rattle.wellformed.proofs.ExpressionLemmas.{reads_within}
use Rattle.wellformed.proofs.SendLemmas.{SendsMessage}
use Rattle.wellformed.proofs.HeapTypeLemmas.{Holding, agree_alike, alike_block, alike_held, alike_sym, array_held, block_holds, known_loud, loud_left, pointer_held, scalar_holds, struct_of, type_known}
use Rattle.wellformed.proofs.FieldLemmas.{as_params, asked_are, fields_clean, types_of_struct, params_are, params_known}
use Rattle.wellformed.proofs.FindingLemmas.{as_many, unless_none}
use Rattle.wellformed.proofs.ListLemmas.{both_none, each_append}
use Rattle.wellformed.proofs.ProgramLemmas.{result_clean}
use Rattle.wellformed.proofs.TypeLemmas.{struct_found}
use Rattle.wellformed.proofs.Standing.{Around, AreStanding, IsHeld, IsKnown, scope_of}

-- whether the result of a method fits the demanded type
abbrev pub gives_asked : ProgramText → Option tree.Type.Type → declared.ValueType.ValueType → Bool
gives_asked p None k = false
gives_asked p (Some t) k = agree (type_meant p t) k

by_result : (p : ProgramText) (k : declared.ValueType.ValueType) (F : Option tree.Type.Type → Bool) (result : Option tree.Type.Type) → F result ≡ true → F None ≡ false
    → ((t : tree.Type.Type) → F (Some t) ≡ agree (type_meant p t) k) → gives_asked p result k ≡ true
by_result p k F None fits none some = cc
by_result p k F (Some t) fits none some = sym (some t) ∙ fits

-- whether it is no block
abbrev pub gives_none : ProgramText → Option tree.Type.Type → Bool
gives_none p None = true
gives_none p (Some t) = not (is_block (type_meant p t))

pub by_none : (p : ProgramText) (F : Option tree.Type.Type → Bool) (result : Option tree.Type.Type) → F result ≡ true
    → ((t : tree.Type.Type) → F (Some t) ≡ not (is_block (type_meant p t))) → gives_none p result ≡ true
by_none p F None fits some = refl
by_none p F (Some t) fits some = sym (some t) ∙ fits

-- no call as a value is a send
pub no_send : (p : ProgramText) (class : ℕ) (s : Setting) (f : LocalFrame) (g : names.NameFrame) (Is : MethodTree → Type 0) (c : CallTree) (alone : Bool)
    → CallsMethod p class f g Is c ⊎ ((alone ≡ true) × SendsMessage p class s f c) → alone ≡ false → CallsMethod p class f g Is c
no_send p class s f g Is c alone (inl x) not_alone = x
no_send p class s f g Is c alone (inr x) not_alone = cc

-- A call as a value gives a block of the demanded type.
block_result : (p : ProgramText) (s : Setting) (k : declared.ValueType.ValueType) (target : Mention) (v : VariableModel) (result : Option tree.Type.Type) → option_map_or (type_unknown p) result [] ≡ []
    → IsKnown p k → is_block k ≡ true → slice_get s.variables target.variable.0 ≡ Some v → IsHeld p k v.ty → gives_asked p result k ≡ true → IsTaken s (result_held p result) (Some target)
block_result p s k target v None known asked block there holds fits = cc
block_result p s k target v (Some t) known asked block there holds fits =
    let like = agree_alike p (type_meant p t) k (type_known p t known) asked fits in
    let h : Holding p (type_meant p t) (state_in t) = block_holds p (type_meant p t) (state_in t) (type_known p t known) (alike_block (type_meant p t) k like ∙ block) in
    let same = alike_held p k (type_meant p t) v.ty h.held (alike_sym (type_meant p t) k like) holds (record { state = state_in t; is = h.is }) in
    subst (λ o. IsTaken s o (Some target)) (sym h.is) (holds_there s h.held target v there same)

-- or no block, if a scalar is demanded
scalar_result : (p : ProgramText) (k : declared.ValueType.ValueType) (result : Option tree.Type.Type) → option_map_or (type_unknown p) result [] ≡ [] → IsKnown p k → is_block k ≡ false
    → gives_asked p result k ≡ true → result_held p result ≡ None
scalar_result p k None known asked scalar fits = refl
scalar_result p k (Some t) known asked scalar fits =
    let like = agree_alike p (type_meant p t) k (type_known p t known) asked fits in
    scalar_holds p (type_meant p t) (state_in t) (alike_block (type_meant p t) k like ∙ scalar)

alone_result : (p : ProgramText) (result : Option tree.Type.Type) → gives_none p result ≡ true → result_held p result ≡ None
alone_result p None fits = refl
alone_result p (Some t) fits = scalar_holds p (type_meant p t) (state_in t) (not-true (is_block (type_meant p t)) fits)

-- a call of a method, in numbers
pub told_call : (p : ProgramText) (class : ℕ) (s : Setting) (f : LocalFrame) (g : names.NameFrame) (c : CallTree) (target : Option Mention) (behind : List Mention) (Is : MethodTree → Type 0) → (x : CallsMethod p class f g Is c)
    → IsStatement s (Call (call_of p class f c target behind (record { number = x.number; method = x.method }))) → IsStatement s (call_statement p class f c target behind)
told_call p class s f g c target behind Is x fits = subst (λ o. IsStatement s (option_map_or Call (option_map (call_of p class f c target behind) o) (seen.Simple [] effects.Nothing))) (sym x.is) fits

-- a call whose result no variable takes
pub void_call : (p : ProgramText) (t : ClassTree) (class : ℕ) (result : Option tree.Type.Type) (s : Setting) (f : LocalFrame) (g : names.NameFrame) (c : CallTree) (behind : List Mention) (Is : MethodTree → Type 0)
    → Around p t class result s → AreStanding p s.variables f g → (x : CallsMethod p class f g Is c) → result_held p x.method.result ≡ None → Each (IsMention s) behind → IsStatement s (call_statement p class f c None behind)
void_call p t class result s f g c behind Is around standing x void mentioned =
    told_call p class s f g c None behind Is x (call_fits p t class result s f g c None behind Is around standing x (subst (λ o. IsTaken s o None) (sym void) tt, tt) mentioned)

-- a call as a statement
pub alone_call : (p : ProgramText) (t : ClassTree) (class : ℕ) (result : Option tree.Type.Type) (s : Setting) (f : LocalFrame) (g : names.NameFrame) (c : CallTree)
    → Around p t class result s → AreStanding p s.variables f g → (x : CallsMethod p class f g (λ m. gives_none p m.result ≡ true) c) → IsStatement s (call_statement p class f c None [])
alone_call p t class result s f g c around standing x =
    void_call p t class result s f g c [] (λ m. gives_none p m.result ≡ true) around standing x (alone_result p x.method.result x.fits) tt

-- a call as a value: a method that gives the demanded type
asked_call : (p : ProgramText) (t : ClassTree) (class : ℕ) (result : Option tree.Type.Type) (s : Setting) (f : LocalFrame) (g : names.NameFrame) (k : declared.ValueType.ValueType) (c : CallTree)
    → Around p t class result s → AreStanding p s.variables f g → value_mistakes (record { scope = scope_of p g; class = t }) k (values.Call c) ≡ []
    → CallsMethod p class f g (λ m. gives_asked p m.result k ≡ true) c
asked_call p t class result s f g k c around standing none =
    no_send p class s f g (λ m. gives_asked p m.result k ≡ true) c _
    (call_means p t class result s f g _ c around standing none (λ m. gives_asked p m.result k ≡ true) (λ m name starts F same fits. by_result p k F m.result fits (same None) (λ x. same (Some x)))) refl

-- the variables that a new block reads
made_within : (p : ProgramText) (class : ℕ) (s : Setting) (f : LocalFrame) (g : names.NameFrame) → AreStanding p s.variables f g → (m : MadeTree) → Each (IsMention s) (made_reads p class f m)
made_within p class s f g standing (values.Struct name left given) = tt
made_within p class s f g standing (values.Array element length) = reads_within p s.variables f g standing length

move_fits : (s : Setting) (target : Mention) (v : VariableModel) (o : Option Mention) (source : Mention) → o ≡ Some source → slice_get s.variables target.variable.0 ≡ Some v → Holds s v.ty source.variable
    → IsIn s target.variable → IsEffect s (effect_on (Move target) o)
move_fits s target v o source is there holds inside =
    subst (λ x. IsEffect s (effect_on (Move target) x)) (sym is) (inside, subst (λ x. IsSomeAnd x (λ w. Holds s w.ty source.variable)) (sym there) holds)

-- the taker of a new block is no end of a channel, and the arguments have the types of the block's owning fields
abbrev pub IsMade : Setting → HeapType → List Mention → Type 0
IsMade s held given = (is_end held ≡ false) × HoldAll s (field_types s.program.structs held) (map (λ m. m.variable) given)

-- a type that is like a pointer is a pointer to the same struct
pointer_made : (p : ProgramText) (n : ℕ) (k : declared.ValueType.ValueType) (held : HeapType) → alike (ty.Pointer n) k ≡ true → IsHeld p k held → held ≡ struct_of (structs_before p.items n)
pointer_made p n (ty.Pointer m) held fits is = pointer_held p m held is ∙ ap (λ x. struct_of (structs_before p.items x)) (sym (eqb-true n m fits))
pointer_made p n k held fits is = cc

array_made : (p : ProgramText) (s : Setting) (element : Scalar) (k : declared.ValueType.ValueType) (held : HeapType) → alike (ty.Array element) k ≡ true → IsHeld p k held → IsMade s held []
array_made p s element (ty.Array e) held fits is = subst (λ h. IsMade s h []) (sym (array_held p e held is)) (refl, tt)
array_made p s element k held fits is = cc

-- the arguments for a new struct
given_fits : (p : ProgramText) (class : ℕ) (s : Setting) (f : LocalFrame) (g : names.NameFrame) (x : Numbered StructTree) (name : Span) (given : List ExpressionTree) → program_mistakes p ≡ [] → AreStanding p s.variables f g
    → item_at as_struct p x.0 ≡ Some (x.0, x.1) → struct_made_mistakes (scope_of p g) (Some x) name (map shape given) ≡ [] → HoldAll s (fields_held p x.1.fields) (map (λ m. m.variable) (payloads p class f given))
given_fits p class s f g x name given clean standing there none =
    let asked = map (λ (y : Field). type_meant p y.ty) (owning_fields x.1) in
    let params = as_params x.1 in
    let both = both_none (number_of_arguments asked (map shape given) name.place) (argument_mistakes (scope_of p g) asked (map shape given)) none in
    let many = as_many asked (map shape given) name.place both.0 ∙ length-map given shape in
    let same : map (λ y. type_meant p y.ty) params ≡ asked = asked_are p (owning_fields x.1) in
    let as_many_params : length params ≡ length given = sym (length-map params (λ y. type_meant p y.ty)) ∙ ap length same ∙ many in
    let known = params_known p x.1.fields (fields_clean p x.0 x.1 clean there) in
    let found = subst (λ ks. argument_mistakes (scope_of p g) ks (map shape given) ≡ []) (sym same) both.1 in
    subst (λ ks. HoldAll s ks (map (λ m. m.variable) (payloads p class f given))) (params_are p x.1.fields) (payloads_given p class s f g standing params given known as_many_params found)

struct_made : (p : ProgramText) (class : ℕ) (s : Setting) (f : LocalFrame) (g : names.NameFrame) (k : declared.ValueType.ValueType) (held : HeapType) (o : Option (Numbered StructTree)) (name : Span) (given : List ExpressionTree)
    → program_mistakes p ≡ [] → s.program.structs ≡ structs_told p → AreStanding p s.variables f g → struct_named p name ≡ o → IsKnown p k → struct_made_mistakes (scope_of p g) o name (map shape given) ≡ []
    → agree (pointer_type o) k ≡ true → IsHeld p k held → IsMade s held (payloads p class f given)
struct_made p class s f g k held None name given clean structs standing named known none fits is = cc
struct_made p class s f g k held (Some x) name given clean structs standing named known none fits is =
    let there = struct_found p name x named in
    let same = pointer_made p x.0 k held (loud_left (is_silent k) (alike (ty.Pointer x.0) k) (known_loud p k known) fits) is in
    let types = ap (λ l. field_types l (struct_of (structs_before p.items x.0))) structs ∙ types_of_struct p x.0 x.1 there in
    let holds = given_fits p class s f g x name given clean standing there none in
    subst (λ h. IsMade s h (payloads p class f given)) (sym same) (refl, subst (λ ks. HoldAll s ks (map (λ m. m.variable) (payloads p class f given))) (sym types) holds)

made_fits : (p : ProgramText) (class : ℕ) (s : Setting) (f : LocalFrame) (g : names.NameFrame) (k : declared.ValueType.ValueType) (held : HeapType) (m : MadeTree) → program_mistakes p ≡ [] → s.program.structs ≡ structs_told p
    → AreStanding p s.variables f g → IsKnown p k → made_mistakes (scope_of p g) m ≡ [] → agree (made_type (scope_of p g) m) k ≡ true → IsHeld p k held → IsMade s held (made_arguments p class f m)
made_fits p class s f g k held (values.Struct name left given) clean structs standing known none fits is =
    struct_made p class s f g k held (struct_named p name) name given clean structs standing refl known none fits is
made_fits p class s f g k held (values.Array element length) clean structs standing known none fits is =
    array_made p s element k held (loud_left (is_silent k) (alike (ty.Array element) k) (known_loud p k known) fits) is

-- a variable takes a new block
new_fits : (p : ProgramText) (t : ClassTree) (class : ℕ) (result : Option tree.Type.Type) (s : Setting) (f : LocalFrame) (g : names.NameFrame) (k : declared.ValueType.ValueType) (target : Mention) (v : VariableModel) (n : NewTree)
    → Around p t class result s → AreStanding p s.variables f g → IsKnown p k → slice_get s.variables target.variable.0 ≡ Some v → IsHeld p k v.ty
    → IsIn s target.variable → new_mistakes (scope_of p g) k n ≡ [] → IsNew s (new_of p class f target n.made)
new_fits p t class result s f g k target v n around standing known there holds inside none =
    let both = both_none (made_mistakes (scope_of p g) n.made) (unless (agree (made_type (scope_of p g) n.made) k) n.word.place _) none in
    let fits = unless_none _ (agree (made_type (scope_of p g) n.made) k) n.word.place both.1 in
    record {
      reads = made_within p class s f g standing n.made;
      in_scope = inside;
      taken = subst (λ o. IsSomeAnd o (λ x. IsMade s x.ty (made_arguments p class f n.made))) (sym there)
          (made_fits p class s f g k v.ty n.made around.clean around.structs_are standing known both.0 fits holds);
    }

-- a variable of the exchange heap takes a value
pub taken_fits : (p : ProgramText) (t : ClassTree) (class : ℕ) (result : Option tree.Type.Type) (s : Setting) (f : LocalFrame) (g : names.NameFrame) (k : declared.ValueType.ValueType) (target : Mention) (v : VariableModel) (value : ValueTree)
    → Around p t class result s → AreStanding p s.variables f g → IsKnown p k → is_block k ≡ true → slice_get s.variables target.variable.0 ≡ Some v → IsHeld p k v.ty
    → IsIn s target.variable → value_mistakes (record { scope = scope_of p g; class = t }) k value ≡ [] → IsStatement s (take_statement p class f target value)
taken_fits p t class result s f g k target v (values.Expression e) around standing known block there holds inside none =
    let given = asked_block p class s f g standing k v.ty e (asked_known p s.variables f g standing k e known none) block holds in
    (tt, move_fits s target v (lone p class f e) given.mention given.is there given.holds inside)
taken_fits p t class result s f g k target v (values.Call c) around standing known block there holds inside none =
    let x = asked_call p t class result s f g k c around standing none in
    let taken_is = block_result p s k target v x.method.result (result_clean p x.method x.number around.clean x.told) known block there holds x.fits in
    told_call p class s f g c (Some target) [] _ x (call_fits p t class result s f g c (Some target) [] _ around standing x (taken_is, inside) tt)
taken_fits p t class result s f g k target v (values.New n) around standing known block there holds inside none = new_fits p t class result s f g k target v n around standing known there holds inside none

-- a scalar takes a value
pub scalar_taken_fits : (p : ProgramText) (t : ClassTree) (class : ℕ) (result : Option tree.Type.Type) (s : Setting) (f : LocalFrame) (g : names.NameFrame) (k : declared.ValueType.ValueType) (value : ValueTree)
    → Around p t class result s → AreStanding p s.variables f g → IsKnown p k → is_block k ≡ false
    → value_mistakes (record { scope = scope_of p g; class = t }) k value ≡ [] → IsStatement s (scalar_taken p class f value)
scalar_taken_fits p t class result s f g k (values.Expression e) around standing known scalar none = (reads_within p s.variables f g standing e, tt)
scalar_taken_fits p t class result s f g k (values.Call c) around standing known scalar none =
    let x = asked_call p t class result s f g k c around standing none in
    void_call p t class result s f g c [] _ around standing x (scalar_result p k x.method.result (result_clean p x.method x.number around.clean x.told) known scalar x.fits) tt
scalar_taken_fits p t class result s f g k (values.New n) around standing known scalar none = (made_within p class s f g standing n.made, tt)

use_fits : (s : Setting) (o : Option Mention) → Each (IsMention s) (mention_list o) → IsEffect s (effect_on Use o)
use_fits s None h = tt
use_fits s (Some m) h = h.0

-- a part of a block takes a value
pub part_taken_fits : (p : ProgramText) (t : ClassTree) (class : ℕ) (result : Option tree.Type.Type) (s : Setting) (f : LocalFrame) (g : names.NameFrame) (k : declared.ValueType.ValueType) (index : List Mention) (whole : Option Mention) (value : ValueTree)
    → Around p t class result s → AreStanding p s.variables f g → IsKnown p k → is_block k ≡ false → Each (IsMention s) index → Each (IsMention s) (mention_list whole)
    → value_mistakes (record { scope = scope_of p g; class = t }) k value ≡ [] → IsStatement s (part_taken p class f index whole value)
part_taken_fits p t class result s f g k index whole (values.Expression e) around standing known scalar indices wholes none =
    (each_append (IsMention s) index (reads p.text f.locals e) indices (reads_within p s.variables f g standing e), use_fits s whole wholes)
part_taken_fits p t class result s f g k index whole (values.Call c) around standing known scalar indices wholes none =
    let x = asked_call p t class result s f g k c around standing none in
    void_call p t class result s f g c (index ++ mention_list whole) _ around standing x (scalar_result p k x.method.result (result_clean p x.method x.number around.clean x.told) known scalar x.fits)
    (each_append (IsMention s) index (mention_list whole) indices wholes)
part_taken_fits p t class result s f g k index whole (values.New n) around standing known scalar indices wholes none =
    (each_append (IsMention s) index (made_reads p class f n.made) indices (made_within p class s f g standing n.made), use_fits s whole wholes)
