-- Exchanges without mistakes.
use Rattle.std.proofs.Common.{◌≡◌, ℕ, Bool, true, false, ◌||◌, List, [], ◌∷◌, ◌++◌, if◌then◌else◌, length, map, sym, refl, ap, ◌∙◌, subst}
use Rattle.std.specs.Option.{option_map_or}
use Rattle.std.specs.Prelude.{Option, None, Some, is_some, option_map, option_and_then, slice_get, take, IsSomeAnd}
use Rattle.source.specs.declared.token.Span.{Span}
use Rattle.tree.specs.Trees.{ClassTree, StructTree}
use Rattle.tree.specs.declared.class.Field.{Field}
use Rattle.tree.specs.declared.statement as made
use Rattle.tree.specs.declared.types as type_nodes
use Rattle.names.specs.Bodies.{exchange_mistakes, exchanged_type, holder_mistakes}
use Rattle.declarations.specs.Declarations.{first_among}
use Rattle.names.specs.Expressions.{field_mistakes, field_type, variable_mistakes, type_named}
use Rattle.declarations.specs.declared.mistake.Mistake.TheVariants.{Unknown}
use Rattle.declarations.specs.declared.mistake.NameSort.TheVariants as sort
use Rattle.declarations.specs.declared.mistake.Demand.TheVariants as demand
use Rattle.declarations.specs.declared.mistake.Mismatch.TheVariants.{Given}
use Rattle.declarations.specs.Types.{agree, is_block, is_silent, type_meant, type_unknown, unless}
use Rattle.declarations.specs.Program.{ProgramText, as_struct, item_at}
use Rattle.names.specs.Variables as names
use Rattle.declarations.specs.declared.value_type as declared
use Rattle.declarations.specs.declared.value_type.ValueType.TheVariants as ty
use Rattle.program.specs.Lists.{Each}
use Rattle.program.specs.Methods.{VariableModel}
use Rattle.program.specs.Scopes.{IsInScope}
use Rattle.program.specs.WellFormed.{Holds, IsEffect, Setting, field_types, same_type}
use Rattle.program.specs.declared.types.HeapType.{HeapType}
use Rattle.program.specs.declared.statement.Mention.{Mention}
use Rattle.resolving.specs.Counts.{structs_before}
use Rattle.resolving.specs.Fields.{field_number, fields_held, owning_before, structs_told}
use Rattle.resolving.specs.Types.{state_in}
use Rattle.resolving.specs.Locals.{LocalFrame, Local, local_named, mention, mention_of, number_of}
use Rattle.resolving.specs.Plain.{effect_of, exchange_by, exchange_found, exchange_of}
use Rattle.wellformed.proofs.FieldLemmas.{field_at, fields_clean, types_of_struct}
use Rattle.wellformed.proofs.FindingLemmas.{none_said, unless_none}
use Rattle.wellformed.proofs.HeapTypeLemmas.{HasStruct, Holding, agree_alike, alike_block, alike_held, block_holds, known_loud, loud_left, pointer_held, scalar_holds, struct_known, struct_of, type_known}
use Rattle.wellformed.proofs.ListLemmas.{both_none}
use Rattle.wellformed.proofs.MentionLemmas.{IsMeant, block_mentioned, field_meant, held_known, meant_stands, variable_type}
use Rattle.wellformed.proofs.PlaceLemmas.{each_there}
use Rattle.wellformed.proofs.Standing.{Around, AreStanding, IsHeld, IsKnown, last_of, scope_of}

-- an owning field: its index in its struct, and what it holds
record IsField (p : ProgramText) (s : StructTree) (field : Span) : Type 0 where
  index : ℕ
  tree : Field
  first : first_among p.text (map (λ (f : Field). f.name) s.fields) field ≡ Some index
  at : slice_get s.fields index ≡ Some tree
  holding : Holding p (type_meant p tree.ty) (state_in tree.ty)
  known : IsKnown p (type_meant p tree.ty)

-- the field of a name
named_field : (p : ProgramText) (s : StructTree) (field : Span) (index : Option ℕ) (f : Option Field) → Each (λ x. type_unknown p x.ty ≡ []) s.fields
    → first_among p.text (map (λ (x : Field). x.name) s.fields) field ≡ index → option_and_then (slice_get s.fields) index ≡ f → is_some f ≡ true
    → (is_silent (field_meant p f) || is_block (field_meant p f)) ≡ true → IsField p s field
named_field p s field None f known first at there fits = cc
named_field p s field (Some k) None known first at there fits = cc
named_field p s field (Some k) (Some f) known first at there fits =
    let sure = type_known p f.ty (each_there (λ x. type_unknown p x.ty ≡ []) s.fields k f known at) in
    let block = loud_left (is_silent (type_meant p f.ty)) (is_block (type_meant p f.ty)) (known_loud p (type_meant p f.ty) sure) fits in
    record { index = k; tree = f; first = first; at = at; holding = block_holds p (type_meant p f.ty) (state_in f.ty) sure block; known = sure }

-- if an exchange has no mistakes, the variable before the dot has a pointer, and the field owns
record IsHolder (p : ProgramText) (g : names.NameFrame) (k : declared.ValueType.ValueType) (field : Span) : Type 0 where
  number : ℕ
  tree : StructTree
  is : k ≡ ty.Pointer number
  there : item_at as_struct p number ≡ Some (number, tree)
  of : IsField p tree field
  exchanged : exchanged_type (scope_of p g) k field ≡ type_meant p of.tree.ty

struct_field : (p : ProgramText) (g : names.NameFrame) (s : StructTree) (field : Span) (f : IsField p s field) → option_and_then (slice_get s.fields) (first_among p.text (map (λ (x : Field). x.name) s.fields) field) ≡ Some f.tree
struct_field p g s field f = ap (option_and_then (slice_get s.fields)) f.first ∙ f.at

pointer_holder : (p : ProgramText) (g : names.NameFrame) (n : ℕ) (name field : Span) → (clean : (s : StructTree) → item_at as_struct p n ≡ Some (n, s) → Each (λ f. type_unknown p f.ty ≡ []) s.fields)
    → IsKnown p (ty.Pointer n) → field_mistakes (scope_of p g) (ty.Pointer n) name field ≡ []
    → (is_silent (field_type (scope_of p g) (ty.Pointer n) field) || is_block (field_type (scope_of p g) (ty.Pointer n) field)) ≡ true → IsHolder p g (ty.Pointer n) field
pointer_holder p g n name field clean known none fits =
    let has : HasStruct p n = struct_known p n known in
    let s = has.tree in
    let index = first_among p.text (map (λ (x : Field). x.name) s.fields) field in
    let named = option_and_then (slice_get s.fields) index in
    let none_there = sym (ap (λ o. option_map_or (λ (x : ℕ × StructTree). if is_some (option_and_then (slice_get x.1.fields) (first_among p.text (map (λ (y : Field). y.name) x.1.fields) field)) then [] else Unknown field (sort.Field n) ∷ []) o []) has.is) ∙ none in
    let type_is = ap (λ o. field_meant p (option_and_then (λ (x : ℕ × StructTree). option_and_then (slice_get x.1.fields) (first_among p.text (map (λ (y : Field). y.name) x.1.fields) field)) o)) has.is in
    let block = subst (λ k. (is_silent k || is_block k) ≡ true) type_is fits in
    let f = named_field p s field index named (clean s has.is) refl refl (none_said (is_some named) (Unknown field (sort.Field n)) none_there) block in
    record {
      number = n;
      tree = s;
      is = refl;
      there = has.is;
      of = f;
      exchanged = type_is ∙ ap (field_meant p) (struct_field p g s field f);
    }

holder_is : (p : ProgramText) (g : names.NameFrame) (k : declared.ValueType.ValueType) (name field : Span) → (clean : (n : ℕ) (s : StructTree) → item_at as_struct p n ≡ Some (n, s) → Each (λ f. type_unknown p f.ty ≡ []) s.fields)
    → IsKnown p k → holder_mistakes (scope_of p g) k name field ≡ [] → IsHolder p g k field
holder_is p g (ty.Pointer n) name field clean known none =
    let x = exchanged_type (scope_of p g) (ty.Pointer n) field in
    let both = both_none (field_mistakes (scope_of p g) (ty.Pointer n) name field) (unless (is_silent x || is_block x) field.place _) none in
    pointer_holder p g n name field (clean n) known both.0 (unless_none _ (is_silent x || is_block x) field.place both.1)
holder_is p g (ty.Scalar x) name field clean known none = cc
holder_is p g (ty.Array x) name field clean known none = cc
holder_is p g (ty.Endpoint side n) name field clean known none = cc
holder_is p g ty.Missing name field clean known none = absurd known
holder_is p g ty.Unknown name field clean known none = absurd known

-- the number of the field, and what its struct has there
field_numbered : (p : ProgramText) (n : ℕ) (s : StructTree) (field : Span) (f : IsField p s field) → item_at as_struct p n ≡ Some (n, s)
    → field_number p (ty.Pointer n) field ≡ Some (length (fields_held p (take f.index s.fields)))
field_numbered p n s field f there =
    ap (option_and_then (owning_before p field)) there ∙ ap (option_map (λ k. length (fields_held p (take k s.fields)))) f.first

held_there : (p : ProgramText) (n : ℕ) (s : StructTree) (field : Span) (f : IsField p s field) → item_at as_struct p n ≡ Some (n, s)
    → slice_get (field_types (structs_told p) (struct_of (structs_before p.items n))) (length (fields_held p (take f.index s.fields))) ≡ Some f.holding.held
held_there p n s field f there =
    ap (λ ks. slice_get ks (length (fields_held p (take f.index s.fields)))) (types_of_struct p n s there)
    ∙ field_at p s.fields f.index f.tree f.holding.held f.at f.holding.is

-- a type whose variables hold something is of the exchange heap
held_block : (p : ProgramText) (t : type_nodes.Type.Type) → Holding p (type_meant p t) (state_in t) → is_block (type_meant p t) ≡ true
held_block p t h = by (is_block (type_meant p t)) refl
  where
    by : (b : Bool) → is_block (type_meant p t) ≡ b → is_block (type_meant p t) ≡ true
    by true is = is
    by false is =
        let none = scalar_holds p (type_meant p t) (state_in t) is in
        let some = h.is in
        absurd (cc)

-- the exchange in numbers
exchange_is : (p : ProgramText) (class : ℕ) (f : LocalFrame) (g : names.NameFrame) (vs : List VariableModel) (e : made.Exchange.Exchange) → AreStanding p vs f g → variable_mistakes (scope_of p g) e.holder ≡ [] → (n number : ℕ)
    → type_named (scope_of p g) e.holder ≡ ty.Pointer n → field_number p (ty.Pointer n) e.field ≡ Some number → (v w : Mention) → mention p.text f.locals e.holder ≡ Some v → mention p.text f.locals e.given ≡ Some w
    → exchange_found p class f e ≡ Some (exchange_of p class f e number v w)
exchange_is p class f g vs e standing none n number is numbered v w holder given =
    let m : IsMeant p vs f g e.holder = meant_stands p vs f g e.holder standing none in
    let l = m.local in
    let same : l.ty ≡ ty.Pointer n = sym (ap variable_type m.meant_is) ∙ is in
    let field : option_and_then (λ (x : Local). field_number p x.ty e.field) (local_named p.text f.locals e.holder) ≡ Some number =
    ap (option_and_then (λ (x : Local). field_number p x.ty e.field)) m.is ∙ ap (λ k. field_number p k e.field) same ∙ numbered in
    ap (option_and_then (exchange_by p class f e)) field
    ∙ ap (option_and_then (λ x. option_map (exchange_of p class f e number x) (mention p.text f.locals e.given))) holder
    ∙ ap (option_map (exchange_of p class f e number v)) given

-- an exchange of a variable and the content of a field, both of one type
action_fits : (p : ProgramText) (class : ℕ) (s : Setting) (f : LocalFrame) (e : made.Exchange.Exchange) (number : ℕ) (inside : HeapType) (v w : ℕ) (x y : VariableModel)
    → exchange_found p class f e ≡ Some (exchange_of p class f e number (mention_of e.holder v) (mention_of e.given w)) → slice_get s.variables v ≡ Some x → slice_get s.variables w ≡ Some y
    → IsInScope s.variables s.scope (number_of w) → slice_get (field_types s.program.structs x.ty) number ≡ Some inside → same_type y.ty inside ≡ true → IsEffect s (effect_of (exchange_found p class f e))
action_fits p class s f e number inside v w x y found holder given scope types same =
    subst (λ o. IsEffect s (effect_of o)) (sym found) (
      scope,
      subst (λ o. IsSomeAnd o (λ z. IsSomeAnd (slice_get (field_types s.program.structs z.ty) number) (λ k. Holds s k (number_of w)))) (sym holder)
          (subst (λ o. IsSomeAnd o (λ k. Holds s k (number_of w))) (sym types) (subst (λ o. IsSomeAnd o (λ z. same_type z.ty inside ≡ true)) (sym given) same)),
    )

-- an exchange
pub exchange_fits : (p : ProgramText) (t : ClassTree) (class : ℕ) (result : Option type_nodes.Type.Type) (s : Setting) (f : LocalFrame) (g : names.NameFrame) (e : made.Exchange.Exchange)
    → Around p t class result s → s.scope ≡ last_of f → AreStanding p s.variables f g → exchange_mistakes (scope_of p g) e ≡ [] → IsEffect s (effect_of (exchange_found p class f e))
exchange_fits p t class result s f g e around here standing none =
    let k = type_named (scope_of p g) e.holder in
    let a = type_named (scope_of p g) e.given in
    let asked = exchanged_type (scope_of p g) k e.field in
    let fits = unless (agree a asked) e.given.place (Given (demand.OfType asked) a) in
    let first = both_none (variable_mistakes (scope_of p g) e.holder) (holder_mistakes (scope_of p g) k e.holder e.field ++ (variable_mistakes (scope_of p g) e.given ++ fits)) none in
    let second = both_none (holder_mistakes (scope_of p g) k e.holder e.field) (variable_mistakes (scope_of p g) e.given ++ fits) first.1 in
    let third = both_none (variable_mistakes (scope_of p g) e.given) fits second.1 in
    let holder = holder_is p g k e.holder e.field (λ n x. fields_clean p n x around.clean) (held_known p s.variables f g e.holder standing first.0) second.0 in
    let part = holder.of in
    let field_type_is = type_meant p part.tree.ty in
    let agreed = subst (λ x. agree a x ≡ true) holder.exchanged (unless_none _ (agree a asked) e.given.place third.1) in
    let like = agree_alike p a field_type_is (held_known p s.variables f g e.given standing third.0) part.known agreed in
    let v = block_mentioned p s.variables f g e.holder standing first.0 (ap is_block holder.is) in
    let block = alike_block a field_type_is like in
    let w = block_mentioned p s.variables f g e.given standing third.0 (block ∙ held_block p part.tree.ty part.holding) in
    let same = alike_held p a field_type_is w.variable.ty part.holding.held like w.holds (record { state = state_in part.tree.ty; is = part.holding.is }) in
    let number = length (fields_held p (take part.index holder.tree.fields)) in
    let struct_is = pointer_held p holder.number v.variable.ty (subst (λ x. IsHeld p x v.variable.ty) holder.is v.holds) in
    let types = ap (λ l. slice_get (field_types l v.variable.ty) number) around.structs_are
    ∙ ap (λ x. slice_get (field_types (structs_told p) x) number) struct_is ∙ held_there p holder.number holder.tree e.field part holder.there in
    let found = exchange_is p class f g s.variables e standing first.0 holder.number number holder.is (field_numbered p holder.number holder.tree e.field part holder.there) (mention_of e.holder v.number) (mention_of e.given w.number) v.is w.is in
    action_fits p class s f e number part.holding.held v.number w.number v.variable w.variable found v.there w.there
    (subst (λ o. IsInScope s.variables o (number_of w.number)) (sym here) w.inside) types same
