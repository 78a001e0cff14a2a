-- Names in scope, and the variables of the exchange heap that they mention.
use Rattle.std.proofs.Common.{◌≡◌, ℕ, ◌<◌, true, false, List, [], ◌∷◌, length, map, if◌then◌else◌, refl, sym, ap, ◌∙◌, subst}
use Rattle.std.proofs.lemmas.Option.{option_and_then_some, slice_get_within}
use Rattle.std.specs.Option.{option_map_or}
use Rattle.std.specs.Prelude.{Option, None, Some, is_some, slice_get, option_map, option_and_then, IsSomeAnd}
use Rattle.source.specs.declared.token.Span.{Span}
use Rattle.tree.specs.declared.class.Field.{Field}
use Rattle.declarations.specs.Declarations.{first_among}
use Rattle.names.specs.Expressions.{variable_of, variable_mistakes, type_named}
use Rattle.declarations.specs.declared.mistake.Mistake.TheVariants.{Unknown}
use Rattle.declarations.specs.declared.mistake.NameSort.TheVariants as sort
use Rattle.declarations.specs.Types.{is_block, type_meant}
use Rattle.declarations.specs.Program.{ProgramText}
use Rattle.names.specs.Variables as names
use Rattle.names.specs.Variables.{variable_named}
use Rattle.declarations.specs.declared.value_type as declared
use Rattle.declarations.specs.declared.value_type.ValueType.TheVariants as ty
use Rattle.program.specs.Methods.{VariableModel}
use Rattle.program.specs.Scopes.{IsInScope}
use Rattle.program.specs.declared.number.VarId.{VarId}
use Rattle.program.specs.declared.statement.Mention.{Mention}
use Rattle.resolving.specs.Locals.{number_of, Local, LocalFrame, local_named, number_named, mention, mention_of}
use Rattle.wellformed.proofs.HeapTypeLemmas.{scalar_holds}
use Rattle.wellformed.proofs.PlaceLemmas.{each_there}
use Rattle.wellformed.proofs.ScopeLemmas.{same_named}
use Rattle.wellformed.proofs.Standing.{IsKnown, IsHeld, IsInside, IsNumbered, AreStanding, Stands, last_of, named, scope_of}

-- a name in scope means a variable for which `Stands` holds
pub record IsMeant (p : ProgramText) (vs : List VariableModel) (f : LocalFrame) (g : names.NameFrame) (name : Span) : Type 0 where
  pub local : Local
  pub is : local_named p.text f.locals name ≡ Some local
  pub meant_is : variable_of (scope_of p g) name ≡ Some (record { name = local.name; ty = local.ty })
  pub stands : Stands p vs (last_of f) local

-- what holds of each variable in scope holds of one that a name means
local_stands : (p : ProgramText) (vs : List VariableModel) (f : LocalFrame) (g : names.NameFrame) (name : Span) (l : Local) → AreStanding p vs f g
    → local_named p.text f.locals name ≡ Some l → Stands p vs (last_of f) l
local_stands p vs f g name l standing is =
    option_and_then_some (slice_get f.locals) (first_among p.text (map (λ x. x.name) f.locals) name) l is (λ n first at. each_there (Stands p vs (last_of f)) f.locals n l standing.locals at)

-- what a name means among the names and types in scope is what it means among the variables
meant_as : (p : ProgramText) (vs : List VariableModel) (f : LocalFrame) (g : names.NameFrame) (name : Span) → AreStanding p vs f g
    → variable_of (scope_of p g) name ≡ option_map named (local_named p.text f.locals name)
meant_as p vs f g name standing = ap (λ variables. variable_named p.text variables name) (sym standing.same) ∙ same_named p.text f.locals name

meant_by : (p : ProgramText) (vs : List VariableModel) (f : LocalFrame) (g : names.NameFrame) (name : Span) (o : Option Local) → AreStanding p vs f g
    → local_named p.text f.locals name ≡ o → variable_of (scope_of p g) name ≡ option_map named o → variable_mistakes (scope_of p g) name ≡ [] → IsMeant p vs f g name
meant_by p vs f g name None standing is means none =
    let wrong : Unknown name (sort.Variable (length g.variables)) ∷ [] ≡ [] = subst (λ (o : Option names.ScopeVariable). (if is_some o then [] else Unknown name (sort.Variable (length g.variables)) ∷ []) ≡ []) means none in
    absurd (cc)
meant_by p vs f g name (Some l) standing is means none = record { local = l; is = is; meant_is = means; stands = local_stands p vs f g name l standing is }

pub meant_stands : (p : ProgramText) (vs : List VariableModel) (f : LocalFrame) (g : names.NameFrame) (name : Span) → AreStanding p vs f g
    → variable_mistakes (scope_of p g) name ≡ [] → IsMeant p vs f g name
meant_stands p vs f g name standing none = meant_by p vs f g name (local_named p.text f.locals name) standing refl (meant_as p vs f g name standing) none

-- the type of what is meant, and of a field
abbrev pub variable_type : Option names.ScopeVariable → declared.ValueType.ValueType
variable_type o = option_map_or (λ v. v.ty) o ty.Unknown

abbrev pub field_meant : ProgramText → Option Field → declared.ValueType.ValueType
field_meant p o = option_map_or (λ f. type_meant p f.ty) o ty.Unknown

-- so the type of a name is known
pub held_known : (p : ProgramText) (vs : List VariableModel) (f : LocalFrame) (g : names.NameFrame) (name : Span) → AreStanding p vs f g
    → variable_mistakes (scope_of p g) name ≡ [] → IsKnown p (type_named (scope_of p g) name)
held_known p vs f g name standing none =
    let m = meant_stands p vs f g name standing none in
    subst (λ o. IsKnown p (variable_type o)) (sym m.meant_is) m.stands.known

-- a name of the exchange heap is a mention of a variable that holds what its type says
pub record IsMentioned (p : ProgramText) (vs : List VariableModel) (f : LocalFrame) (g : names.NameFrame) (name : Span) : Type 0 where
  pub number : ℕ
  pub variable : VariableModel
  pub is : mention p.text f.locals name ≡ Some (mention_of name number)
  pub there : slice_get vs number ≡ Some variable
  pub holds : IsHeld p (type_named (scope_of p g) name) variable.ty
  pub inside : IsInScope vs (last_of f) (number_of number)

-- its number decides whether it is a mention
mention_by : (text : List ℕ) (f : LocalFrame) (name : Span) (l : Local) (n : Option ℕ) → local_named text f.locals name ≡ Some l → l.number ≡ n → mention text f.locals name ≡ option_map (mention_of name) n
mention_by text f name l n is number = ap (λ o. option_map (mention_of name) (option_and_then (λ x. x.number) o)) is ∙ ap (option_map (mention_of name)) number

-- the variable of a number in scope
record NumberedBy (p : ProgramText) (vs : List VariableModel) (k : declared.ValueType.ValueType) (n : ℕ) : Type 0 where
  variable : VariableModel
  there : slice_get vs n ≡ Some variable
  holds : IsHeld p k variable.ty

numbered_there : (p : ProgramText) (vs : List VariableModel) (k : declared.ValueType.ValueType) (n : ℕ) (o : Option VariableModel) → slice_get vs n ≡ o → IsSomeAnd o (λ v. IsHeld p k v.ty) → NumberedBy p vs k n
numbered_there p vs k n None is holds = absurd holds
numbered_there p vs k n (Some v) is holds = record { variable = v; there = is; holds = holds }

numbered_by : {last : Option VarId} → (p : ProgramText) (vs : List VariableModel) (l : Local) (n : ℕ) → l.number ≡ Some n → Stands p vs last l → NumberedBy p vs l.ty n
numbered_by p vs l n number stands = numbered_there p vs l.ty n (slice_get vs n) refl (subst (IsNumbered p vs l.ty) number stands.numbered)

mentioned_by : (p : ProgramText) (vs : List VariableModel) (f : LocalFrame) (g : names.NameFrame) (name : Span) (m : IsMeant p vs f g name) (o : Option ℕ) → m.local.number ≡ o
    → is_block (type_named (scope_of p g) name) ≡ true → IsMentioned p vs f g name
mentioned_by p vs f g name m None number block =
    let scalar : is_block m.local.ty ≡ false = subst (IsNumbered p vs m.local.ty) number m.stands.numbered in
    let same : is_block (type_named (scope_of p g) name) ≡ is_block m.local.ty = ap (λ o. is_block (variable_type o)) m.meant_is in
    absurd (cc)
mentioned_by p vs f g name m (Some n) number block =
    let v = numbered_by p vs m.local n number m.stands in
    record {
      number = n;
      variable = v.variable;
      is = mention_by p.text f name m.local (Some n) m.is number;
      there = v.there;
      holds = subst (λ o. IsHeld p (variable_type o) v.variable.ty) (sym m.meant_is) v.holds;
      inside = subst (IsInside vs (last_of f)) number m.stands.inside;
    }

pub block_mentioned : (p : ProgramText) (vs : List VariableModel) (f : LocalFrame) (g : names.NameFrame) (name : Span) → AreStanding p vs f g
    → variable_mistakes (scope_of p g) name ≡ [] → is_block (type_named (scope_of p g) name) ≡ true → IsMentioned p vs f g name
block_mentioned p vs f g name standing none block =
    let m = meant_stands p vs f g name standing none in
    mentioned_by p vs f g name m m.local.number refl block

-- a variable of a scalar type has no number
scalar_numbered : {last : Option VarId} → (p : ProgramText) (vs : List VariableModel) (l : Local) (o : Option ℕ) → l.number ≡ o → Stands p vs last l → is_block l.ty ≡ false → o ≡ None
scalar_numbered p vs l None number stands scalar = refl
scalar_numbered p vs l (Some n) number stands scalar =
    let v = numbered_by p vs l n number stands in
    let nothing = scalar_holds p l.ty v.holds.state scalar in
    absurd (cc)

-- a scalar is no mention
pub scalar_not_mentioned : (p : ProgramText) (vs : List VariableModel) (f : LocalFrame) (g : names.NameFrame) (name : Span) → AreStanding p vs f g
    → variable_mistakes (scope_of p g) name ≡ [] → is_block (type_named (scope_of p g) name) ≡ false → mention p.text f.locals name ≡ None
scalar_not_mentioned p vs f g name standing none scalar =
    let m = meant_stands p vs f g name standing none in
    mention_by p.text f name m.local None m.is (scalar_numbered p vs m.local m.local.number refl m.stands (ap (λ o. is_block (variable_type o)) (sym m.meant_is) ∙ scalar))

-- the variable of a mention is one of the method
number_within : {last : Option VarId} → (p : ProgramText) (vs : List VariableModel) (l : Local) (n : ℕ) → l.number ≡ Some n → Stands p vs last l → n < length vs
number_within p vs l n number stands =
    let v = numbered_by p vs l n number stands in
    slice_get_within vs n v.variable v.there

mention_has : (name : Span) (o : Option ℕ) (m : Mention) → option_map (mention_of name) o ≡ Some m → o ≡ Some m.variable.0
mention_has name None m is = cc
mention_has name (Some n) m is =
    let same : mention_of name n ≡ m = cc in
    ap (λ (x : Mention). Some x.variable.0) same

pub mention_within : (p : ProgramText) (vs : List VariableModel) (f : LocalFrame) (g : names.NameFrame) (name : Span) (m : Mention) → AreStanding p vs f g
    → mention p.text f.locals name ≡ Some m → m.variable.0 < length vs
mention_within p vs f g name m standing is =
    option_and_then_some (λ l. l.number) (local_named p.text f.locals name) m.variable.0 (mention_has name (number_named p.text f.locals name) m is)
    (λ l named number. number_within p vs l m.variable.0 number (local_stands p vs f g name l standing named))
