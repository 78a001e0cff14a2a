-- Arguments for the parameters of methods and messages.
use Rattle.std.proofs.Common.{◌≡◌, ℕ, Bool, true, false, List, [], ◌∷◌, ◌++◌, length, map, if◌then◌else◌, sym, refl, ap, ◌∙◌, subst, arith}
use Rattle.std.specs.List.{flat_map}
use Rattle.std.specs.Option.{option_map_or}
use Rattle.std.specs.Prelude.{Option, None, Some, option_and_then, slice_get, IsSomeAnd}
use Rattle.source.specs.declared.token.Span.{Span}
use Rattle.tree.specs.Expressions.{ExpressionTree}
use Rattle.tree.specs.declared.class.Parameter.{Parameter}
use Rattle.tree.specs.declared.contract.MessageParameter.{MessageParameter}
use Rattle.names.specs.Expressions.{type_of, place_of, whole_mistakes}
use Rattle.declarations.specs.Types.{agree, alike, is_block, type_meant, type_unknown, unless}
use Rattle.declarations.specs.Program.{ProgramText}
use Rattle.names.specs.Shapes.{shape}
use Rattle.names.specs.Values.{argument_mistakes, asked_mistakes}
use Rattle.names.specs.Variables as names
use Rattle.declarations.specs.declared.value_type as declared
use Rattle.program.specs.Methods.{VariableModel}
use Rattle.program.specs.declared.call.Argument.{Argument}
use Rattle.program.specs.declared.types.HeapType.{HeapType}
use Rattle.program.specs.declared.method.Role.{Role}
use Rattle.program.specs.declared.method.Role.TheVariants as role
use Rattle.program.specs.declared.statement.Mention.{Mention}
use Rattle.resolving.specs.Brought.{held_listed, params_held}
use Rattle.resolving.specs.Types.{type_held, state_in}
use Rattle.resolving.specs.Locals.{LocalFrame, mention, mention_of}
use Rattle.resolving.specs.Methods.{role_of}
use Rattle.resolving.specs.Plain.{arguments, argument_reads, argument_of, lone, payloads}
use Rattle.resolving.specs.Reads.{reads, mention_list}
use Rattle.tree.specs.Alone.{lone_name}
use Rattle.program.specs.Lists.{Each}
use Rattle.program.specs.WellFormed.{Setting, IsMention, Holds, HoldAll, AreGiven, is_claimed, same_type}
use Rattle.wellformed.proofs.ListLemmas.{each_append, both_none}
use Rattle.wellformed.proofs.Standing.{IsKnown, IsHeld, AreStanding, heading, scope_of}
use Rattle.names.proofs.WholeNames.{lone_shape}
use Rattle.wellformed.proofs.ExpressionLemmas.{block_lone, reads_within, whole_known}
use Rattle.wellformed.proofs.FindingLemmas.{unless_none}
use Rattle.wellformed.proofs.MentionLemmas.{scalar_not_mentioned}
use Rattle.wellformed.proofs.HeapTypeLemmas.{type_known, agree_alike, alike_block, alike_held, scalar_holds, block_holds, Holding}

-- an argument for each of these headings, of its type, and claimed if the parameter is
abbrev pub GivenFor : Setting → List (HeapType × Role) → List Argument → Type 0
GivenFor s [] [] = Unit {0}
GivenFor s [] (a ∷ given) = ⊥
GivenFor s (h ∷ headings) [] = ⊥
GivenFor s (h ∷ headings) (a ∷ given) = (Holds s h.0 a.mention.variable × (a.claimed ≡ is_claimed h.1)) × GivenFor s headings given

given_sequences : (s : Setting) (vs : List VariableModel) (given : List Argument) → GivenFor s (map (λ v. (v.ty, v.role)) vs) given → AreGiven s vs given
given_sequences s [] [] h = tt
given_sequences s [] (a ∷ given) h = h
given_sequences s (v ∷ vs) [] h = h
given_sequences s (v ∷ vs) (a ∷ given) h = (h.0, given_sequences s vs given h.1)

-- the arguments fit parameters with these headings
pub given_parameters : (s : Setting) (vs : List VariableModel) (headings : List (HeapType × Role)) (given : List Argument) → map (λ v. (v.ty, v.role)) vs ≡ headings
    → GivenFor s headings given → AreGiven s vs given
given_parameters s vs headings given is h = given_sequences s vs given (subst (λ x. GivenFor s x given) (sym is) h)

-- a name alone that is a scalar is no variable of the exchange heap
lone_of : (p : ProgramText) (class : ℕ) (f : LocalFrame) (e : ExpressionTree) (o : Option Span) → lone_name e ≡ o → lone p class f e ≡ option_and_then (mention p.text f.locals) o
lone_of p class f e o is = ap (option_and_then (mention p.text f.locals)) is

scalar_name : (p : ProgramText) (class : ℕ) (vs : List VariableModel) (f : LocalFrame) (g : names.NameFrame) → AreStanding p vs f g → (e : ExpressionTree) (o : Option Span) → lone_name e ≡ o
    → whole_mistakes (scope_of p g) (shape e) ≡ [] → is_block (type_of (scope_of p g) (shape e)) ≡ false → lone p class f e ≡ None
scalar_name p class vs f g standing e None is none scalar = lone_of p class f e None is
scalar_name p class vs f g standing e (Some name) is none scalar =
    let shaped = lone_shape e name is in
    lone_of p class f e (Some name) is ∙ scalar_not_mentioned p vs f g name standing (subst (λ x. whole_mistakes (scope_of p g) x ≡ []) shaped none) (subst (λ x. is_block (type_of (scope_of p g) x) ≡ false) shaped scalar)

pub scalar_lone : (p : ProgramText) (class : ℕ) (vs : List VariableModel) (f : LocalFrame) (g : names.NameFrame) → AreStanding p vs f g → (e : ExpressionTree)
    → whole_mistakes (scope_of p g) (shape e) ≡ [] → is_block (type_of (scope_of p g) (shape e)) ≡ false → lone p class f e ≡ None
scalar_lone p class vs f g standing e none scalar = scalar_name p class vs f g standing e (lone_name e) refl none scalar

-- an expression of a type of the exchange heap is a variable that holds what the type says
pub record IsGiven (p : ProgramText) (class : ℕ) (s : Setting) (f : LocalFrame) (g : names.NameFrame) (e : ExpressionTree) : Type 0 where
  pub mention : Mention
  pub variable : VariableModel
  pub is : lone p class f e ≡ Some mention
  pub there : slice_get s.variables mention.variable.0 ≡ Some variable
  pub holds : IsHeld p (type_of (scope_of p g) (shape e)) variable.ty

pub block_given : (p : ProgramText) (class : ℕ) (s : Setting) (f : LocalFrame) (g : names.NameFrame) → AreStanding p s.variables f g → (e : ExpressionTree)
    → whole_mistakes (scope_of p g) (shape e) ≡ [] → is_block (type_of (scope_of p g) (shape e)) ≡ true → IsGiven p class s f g e
block_given p class s f g standing e none block =
    let l = block_lone p s.variables f g standing e none block in
    record {
      mention = mention_of l.name l.mentioned.number;
      variable = l.mentioned.variable;
      is = lone_of p class f e (Some l.name) l.is ∙ l.mentioned.is;
      there = l.mentioned.there;
      holds = subst (λ k. IsHeld p k l.mentioned.variable.ty) (sym l.ty) l.mentioned.holds;
    }

-- a variable of the method holds a block of this type
pub holds_there : (s : Setting) (k : HeapType) (m : Mention) (v : VariableModel) → slice_get s.variables m.variable.0 ≡ Some v → same_type v.ty k ≡ true → Holds s k m.variable
holds_there s k m v there same = subst (λ o. IsSomeAnd o (λ x. same_type x.ty k ≡ true)) (sym there) same

-- an expression that must have a type
pub record IsAsked (p : ProgramText) (g : names.NameFrame) (k : declared.ValueType.ValueType) (e : ExpressionTree) : Type 0 where
  pub whole : whole_mistakes (scope_of p g) (shape e) ≡ []
  pub like : alike (type_of (scope_of p g) (shape e)) k ≡ true

pub asked_known : (p : ProgramText) (vs : List VariableModel) (f : LocalFrame) (g : names.NameFrame) → AreStanding p vs f g → (k : declared.ValueType.ValueType) (e : ExpressionTree) → IsKnown p k
    → asked_mistakes (scope_of p g) k (shape e) ≡ [] → IsAsked p g k e
asked_known p vs f g standing k e known none =
    let both = both_none (whole_mistakes (scope_of p g) (shape e)) (unless (agree (type_of (scope_of p g) (shape e)) k) (place_of (shape e)) _) none in
    record {
      whole = both.0;
      like = agree_alike p (type_of (scope_of p g) (shape e)) k (whole_known p vs f g standing (shape e) both.0) known (unless_none _ (agree (type_of (scope_of p g) (shape e)) k) (place_of (shape e)) both.1);
    }

-- for a scalar parameter: the expression gives no block
pub asked_scalar : (p : ProgramText) (class : ℕ) (vs : List VariableModel) (f : LocalFrame) (g : names.NameFrame) → AreStanding p vs f g → (k : declared.ValueType.ValueType) (e : ExpressionTree)
    → IsAsked p g k e → is_block k ≡ false → lone p class f e ≡ None
asked_scalar p class vs f g standing k e asked scalar = scalar_lone p class vs f g standing e asked.whole (alike_block (type_of (scope_of p g) (shape e)) k asked.like ∙ scalar)

-- for a parameter of the exchange heap: a variable that holds a block of its type
pub record IsBlockGiven (p : ProgramText) (class : ℕ) (s : Setting) (f : LocalFrame) (held : HeapType) (e : ExpressionTree) : Type 0 where
  pub mention : Mention
  pub is : lone p class f e ≡ Some mention
  pub holds : Holds s held mention.variable

pub asked_block : (p : ProgramText) (class : ℕ) (s : Setting) (f : LocalFrame) (g : names.NameFrame) → AreStanding p s.variables f g → (k : declared.ValueType.ValueType) (held : HeapType) (e : ExpressionTree)
    → IsAsked p g k e → is_block k ≡ true → IsHeld p k held → IsBlockGiven p class s f held e
asked_block p class s f g standing k held e asked block is =
    let given = block_given p class s f g standing e asked.whole (alike_block (type_of (scope_of p g) (shape e)) k asked.like ∙ block) in
    record {
      mention = given.mention;
      is = given.is;
      holds = holds_there s held given.mention given.variable given.there (alike_held p (type_of (scope_of p g) (shape e)) k given.variable.ty held asked.like given.holds is);
    }

claimed_role : (b : Bool) → b ≡ is_claimed (if b then role.Claimed else role.Lent)
claimed_role true = refl
claimed_role false = refl

given_with : (p : ProgramText) (class : ℕ) (s : Setting) (f : LocalFrame) (x : Parameter) (e : ExpressionTree) (o : Option HeapType) (m : Option Mention) (hs : List (HeapType × Role)) (gs : List Argument)
    → type_held p x.ty ≡ o → lone p class f e ≡ m → GivenFor s (option_map_or (λ k. (k, role_of x) ∷ []) o [] ++ hs) (argument_of x m ++ gs)
    → GivenFor s (heading p x ++ hs) (argument_of x (lone p class f e) ++ gs)
given_with p class s f x e o m hs gs held lone_is h =
    subst (λ y. GivenFor s (option_map_or (λ k. (k, role_of x) ∷ []) y [] ++ hs) (argument_of x (lone p class f e) ++ gs)) (sym held)
    (subst (λ y. GivenFor s (option_map_or (λ k. (k, role_of x) ∷ []) o [] ++ hs) (argument_of x y ++ gs)) (sym lone_is) h)

-- the argument for one parameter, then those for the others
one_given : (p : ProgramText) (class : ℕ) (s : Setting) (f : LocalFrame) (g : names.NameFrame) → AreStanding p s.variables f g → (x : Parameter) (e : ExpressionTree)
    → type_unknown p x.ty ≡ [] → IsAsked p g (type_meant p x.ty) e → (b : Bool) → is_block (type_meant p x.ty) ≡ b
    → (hs : List (HeapType × Role)) (gs : List Argument) → GivenFor s hs gs → GivenFor s (heading p x ++ hs) (argument_of x (lone p class f e) ++ gs)
one_given p class s f g standing x e known asked false scalar hs gs rest =
    given_with p class s f x e None None hs gs (scalar_holds p (type_meant p x.ty) (state_in x.ty) scalar) (asked_scalar p class s.variables f g standing (type_meant p x.ty) e asked scalar) rest
one_given p class s f g standing x e known asked true block hs gs rest =
    let h : Holding p (type_meant p x.ty) (state_in x.ty) = block_holds p (type_meant p x.ty) (state_in x.ty) (type_known p x.ty known) block in
    let b = asked_block p class s f g standing (type_meant p x.ty) h.held e asked block (record { state = state_in x.ty; is = h.is }) in
    given_with p class s f x e (Some h.held) (Some b.mention) hs gs h.is b.is ((b.holds, claimed_role x.claims), rest)

-- the arguments for the parameters of a method
pub arguments_given : (p : ProgramText) (class : ℕ) (s : Setting) (f : LocalFrame) (g : names.NameFrame) → AreStanding p s.variables f g → (params : List Parameter) (es : List ExpressionTree)
    → Each (λ x. type_unknown p x.ty ≡ []) params → length params ≡ length es → argument_mistakes (scope_of p g) (map (λ x. type_meant p x.ty) params) (map shape es) ≡ []
    → GivenFor s (flat_map (heading p) params) (arguments p class f params es)
arguments_given p class s f g standing [] es known many none = tt
arguments_given p class s f g standing (x ∷ params) [] known many none = cc
arguments_given p class s f g standing (x ∷ params) (e ∷ es) known many none =
    let k = type_meant p x.ty in
    let both = both_none (asked_mistakes (scope_of p g) k (shape e)) (argument_mistakes (scope_of p g) (map (λ x. type_meant p x.ty) params) (map shape es)) none in
    let asked = asked_known p s.variables f g standing k e (type_known p x.ty known.0) both.0 in
    let rest = arguments_given p class s f g standing params es known.1 (omega (arith, many)) both.1 in
    one_given p class s f g standing x e known.0 asked (is_block k) refl (flat_map (heading p) params) (arguments p class f params es) rest

-- the variables that arguments read
pub reads_mentioned : (p : ProgramText) (class : ℕ) (s : Setting) (f : LocalFrame) (g : names.NameFrame) → AreStanding p s.variables f g → (es : List ExpressionTree) → Each (IsMention s) (argument_reads p class f es)
reads_mentioned p class s f g standing [] = tt
reads_mentioned p class s f g standing (e ∷ es) = each_append (IsMention s) (reads p.text f.locals e) (argument_reads p class f es) (reads_within p s.variables f g standing e) (reads_mentioned p class s f g standing es)

-- the argument for one parameter of a message, then those for the others
payload_with : (p : ProgramText) (class : ℕ) (s : Setting) (f : LocalFrame) (x : MessageParameter) (e : ExpressionTree) (o : Option HeapType) (m : Option Mention) (ks : List HeapType) (ms : List Mention)
    → type_held p x.ty ≡ o → lone p class f e ≡ m → HoldAll s (held_listed o ++ ks) (map (λ y. y.variable) (mention_list m ++ ms))
    → HoldAll s (held_listed (type_held p x.ty) ++ ks) (map (λ y. y.variable) (mention_list (lone p class f e) ++ ms))
payload_with p class s f x e o m ks ms held lone_is h =
    subst (λ y. HoldAll s (held_listed y ++ ks) (map (λ z. z.variable) (mention_list (lone p class f e) ++ ms))) (sym held)
    (subst (λ y. HoldAll s (held_listed o ++ ks) (map (λ z. z.variable) (mention_list y ++ ms))) (sym lone_is) h)

one_payload : (p : ProgramText) (class : ℕ) (s : Setting) (f : LocalFrame) (g : names.NameFrame) → AreStanding p s.variables f g → (x : MessageParameter) (e : ExpressionTree)
    → type_unknown p x.ty ≡ [] → IsAsked p g (type_meant p x.ty) e → (b : Bool) → is_block (type_meant p x.ty) ≡ b
    → (ks : List HeapType) (ms : List Mention) → HoldAll s ks (map (λ y. y.variable) ms) → HoldAll s (held_listed (type_held p x.ty) ++ ks) (map (λ y. y.variable) (mention_list (lone p class f e) ++ ms))
one_payload p class s f g standing x e known asked false scalar ks ms rest =
    payload_with p class s f x e None None ks ms (scalar_holds p (type_meant p x.ty) (state_in x.ty) scalar) (asked_scalar p class s.variables f g standing (type_meant p x.ty) e asked scalar) rest
one_payload p class s f g standing x e known asked true block ks ms rest =
    let h : Holding p (type_meant p x.ty) (state_in x.ty) = block_holds p (type_meant p x.ty) (state_in x.ty) (type_known p x.ty known) block in
    let b = asked_block p class s f g standing (type_meant p x.ty) h.held e asked block (record { state = state_in x.ty; is = h.is }) in
    payload_with p class s f x e (Some h.held) (Some b.mention) ks ms h.is b.is (b.holds, rest)

-- the arguments for the parameters of a message
pub payloads_given : (p : ProgramText) (class : ℕ) (s : Setting) (f : LocalFrame) (g : names.NameFrame) → AreStanding p s.variables f g → (params : List MessageParameter) (es : List ExpressionTree)
    → Each (λ x. type_unknown p x.ty ≡ []) params → length params ≡ length es → argument_mistakes (scope_of p g) (map (λ x. type_meant p x.ty) params) (map shape es) ≡ []
    → HoldAll s (params_held p params) (map (λ y. y.variable) (payloads p class f es))
payloads_given p class s f g standing [] [] known many none = tt
payloads_given p class s f g standing [] (e ∷ es) known many none = cc
payloads_given p class s f g standing (x ∷ params) [] known many none = cc
payloads_given p class s f g standing (x ∷ params) (e ∷ es) known many none =
    let k = type_meant p x.ty in
    let both = both_none (asked_mistakes (scope_of p g) k (shape e)) (argument_mistakes (scope_of p g) (map (λ y. type_meant p y.ty) params) (map shape es)) none in
    let asked = asked_known p s.variables f g standing k e (type_known p x.ty known.0) both.0 in
    let rest = payloads_given p class s f g standing params es known.1 (omega (arith, many)) both.1 in
    one_payload p class s f g standing x e known.0 asked (is_block k) refl (params_held p params) (payloads p class f es) rest
