-- The payloads of messages, and the variables that take them.
use Rattle.std.proofs.Common.{◌≡◌, Bool, true, false, List, [], ◌∷◌, ◌++◌, length, map, sym, refl, ap, ◌∙◌, subst, arith}
use Rattle.std.specs.List.{flat_map}
use Rattle.std.specs.Prelude.{Option, None, Some, option_map, slice_get, IsSomeAnd}
use Rattle.source.specs.declared.token.Span.{Span}
use Rattle.tree.specs.Trees.{MessageTree, contracts_of}
use Rattle.tree.specs.declared.statement as made
use Rattle.tree.specs.declared.types as type_nodes
use Rattle.tree.specs.declared.contract.MessageParameter.{MessageParameter}
use Rattle.names.specs.Cases.{bind_turn, binds_turn}
use Rattle.declarations.specs.Declarations.{messages_of}
use Rattle.declarations.specs.declared.mistake.Demand.TheVariants as demand
use Rattle.declarations.specs.declared.mistake.Mismatch.TheVariants.{Given}
use Rattle.declarations.specs.Types.{agree, alike, is_block, type_meant, type_unknown, unless}
use Rattle.declarations.specs.Program.{ProgramText}
use Rattle.declarations.specs.Resolution.{resolved_contracts}
use Rattle.names.specs.Variables as names
use Rattle.tables.specs.Words.{word_at}
use Rattle.declarations.specs.declared.value_type.ValueType.{ValueType}
use Rattle.program.specs.Methods.{VariableModel}
use Rattle.program.specs.declared.types as held
use Rattle.program.specs.declared.method.Role.TheVariants.{Local}
use Rattle.program.specs.declared.number.VarId.{VarId}
use Rattle.resolving.specs.Binds.{bind_told, binds_told, bound_as, one_number}
use Rattle.resolving.specs.Brought.{payload_types, held_listed, messages_told, params_held}
use Rattle.resolving.specs.Types.{heap_type, state_in, type_held}
use Rattle.resolving.specs.Locals.{LocalFrame, with_declaration, next_number, number_of}
use Rattle.program.specs.Lists.{Each}
use Rattle.program.specs.WellFormed.{HoldAll, Holds, IsType, Setting, same_type}
use Rattle.wellformed.proofs.GrowthLemmas.{binds_grow, within_before}
use Rattle.wellformed.proofs.HeapTypeLemmas.{Holding, agree_alike, alike_block, alike_held, alike_self, block_holds, held_type, scalar_holds, type_known}
use Rattle.wellformed.proofs.ListLemmas.{both_none, each_append}
use Rattle.wellformed.proofs.FindingLemmas.{unless_none}
use Rattle.wellformed.proofs.PlaceLemmas.{at_seam}
use Rattle.wellformed.proofs.Standing.{IsKnown, Within, declares}

-- a declared variable takes its number
declared_at : (p : ProgramText) (s : Setting) (name : Span) (ty : ValueType) (x : held.HeapType.HeapType) (k : held.HeapType.HeapType) (f : LocalFrame) → same_type x k ≡ true → Within s.variables (declares p.text name ty (Some x) Local f)
    → Holds s k (number_of (length f.variables))
declared_at p s name ty x k f same within =
    let v : VariableModel = record { name = word_at p.text name; ty = x; role = Local; outer = option_map number_of f.last } in
    let there = ap (λ vs. slice_get vs (length f.variables)) within.is ∙ at_seam f.variables within.rest v in
    subst (λ o. IsSomeAnd o (λ y. same_type y.ty k ≡ true)) (sym there) same

-- one name for one parameter, then others for the others
one_with : (p : ProgramText) (s : Setting) (name : Span) (ty : ValueType) (f : LocalFrame) (o x : Option held.HeapType.HeapType) (h y : Option held.HeapType.HeapType) (ks : List held.HeapType.HeapType) (vs : List VarId) → o ≡ h → x ≡ y
    → HoldAll s (held_listed y ++ ks) (one_number (next_number h f) ++ vs) → HoldAll s (held_listed x ++ ks) (one_number (next_number o f) ++ vs)
one_with p s name ty f o x h y ks vs own asked all =
    subst (λ z. HoldAll s (held_listed z ++ ks) (one_number (next_number o f) ++ vs)) (sym asked) (subst (λ z. HoldAll s (held_listed y ++ ks) (one_number (next_number z f) ++ vs)) (sym own) all)

one_holds : (p : ProgramText) (s : Setting) (name : Span) (a k : ValueType) (own asked : Option Span) (f : LocalFrame) (b : Bool) → is_block k ≡ b → alike a k ≡ true → IsKnown p a → IsKnown p k
    → Within s.variables (declares p.text name a (heap_type p a own) Local f) → (ks : List held.HeapType.HeapType) (vs : List VarId) → HoldAll s ks vs
    → HoldAll s (held_listed (heap_type p k asked) ++ ks) (one_number (next_number (heap_type p a own) f) ++ vs)
one_holds p s name a k own asked f false scalar like sure known within ks vs rest =
    one_with p s name a f (heap_type p a own) (heap_type p k asked) None None ks vs (scalar_holds p a own (alike_block a k like ∙ scalar)) (scalar_holds p k asked scalar) rest
one_holds p s name a k own asked f true block like sure known within ks vs rest =
    let x : Holding p a own = block_holds p a own sure (alike_block a k like ∙ block) in
    let y : Holding p k asked = block_holds p k asked known block in
    let same = alike_held p a k x.held y.held like (record { state = own; is = x.is }) (record { state = asked; is = y.is }) in
    let here = subst (λ o. Within s.variables (declares p.text name a o Local f)) x.is within in
    one_with p s name a f (heap_type p a own) (heap_type p k asked) (Some x.held) (Some y.held) ks vs x.is y.is (declared_at p s name a x.held y.held f same here, rest)

-- a name that a case binds for this parameter
bound_holds : (p : ProgramText) (s : Setting) (x : MessageParameter) (name : Span) (ty : Option type_nodes.Type.Type) (f : LocalFrame) (g : names.NameFrame) → IsKnown p (type_meant p x.ty)
    → Within s.variables (with_declaration p.text (bound_as p (Some x) name ty) f) → (bind_turn p (Some x) name ty g).found ≡ [] → (ks : List held.HeapType.HeapType) (vs : List VarId) → HoldAll s ks vs
    → HoldAll s (held_listed (type_held p x.ty) ++ ks) (one_number (next_number (bound_as p (Some x) name ty).held f) ++ vs)
bound_holds p s x name (Some t) f g known within none ks vs rest =
    let k = type_meant p x.ty in
    let fits = unless (agree (type_meant p t) k) name.place (Given (demand.OfType k) (type_meant p t)) in
    let clean = both_none (type_unknown p t) fits (both_none (type_unknown p t ++ fits) _ none).0 in
    let sure = type_known p t clean.0 in
    let like = agree_alike p (type_meant p t) k sure known (unless_none _ (agree (type_meant p t) k) name.place clean.1) in
    one_holds p s name (type_meant p t) k (state_in t) (state_in x.ty) f (is_block k) refl like sure known within ks vs rest
bound_holds p s x name None f g known within none ks vs rest =
    let k = type_meant p x.ty in
    one_holds p s name k k None (state_in x.ty) f (is_block k) refl (alike_self p k known) known known within ks vs rest

-- the names that a case binds take the payload of its message
pub binds_hold : (p : ProgramText) (s : Setting) (params : List MessageParameter) (binds : List made.Bind.Bind) (f : LocalFrame) (g : names.NameFrame)
    → Within s.variables (binds_told p params binds f).frame → Each (λ x. type_unknown p x.ty ≡ []) params → length params ≡ length binds
    → (binds_turn p params binds g).found ≡ [] → HoldAll s (params_held p params) (binds_told p params binds f).what
binds_hold p s [] [] f g within known many none = tt
binds_hold p s (x ∷ params) [] f g within known many none = absurd (omega arith)
binds_hold p s [] (b ∷ binds) f g within known many none = absurd (omega arith)
binds_hold p s (x ∷ params) (b ∷ binds) f g within known many none =
    let next = (bind_told p (Some x) b f).frame in
    let turned = bind_turn p (Some x) b.name b.ty g in
    let clean = both_none turned.found (binds_turn p params binds turned.frame).found none in
    let here = within_before p next (binds_told p params binds next).frame s.variables (binds_grow p params binds next) within in
    let fewer : length params ≡ length binds = omega arith in
    let rest = binds_hold p s params binds next turned.frame within known.1 fewer clean.1 in
    bound_holds p s x b.name b.ty f g (type_known p x.ty known.0) here clean.0 (params_held p params) (binds_told p params binds next).what rest

-- in a type of the exchange heap, the contract and the state exist
pub types_meant : (p : ProgramText) (t : type_nodes.Type.Type) (o : Option held.HeapType.HeapType) → type_held p t ≡ o → Each (IsType (resolved_contracts p.text (contracts_of p.items))) (held_listed o)
types_meant p t None is = tt
types_meant p t (Some h) is = (held_type p (type_meant p t) h (record { state = state_in t; is = is }), tt)

-- so they do in payloads
params_types : (p : ProgramText) (params : List MessageParameter) → Each (IsType (resolved_contracts p.text (contracts_of p.items))) (params_held p params)
params_types p [] = tt
params_types p (x ∷ params) = each_append (IsType (resolved_contracts p.text (contracts_of p.items))) (held_listed (type_held p x.ty)) (params_held p params) (types_meant p x.ty (type_held p x.ty) refl) (params_types p params)

messages_types : (p : ProgramText) (messages : List MessageTree) → Each (Each (IsType (resolved_contracts p.text (contracts_of p.items)))) (map (payload_types p) messages)
messages_types p [] = tt
messages_types p (m ∷ messages) = (params_types p m.params, messages_types p messages)

pub brought_types : (p : ProgramText) → Each (Each (IsType (resolved_contracts p.text (contracts_of p.items)))) (messages_told p)
brought_types p = messages_types p (flat_map messages_of (contracts_of p.items))
