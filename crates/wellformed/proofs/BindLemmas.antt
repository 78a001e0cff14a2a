-- The names that a case binds come into scope.
use Rattle.std.proofs.Common.{◌≡◌, List, [], ◌∷◌, ◌++◌, length, refl, arith}
use Rattle.std.specs.Prelude.{Option, None, Some}
use Rattle.source.specs.declared.token.Span.{Span}
use Rattle.tree.specs.declared.statement as made
use Rattle.tree.specs.declared.types as type_nodes
use Rattle.tree.specs.declared.contract.MessageParameter.{MessageParameter}
use Rattle.names.specs.Cases.{bind_turn, binds_turn}
use Rattle.declarations.specs.declared.mistake.Demand.TheVariants as demand
use Rattle.declarations.specs.declared.mistake.Mismatch.TheVariants.{Given}
use Rattle.declarations.specs.Types.{brought_type}
use Rattle.declarations.specs.declared.mistake.Demand.TheVariants as demand
use Rattle.declarations.specs.declared.mistake.Mismatch.TheVariants.{Given}
use Rattle.declarations.specs.Types.{agree, is_heap, type_meant, type_unknown, unless}
use Rattle.declarations.specs.Program.{ProgramText}
use Rattle.names.specs.Variables as names
use Rattle.names.specs.Variables.{declared_variable}
use Rattle.declarations.specs.declared.value_type.ValueType.{ValueType}
use Rattle.program.specs.Methods.{VariableModel}
use Rattle.program.specs.declared.types as held
use Rattle.program.specs.declared.method.Role.TheVariants.{Local}
use Rattle.program.specs.declared.number.VarId.{VarId}
use Rattle.resolving.specs.Binds.{bind_told, binds_told, bound_as, one_number}
use Rattle.resolving.specs.Types.{heap_type, state_in, type_held}
use Rattle.resolving.specs.Locals.{LocalFrame, with_declaration, next_number}
use Rattle.program.specs.Lists.{Each}
use Rattle.program.specs.Scopes.{LeadsOut, InTurn}
use Rattle.wellformed.proofs.GrowthLemmas.{binds_grow, within_before}
use Rattle.wellformed.proofs.HeapTypeLemmas.{heap_block, held_as, type_known}
use Rattle.wellformed.proofs.ListLemmas.{both_none}
use Rattle.wellformed.proofs.LeadLemmas.{leads_here, leads_then}
use Rattle.wellformed.proofs.ScopeLemmas.{declared_inner, declared_local, declared_stands}
use Rattle.wellformed.proofs.Standing.{AreStanding, Within, declares, last_of}

-- the bound names come into scope in turn
pub record Binding (p : ProgramText) (vs : List VariableModel) (f after : LocalFrame) (behind : names.NameFrame) (bound : List VarId) : Type 0 where
  pub standing : AreStanding p vs after behind
  pub inner : LeadsOut vs (last_of after) (last_of f)
  pub turn : InTurn vs (last_of f) bound (last_of after)

-- the names bound after a variable, with this one before them
next_bound : (p : ProgramText) (vs : List VariableModel) (name : Span) (ty : ValueType) (held : Option held.HeapType.HeapType) (f after : LocalFrame) (behind : names.NameFrame) (bound : List VarId)
    → Within vs (declares p.text name ty held Local f) → Binding p vs (declares p.text name ty held Local f) after behind bound → Binding p vs f after behind (one_number (next_number held f) ++ bound)
next_bound p vs name ty None f after behind bound within rest = record { standing = rest.standing; inner = rest.inner; turn = rest.turn }
next_bound p vs name ty (Some held) f after behind bound within rest =
    let g = declares p.text name ty (Some held) Local f in
    record {
      standing = rest.standing;
      inner = leads_then vs (last_of after) (last_of g) (last_of f) rest.inner (declared_inner p vs name ty (Some held) Local f within);
      turn = (declared_local p vs name ty held f within, rest.turn);
    }

bind_bound : (p : ProgramText) (vs : List VariableModel) (param : Option MessageParameter) (name : Span) (ty : Option type_nodes.Type.Type) (f after : LocalFrame) (behind : names.NameFrame) (bound : List VarId)
    → Within vs (with_declaration p.text (bound_as p param name ty) f) → Binding p vs (with_declaration p.text (bound_as p param name ty) f) after behind bound
    → Binding p vs f after behind (one_number (next_number (bound_as p param name ty).held f) ++ bound)
bind_bound p vs param name (Some t) f after behind bound within rest = next_bound p vs name (type_meant p t) (type_held p t) f after behind bound within rest
bind_bound p vs param name None f after behind bound within rest = next_bound p vs name (brought_type p param) (heap_type p (brought_type p param) None) f after behind bound within rest

-- A name that a case binds comes into scope. What the message brings for it counts if it is of the exchange heap.
bind_stands : (p : ProgramText) (vs : List VariableModel) (x : MessageParameter) (name : Span) (ty : Option type_nodes.Type.Type) (f : LocalFrame) (g : names.NameFrame)
    → type_unknown p x.ty ≡ [] → AreStanding p vs f g → Within vs (with_declaration p.text (bound_as p (Some x) name ty) f) → (bind_turn p (Some x) name ty g).found ≡ []
    → AreStanding p vs (with_declaration p.text (bound_as p (Some x) name ty) f) (bind_turn p (Some x) name ty g).frame
bind_stands p vs x name (Some t) f g brought standing within none =
    let fits = unless (agree (type_meant p t) (brought_type p (Some x))) name.place (Given (demand.OfType (brought_type p (Some x))) (type_meant p t)) in
    let entered = declared_variable p.text name (type_meant p t) (is_heap t) g in
    let clean = both_none (type_unknown p t ++ fits) entered.found none in
    let sure = both_none (type_unknown p t) fits clean.0 in
    let known = type_known p t sure.0 in
    declared_stands p vs name (type_meant p t) (type_held p t) Local (is_heap t) f g (heap_block p t sure.0) known (held_as p (type_meant p t) (state_in t) known) standing within clean.1
bind_stands p vs x name None f g brought standing within none =
    let known = type_known p x.ty brought in
    declared_stands p vs name (type_meant p x.ty) (heap_type p (type_meant p x.ty) None) Local (is_heap x.ty) f g (heap_block p x.ty brought) known (held_as p (type_meant p x.ty) None known) standing within none

pub binds_stand : (p : ProgramText) (vs : List VariableModel) (params : List MessageParameter) (binds : List made.Bind.Bind) (f : LocalFrame) (g : names.NameFrame)
    → AreStanding p vs f g → Within vs (binds_told p params binds f).frame → Each (λ x. type_unknown p x.ty ≡ []) params → length params ≡ length binds
    → (binds_turn p params binds g).found ≡ []
    → Binding p vs f (binds_told p params binds f).frame (binds_turn p params binds g).frame (binds_told p params binds f).what
binds_stand p vs params [] f g standing within known many none = record { standing = standing; inner = leads_here vs (last_of f); turn = refl }
binds_stand p vs [] (b ∷ binds) f g standing within known many none = absurd (omega arith)
binds_stand p vs (x ∷ params) (b ∷ binds) f g standing within known many none =
    let next = (bind_told p (Some x) b f).frame in
    let turned = bind_turn p (Some x) b.name b.ty g in
    let here = within_before p next (binds_told p params binds next).frame vs (binds_grow p params binds next) within in
    let clean = both_none turned.found (binds_turn p params binds turned.frame).found none in
    let stands = bind_stands p vs x b.name b.ty f g known.0 standing here clean.0 in
    let fewer : length params ≡ length binds = omega arith in
    bind_bound p vs (Some x) b.name b.ty f _ _ _ here (binds_stand p vs params binds next turned.frame stands within known.1 fewer clean.1)
