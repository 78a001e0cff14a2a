-- A run begins.
use Rattle.std.proofs.Common.{◌≡◌, ℕ, zero, suc, false, List, [], ◌∷◌, Some, None, length, map, refl, sym, ap, ◌∙◌, subst, arith}
use Rattle.std.proofs.lemmas.List.{length-map}
use Rattle.std.proofs.lemmas.Option.{slice_get-map}
use Rattle.std.specs.Option.{option_map}
use Rattle.std.specs.Prelude.{Option, slice_get}
use Rattle.program.specs.Methods.{MethodModel, VariableModel}
use Rattle.program.specs.Programs.{ProgramModel}
use Rattle.program.specs.WellFormed.{is_parameter}
use Rattle.program.specs.declared.types.HeapType.{HeapType}
use Rattle.program.specs.declared.method.Role.TheVariants as role
use Rattle.program.specs.declared.method.Role.{Role}
use Rattle.flow.specs.Lowering.{graph_of}
use Rattle.rules.specs.Mentions.{is_lent_role}
use Rattle.rows.specs.Rows.{leaf_at, leaf_or_nothing}
use Rattle.rules.specs.Steps.{entry_leaf}
use Rattle.rows.specs.declared.row.Leaf.TheVariants as leaf
use Rattle.machine.specs.Heaps as heaps
use Rattle.machine.specs.Frames.{variables_at_entry, entered_at}
use Rattle.machine.specs.Runs.{start_of}
use Rattle.machine.specs.World.{Frame, World, stack_at, read, owns}
use Rattle.sound.specs.GraphFit.{AreGraphsFit}
use Rattle.sound.specs.Premises.{IsEntry}
use Rattle.sound.proofs.events.Calling.{entry_reached}
use Rattle.sound.proofs.Invariant.{LeafFits, one_if, standing, held, Holds, StackFits}

filled_long : (xs : List VariableModel) → length (variables_at_entry xs []) ≡ length xs
filled_long [] = refl
filled_long (x ∷ xs) = ap suc (filled_long xs)

filled_none : (xs : List VariableModel) (u : ℕ) → read (variables_at_entry xs []) u ≡ None
filled_none [] u = refl
filled_none (x ∷ xs) zero = refl
filled_none (x ∷ xs) (suc u) = filled_none xs u

filled_nothing : (xs : List VariableModel) (a : ℕ) → standing a (variables_at_entry xs []) ≡ 0
filled_nothing [] a = refl
filled_nothing (x ∷ xs) a = let e = filled_nothing xs a in omega arith

local_leaf : (r : Role) (k : HeapType) → is_parameter r ≡ false → entry_leaf r k ≡ leaf.Nothing
local_leaf role.Local k e = refl
local_leaf role.Lent k e = absurd (cc)
local_leaf role.Claimed k e = absurd (cc)

local_lent : (r : Role) → is_parameter r ≡ false → is_lent_role r ≡ false
local_lent role.Local e = refl
local_lent role.Lent e = absurd (cc)
local_lent role.Claimed e = absurd (cc)

abbrev begun_with : ℕ → Frame → World
begun_with m f = record { processes = (f ∷ []) ∷ []; blocks = [] }

pub start_holds : (p : ProgramModel) (m : ℕ) → AreGraphsFit p → IsEntry p m → Holds p (start_of p m)
start_holds p m graphs entry =
    let x = entry.method in
    let top : Frame = record { method = m; point = (graph_of x).first; variables = variables_at_entry x.variables [] } in
    subst (λ (f : Frame). Holds p (begun_with m f)) (sym (ap (λ (o : Option MethodModel). entered_at o m []) entry.there)) (record {
      channels = record { imp = λ a c within is. absurd (omega arith); exp = λ a c within is. absurd (omega arith) };
      stacks = stacks;
      own = own;
      queues = λ a y. refl;
      brought = λ a. tt;
      held = record { holds_are = λ a j. refl; rooted = λ x. heaps.top x (λ b. refl); alive = λ j a e. refl };
      declared = λ a within. absurd (omega arith);
    })
  where
    leaf_of : (v : ℕ) (y : VariableModel) → slice_get entry.method.variables v ≡ Some y
        → leaf_at (map (λ z. entry_leaf z.role z.ty) entry.method.variables) v ≡ leaf.Nothing
    leaf_of v y there = ap leaf_or_nothing (slice_get-map (λ (z : VariableModel). entry_leaf z.role z.ty) entry.method.variables v
        ∙ ap (option_map (λ (z : VariableModel). entry_leaf z.role z.ty)) there) ∙ local_leaf y.role y.ty (entry.alone v y there)

    stacks : (q : ℕ) → StackFits p [] (stack_at ((record {
      method = m;
      point = (graph_of entry.method).first;
      variables =
          variables_at_entry entry.method.variables [];
    } ∷ []) ∷ []) q)
    stacks zero = (
      record {
        m = entry.method;
        there = entry.there;
        row = map (λ v. entry_leaf v.role v.ty) entry.method.variables;
        reached = entry_reached p m entry.method entry.there;
        fits = record {
          long = filled_long entry.method.variables;
          row_long = length-map entry.method.variables (λ (v : VariableModel). entry_leaf v.role v.ty);
          each = λ v y there. subst (λ (z : Option ℕ). LeafFits [] y.ty z
              (leaf_at (map (λ v. entry_leaf v.role v.ty) entry.method.variables) v)) (sym (filled_none entry.method.variables v))
              (leaf_of v y there);
        };
      },
      record { m = entry.method; there = entry.there; void = entry.void; alone = λ v y there. local_lent y.role (entry.alone v y there) },
    )
    stacks (suc q) = tt

    own : (q a : ℕ) → held p a (stack_at ((record {
      method = m;
      point = (graph_of entry.method).first;
      variables =
          variables_at_entry entry.method.variables [];
    } ∷ []) ∷ []) q) ≡ one_if (owns [] q a)
    own zero a = let e = filled_nothing entry.method.variables a in omega arith
    own (suc q) a = refl
