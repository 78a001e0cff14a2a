-- Methods and their graphs, by number.
use Rattle.std.proofs.Common.{◌≡◌, ℕ, zero, suc, ◌<◌, List, [], ◌∷◌, length, map, get_or, refl, sym, ap, ◌∙◌, arith, Option, Some, None, IfSome, IsSomeAnd, slice_get}
use Rattle.std.specs.Option.{option_map}
use Rattle.std.proofs.lemmas.Option.{slice_get-map}
use Rattle.std.proofs.lemmas.Simd.{map-map}
use Rattle.flow.specs.declared.graph.Graph.{Graph}
use Rattle.flow.specs.declared.graph.Instr.{Instr}
use Rattle.flow.specs.Graphs.{GraphModel, Instruction, graph_model, instruction_model}
use Rattle.flow.specs.Graphs.{Act, New, Send, Switch, Branch, Forget, Call, Start, Return, Stop}
use Rattle.flow.specs.declared.graph.Branches.{Branches}
use Rattle.flow.specs.Lowering.{graph_of}
use Rattle.program.specs.declared.method.Method.{Method}
use Rattle.program.specs.Methods.{MethodModel, method_model, variable_model}
use Rattle.program.specs.Programs.{ProgramModel}
use Rattle.rows.specs.declared.row.Leaf.{Leaf}
use Rattle.rules.specs.Onwards.{condition_at}
use Rattle.rules.specs.Outcomes.{Goes, Pair}
use Rattle.rules.specs.RuleTable.{ways}
use Rattle.rules.specs.Steps.{entry_leaf, method_entry, method_outcome, point_outcome, step_at}

-- two lists with equal models have equal models at each index
pub same_at : {A B C : Type 0} (f : A → C) (g : B → C) (xs : List A) (ys : List B) (n : ℕ) (x : A) → map f xs ≡ map g ys → n < length ys → x ≡ get_or xs n x → IsSomeAnd (slice_get ys n) (λ y. f x ≡ g y)
same_at f g [] [] n x e h is = absurd (omega arith)
same_at f g [] (y ∷ ys) n x e h is = absurd (cc)
same_at f g (a ∷ xs) [] n x e h is = absurd (omega arith)
same_at f g (a ∷ xs) (y ∷ ys) zero x e h is = let head : f a ≡ g y = cc in ap f is ∙ head
same_at f g (a ∷ xs) (y ∷ ys) (suc n) x e h is = same_at f g xs ys n x (cc) (omega arith) is

pub one_method : (a b : MethodModel) → Path (Option MethodModel) (Some a) (Some b) → a ≡ b
one_method a b e = cc

-- the pair with which a method begins
pub entry_is : (o : Option MethodModel) (m : Method) (g : Graph) (leaves : List Leaf) → o ≡ Some (method_model m) → IsSomeAnd o (λ s. graph_model g ≡ graph_of s) → leaves ≡ map (λ v. entry_leaf v.role v.ty) m.variables.items → (g.first, leaves) ≡ method_entry o
entry_is None m g leaves its graph is = absurd graph
entry_is (Some s) m g leaves its graph is =
    let first : g.first ≡ (graph_of s).first = ap (λ (h : GraphModel). h.first) graph in
    let row : leaves ≡ map (λ v. entry_leaf v.role v.ty) s.variables = is ∙ sym (map-map (λ v. entry_leaf v.role v.ty) variable_model m.variables.items) ∙ ap (λ (t : MethodModel). map (λ v. entry_leaf v.role v.ty) t.variables) (sym (one_method s (method_model m) its)) in
    λ i. (first i, row i)

-- the instruction at a point of a method, if any
pub at_point : (s : MethodModel) (g : Graph) (point : ℕ) (i : Option Instr) → graph_model g ≡ graph_of s → slice_get g.instructions.items point ≡ i → slice_get (graph_of s).instructions point ≡ option_map instruction_model i
at_point s g point i graph is = ap (λ (h : GraphModel). slice_get h.instructions point) (sym graph) ∙ slice_get-map instruction_model g.instructions.items point ∙ ap (option_map instruction_model) is

-- the step at a point
pub outcome_at : (p : ProgramModel) (o : Option MethodModel) (m : Method) (g : Graph) (point : ℕ) (row : List Leaf) (i : Option Instr) → o ≡ Some (method_model m) → IsSomeAnd o (λ s. graph_model g ≡ graph_of s) → slice_get g.instructions.items point ≡ i → method_outcome p o (point, row) ≡ point_outcome p (method_model m) row (option_map instruction_model i)
outcome_at p None m g point row i its graph is = absurd graph
outcome_at p (Some s) m g point row i its graph is = λ j. point_outcome p (one_method s (method_model m) its j) row (at_point s g point i graph is j)

-- there is no instruction at the point
pub outcome_past : (p : ProgramModel) (o : Option MethodModel) (g : Graph) (point : ℕ) (row : List Leaf) → IsSomeAnd o (λ s. graph_model g ≡ graph_of s) → slice_get g.instructions.items point ≡ None → method_outcome p o (point, row) ≡ Goes []
outcome_past p None g point row graph is = absurd graph
outcome_past p (Some s) g point row graph is = λ j. point_outcome p s row (at_point s g point None graph is j)

-- the step of a method
pub outcome_is : (p : ProgramModel) (n : ℕ) (pair : Pair) → step_at p n pair ≡ method_outcome p (slice_get p.methods n) pair
unfolding step_at
outcome_is p n pair = refl

-- a condition goes on with any row
condition_goes : (p : ProgramModel) (m : MethodModel) (row : List Leaf) (branches : Branches) (i : Option Instruction) → Path (Option Branches) (Some branches) (condition_at i) → point_outcome p m row i ≡ Goes (ways branches row)
condition_goes p m row branches None e = cc
condition_goes p m row branches (Some (Act action next)) e = cc
condition_goes p m row branches (Some (New target arguments next)) e = cc
condition_goes p m row branches (Some (Send place endpoint message payloads next)) e = cc
condition_goes p m row branches (Some (Switch place cases)) e = cc
condition_goes p m row branches (Some (Branch place other)) e = let same : branches ≡ other = cc in ap (λ b. Goes (ways b row)) (sym same)
condition_goes p m row branches (Some (Forget forget next)) e = cc
condition_goes p m row branches (Some (Call place method arguments target next)) e = cc
condition_goes p m row branches (Some (Start place method arguments next)) e = cc
condition_goes p m row branches (Some (Return place value scope)) e = cc
condition_goes p m row branches (Some (Stop place)) e = cc

pub condition_on : (p : ProgramModel) (n point : ℕ) (found : Option Branches) → IsSomeAnd (slice_get p.methods n) (λ m. found ≡ condition_at (slice_get (graph_of m).instructions point))
    → IfSome found (λ branches. (row : List Leaf) → step_at p n (point, row) ≡ Goes (ways branches row))
condition_on p n point None h = tt
condition_on p n point (Some branches) h = λ row. outcome_is p n (point, row) ∙ go (slice_get p.methods n) row h
  where
    go : (o : Option MethodModel) (row : List Leaf) → IsSomeAnd o (λ m. Path (Option Branches) (Some branches) (condition_at (slice_get (graph_of m).instructions point))) → method_outcome p o (point, row) ≡ Goes (ways branches row)
    go None row h = absurd h
    go (Some m) row h = condition_goes p m row branches (slice_get (graph_of m).instructions point) h

pub condition_is : (o : Option MethodModel) (g : Graph) (point : ℕ) (i : Option Instr) (found : Option Branches) → IsSomeAnd o (λ m. graph_model g ≡ graph_of m) → slice_get g.instructions.items point ≡ i
    → found ≡ condition_at (option_map instruction_model i) → IsSomeAnd o (λ m. found ≡ condition_at (slice_get (graph_of m).instructions point))
condition_is None g point i found graph is e = absurd graph
condition_is (Some m) g point i found graph is e = e ∙ ap condition_at (sym (at_point m g point i graph is))
