-- The outcome of an instruction with a transfer.
use Rattle.std.proofs.Common.{◌≡◌, ℕ, Bool, true, false, not, ◌&&◌, ◌==◌, List, [], ◌∷◌, ◌++◌, flat_map, Option, Some, None, set, IfSome, IsSomeAnd, slice_get, if◌then◌else◌, refl, sym, ap, subst, ◌∙◌, true≢false}
use Rattle.std.specs.Option.{option_map}
use Rattle.flow.specs.declared.graph.Graph.{Graph}
use Rattle.flow.specs.declared.graph.Instr.{Instr}
use Rattle.flow.specs.Graphs.{Instruction, graph_model, instruction_model}
use Rattle.flow.specs.Graphs as graphs
use Rattle.flow.specs.Lowering.{graph_of}
use Rattle.program.specs.declared.types.HeapType.{HeapType}
use Rattle.program.specs.declared.method.Method.{Method}
use Rattle.program.specs.declared.statement.Action.TheVariants as does
use Rattle.program.specs.declared.statement.Mention.{Mention}
use Rattle.program.specs.Methods.{MethodModel, method_model}
use Rattle.program.specs.Programs.{ProgramModel}
use Rattle.rules.specs.Arguments.{all_fields, field_checks}
use Rattle.rules.specs.Endpoints.{fields_of}
use Rattle.rules.specs.Mentions.{is_lent}
use Rattle.rules.specs.Outcomes.{Goes, Pair, Check, after_checks, breach_at, refuse_if}
use Rattle.rows.specs.Rows.{is_owned, leaf_at}
use Rattle.rules.specs.RuleTable.{instruction_outcome}
use Rattle.rules.specs.Steps.{method_outcome, point_outcome, step_at}
use Rattle.rules.specs.declared.breach.Breach.{Breach}
use Rattle.rules.specs.declared.breach.Reason.TheVariants.{Lent, NotOwned, Overwritten, Twice}
use Rattle.rules.specs.Transfers.{allows, fits, fitting_transfer, transfer_at, transfer_in, row_after_transfer}
use Rattle.rows.specs.declared.row.Leaf.{Leaf}
use Rattle.rows.specs.declared.row.Leaf.TheVariants.{Nothing, Block}
use Rattle.rules.specs.declared.transfer.Transfer.{Transfer}
use Rattle.rules.specs.declared.transfer.Transfer.TheVariants.{Use, New, Move, Delete}
use Rattle.rules.proofs.ArgumentLemmas.{zip_nil}
use Rattle.rules.proofs.ProgramLemmas.{at_point, one_method, outcome_is}

-- parts of tests
pub of_not : (b : Bool) → not b ≡ true → b ≡ false
of_not true e = absurd (true≢false (sym e))
of_not false e = refl

of_both : (a b : Bool) → (a && b) ≡ true → (a ≡ true) × (b ≡ true)
of_both true b e = (refl, e)
of_both false b e = absurd (true≢false (sym e))

pub one_some : {X : Type 0} (x y : X) → Path (Option X) (Some x) (Some y) → x ≡ y
one_some x y e = cc

pub none_some : {X : Type 0} (x : X) → Path (Option X) None (Some x) → ⊥
none_some x e = cc

one_of : {X : Type 0} (b : Bool) (x y : X) → Path (Option X) (Some x) (if b then Some y else None) → (b ≡ true) × (x ≡ y)
one_of true x y e = (refl, one_some x y e)
one_of false x y e = absurd (none_some x (sym e))

-- a check that passes
pass : (b : Bool) (f : Breach) (checks : List Check) (after : List Pair) → b ≡ false
    → after_checks (refuse_if b f ∷ checks) after ≡ after_checks checks after
pass b f checks after e = ap (λ c. after_checks (refuse_if c f ∷ checks) after) e

module _ (p : ProgramModel) (m : MethodModel) (row : List Leaf) where
  -- if the transfer fits and is allowed, it is the outcome of the instruction
  abbrev Comes : Instruction → Transfer × ℕ → Type 0
  Comes i u = fits m u.0 ≡ true → allows u.0 row ≡ true → instruction_outcome p m i row ≡ Goes ((u.1, row_after_transfer u.0 row) ∷ [])

  -- the checks of a variable
  abbrev lent_one : Mention → Breach
  lent_one v = breach_at v.place (Lent v.variable)

  abbrev lacking : Mention → Breach
  lacking v = breach_at v.place (NotOwned v.variable)

  abbrev having : Mention → Breach
  having v = breach_at v.place (Overwritten v.variable)

  use_comes : (v : Mention) (next : ℕ) → Comes (graphs.Act (does.Use v) next) (Use v.variable, next)
  use_comes v next fit allowed = pass (not (is_owned row v.variable.0)) (lacking v) [] ((next, row) ∷ []) (ap not allowed)

  -- nothing is given for fields
  no_fields : (types : List HeapType) → all_fields m row types [] ≡ []
  no_fields types = ap (flat_map (λ x. field_checks m row x.0 x.1)) (zip_nil types [] refl)

  new_comes : (v : Mention) (next : ℕ) → Comes (graphs.New v [] next) (New v.variable, next)
  new_comes v next fit allowed =
      let after = (next, set row v.variable.0 Block) ∷ [] in
      let filled = refuse_if (is_owned row v.variable.0) (having v) ∷ [] in
      ap (λ checks. after_checks (checks ++ (refuse_if (is_lent m v.variable.0) (lent_one v) ∷ filled)) after) (no_fields (fields_of p m v.variable.0))
      ∙ pass (is_lent m v.variable.0) (lent_one v) filled after (of_not (is_lent m v.variable.0) fit)
      ∙ pass (is_owned row v.variable.0) (having v) [] after (of_not (is_owned row v.variable.0) allowed)

  delete_comes : (v : Mention) (next : ℕ) → Comes (graphs.Act (does.Delete v) next) (Delete v.variable, next)
  delete_comes v next fit allowed =
      let after = (next, set row v.variable.0 Nothing) ∷ [] in
      let lacks = refuse_if (not (is_owned row v.variable.0)) (lacking v) ∷ [] in
      pass (is_lent m v.variable.0) (lent_one v) lacks after (of_not (is_lent m v.variable.0) fit)
      ∙ pass (not (is_owned row v.variable.0)) (lacking v) [] after (ap not allowed)

  move_comes : (v w : Mention) (next : ℕ) → Comes (graphs.Act (does.Move v w) next) (Move v.variable w.variable, next)
  move_comes v w next fit allowed =
      let same = v.variable.0 == w.variable.0 in
      let lends = of_both (not same) (not (is_lent m w.variable.0) && not (is_lent m v.variable.0)) fit in
      let lent_either = of_both (not (is_lent m w.variable.0)) (not (is_lent m v.variable.0)) lends.1 in
      let owns = of_both (is_owned row w.variable.0) (not (is_owned row v.variable.0)) allowed in
      let after = (next, set (set row v.variable.0 (leaf_at row w.variable.0)) w.variable.0 Nothing) ∷ [] in
      let last = refuse_if (is_owned row v.variable.0) (having v) ∷ [] in
      let fourth = refuse_if (is_lent m v.variable.0) (lent_one v) ∷ last in
      let third = refuse_if (not (is_owned row w.variable.0)) (lacking w) ∷ fourth in
      let second = refuse_if (is_lent m w.variable.0) (lent_one w) ∷ third in
      pass same (breach_at w.place (Twice w.variable)) second after (of_not same lends.0)
      ∙ pass (is_lent m w.variable.0) (lent_one w) third after (of_not (is_lent m w.variable.0) lent_either.0)
      ∙ pass (not (is_owned row w.variable.0)) (lacking w) fourth after (ap not owns.0)
      ∙ pass (is_lent m v.variable.0) (lent_one v) last after (of_not (is_lent m v.variable.0) lent_either.1)
      ∙ pass (is_owned row v.variable.0) (having v) [] after (of_not (is_owned row v.variable.0) owns.1)

  comes : (i : Instruction) (u : Transfer × ℕ) → Path (Option (Transfer × ℕ)) (transfer_in i) (Some u) → Comes i u
  comes (graphs.Act (does.Use at) next) u e = subst (Comes (graphs.Act (does.Use at) next)) (one_some _ u e) (use_comes at next)
  comes (graphs.New at [] next) u e = subst (Comes (graphs.New at [] next)) (one_some _ u e) (new_comes at next)
  comes (graphs.New at (a ∷ arguments) next) u e = absurd (none_some u e)
  comes (graphs.Act (does.Move v w) next) u e = subst (Comes (graphs.Act (does.Move v w) next)) (one_some _ u e) (move_comes v w next)
  comes (graphs.Act (does.Delete at) next) u e = subst (Comes (graphs.Act (does.Delete at) next)) (one_some _ u e) (delete_comes at next)
  comes (graphs.Act (does.Exchange exchange) next) u e = absurd (none_some u e)
  comes (graphs.Act (does.NewChannel channel) next) u e = absurd (none_some u e)
  comes (graphs.Send place endpoint message payloads next) u e = absurd (none_some u e)
  comes (graphs.Switch place cases) u e = absurd (none_some u e)
  comes (graphs.Branch place branches) u e = absurd (none_some u e)
  comes (graphs.Forget forget next) u e = absurd (none_some u e)
  comes (graphs.Call place method arguments target next) u e = absurd (none_some u e)
  comes (graphs.Start place method arguments next) u e = absurd (none_some u e)
  comes (graphs.Return place value scope) u e = absurd (none_some u e)
  comes (graphs.Stop place) u e = absurd (none_some u e)

  fitting_comes : (i : Instruction) (o : Option (Transfer × ℕ)) (t : Transfer × ℕ) → Path (Option (Transfer × ℕ)) (transfer_in i) o
      → Path (Option (Transfer × ℕ)) (Some t) (fitting_transfer m o) → allows t.0 row ≡ true
      → instruction_outcome p m i row ≡ Goes ((t.1, row_after_transfer t.0 row) ∷ [])
  fitting_comes i None t is e allowed = absurd (none_some t (sym e))
  fitting_comes i (Some u) t is e allowed =
      let both = one_of (fits m u.0) t u e in
      subst (λ (w : Transfer × ℕ). allows w.0 row ≡ true → instruction_outcome p m i row ≡ Goes ((w.1, row_after_transfer w.0 row) ∷ [])) (sym both.1)
      (comes i u is both.0) allowed

  transfer_goes : (i : Option Instruction) (t : Transfer × ℕ) → Path (Option (Transfer × ℕ)) (Some t) (transfer_at m i)
      → allows t.0 row ≡ true → point_outcome p m row i ≡ Goes ((t.1, row_after_transfer t.0 row) ∷ [])
  transfer_goes None t e allowed = absurd (none_some t (sym e))
  transfer_goes (Some i) t e allowed = fitting_comes i (transfer_in i) t refl e allowed

pub transfer_on : (p : ProgramModel) (n point : ℕ) (found : Option (Transfer × ℕ))
    → IsSomeAnd (slice_get p.methods n) (λ m. found ≡ transfer_at m (slice_get (graph_of m).instructions point))
    → IfSome found (λ t. (row : List Leaf) → allows t.0 row ≡ true → step_at p n (point, row) ≡ Goes ((t.1, row_after_transfer t.0 row) ∷ []))
transfer_on p n point None h = tt
transfer_on p n point (Some t) h = λ row allowed. outcome_is p n (point, row) ∙ go (slice_get p.methods n) row h allowed
  where
    go : (o : Option MethodModel) (row : List Leaf)
        → IsSomeAnd o (λ m. Path (Option (Transfer × ℕ)) (Some t) (transfer_at m (slice_get (graph_of m).instructions point)))
        → allows t.0 row ≡ true → method_outcome p o (point, row) ≡ Goes ((t.1, row_after_transfer t.0 row) ∷ [])
    go None row h allowed = absurd h
    go (Some m) row h allowed = transfer_goes p m row (slice_get (graph_of m).instructions point) t h allowed

pub transfer_is : (o : Option MethodModel) (m : Method) (g : Graph) (point : ℕ) (i : Option Instr) (found : Option (Transfer × ℕ))
    → o ≡ Some (method_model m) → IsSomeAnd o (λ s. graph_model g ≡ graph_of s) → slice_get g.instructions.items point ≡ i
    → found ≡ transfer_at (method_model m) (option_map instruction_model i)
    → IsSomeAnd o (λ s. found ≡ transfer_at s (slice_get (graph_of s).instructions point))
transfer_is None m g point i found its graph is e = absurd graph
transfer_is (Some s) m g point i found its graph is e =
    e ∙ sym (λ j. transfer_at (one_method s (method_model m) its j) (at_point s g point i graph is j))
