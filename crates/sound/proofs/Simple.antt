-- What is laid for simple statements, calls, starts and sends fits: all of it has one scope.
use Rattle.std.proofs.Common.{◌≡◌, ℕ, ◌+◌, ◌<◌, true, false, List, [], ◌∷◌, Some, None, length, map, sym, ap, ◌∙◌, subst, inl, inr, ⊎_elim}
use Rattle.std.specs.Prelude.{Option, slice_get, IsSomeAnd, IfSome}
use Rattle.std.proofs.lemmas.Option.{slice_get_within}
use Rattle.program.specs.Methods.{MethodModel}
use Rattle.program.specs.Programs.{ProgramModel}
use Rattle.program.specs.Scopes.{GoesBack}
use Rattle.program.specs.Statements.{CallModel, NewModel, SendModel}
use Rattle.program.specs.WellFormed.{Holds, HoldAll, IsAction, IsCallOf, IsEffect, IsIn, IsType, IsMessageOf, IsNew, IsSend}
use Rattle.program.specs.WellFormed.{IsStartOf, IsTaken, field_types}
use Rattle.program.specs.WellFormed.{IsWellFormed}
use Rattle.program.specs.WellFormed.{Setting, are_ends, is_end, parameters}
use Rattle.program.specs.declared.types.HeapType.{HeapType}
use Rattle.program.specs.declared.number.VarId.{VarId}
use Rattle.program.specs.declared.statement.Action.TheVariants as does
use Rattle.program.specs.declared.statement.Action.{Action}
use Rattle.program.specs.declared.statement.Effect.{Effect}
use Rattle.program.specs.declared.statement.Effect.TheVariants as effects
use Rattle.program.specs.declared.statement.Forget.{Forget}
use Rattle.program.specs.declared.statement.Mention.{Mention}
use Rattle.flow.specs.Graphs as graph
use Rattle.flow.specs.Lowering.{Lays, both, lay_call, lay_effect, forgets, made_new, one, reads, lay_send, lay_start}
use Rattle.rules.specs.Endpoints.{payload_types}
use Rattle.sound.specs.GraphFit.{KeepsScope, ScopeAt}
use Rattle.sound.proofs.Binding.{leads_in}
use Rattle.sound.proofs.events.Branching.{keeps_within}
use Rattle.sound.proofs.Laying.{LaysFit, OneScope, Within, both_fits, gone_fits, nothing_fits, one_fits}
use Rattle.sound.proofs.Lists.{some_more, some_there}
use Rattle.sound.proofs.Operands.{all_claim, contract_at, end_variable, found_types, given_fit, is_taken, of_type, payloads_of_types}
use Rattle.sound.proofs.Scopes.{Grown, in_scope, own_gone, scope_parted}
use Rattle.rules.proofs.EndLemmas.{each_at}

module _ (p : ProgramModel) (m : MethodModel) (well : IsWellFormed p m) where
  -- the setting of a statement in which these variables are the last in scope
  abbrev pub around : (exit again here : Option VarId) → Setting
  around exit again here = record {
    program = p;
    variables = m.variables;
    result = m.result;
    scope = here;
    at_break = exit;
    at_continue = again;
  }

  abbrev pub here_fits : Lays → Option VarId → Option VarId → (ScopeAt → Type 0) → ℕ → ℕ → Type 0
  here_fits a before after Outside from next = LaysFit p m a (in_scope m before) (in_scope m after) Outside from next

  -- what a `break` and a `continue` require of the points to which they lead
  abbrev pub Out : (exit again : Option VarId) (x a : ℕ) → ScopeAt → Type 0
  Out exit again x a scope = Within (in_scope m exit) (scope x) × Within (in_scope m again) (scope a)

  -- from a point of this scope to one where all of it is in scope
  pub keeps_here : (scope : ScopeAt) (from to : ℕ) (here : Option VarId) → scope from ≡ in_scope m here → Within (in_scope m here) (scope to)
      → KeepsScope scope from to []
  keeps_here scope from to here is w = keeps_within p m scope from to (in_scope m here) is w

  -- a variable of the method that is in a setting is in its scope
  inside : (exit again here : Option VarId) (v : VarId) → v.0 < length m.variables → IsIn (around exit again here) v
      → in_scope m here v.0 ≡ true
  inside exit again here v short leads = leads_in m well.nested here v short leads

  pub reads_fit : (ms : List Mention) (here : Option VarId) (Outside : ScopeAt → Type 0) (from next : ℕ)
      → here_fits (reads ms) here here Outside from next
  reads_fit [] here Outside from next = nothing_fits p m (in_scope m here) (in_scope m here) Outside from next (λ v e. e)
  reads_fit (u ∷ ms) here Outside from next =
      let rest = reads ms from next in
      both_fits p m (one (graph.Act (does.Use u))) (reads ms) (in_scope m here) (in_scope m here) (in_scope m here) Outside from next
      (reads_fit ms here Outside from next)
      (one_fits p m (graph.Act (does.Use u)) (in_scope m here) (in_scope m here) Outside (from + length rest.instructions) rest.entry
      (λ scope is w out. keeps_here scope (from + length rest.instructions) rest.entry here is w))

  pub forgets_fit : (f : Option Forget) (here to : Option VarId) (Outside : ScopeAt → Type 0) (from next : ℕ) → GoesBack here to f
      → Grown m to here → here_fits (forgets f) here to Outside from next
  forgets_fit None here to Outside from next back grown =
      nothing_fits p m (in_scope m here) (in_scope m to) Outside from next
      (λ v e. subst (λ (s : Option VarId). in_scope m s v ≡ true) back e)
  forgets_fit (Some f) here to Outside from next back grown =
      let from_last : here ≡ Some f.last = back.1.0 in
      let to_outer : to ≡ f.outer = back.1.1 in
      let own = subst (λ (s : Option VarId). Grown m s (Some f.last)) to_outer
      (subst (λ (s : Option VarId). Grown m to s) from_last grown) in
      one_fits p m (graph.Forget f) (in_scope m here) (in_scope m to) Outside from next
      (λ scope is w out. record {
        keeps = record {
          each = λ v e.
              let inside : in_scope m here v ≡ true = sym (ap (λ (t : OneScope). t v) is) ∙ e in
              ⊎_elim (λ k. inl (w v (subst (λ (s : Option VarId). in_scope m s v ≡ true) (sym to_outer) k))) (λ k. inr k)
              (scope_parted m f.outer (Some f.last) v (subst (λ (s : Option VarId). in_scope m s v ≡ true) from_last inside));
        };
        own = own_gone m f.outer (Some f.last) own;
      })

  action_fit : (action : Action) (exit again here : Option VarId) (x a from next : ℕ) → IsAction (around exit again here) action
      → here_fits (one (graph.Act action)) here here (Out exit again x a) from next
  action_fit (does.Exchange e) exit again here x a from next wf =
      let s = around exit again here in
      let v = some_there (slice_get m.variables e.holder.variable.0)
      (λ v. IsSomeAnd (slice_get (field_types p.structs v.ty) e.field) (λ k. Holds s k e.given.variable)) wf.1 in
      let k = some_there (slice_get (field_types p.structs v.0.ty) e.field) (λ k. Holds s k e.given.variable) v.2 in
      let g = of_type s k.0 e.given.variable k.2 in
      let in_here = inside exit again here e.given.variable (slice_get_within m.variables e.given.variable.0 g.variable g.there) wf.0 in
      one_fits p m (graph.Act (does.Exchange e)) (in_scope m here) (in_scope m here) (Out exit again x a) from next
      (λ scope is w out. record {
        holder = v.0;
        holder_there = v.1;
        ty = k.0;
        field_there = k.1;
        given = g;
        in_scope = w e.given.variable.0 in_here;
        keeps = keeps_here scope from next here is w;
      })
  action_fit (does.Move target source) exit again here x a from next wf =
      let s = around exit again here in
      let t = some_there (slice_get m.variables target.variable.0) (λ v. Holds s v.ty source.variable) wf.1 in
      let k = of_type s t.0.ty source.variable t.2 in
      let in_here = inside exit again here target.variable (slice_get_within m.variables target.variable.0 t.0 t.1) wf.0 in
      one_fits p m (graph.Act (does.Move target source)) (in_scope m here) (in_scope m here) (Out exit again x a) from next
      (λ scope is w out. record {
        variable = k.variable;
        there = k.there;
        ty = record { variable = t.0; there = t.1; ty = sym k.ty };
        in_scope = w target.variable.0 in_here;
        keeps = keeps_here scope from next here is w;
      })
  action_fit (does.NewChannel c) exit again here x a from next wf =
      let f =
      some_there (slice_get m.variables c.first.variable.0)
      (λ v. IsSomeAnd (slice_get m.variables c.second.variable.0) (λ w. are_ends c.contract.0 v.ty w.ty ≡ true)) wf.1
      in
      let g = some_there (slice_get m.variables c.second.variable.0) (λ w. are_ends c.contract.0 f.0.ty w.ty ≡ true) f.2 in
      let h =
      contract_at p.contracts c.contract.0 f.0.ty g.0.ty g.2
      (each_at (λ v. IsType p.contracts v.ty) m.variables c.first.variable.0 f.0 well.types f.1)
      in
      let first_in = inside exit again here c.first.variable (slice_get_within m.variables c.first.variable.0 f.0 f.1) wf.0.0 in
      let second_in = inside exit again here c.second.variable (slice_get_within m.variables c.second.variable.0 g.0 g.1) wf.0.1 in
      one_fits p m (graph.Act (does.NewChannel c)) (in_scope m here) (in_scope m here) (Out exit again x a) from next
      (λ scope is w out. record {
        contract = h.0;
        contract_there = h.1;
        first = f.0;
        second = g.0;
        first_there = f.1;
        second_there = g.1;
        ends = g.2;
        first_scope = w c.first.variable.0 first_in;
        second_scope = w c.second.variable.0 second_in;
        keeps = keeps_here scope from next here is w;
      })
  action_fit action exit again here x a from next wf =
      one_fits p m (graph.Act action) (in_scope m here) (in_scope m here) (Out exit again x a) from next
      (λ scope is w out. keeps_here scope from next here is w)

  pub effect_fit : (does : Effect) (exit again here : Option VarId) (x a from next : ℕ) → IsEffect (around exit again here) does
      → Grown m exit here → Grown m again here → here_fits (lay_effect does x a) here here (Out exit again x a) from next
  effect_fit effects.Nothing exit again here x a from next wf ge ga =
      nothing_fits p m (in_scope m here) (in_scope m here) (Out exit again x a) from next (λ v e. e)
  effect_fit (effects.Act action) exit again here x a from next wf ge ga = action_fit action exit again here x a from next wf
  effect_fit (effects.Break f) exit again here x a from next wf ge ga =
      gone_fits p m x (forgets f) (in_scope m here) (in_scope m exit) (in_scope m here) (Out exit again x a) from next
      (λ scope out. out.0) (forgets_fit f here exit (Out exit again x a) from x wf ge)
  effect_fit (effects.Continue f) exit again here x a from next wf ge ga =
      gone_fits p m a (forgets f) (in_scope m here) (in_scope m again) (in_scope m here) (Out exit again x a) from next
      (λ scope out. out.1) (forgets_fit f here again (Out exit again x a) from a wf ga)
  effect_fit (effects.Return place value last) exit again here x a from next wf ge ga =
      one_fits p m (λ next. graph.Return place value last) (in_scope m here) (in_scope m here) (Out exit again x a) from next
      (λ scope is w out. record {
        given = is_taken (around exit again here) m.result value wf.0;
        covers = λ v e. subst (λ (s : Option VarId). in_scope m s v ≡ true) (sym wf.1) (sym (ap (λ (t : OneScope). t v) is) ∙ e);
      })

  -- two pieces in one scope
  pub both_here : (a b : Lays) (here : Option VarId) (Outside : ScopeAt → Type 0)
      → ((from next : ℕ) → here_fits a here here Outside from next) → ((from next : ℕ) → here_fits b here here Outside from next)
      → (from next : ℕ) → here_fits (both a b) here here Outside from next
  both_here a b here Outside f g from next =
      both_fits p m a b (in_scope m here) (in_scope m here) (in_scope m here) Outside from next (g from next)
      (f (from + length (b from next).instructions) (b from next).entry)

  pub new_fit : (n : NewModel) (exit again here : Option VarId) (Outside : ScopeAt → Type 0) (from next : ℕ)
      → IsNew (around exit again here) n → here_fits (made_new n) here here Outside from next
  new_fit n exit again here Outside from next wf =
      let s = around exit again here in
      let v = some_there (slice_get m.variables n.target.variable.0) (λ x. (is_end x.ty ≡ false)
      × HoldAll s (field_types p.structs x.ty) (map (λ y. y.variable) n.arguments)) wf.taken in
      let in_here = inside exit again here n.target.variable (slice_get_within m.variables n.target.variable.0 v.0 v.1) wf.in_scope in
      both_here (reads n.reads) (one (graph.New n.target n.arguments)) here Outside (reads_fit n.reads here Outside)
      (λ at to. one_fits p m (graph.New n.target n.arguments) (in_scope m here) (in_scope m here) Outside at to
      (λ scope is w out. record {
        variable = v.0;
        there = v.1;
        block = v.2.0;
        types = payloads_of_types s (field_types p.structs v.0.ty) n.arguments v.2.1;
        in_scope = w n.target.variable.0 in_here;
        keeps = keeps_here scope at to here is w;
      }))
      from next

  -- the target of a call is in scope
  target_in : (exit again here : Option VarId) (k : Option HeapType) (target : Option Mention) → IsTaken (around exit again here) k target
      → IfSome target (λ v. IsIn (around exit again here) v.variable) → IfSome target (λ v. in_scope m here v.variable.0 ≡ true)
  target_in exit again here k None taken h = tt
  target_in exit again here None (Some v) taken h = absurd taken
  target_in exit again here (Some k) (Some v) taken h =
      let t = of_type (around exit again here) k v.variable taken in
      inside exit again here v.variable (slice_get_within m.variables v.variable.0 t.variable t.there) h

  pub called_fit : (c : CallModel) (exit again here : Option VarId) (Outside : ScopeAt → Type 0) (from next : ℕ)
      → IsSomeAnd (slice_get p.methods c.method.0) (IsCallOf (around exit again here) c)
      → here_fits (lay_call c) here here Outside from next
  called_fit c exit again here Outside from next wf =
      let s = around exit again here in
      let f = some_there (slice_get p.methods c.method.0) (IsCallOf s c) wf in
      let target = target_in exit again here f.0.result c.target f.2.target.0 f.2.target.1 in
      both_here (reads c.reads) (both (one (graph.Call c.place c.method c.arguments c.target)) (reads c.behind)) here Outside
      (reads_fit c.reads here Outside)
      (both_here (one (graph.Call c.place c.method c.arguments c.target)) (reads c.behind) here Outside
      (λ at to. one_fits p m (graph.Call c.place c.method c.arguments c.target) (in_scope m here) (in_scope m here) Outside at to
      (λ scope is w out. record {
        callee = f.0;
        there = f.1;
        arguments_fit = given_fit s (parameters f.0) c.arguments f.2.arguments;
        taken = is_taken s f.0.result c.target f.2.target.0;
        in_scope = some_more c.target (λ v. in_scope m here v.variable.0 ≡ true) (λ v. scope to v.variable.0 ≡ true)
            (λ v is k. w v.variable.0 k) target;
        keeps = keeps_here scope at to here is w;
      }))
      (reads_fit c.behind here Outside))
      from next

  pub started_fit : (c : CallModel) (exit again here : Option VarId) (Outside : ScopeAt → Type 0) (from next : ℕ)
      → ((n : ℕ) (callee : MethodModel) → slice_get p.methods n ≡ Some callee → callee.gives ≡ false → callee.result ≡ None)
      → IsSomeAnd (slice_get p.methods c.method.0) (IsStartOf (around exit again here) c)
      → here_fits (lay_start c) here here Outside from next
  started_fit c exit again here Outside from next void_at wf =
      let s = around exit again here in
      let f = some_there (slice_get p.methods c.method.0) (IsStartOf s c) wf in
      both_here (reads c.reads) (one (graph.Start c.place c.method c.arguments)) here Outside (reads_fit c.reads here Outside)
      (λ at to. one_fits p m (graph.Start c.place c.method c.arguments) (in_scope m here) (in_scope m here) Outside at to
      (λ scope is w out. record {
        callee = f.0;
        there = f.1;
        arguments_fit = given_fit s (parameters f.0) c.arguments f.2.call.arguments;
        void = void_at c.method.0 f.0 f.1 f.2.void;
        claims = all_claim s (parameters f.0) c.arguments f.2.call.arguments f.2.claimed;
        keeps = keeps_here scope at to here is w;
      }))
      from next

  pub sent_fit : (x : SendModel) (exit again here : Option VarId) (Outside : ScopeAt → Type 0) (from next : ℕ)
      → IsSend (around exit again here) x → here_fits (lay_send x) here here Outside from next
  sent_fit x exit again here Outside from next wf =
      let s = around exit again here in
      both_here (reads x.reads) (one (graph.Send x.place x.endpoint x.message x.payloads)) here Outside (reads_fit x.reads here Outside)
      (λ at to. one_fits p m (graph.Send x.place x.endpoint x.message x.payloads) (in_scope m here) (in_scope m here) Outside at to
      (λ scope is w out. record {
        endpoint = end_variable s (λ c. IsMessageOf c x.message) x.endpoint wf.endpoint;
        types = payloads_of_types s (payload_types p x.message.0) x.payloads
            (found_types (slice_get p.messages x.message.0) (λ types. HoldAll s types (map (λ y. y.variable) x.payloads)) wf.payloads);
        keeps = keeps_here scope at to here is w;
      }))
      from next
