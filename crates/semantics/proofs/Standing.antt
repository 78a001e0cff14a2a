-- What is laid for statements is at what they have to do.
use Rattle.std.proofs.Common.{◌≡◌, ℕ, suc, ◌+◌, Bool, true, false, List, [], ◌∷◌, ◌++◌, length, refl, sym, subst, arith, Some, None}
use Rattle.std.specs.Prelude.{Option, slice_get, if◌then◌else◌}
use Rattle.source.specs.declared.place.Place.{Place}
use Rattle.program.specs.Methods.{MethodModel}
use Rattle.program.specs.Statements.{BlockModel, Braces, CasesModel, Case, NoCase, MoreCases, OthersModel, NoOther, Else, ElseIf}
use Rattle.program.specs.Statements.{StatementModel, Simple, New, Call, Start, Send, Block, If, While, Switch}
use Rattle.program.specs.Statements.{StatementsModel, NoStatement, MoreStatements, TestModel, Test}
use Rattle.program.specs.declared.statement.Action.TheVariants.{Use}
use Rattle.program.specs.declared.statement.Effect.{Effect}
use Rattle.program.specs.declared.statement.Effect.TheVariants as effects
use Rattle.program.specs.declared.statement.Forget as made
use Rattle.program.specs.declared.statement.Mention.{Mention}
use Rattle.program.specs.declared.statement.Ways.{Ways}
use Rattle.flow.specs.Graphs as graph
use Rattle.flow.specs.Graphs.{Instruction}
use Rattle.flow.specs.Lowering.{Lays, nothing, one, both, go_to, parts, reads, forgets, lay_effect, statement, statements}
use Rattle.flow.specs.Lowering.{block, condition, others, cases, ending, graph_of, branches}
use Rattle.semantics.specs.Laid.{Stand, ReadsTo, IsAt, AreAt}
use Rattle.semantics.specs.Rests as rests
use Rattle.semantics.specs.Rests.{Rest, Arms}

module _ (g : ℕ → Option Instruction) where
  pub stand_left : (from : ℕ) (is js : List Instruction) → Stand g from (is ++ js) → Stand g from is
  stand_left from [] js h = tt
  stand_left from (i ∷ is) js h = (h.0, stand_left (suc from) is js h.1)

  pub stand_right : (from to : ℕ) (is js : List Instruction) → from + length is ≡ to → Stand g from (is ++ js) → Stand g to js
  stand_right from to [] js e h = subst (λ (n : ℕ). Stand g n js) (let k : from ≡ to = omega arith in k) h
  stand_right from to (i ∷ is) js e h = stand_right (suc from) to is js (omega arith) h.1

  -- wherever a piece stands, if the method still has the rest `after` to do behind it, it has the rest `before` to do at its entry
  abbrev pub Means : Lays → (before after : Rest) → Type 0
  Means a before after =
      (from next : ℕ) → Stand g from (a from next).instructions → IsAt g next after → IsAt g (a from next).entry before

  nothing_means : (k : Rest) → Means nothing k k
  nothing_means k from next s h = h

  one_means : (i : ℕ → Instruction) (before after : Rest)
      → ((point next : ℕ) → g point ≡ Some (i next) → IsAt g next after → IsAt g point before) → Means (one i) before after
  one_means i before after f from next s h = f from next s.0 h

  both_means : (a b : Lays) (before mid after : Rest) → Means a before mid → Means b mid after → Means (both a b) before after
  both_means a b before mid after f k from next s h =
      let behind = b from next in
      let to = from + length behind.instructions in
      let more = a to behind.entry in
      f to behind.entry (stand_right from to behind.instructions more.instructions refl s)
      (k from next (stand_left from behind.instructions more.instructions s) h)

  gone_means : (to : ℕ) (a : Lays) (before there after : Rest) → IsAt g to there → Means a before there → Means (go_to to a) before after
  gone_means to a before there after at f from next s h = f from to s at

  -- ---- reads
  pub reads_lead : (ms : List Mention) (from next : ℕ) → Stand g from (reads ms from next).instructions
      → ReadsTo g (reads ms from next).entry ms next
  reads_lead [] from next s = refl
  reads_lead (m ∷ ms) from next s =
      let behind = reads ms from next in
      let to = from + length behind.instructions in
      let last = graph.Act (Use m) behind.entry in (
        behind.entry,
        (
          (stand_right from to behind.instructions (last ∷ []) refl s).0,
          reads_lead ms from next (stand_left from behind.instructions (last ∷ []) s),
        ),
      )

  pub reads_at : (ms : List Mention) (from to : ℕ) (k : Rest) → ReadsTo g from ms to → IsAt g to k → IsAt g from (rests.reads ms k)
  reads_at [] from to k e h = subst (λ (n : ℕ). IsAt g n k) (sym e) h
  reads_at (m ∷ ms) from to k (n, (is, more)) h = (n, (is, reads_at ms n to k more h))

  reads_mean : (ms : List Mention) (k : Rest) → Means (reads ms) (rests.reads ms k) k
  reads_mean ms k from next s h = reads_at ms (reads ms from next).entry next k (reads_lead ms from next s) h

  forgets_mean : (f : Option made.Forget) (k : Rest) → Means (forgets f) (rests.forgets f k) k
  forgets_mean None k = nothing_means k
  forgets_mean (Some f) k = one_means (graph.Forget f) (rests.Forget f k) k (λ point next is h. (next, (is, h)))

  effect_means : (e : Effect) (x a : ℕ) (exit again after : Rest) → IsAt g x exit → IsAt g a again
      → Means (lay_effect e x a) (rests.effect e exit again after) after
  effect_means effects.Nothing x a exit again after hx ha = nothing_means after
  effect_means (effects.Act action) x a exit again after hx ha =
      one_means (graph.Act action) (rests.Act action after) after (λ point next is h. (next, (is, h)))
  effect_means (effects.Break f) x a exit again after hx ha =
      gone_means x (forgets f) (rests.forgets f exit) exit after hx (forgets_mean f exit)
  effect_means (effects.Continue f) x a exit again after hx ha =
      gone_means a (forgets f) (rests.forgets f again) again after ha (forgets_mean f again)
  effect_means (effects.Return place value scope) x a exit again after hx ha =
      one_means (λ next. graph.Return place value scope) (rests.Return place value scope) after (λ point next is h. is)

  -- ---- conditions
  parts_mean : (place : Place) (w : Ways) (body otherwise : Lays) (inside past after : Rest) → Means body inside after
      → Means otherwise past after → Means (parts place w body otherwise) (rests.If place w inside past) after
  parts_mean place w body otherwise inside past after b o from next s h =
      let other = otherwise from next in
      let mid = from + length other.instructions in
      let first = body mid next in
      let at = mid + length first.instructions in
      let last = graph.Branch place (branches w first.entry other.entry) in
      let s2 = stand_right from mid other.instructions (first.instructions ++ last ∷ []) refl s in (
        first.entry,
        (
          other.entry,
          (
            (stand_right mid at first.instructions (last ∷ []) refl s2).0,
            (
              b mid next (stand_left mid first.instructions (last ∷ []) s2) h,
              o from next (stand_left from other.instructions (first.instructions ++ last ∷ []) s) h,
            ),
          ),
        ),
      )

  turns_mean : (t : TestModel) (x a : ℕ) (after : Rest) → Means (statement (While t) x a) (rests.loop t after) after
  turns_mean (Test place ms w body) x a after from next s h =
      let head = reads ms (from + 1) from in
      let at = from + 1 + length head.instructions in
      let inside = block body next head.entry at head.entry in
      let next_is : suc from ≡ from + 1 = omega arith in
      let s1 : Stand g (from + 1) (head.instructions ++ inside.instructions) =
      subst (λ (n : ℕ). Stand g n (head.instructions ++ inside.instructions)) next_is s.1
      in
      let lead = reads_lead ms (from + 1) from (stand_left (from + 1) head.instructions inside.instructions s1) in
      let there : IsAt g from (rests.While (Test place ms w body) after) =
      (head.entry, (at, (next, (lead, (s.0, (stand_right (from + 1) at head.instructions inside.instructions refl s1, h))))))
      in
      reads_at ms head.entry from (rests.While (Test place ms w body) after) lead there

  -- ---- the tree
  mutual
    pub statement_means : (s : StatementModel) (x a : ℕ) (exit again after : Rest) → IsAt g x exit → IsAt g a again
        → Means (statement s x a) (rests.statement s exit again after) after
    statement_means (Simple ms does) x a exit again after hx ha =
        let e = rests.effect does exit again after in
        both_means (reads ms) (lay_effect does x a) (rests.reads ms e) e after (reads_mean ms e)
        (effect_means does x a exit again after hx ha)
    statement_means (New n) x a exit again after hx ha =
        let k = rests.New n.target n.arguments after in
        both_means (reads n.reads) (one (graph.New n.target n.arguments)) (rests.reads n.reads k) k after (reads_mean n.reads k)
        (one_means (graph.New n.target n.arguments) k after (λ point next is h. (next, (is, h))))
    statement_means (Call c) x a exit again after hx ha =
        let behind = rests.reads c.behind after in
        let k = rests.Call c.place c.method c.arguments c.target behind in
        both_means (reads c.reads) (both (one (graph.Call c.place c.method c.arguments c.target)) (reads c.behind)) (rests.reads c.reads k) k
        after (reads_mean c.reads k)
        (both_means (one (graph.Call c.place c.method c.arguments c.target)) (reads c.behind) k behind after
        (one_means (graph.Call c.place c.method c.arguments c.target) k behind (λ point next is h. (next, (is, h))))
        (reads_mean c.behind after))
    statement_means (Start c) x a exit again after hx ha =
        let k = rests.Start c.place c.method c.arguments after in
        both_means (reads c.reads) (one (graph.Start c.place c.method c.arguments)) (rests.reads c.reads k) k after (reads_mean c.reads k)
        (one_means (graph.Start c.place c.method c.arguments) k after (λ point next is h. (next, (is, h))))
    statement_means (Send s) x a exit again after hx ha =
        let k = rests.Send s.place s.endpoint s.message s.payloads after in
        both_means (reads s.reads) (one (graph.Send s.place s.endpoint s.message s.payloads)) (rests.reads s.reads k) k after
        (reads_mean s.reads k)
        (one_means (graph.Send s.place s.endpoint s.message s.payloads) k after (λ point next is h. (next, (is, h))))
    statement_means (Block b) x a exit again after hx ha = block_means b x a exit again after hx ha
    statement_means (If t rest) x a exit again after hx ha =
        condition_means t (others rest x a) (rests.others rest exit again after) x a exit again after hx ha
        (others_mean rest x a exit again after hx ha)
    statement_means (While t) x a exit again after hx ha = turns_mean t x a after
    statement_means (Switch place cs) x a exit again after hx ha = λ from next s h.
        let all = cases cs next a from next in
        let at = from + length all.instructions in
        let last = graph.Switch place all.entrances in (
          all.entrances,
          (
            (stand_right from at all.instructions (last ∷ []) refl s).0,
            cases_mean cs next a after again after h ha from next (stand_left from all.instructions (last ∷ []) s) h,
          ),
        )

    pub statements_mean : (ss : StatementsModel) (x a : ℕ) (exit again after : Rest) → IsAt g x exit → IsAt g a again
        → Means (statements ss x a) (rests.statements ss exit again after) after
    statements_mean NoStatement x a exit again after hx ha = nothing_means after
    statements_mean (MoreStatements s ss) x a exit again after hx ha =
        let mid = rests.statements ss exit again after in
        both_means (statement s x a) (statements ss x a) (rests.statement s exit again mid) mid after
        (statement_means s x a exit again mid hx ha) (statements_mean ss x a exit again after hx ha)

    pub block_means : (b : BlockModel) (x a : ℕ) (exit again after : Rest) → IsAt g x exit → IsAt g a again
        → Means (block b x a) (rests.block b exit again after) after
    block_means (Braces ss f) x a exit again after hx ha =
        let mid = rests.forgets f after in
        both_means (statements ss x a) (forgets f) (rests.statements ss exit again mid) mid after
        (statements_mean ss x a exit again mid hx ha) (forgets_mean f after)

    condition_means : (t : TestModel) (otherwise : Lays) (past : Rest) (x a : ℕ) (exit again after : Rest) → IsAt g x exit
        → IsAt g a again → Means otherwise past after → Means (condition t otherwise x a) (rests.condition t past exit again after) after
    condition_means (Test place ms w body) otherwise past x a exit again after hx ha o =
        let k = rests.If place w (rests.block body exit again after) past in
        both_means (reads ms) (parts place w (block body x a) otherwise) (rests.reads ms k) k after (reads_mean ms k)
        (parts_mean place w (block body x a) otherwise (rests.block body exit again after) past after
        (block_means body x a exit again after hx ha) o)

    others_mean : (o : OthersModel) (x a : ℕ) (exit again after : Rest) → IsAt g x exit → IsAt g a again
        → Means (others o x a) (rests.others o exit again after) after
    others_mean NoOther x a exit again after hx ha = nothing_means after
    others_mean (Else b) x a exit again after hx ha = block_means b x a exit again after hx ha
    others_mean (ElseIf t rest) x a exit again after hx ha =
        condition_means t (others rest x a) (rests.others rest exit again after) x a exit again after hx ha
        (others_mean rest x a exit again after hx ha)

    cases_mean : (cs : CasesModel) (x a : ℕ) (exit again after : Rest) → IsAt g x exit → IsAt g a again → (from next : ℕ)
        → Stand g from (cases cs x a from next).instructions → IsAt g next after
        → AreAt g (cases cs x a from next).entrances (rests.arms cs exit again after)
    cases_mean NoCase x a exit again after hx ha from next s h = tt
    cases_mean (MoreCases (Case endpoint awaited targets body) cs) x a exit again after hx ha from next s h =
        let rest = cases cs x a from next in
        let mid = from + length rest.instructions in
        let first = block body x a mid next in (
          refl,
          (
            refl,
            (
              refl,
              (
                block_means body x a exit again after hx ha mid next
                    (stand_right from mid rest.instructions first.instructions refl s) h,
                cases_mean cs x a exit again after hx ha from next (stand_left from rest.instructions first.instructions s) h,
              ),
            ),
          ),
        )

-- a list stands where it begins
shift : (x : Instruction) (g : List Instruction) (from : ℕ) (is : List Instruction) → Stand (slice_get g) from is
    → Stand (slice_get (x ∷ g)) (suc from) is
shift x g from [] s = tt
shift x g from (i ∷ is) s = (s.0, shift x g (suc from) is s.1)

stand_all : (is : List Instruction) → Stand (slice_get is) 0 is
stand_all [] = tt
stand_all (i ∷ is) = (refl, shift i is 0 is (stand_all is))

ending_at : (g : ℕ → Option Instruction) (point : ℕ) (m : MethodModel) → g point ≡ Some (ending m) → IsAt g point (rests.ending m)
ending_at g point m is = by m.gives is
  where
    by : (b : Bool) → g point ≡ Some (if b then graph.Stop m.close else graph.Return m.close None m.scope)
        → IsAt g point (if b then rests.Stop m.close else rests.Return m.close None m.scope)
    by true is = is
    by false is = is

pub method_is_at : (m : MethodModel) → IsAt (slice_get (graph_of m).instructions) (graph_of m).first (rests.rest_of m)
method_is_at m =
    let is = (graph_of m).instructions in
    let s = stand_all is in
    let g = slice_get is in
    let end = ending_at g 0 m s.0 in
    let e = rests.ending m in
    statements_mean g m.statements 0 0 e e e end end 1 0 s.1 end
