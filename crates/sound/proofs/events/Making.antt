-- New: one more block, which holds what is given.
use Rattle.std.proofs.Common.{◌≡◌, ℕ, ◌<◌, true, false, List, [], ◌∷◌, ◌++◌, Some, length, sym, ap, ◌∙◌, subst, arith, set}
use Rattle.std.proofs.lemmas.Option.{slice_get_within}
use Rattle.program.specs.Lists.{is_among}
use Rattle.program.specs.Methods.{MethodModel, VariableModel}
use Rattle.program.specs.Programs.{ProgramModel}
use Rattle.program.specs.WellFormed.{field_types, is_end}
use Rattle.program.specs.declared.types.HeapType.{HeapType}
use Rattle.program.specs.declared.statement.Mention.{Mention}
use Rattle.flow.specs.Graphs.{New}
use Rattle.rules.specs.Arguments.{after_claims, given_before, target_checks}
use Rattle.rules.specs.Endpoints.{fields_of}
use Rattle.rules.specs.Mentions.{is_lent}
use Rattle.rows.specs.Rows.{leaf_at, is_owned}
use Rattle.rules.specs.declared.breach.Reason.TheVariants.{WrongForField}
use Rattle.rows.specs.declared.row.Leaf.TheVariants as leaf
use Rattle.machine.specs.Frames.{addresses, type_at, payloads_claimed, variables_of}
use Rattle.machine.specs.Outcomes.{QueueBounds}
use Rattle.machine.specs.World.{Block, Frame, World, let_go, read}
use Rattle.sound.specs.GraphFit.{IsGraphFit, IsNewFit}
use Rattle.sound.specs.Operands.{stateless}
use Rattle.sound.proofs.Arguments.{go_fits, pair_apart}
use Rattle.sound.proofs.Basics.{standing_set}
use Rattle.sound.proofs.blocks.Blocks.{type_of_variable}
use Rattle.sound.proofs.events.Calling.{arguments_hold, go_stays, none_taken, top_once, top_owned}
use Rattle.sound.proofs.Checks.{Passed, all_pass, passed_goes, passed_left, passed_right, not_refused, something_is}
use Rattle.sound.proofs.events.Giving.{given_declared, given_leaves, given_own, payloads_claim, taken_fit, taken_own}
use Rattle.sound.proofs.Here.{IsGood, Here, nothing_none, row_set, tested_good}
use Rattle.sound.proofs.Invariant.{one_at, standing, AreDeclared, blocks_fit}
use Rattle.sound.proofs.Kept.{goes_on, lent_stays_on, lent_stays_set, row_kept, some_same}
use Rattle.sound.proofs.blocks.NewBlock as made
use Rattle.sound.proofs.Parameters.{each_taken, fields_known}
use Rattle.sound.proofs.Quiet.{contains_first}
use Rattle.machine.specs.Instructions.{outcome_from}
use Rattle.machine.specs.Blocks.{argument_tests}

pub good_new : (p : ProgramModel) (bound : QueueBounds) (w : World) (self choice : ℕ) (f : Frame) (rest : List Frame) (m : MethodModel)
    (target : Mention) (arguments : List Mention) (next : ℕ)
    → Here p w self f rest m (New target arguments next)
    → ((h : IsGraphFit p m) → IsNewFit p m h.scope f.point target.variable.0 arguments next)
    → IsGood p w (outcome_from p bound w self f rest (New target arguments next) choice)
good_new p bound w self choice f rest m target arguments next h fit =
    let v = target.variable.0 in
    let vs = f.variables in
    let args = payloads_claimed arguments in
    let us = let_go vs args in
    let row1 = after_claims h.row args in
    let row' = set row1 v leaf.Block in
    let g = fit h.graph in
    let types = field_types p.structs g.variable.ty in
    let given_checks = given_before [] args in
    let field_checks = each_taken m h.row WrongForField (fields_of p m v) arguments in
    let checks = (given_checks ++ field_checks) ++ target_checks m row1 (Some target) in
    let passed = all_pass checks ((next, row') ∷ []) h.passes in
    let before = passed_left (given_checks ++ field_checks) (target_checks m row1 (Some target)) passed in
    let behind = passed_right (given_checks ++ field_checks) (target_checks m row1 (Some target)) passed in
    let each : Passed (each_taken m h.row WrongForField types arguments) =
    subst (λ (ks : List HeapType). Passed (each_taken m h.row WrongForField ks arguments)) (fields_known m p v g.variable g.there)
    (passed_right given_checks field_checks before) in
    let apart = pair_apart [] args (passed_left given_checks field_checks before) in
    let own_v = not_refused (is_lent m v) _ behind.0 in
    let fits = taken_fit m w.blocks vs h.row WrongForField types arguments h.fits g.types each in
    let base = go_fits w.blocks m.variables vs h.row args h.fits in
    let none = nothing_none w.blocks m.variables us row1 v base
    (something_is (leaf_at row1 v) (not_refused (is_owned row1 v) _ behind.1.0)) in
    let all = λ (y : ℕ). top_once p w self f rest y h.holds h.is in
    let own = λ (y u : ℕ) (i : read vs u ≡ Some y). top_owned p w self f rest y u h.holds h.is i in
    let leaves = λ (y : ℕ). given_leaves y w.blocks vs h.row types args fits apart (payloads_claim arguments) (all y) in
    let mine = λ (y : ℕ) (i : is_among (addresses vs args) y ≡ true). given_own w.blocks self vs h.row types args y fits own i in
    let once = λ (y : ℕ). (leaves y).1 in
    let hb = blocks_fit p w h.holds in
    let k = type_at (variables_of p f.method) v in
    let is_type : k ≡ g.variable.ty = type_of_variable p f.method m v g.variable h.there g.there in
    let plain : is_end k ≡ false = ap is_end is_type ∙ g.block in
    let given = addresses vs args in
    let n = length w.blocks in
    let bs' = made.grown p w self hb given k mine once plain in
    let cut' = made.cut_now p w self hb given k mine once plain in
    let last = made.last p w self hb given k mine once plain in
    let typed : AreDeclared bs' (field_types p.structs k) given =
    subst (λ (t : HeapType). AreDeclared bs' (field_types p.structs t) given) (sym is_type)
    (given_declared w.blocks bs' vs h.row types args cut' fits
    (made.kept_now p w self hb given k mine once plain (λ y. is_among given y ≡ true))) in
    let vs' = set us v (Some n) in
    let fits' = row_set bs' m.variables us row1 v (Some n) leaf.Block
    (row_kept w.blocks bs' m.variables us row1 cut' (made.kept_now p w self hb given k mine once plain (λ a. 0 < standing a us)) base)
    (λ y at. record {
      there = made.there_now p w self hb given k mine once plain;
      ty = ap (λ (x : Block). stateless x.ty) last
          ∙ (ap stateless is_type ∙ ap (λ (x : VariableModel). stateless x.ty) (some_same g.variable y (sym g.there ∙ at)));
      state = ap (λ (x : VariableModel). is_end x.ty) (some_same y g.variable (sym at ∙ g.there)) ∙ g.block;
    }) in
    let reached = h.onward ((next, row') ∷ []) (next, row') (passed_goes checks ((next, row') ∷ []) passed)
    (contains_first (next, row') []) in
    tested_good p w (argument_tests w.blocks self f.variables [] args) _
    (arguments_hold p bound w self f rest h.row types [] args all own apart (none_taken vs args) fits) (
      goes_on p w self f rest m next vs' row' bs' h.holds h.is h.there h.below reached fits' (record {
        lent = lent_stays_on m.variables vs us vs'
            (go_stays p m vs args (taken_own m h.row WrongForField m.variables types arguments g.types each))
            (lent_stays_set m.variables us v (Some n) own_v);
        cut = cut';
        kept = made.kept_now p w self hb given k mine once plain (λ j. standing j vs ≡ 0);
        counted = λ j.
            let short : v < length us = let i = slice_get_within m.variables v g.variable g.there in let l = base.long in omega arith in
            let one = standing_set us v j (Some n) short in
            let two : one_at j (read us v) ≡ 0 = ap (one_at j) none in
            let three = made.counted_now p w self hb given k mine once plain j (standing j vs) (standing j us) (leaves j).0 in
            omega arith;
        others = made.others_now p w self hb given k mine once plain;
        channels = (made.fits_now p w self hb given k mine once plain).channels;
        queues = (made.fits_now p w self hb given k mine once plain).queues;
        brought = made.brought_now p w self hb given k mine once plain h.holds.brought;
        held = made.held_now p w self hb given k mine once plain;
        declared = made.declared_now p w self hb given k mine once plain typed h.holds.declared;
      }),
      cut',
    )
