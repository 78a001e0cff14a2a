-- Exchange: a field and a variable change places.
use Rattle.std.proofs.Common.{◌≡◌, ◌≢◌, ◌==◌, ◌&&◌, ℕ, ◌<◌, Bool, true, false, not, List, [], ◌∷◌, Some, refl, sym, ap, ◌∙◌, subst, set}
use Rattle.std.specs.Prelude.{Option, ◌||◌, slice_get}
use Rattle.program.specs.Methods.{MethodModel, VariableModel}
use Rattle.program.specs.Programs.{ProgramModel}
use Rattle.program.specs.WellFormed.{field_types}
use Rattle.program.specs.declared.types.HeapType.{HeapType}
use Rattle.program.specs.declared.types.HeapType.TheVariants.{Struct, Array, Endpoint}
use Rattle.program.specs.declared.statement.Exchange as stated
use Rattle.program.specs.declared.statement.Action.TheVariants.{Exchange}
use Rattle.flow.specs.Graphs.{Act}
use Rattle.rules.specs.Arguments.{field_checks, payload}
use Rattle.rules.specs.Endpoints.{declared_leaf, field_of, is_wrong}
use Rattle.rules.specs.Mentions.{require_owned, require_another, is_lent}
use Rattle.rows.specs.Rows.{is_owned, leaf_at}
use Rattle.rules.specs.RuleTable.{after_exchange}
use Rattle.machine.specs.Blocks.{exchanged_block, is_own_still}
use Rattle.machine.specs.Frames.{address}
use Rattle.machine.specs.Outcomes.{QueueBounds, Moved, test}
use Rattle.machine.specs.World.{Block, Frame, World, block_at, change_each, owns, read, is_own}
use Rattle.machine.specs.declared.halts.Fault.TheVariants.{F1, F3}
use Rattle.sound.specs.GraphFit.{IsExchangeFit, IsGraphFit}
use Rattle.sound.specs.Operands.{stateless}
use Rattle.sound.proofs.events.Calling.{no_copies, top_once}
use Rattle.sound.proofs.Checks.{all_pass, passed_goes, not_refused}
use Rattle.sound.proofs.events.Entering.{arg_fits}
use Rattle.sound.proofs.blocks.ExchangedBlocks as now
use Rattle.sound.proofs.blocks.ExchangedBlocks.{declared_get}
use Rattle.sound.proofs.Here.{IsGood, Here, owned_is, row_set, test_holds, tested_good}
use Rattle.sound.proofs.Invariant.{HasLeaf, standing, blocks_fit}
use Rattle.sound.proofs.Kept.{goes_on, leaf_kept, lent_stays_set, on_world, row_kept, some_same}
use Rattle.sound.proofs.Lists.{not_false}
use Rattle.sound.proofs.Parameters.{field_known}
use Rattle.sound.proofs.Quiet.{contains_first, fits_type, own_holds}
use Rattle.machine.proofs.Holding.{process_not_freed}
use Rattle.machine.specs.Instructions.{outcome_from, exchanges}
use Rattle.machine.proofs.ChangeLemmas.{eqb_same, eqb_apart, true≢false}

-- the fields of a type do not depend on its state
fields_stateless : (p : ProgramModel) (j k : HeapType) → stateless j ≡ stateless k
    → field_types p.structs j ≡ field_types p.structs k
fields_stateless p (Struct a) (Struct b) e = ap (λ (k : HeapType). field_types p.structs k) e
fields_stateless p (Struct a) (Array t) e = absurd (cc)
fields_stateless p (Struct a) (Endpoint c s q) e = absurd (cc)
fields_stateless p (Array t) (Struct a) e = absurd (cc)
fields_stateless p (Array t) (Array u) e = refl
fields_stateless p (Array t) (Endpoint c s q) e = refl
fields_stateless p (Endpoint c s q) (Struct a) e = absurd (cc)
fields_stateless p (Endpoint c s q) (Array t) e = refl
fields_stateless p (Endpoint c s q) (Endpoint d t r) e = refl

some_number : (a b : ℕ) → Some a ≡ Some b → a ≡ b
some_number a b e = cc

still_holds : (bs : List Block) (self : ℕ) (taken x : ℕ) → owns bs self x ≡ true → taken ≢ x
    → is_own_still bs self (taken ∷ []) (Some x) ≡ true
still_holds bs self taken x owned apart =
    ap (λ (b : Bool). owns bs self x && not (b || false)) (eqb_apart taken x apart) ∙ (and_one (owns bs self x) ∙ owned)
  where
    and_one : (b : Bool) → b && true ≡ b
    and_one true = refl
    and_one false = refl

pub good_exchange : (p : ProgramModel) (bound : QueueBounds) (w : World) (self choice : ℕ) (f : Frame) (rest : List Frame) (m : MethodModel)
    (e : stated.Exchange) (next : ℕ) → Here p w self f rest m (Act (Exchange e) next)
    → ((h : IsGraphFit p m) → IsExchangeFit p m h.scope f.point e next)
    → IsGood p w (outcome_from p bound w self f rest (Act (Exchange e) next) choice)
good_exchange p bound w self choice f rest m e next h fit =
    let vs = f.variables in
    let hv = e.holder.variable.0 in
    let xv = e.given.variable.0 in
    let g = fit h.graph in
    let k = g.ty in
    let type_is : field_of p m hv e.field ≡ Some k = field_known m p hv e.field g.holder g.holder_there ∙ g.field_there in
    let row' = set h.row xv (declared_leaf k) in
    let checks = require_another e.holder e.given ∷ require_owned h.row e.holder ∷ field_checks m h.row k (payload e.given) in
    let passed = all_pass checks ((next, row') ∷ []) (λ finding q. h.passes finding
    (ap (λ (o : Option HeapType). after_exchange p m h.row e next o) type_is ∙ q)) in
    let other = not_refused (hv == xv) _ passed.0 in
    let h_owned = not_false (is_owned h.row hv) (not_refused (not (is_owned h.row hv)) _ passed.1.0) in
    let x_own = not_refused (is_lent m xv) _ passed.1.1.0 in
    let x_owned = not_false (is_owned h.row xv) (not_refused (not (is_owned h.row xv)) _ passed.1.1.1.0) in
    let right = not_refused (is_wrong k (leaf_at h.row xv)) _ passed.1.1.1.1.0 in
    let o = owned_is p w self f rest m h.row hv h.holds h.is h.fits h_owned in
    let x = owned_is p w self f rest m h.row xv h.holds h.is h.fits x_owned in
    let a = o.at in
    let given = x.at in
    let arg = arg_fits w.blocks m.variables vs h.row k (payload e.given) h.fits g.given x_owned right in
    let same_given : arg.at ≡ given = some_number arg.at given (sym arg.is ∙ x.is) in
    let given_leaf : HasLeaf w.blocks k given (declared_leaf k) =
    subst (λ (n : ℕ). HasLeaf w.blocks k n (declared_leaf k)) same_given arg.leaf in
    let apart : given ≢ a = λ s. true≢false (eqb_same hv xv (no_copies vs hv xv a (top_once p w self f rest a h.holds h.is) o.is
    (x.is ∙ ap Some s))) other in
    let types_same : field_types p.structs (block_at w.blocks a).ty ≡ field_types p.structs g.holder.ty =
    fields_stateless p (block_at w.blocks a).ty o.variable.ty o.leaf.ty
    ∙ ap (λ (v : VariableModel). field_types p.structs v.ty) (some_same o.variable g.holder (sym o.there ∙ g.holder_there)) in
    let is : slice_get (field_types p.structs (block_at w.blocks a).ty) e.field ≡ Some k =
    ap (λ (types : List HeapType). slice_get types e.field) types_same ∙ g.field_there in
    let got = declared_get w.blocks (field_types p.structs (block_at w.blocks a).ty) (block_at w.blocks a).fields e.field k is
    (h.holds.declared a o.leaf.there (process_not_freed (block_at w.blocks a).owner self o.owned)) in
    let held = got.0 in
    let found = got.1 in
    let hb = blocks_fit p w h.holds in
    let bs = now.bs' p w self hb a e.field given held o.owned x.owned apart found in
    let cut = now.cut_now p w self hb a e.field given held o.owned x.owned apart found in
    let kept = now.kept_now p w self hb a e.field given held o.owned x.owned apart found in
    let vs' = set vs xv (Some held) in
    let held_leaf = leaf_kept w.blocks bs k held (declared_leaf k) cut (kept (λ j. j ≡ held) held refl got.2.there) got.2 in
    let leaf_given = leaf_kept w.blocks bs k given (declared_leaf k) cut (kept (λ j. j ≡ given) given refl given_leaf.there) given_leaf in
    let fits' = row_set bs m.variables vs h.row xv (Some held) (declared_leaf k)
    (row_kept w.blocks bs m.variables vs h.row cut (kept (λ j. 0 < standing j vs)) h.fits)
    (λ y there. fits_type bs k y.ty (Some held) (declared_leaf k)
    (sym (ap (λ (z : VariableModel). stateless z.ty) (some_same y g.given.variable (sym there ∙ g.given.there)) ∙ g.given.ty))
    held_leaf) in
    let reached = h.onward ((next, row') ∷ []) (next, row')
    (ap (λ (o : Option HeapType). after_exchange p m h.row e next o) type_is ∙ passed_goes checks ((next, row') ∷ []) passed)
    (contains_first (next, row') []) in
    let tests = test (is_own w.blocks self (read vs hv)) F1
    ∷ test (is_own_still w.blocks self (address (read vs hv) ∷ []) (read vs xv)) F3 ∷ [] in
    let found' : slice_get (block_at w.blocks (address (read vs hv))).fields e.field ≡ Some held =
    ap (λ (y : Option ℕ). slice_get (block_at w.blocks (address y)).fields e.field) o.is ∙ found in
    tested_good p w tests _ (
      test_holds (is_own w.blocks self (read vs hv)) F1 (own_holds p bound w self f rest (read vs hv) a o.is o.owned),
      (
        test_holds (is_own_still w.blocks self (address (read vs hv) ∷ []) (read vs xv)) F3
            (ap (λ (y : Option ℕ). is_own_still w.blocks self (address y ∷ []) (read vs xv)) o.is
            ∙ (ap (is_own_still w.blocks self (a ∷ [])) x.is ∙ still_holds w.blocks self a given x.owned (λ s. apart (sym s)))),
        tt,
      ),
    )
    (subst (λ (y : Option ℕ). IsGood p w (exchanges p bound w self f rest e next y)) (sym found')
    (subst (λ (y : Option ℕ). IsGood p w (Moved (on_world w self f next vs' rest
    (change_each (exchanged_block self (address y) e.field (address (read vs xv)) held) w.blocks)))) (sym o.is)
    (subst (λ (y : Option ℕ). IsGood p w (Moved (on_world w self f next vs' rest
    (change_each (exchanged_block self a e.field (address y) held) w.blocks)))) (sym x.is) (
      goes_on p w self f rest m next vs' row' bs h.holds h.is h.there h.below reached fits' (record {
        lent = lent_stays_set m.variables vs xv (Some held) x_own;
        cut = cut;
        kept = kept (λ j. standing j vs ≡ 0);
        counted = λ j. now.counted_now p w self hb a e.field given held o.owned x.owned apart found vs xv j x.is;
        others = now.others_now p w self hb a e.field given held o.owned x.owned apart found;
        channels = (now.fits_now p w self hb a e.field given held o.owned x.owned apart found).channels;
        queues = (now.fits_now p w self hb a e.field given held o.owned x.owned apart found).queues;
        brought = now.brought_now p w self hb a e.field given held o.owned x.owned apart found h.holds.brought;
        held = now.held_now p w self hb a e.field given held o.owned x.owned apart found;
        declared = now.declared_now p w self hb a e.field given held o.owned x.owned apart found k is leaf_given h.holds.declared;
      }),
      cut,
    ))))
