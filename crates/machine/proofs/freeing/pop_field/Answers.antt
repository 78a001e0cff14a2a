use Rattle.std.proofs.Common.{◌≡◌, ◌++◌, ◌∙◌, Option, Some, None, List, ℕ, IfSome, IfNone, ap, sym, set}
use Rattle.std.specs.Prelude.{option_to_list}
use Rattle.std.proofs.Math.Seq.{map-set_same}
use Rattle.std.proofs.lemmas.List.{append-nil}
use Rattle.machine.specs.World.{Block, block_at}
use Rattle.machine.specs.Freeing.{IsPopped, fields_left}
use Rattle.machine.specs.BlockViews.{block_model, blocks_model}
use Rattle.machine.proofs.ChangeLemmas.{edits, seen_at}
use Rattle.machine.proofs.FreeLemmas.{left_here, left_other}
use Rattle.machine.proofs.WayKept.{with_parts}
use Rattle.machine.proofs.freeing.pop_field.Goals as goal

pub returns-clause-some : goal.returns-clause-some
returns-clause-some c = by c.pop.result c.pop.ensures.items
  where
    by : (r : Option ℕ) → c.index_mut.result.now.fields.items ≡ c.pop.new.self.items ++ option_to_list r
        → IfSome r (IsPopped (blocks_model c.args.blocks.now.items) (blocks_model (set c.args.blocks.now.items c.args.x
        (record {
          ty = c.index_mut.result.now.ty;
          owner = c.index_mut.result.now.owner;
          peer = c.index_mut.result.now.peer;
          state = c.index_mut.result.now.state;
          queue = c.index_mut.result.now.queue;
          fields = c.pop.new.self;
        }))) c.args.x)
    by None e = tt
    by (Some inner) e =
        let was = c.index_mut.result.now in
        let here : block_at (blocks_model c.args.blocks.now.items) c.args.x ≡ block_model was =
        seen_at c.args.blocks.now.items c.args.x was c.requires.there ∙ ap block_model (sym c.index_mut.ensures.value) in
        record {
          rest = c.pop.new.self.items;
          fields = ap (λ (b : Block). b.fields) here ∙ e;
          blocks = edits (fields_left c.args.x c.pop.new.self.items) c.args.x (left_other c.args.x c.pop.new.self.items)
              c.args.blocks.now.items was _ c.requires.there c.index_mut.ensures.value
              (sym (left_here c.args.x c.pop.new.self.items (block_model was)));
        }

pub returns-clause-same : goal.returns-clause-same
returns-clause-same c = by c.pop.result c.pop.ensures.items
  where
    by : (r : Option ℕ) → c.index_mut.result.now.fields.items ≡ c.pop.new.self.items ++ option_to_list r
        → IfNone r (blocks_model (set c.args.blocks.now.items c.args.x
        (record {
          ty = c.index_mut.result.now.ty;
          owner = c.index_mut.result.now.owner;
          peer = c.index_mut.result.now.peer;
          state = c.index_mut.result.now.state;
          queue = c.index_mut.result.now.queue;
          fields = c.pop.new.self;
        })) ≡ blocks_model c.args.blocks.now.items)
    by None e =
        let was = c.index_mut.result.now in
        let same : c.pop.new.self.items ≡ was.fields.items = sym (e ∙ append-nil c.pop.new.self.items) in
        map-set_same block_model c.args.blocks.now.items c.args.x _ was
        (ap (λ (xs : List ℕ). with_parts (block_model was) was.owner (block_model was).queue xs) same
        ∙ ap block_model c.index_mut.ensures.value)
    by (Some inner) e = tt
