use Rattle.std.proofs.Common.{Bool, ap, refl, set, sym}
use Rattle.std.specs.Prelude.{if◌then◌else◌}
use Rattle.machine.specs.Answers.{with_field}
use Rattle.machine.specs.BlockViews.{block_model}
use Rattle.machine.proofs.ChangeLemmas.{edits, eqb_apart, eqb_same}
use Rattle.machine.proofs.WayKept.{with_parts}
use Rattle.machine.proofs.changing.set_field.Goals as goal

pub returns : goal.returns
returns c = edits (with_field c.args.at c.args.field c.args.given) c.args.at
    (λ j b apart. ap (λ (t : Bool). with_parts b b.owner b.queue (if t then set b.fields c.args.field c.args.given else b.fields))
    (eqb_apart j c.args.at apart))
    c.args.blocks.now.items c.index_mut.result.now _ c.requires.there c.index_mut.ensures.value
    (ap (λ (t : Bool). with_parts (block_model c.index_mut.result.now) c.index_mut.result.now.owner (block_model c.index_mut.result.now).queue
    (if t then set c.index_mut.result.now.fields.items c.args.field c.args.given else c.index_mut.result.now.fields.items))
    (sym (eqb_same c.args.at c.args.at refl)))
