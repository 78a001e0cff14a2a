use Rattle.std.proofs.Common.{arith}
use Rattle.declarations.proofs.MeantLemmas.{named_by}
use Rattle.declarations.proofs.meaning.Meaning.state.Goals as goal

pub offset_bounds-self-index : goal.offset_bounds-self-index
offset_bounds-self-index c =
    let here = named_by c.args.self.now c.args.name _ _ _ c.requires.meaning c.find.ensures c.slice.ensures c.unwrap-index.ensures in
    omega (arith, here.low, here.room, c.requires.meaning.state_room)

pub bounds-self-index : goal.bounds-self-index
bounds-self-index c = (named_by c.args.self.now c.args.name _ _ _ c.requires.meaning c.find.ensures c.slice.ensures c.unwrap-index.ensures).within

pub overflow_cast-result : goal.overflow_cast-result
overflow_cast-result c =
    let here = named_by c.args.self.now c.args.name _ _ _ c.requires.meaning c.find.ensures c.slice.ensures c.unwrap-index.ensures in
    omega (arith, here.room, c.requires.meaning.state_room)

pub overflow_add-result : goal.overflow_add-result
overflow_add-result c =
    let here = named_by c.args.self.now c.args.name _ _ _ c.requires.meaning c.find.ensures c.slice.ensures c.unwrap-index.ensures in
    omega (arith, here.room, c.requires.meaning.state_room)

pub returns : goal.returns
returns c = (named_by c.args.self.now c.args.name _ _ _ c.requires.meaning c.find.ensures c.slice.ensures c.unwrap-index.ensures).meant
