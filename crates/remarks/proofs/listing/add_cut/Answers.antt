use Rattle.std.proofs.Common.{◌<◌, arith, length}
use Rattle.std.proofs.lemmas.List.{length-take-le}
use Rattle.remarks.proofs.listing.add_cut.Goals as goal

pub slice_bounds-push_name-end : goal.slice_bounds-push_name-end
slice_bounds-push_name-end c =
    let word = c.args.word.now in
    let long : 60 < length word = c.if-word-gt-MAX_NAME.true in
    let size = length-take-le 60 word (omega (arith, long)) in
    omega (arith, long, size)
