use Rattle.std.proofs.Common.{subst}
use Rattle.atomic_table.specs.Seated.{TableId}
use Rattle.intern.specs.Seats.{slots_of, view}
use Rattle.intern.specs.View.{IsInside}
use Rattle.intern.proofs.IdLemmas.{no_room_stays}
use Rattle.intern.proofs.laws.a_full_table_stays_full.Goals as goal

pub returns : goal.returns
returns c = λ rows v seat of grows row none.
    let inside = subst (λ (z : TableId). IsInside z.words (view seat)) of seat.inside in
    no_room_stays (slots_of rows) v (view seat) seat.sound inside grows row none
