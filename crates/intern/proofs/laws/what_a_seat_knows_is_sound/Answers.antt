use Rattle.std.proofs.Common.{subst}
use Rattle.atomic_table.specs.Seated.{TableId}
use Rattle.intern.specs.Seats.{view}
use Rattle.intern.specs.View.{IsInside}
use Rattle.intern.proofs.IdLemmas.{faithful}
use Rattle.intern.proofs.laws.what_a_seat_knows_is_sound.Goals as goal

pub returns-clause-sound : goal.returns-clause-sound
returns-clause-sound c = λ seat. seat.sound

pub returns-clause-inside : goal.returns-clause-inside
returns-clause-inside c = λ rows seat of. subst (λ (z : TableId). IsInside z.words (view seat)) of seat.inside

pub returns-clause-faithful : goal.returns-clause-faithful
returns-clause-faithful c = λ seat. faithful (view seat) seat.sound
