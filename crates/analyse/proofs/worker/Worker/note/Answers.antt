use Rattle.analyse.specs.Noted.{pairs_of}
use Rattle.analyse.proofs.WorkerLemmas.{notes_one}
use Rattle.analyse.proofs.worker.Worker.note.Goals as goal

pub returns-clause-notes : goal.returns-clause-notes
returns-clause-notes c = λ pairs row seen calls.
    let old = c.args.self.now in
    notes_one (record { seat = old.seat; alone = old.alone; own = old.own; seen = c.insert.new.self; remembered = old.remembered; spare = old.spare }) (pairs_of old.seen) pairs (record { point = c.in-Ok.point; name = c.args.name }) (c.args.point, row)
    (c.what_a_seat_knows_is_sound.ensures.faithful old.seat) c.requires.differ seen (c.in-Ok.ensures.1, calls) c.in_ok-insert.ensures.ok
