use Rattle.resolving.proofs.statements.tell_alone.Goals as goal

pub returns : goal.returns
returns c = λ items own f round h. record { is = (c.in_ok-told.ensures items own round).all f h; frame = c.in_ok-declare_in.ensures items own f round h }
