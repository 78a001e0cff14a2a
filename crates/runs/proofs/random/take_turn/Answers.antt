use Rattle.runs.proofs.random.take_turn.Goals as goal
