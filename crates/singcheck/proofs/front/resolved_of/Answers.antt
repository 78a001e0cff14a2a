use Rattle.singcheck.proofs.front.resolved_of.Goals as goal

pub judge_names-requires : goal.judge_names-requires
judge_names-requires c = c.in_ok-tree.ensures.tree.few
