use Rattle.std.proofs.Common.{rules}
use Rattle.intern.proofs.RuleLemmas.{splits}
use Rattle.intern.proofs.row_table.Rows.split.Goals as goal

pub split_seat-inner-requires : goal.split_seat-inner-requires
split_seat-inner-requires c = (search rules, search rules, splits _ _ _)
