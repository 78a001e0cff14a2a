-- Remarks on faults of a text.
use Rattle.std.specs.Prelude.{codes, Option, None}
use Rattle.source.specs.Places.{first_place}
use Rattle.source.specs.declared.fault.TextFault.{TextFault}
use Rattle.source.specs.declared.fault.TextFault.TheVariants.{Stray, OpenComment, TooLong, TooDeep, TooLarge, Memory}
use Rattle.explanations.specs.Lines.{LineModel}
use Rattle.remarks.specs.Remarks.{at}

-- the remark on a fault; none for `Memory`, which is no fault of the text
abbrev pub fault_remark : TextFault → Option LineModel
fault_remark (Stray place) = at place (codes "no token or comment starts here")
fault_remark (OpenComment place) = at place (codes "this comment is not closed with */")
fault_remark TooLong = at first_place (codes "a text may have at most 4194304 bytes")
fault_remark (TooDeep place) = at place (codes "at most 100 brackets may be open at once")
fault_remark (TooLarge place) = at place (codes "the largest number is 2147483647")
fault_remark Memory = None
