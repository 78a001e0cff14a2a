-- The order of findings in a report.
use Rattle.std.specs.Cmp.Lexicographic.{slice_cmp}
use Rattle.std.specs.Ordering.{nat_cmp, on, then_cmp}
use Rattle.std.specs.declared.cmp.Ordering.{Ordering}
use Rattle.source.specs.Findings.{FindingModel, code_name}

-- the order of a report: by line, by column, by the name of the code, and by the bytes of the text
abbrev pub report_cmp : FindingModel → FindingModel → Ordering
report_cmp =
    then_cmp (on (λ f. f.place.line) nat_cmp)
    (then_cmp (on (λ f. f.place.col) nat_cmp)
    (then_cmp (on (λ f. code_name f.code) (slice_cmp nat_cmp))
    (on (λ f. f.text) (slice_cmp nat_cmp))))
