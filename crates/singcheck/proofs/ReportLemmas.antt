-- Listed findings are those of a report.
use Rattle.std.proofs.Common.{◌≡◌, ℕ, ◌≤◌, List, ◌++◌, length, take, map, sym, ap, ◌∙◌}
use Rattle.std.specs.Prelude.{◌↔◌, Contains}
use Rattle.std.specs.List.{flat_map}
use Rattle.std.specs.List.Sorted.{IsStrictlySortedBy}
use Rattle.std.proofs.lemmas.List.{length-map, take_all}
use Rattle.std.proofs.lemmas.List.Folds.{flat_map-map}
use Rattle.source.specs.Findings.{FindingModel, finding_model}
use Rattle.source.specs.declared.finding.Finding.{Finding}
use Rattle.reports.specs.Orders.{report_cmp}
use Rattle.singcheck.specs.Lines.{finding_line, count_line}
use Rattle.singcheck.specs.Reports.{IsReport, report_bytes}

pub written_is : (all : List Finding) (n count : ℕ) (answer new : List ℕ) → length all ≤ n → answer ≡ flat_map (λ f. finding_line (finding_model f)) (take n all) → count ≡ length all → new ≡ answer ++ count_line count → new ≡ report_bytes (map finding_model all)
written_is all n count answer new end is many e =
    let lines : answer ≡ flat_map finding_line (map finding_model all) = is ∙ ap (flat_map (λ f. finding_line (finding_model f))) (take_all n all end) ∙ sym (flat_map-map finding_line finding_model all) in
    let size : count ≡ length (map finding_model all) = many ∙ sym (length-map all finding_model) in
    e ∙ ap (λ l. l ++ count_line count) lines ∙ ap (λ k. flat_map finding_line (map finding_model all) ++ count_line k) size

-- the listed findings are the same, in order, and the bytes are their lines
pub report_is : (all listed : List FindingModel) (bytes : List ℕ) → ((f : FindingModel) → Contains listed f ↔ Contains all f)
    → IsStrictlySortedBy report_cmp listed → bytes ≡ report_bytes listed → IsReport all bytes
report_is all listed bytes same ordered is = record {
  listed = listed;
  same = record {
    right = λ f c. (same f).0 c;
    all = λ f c. (same f).1 c;
  };
  ordered = ordered;
  is = is;
}
