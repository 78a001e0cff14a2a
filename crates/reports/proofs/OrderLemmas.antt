-- The order of a report is total and distinguishes any two findings.
use Rattle.std.proofs.Common.{◌≡◌, ℕ, List}
use Rattle.std.specs.Cmp.{IsTotalOrder}
use Rattle.std.specs.declared.cmp.Ordering.TheVariants.{Equal}
use Rattle.std.proofs.lemmas.Cmp.{then_total, on_total, nat_cmp_total, nat_list_cmp_total}
use Rattle.source.specs.Findings.{FindingModel, finding_model, finding_cmp, code_name}
use Rattle.source.specs.declared.finding.Code.{Code}
use Rattle.reports.specs.Orders.{report_cmp}
use Rattle.reports.proofs.CodeLemmas.{one_code}
use Rattle.lemmas.proofs.Orders.{same_bytes, same_number, then_equal}

pub report_total : IsTotalOrder report_cmp
report_total = then_total (on_total (λ f. f.place.line) nat_cmp_total)
    (then_total (on_total (λ f. f.place.col) nat_cmp_total)
    (then_total (on_total (λ f. code_name f.code) nat_list_cmp_total)
    (on_total (λ f. f.text) nat_list_cmp_total)))

pub finding_total : IsTotalOrder finding_cmp
finding_total = on_total finding_model report_total

told : ℕ → ℕ → Code → List ℕ → FindingModel
told line col code text = record { place = record { line = line; col = col }; code = code; text = text }

same_parts : (a b : FindingModel) → a.place.line ≡ b.place.line → a.place.col ≡ b.place.col → a.code ≡ b.code → a.text ≡ b.text → a ≡ b
unfolding told
same_parts a b line col code text =
    let e : told a.place.line a.place.col a.code a.text ≡ told b.place.line b.place.col b.code b.text = cc in e

pub equal_is_same : (a b : FindingModel) → report_cmp a b ≡ Equal → a ≡ b
equal_is_same a b e =
    let line = then_equal _ _ e in
    let col = then_equal _ _ line.1 in
    let code = then_equal _ _ col.1 in
    same_parts a b (same_number _ _ line.0) (same_number _ _ col.0) (one_code a.code b.code (same_bytes _ _ code.0)) (same_bytes _ _ code.1)
