use Rattle.std.proofs.Common.{rules}
use Rattle.std.specs.Ordering.{is_lt, eq_by_cmp}
use Rattle.std.proofs.lemmas.Fn.{always_returns_same, dedup_same}
use Rattle.std.proofs.lemmas.List.Sorted.{ranks_by}
use Rattle.source.specs.Findings.{finding_cmp, finding_model}
use Rattle.reports.proofs.OrderLemmas.{finding_total}
use Rattle.reports.proofs.SortLemmas.{once_ordered, once_same}
use Rattle.reports.proofs.in_order.in_report_order.Goals as goal

pub returns-clause-same : goal.returns-clause-same
returns-clause-same c =
    let once = dedup_same _ (eq_by_cmp finding_cmp) _ (λ x y b f' x' y' k. search rules) _ _ c.dedup_by.ensures.filtered in
    once_same finding_model c.args.findings.items c.sort_by.new.self.items c.dedup_by.new.self.items c.sort_by.ensures.permutation once

pub returns-clause-ordered : goal.returns-clause-ordered
returns-clause-ordered c =
    let up = c.in_ok-sort_by.ensures.sorted (λ a b. is_lt (finding_cmp a b)) (ranks_by finding_total (λ f. f)) (always_returns_same _ _ _ (λ a r f' q. search rules)) in
    let once = dedup_same _ (eq_by_cmp finding_cmp) _ (λ x y b f' x' y' k. search rules) _ _ c.dedup_by.ensures.filtered in
    once_ordered finding_model c.sort_by.new.self.items c.dedup_by.new.self.items up once
