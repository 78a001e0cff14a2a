use Rattle.std.proofs.Common.{rules}
use Rattle.std.specs.Ordering.{is_lt, eq_by_cmp, on}
use Rattle.std.proofs.lemmas.Fn.{always_returns_same, dedup_same}
use Rattle.std.proofs.lemmas.List.Sorted.{ranks_by}
use Rattle.reports.specs.Orders.{report_cmp}
use Rattle.reports.proofs.SortLemmas.{item_cmp, item_total, once_among, once_ordered, once_same}
use Rattle.source.specs.Findings.{finding_model}
use Rattle.explanations.specs.declared.line.Explained.{Explained}
use Rattle.singcheck.proofs.explaining.explained_in_order.Goals as goal

pub returns-clause-same : goal.returns-clause-same
returns-clause-same c =
    let once = dedup_same _ (eq_by_cmp (on (λ (e : Explained). finding_model e.finding) report_cmp)) _ (λ x y b f' x' y' k. search rules) _ _ c.dedup_by.ensures.filtered in
    once_same (λ (e : Explained). finding_model e.finding) c.args.explained.items c.sort_by.new.self.items c.dedup_by.new.self.items c.sort_by.ensures.permutation once

pub returns-clause-among : goal.returns-clause-among
returns-clause-among c =
    let once = dedup_same _ (eq_by_cmp (on (λ (e : Explained). finding_model e.finding) report_cmp)) _ (λ x y b f' x' y' k. search rules) _ _ c.dedup_by.ensures.filtered in
    once_among (λ (e : Explained). finding_model e.finding) c.args.explained.items c.sort_by.new.self.items c.dedup_by.new.self.items c.sort_by.ensures.permutation once

pub returns-clause-ordered : goal.returns-clause-ordered
returns-clause-ordered c =
    let view = λ (e : Explained). finding_model e.finding in
    let up = c.in_ok-sort_by.ensures.sorted (λ a b. is_lt (item_cmp view a b)) (ranks_by (item_total view) (λ e. e)) (always_returns_same _ _ _ (λ a r f' q. search rules)) in
    let once = dedup_same _ (eq_by_cmp (on view report_cmp)) _ (λ x y b f' x' y' k. search rules) _ _ c.dedup_by.ensures.filtered in
    once_ordered view c.sort_by.new.self.items c.dedup_by.new.self.items up once
