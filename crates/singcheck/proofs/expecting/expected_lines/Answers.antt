use Rattle.std.proofs.Common.{◌++◌, ◌∷◌, [], map, ap, subst, ◌∙◌}
use Rattle.std.specs.Prelude.{◌↔◌, Contains}
use Rattle.source.specs.declared.kind.Kind.{Kind}
use Rattle.expected.specs.Expectations.{expectation_of}
use Rattle.expected.specs.Expected.{IsExpected}
use Rattle.explanations.specs.Lines.{line, line_model}
use Rattle.singcheck.specs.Unexpected.{brace_lines}
use Rattle.singcheck.proofs.expecting.expected_lines.Goals as goal

pub returns : goal.returns
returns c =
    let tokens = c.args.tokens.now.list.items in
    let number = c.args.number in
    let kinds = c.in_ok-kinds.kinds.items in
    let shown = c.in_ok-expectation_line.field-0 in
    record {
      kinds = kinds;
      exact = subst (λ s. (kind : Kind) → Contains kinds kind ↔ IsExpected tokens number s kind) c.span_at.ensures c.in_ok-kinds.ensures.exact;
      order = c.in_ok-kinds.ensures.order;
      are = c.in_ok-add_brace.ensures ∙ ap (λ l. l ++ brace_lines tokens number)
          (ap (map line_model) (c.in_ok-push.ensures.items ∙ ap (λ l. l ++ shown ∷ []) c.new-lines.ensures.items)
          ∙ ap (λ x. x ∷ []) (c.in_ok-expectation_line.ensures ∙ ap (λ ks. line c.args.place (expectation_of ks)) c.deref.ensures.value));
    }
