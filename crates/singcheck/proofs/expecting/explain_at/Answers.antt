use Rattle.std.proofs.Common.{◌≡◌, ◌∙◌, ap, map, subst, sym, true, false}
use Rattle.std.specs.Prelude.{IfOk, slice_get}
use Rattle.source.specs.Findings.{finding_model}
use Rattle.source.specs.declared.place.Place.{Place}
use Rattle.explanations.specs.Lines.{line_model}
use Rattle.singcheck.specs.Answers.{wrong_token}
use Rattle.singcheck.specs.Unexpected.{AreExpectedLines}
use Rattle.singcheck.proofs.expecting.explain_at.Goals as goal

pub returns-then-not-is_asked : goal.returns-then-not-is_asked
returns-then-not-is_asked c = λ text lexed end.
    let tokens = c.args.tokens.now.list.items in
    let number = c.args.number in
    record {
      tokens = tokens;
      lexed = lexed;
      number = number;
      wrong = c.requires.wrong;
      finding = subst (λ r. IfOk r (λ f. finding_model f ≡ wrong_token text (slice_get tokens number))) c.in_ok-finding.was (c.finding_at.ensures text end);
      asked = λ yes. absurd (let no = sym c.is_asked.ensures ∙ c.if-not-is_asked.true in let never : true ≡ false = sym yes ∙ no in cc);
      other = λ no. ap (λ l. map line_model l) c.new.ensures.items;
    }

pub returns : goal.returns
returns c = λ text lexed end.
    let tokens = c.args.tokens.now.list.items in
    let number = c.args.number in
    record {
      tokens = tokens;
      lexed = lexed;
      number = number;
      wrong = c.requires.wrong;
      finding = subst (λ r. IfOk r (λ f. finding_model f ≡ wrong_token text (slice_get tokens number))) c.in_ok-finding.was (c.finding_at.ensures text end);
      asked = λ yes. subst (λ (p : Place). AreExpectedLines tokens number p c.in_ok-finding.finding.place (map line_model c.in_ok-lines.lines.items)) end c.in_ok-lines.ensures;
      other = λ no. absurd (let yes = sym c.is_asked.ensures ∙ c.if-not-is_asked.false in let never : true ≡ false = sym yes ∙ no in cc);
    }
