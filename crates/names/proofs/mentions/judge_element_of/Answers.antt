use Rattle.std.proofs.Common.{refl, ap, ◌∙◌, subst}
use Rattle.declarations.specs.Mistakes.{Adds}
use Rattle.declarations.specs.Types.{is_unknown}
use Rattle.names.specs.Expressions.{asked_number, element_type, element_mistakes, type_of, place_of}
use Rattle.names.specs.Operands.{in_frame}
use Rattle.declarations.proofs.AddLemmas.{adds_then}
use Rattle.names.proofs.mentions.judge_element_of.Goals as goal

pub returns : goal.returns
returns c = λ e start judged. record {
  all = λ p f scope frame.
      let s = in_frame p f in
      let old = c.args.found.now.items in
      let asked = c.ask_number.new.found.items in
      let used = c.judge_variable.new.found.items in
      let new = c.judge_element.new.found.items in
      let index = judged.all p f scope frame in
      let variable = c.in_ok-held.ensures.all p f scope frame in
      record {
        ty = c.type_of_element.ensures ∙ ap (element_type c.in_ok-held.held) (c.is_unknown.ensures ∙ ap is_unknown index.ty)
            ∙ ap (λ k. element_type k (is_unknown (type_of s e))) variable.ty;
        place = refl;
        found = adds_then index.found (adds_then
            (subst (λ k. Adds old asked (asked_number k (place_of e))) index.ty (subst (λ at. Adds old asked (asked_number c.args.index.ty at)) index.place c.in_ok-ask_number.ensures))
            (adds_then variable.found (subst (λ k. Adds used new (element_mistakes k c.args.variable)) variable.ty c.in_ok-judge_element.ensures)));
      };
}
