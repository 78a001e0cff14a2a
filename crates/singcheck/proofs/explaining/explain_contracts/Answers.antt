use Rattle.std.proofs.Common.{◌∷◌, ◌++◌, [], map, sym, ap, ◌∙◌}
use Rattle.std.proofs.lemmas.List.{map-append}
use Rattle.std.proofs.lemmas.List.Elements.{All-append, All-head, All-nil, All-same, All-tail}
use Rattle.program.specs.Parts.{contract_model, contract_parts}
use Rattle.source.specs.Findings.{finding_model}
use Rattle.explanations.specs.Explained.{explained_model}
use Rattle.explanations.specs.declared.line.Explained.{Explained}
use Rattle.singcheck.specs.Broken.{IsBrokenIn, found_of}
use Rattle.singcheck.specs.Explains.{IsShownIn}
use Rattle.singcheck.proofs.JudgeLemmas.{contract_within, found_push, shown_in}
use Rattle.singcheck.proofs.explaining.explain_contracts.Goals as goal

pub loop-one-init : goal.loop-one-init
loop-one-init c =
    let contracts = map contract_model c.args.resolved.now.contracts.items in
    let holds = λ (e : Explained). IsShownIn c.args.named contracts (explained_model e) in
    let none = c.new-found.ensures.items in
    record {
      same = ap (map (λ (e : Explained). finding_model e.finding)) none;
      each = All-same holds c.new-found.result.items [] none (All-nil holds);
      left = All-same (IsBrokenIn contracts) c.into_iter-one-iterator.result.rest.items c.args.broken.items c.into_iter-one-iterator.ensures.into_iter_gives.0 c.requires.each;
    }

pub edges-contract-requires : goal.edges-contract-requires
edges-contract-requires c =
    let contracts = c.args.resolved.now.contracts.items in
    contract_within contracts c.in-Some.one
    (All-head (IsBrokenIn (map contract_model contracts)) c.in-Some.one c.next.new.self.rest.items
    (All-same (IsBrokenIn (map contract_model contracts)) _ c.loop-one.one-iterator.rest.items (sym c.in-Some.ensures.steps.0) c.loop-one.invariant.left))

pub loop-one-preserved : goal.loop-one-preserved
loop-one-preserved c =
    let contracts = c.args.resolved.now.contracts.items in
    let all = map contract_model contracts in
    let finding = λ (e : Explained). finding_model e.finding in
    let holds = λ (e : Explained). IsShownIn c.args.named all (explained_model e) in
    let one = c.in-Some.one in
    let old = c.loop-one.found.items in
    let more = c.in_ok-more.more.items in
    let i = c.loop-one.invariant in
    let left = All-same (IsBrokenIn all) (one ∷ c.next.new.self.rest.items) c.loop-one.one-iterator.rest.items (sym c.in-Some.ensures.steps.0) i.left in
    let here = All-head (IsBrokenIn all) one c.next.new.self.rest.items left in
    record {
      same = ap (map finding) c.in_ok-append.ensures.items ∙ map-append finding old more ∙ ap (λ l. l ++ map finding more) i.same
          ∙ ap (λ l. found_of c.loop-one.yielded ++ l) c.in_ok-more.ensures.same ∙ sym (found_push c.loop-one.yielded one);
      each = All-same holds c.append.new.self.items (old ++ more) c.in_ok-append.ensures.items
          (All-append holds old more i.each (shown_in c.args.named contracts one (contract_parts c.edges-contract.result.now) more here c.edges-contract.ensures c.in_ok-more.ensures.same c.in_ok-more.ensures.shown));
      left = All-tail (IsBrokenIn all) one c.next.new.self.rest.items left;
    }
