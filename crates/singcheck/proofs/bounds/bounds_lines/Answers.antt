use Rattle.std.proofs.Common.{◌≡◌, ◌≤◌, ◌++◌, ◌∷◌, [], ◌∙◌, length, map, take, ap, subst, sym, arith, rules}
use Rattle.std.proofs.lemmas.List.{length-append, length-map}
use Rattle.std.proofs.lemmas.Slice.Zip.{zip_turn, zip_end}
use Rattle.program.specs.Parts.{ContractModel, contract_model}
use Rattle.contracts.specs.Sounds.{sound_parts}
use Rattle.singcheck.specs.Lines.{ok_line}
use Rattle.singcheck.proofs.BoundsLemmas.{AddsLines, paired, lines_turn, bounds_are}
use Rattle.singcheck.proofs.bounds.bounds_lines.Goals as goal

pub loop-contract-preserved : goal.loop-contract-preserved
loop-contract-preserved c =
    let cs = c.args.clean.now.resolved.contracts.items in
    let ss = c.args.clean.now.sounds.items in
    let turn = zip_turn cs ss c.loop-contract.yielded c.into_iter-contract-iterator.result c.loop-contract.contract-iterator c.next.new.self c.next.result (search rules) (search rules) c.loop-contract.yielded_by (c.in-Some.contract, c.in-Some.sound) c.in-Some.is c.next.ensures.steps in
    let more = lines_turn cs ss (length c.loop-contract.yielded) c.in-Some.contract.now c.in-Some.sound.now c.loop-contract.answer.items c.add_bounds_of.new.answer.items turn.0 turn.1 (turn.2 c.in-Some.contract.now) (turn.3 c.in-Some.sound.now) c.loop-contract.invariant c.in_ok-add_bounds_of.ensures in
    subst (λ n. AddsLines (take n (paired cs ss)) c.add_bounds_of.new.answer.items) (sym (length-append c.loop-contract.yielded ((c.in-Some.contract, c.in-Some.sound) ∷ []))) more

pub returns : goal.returns
returns c = λ text clean.
    let cs = c.args.clean.now.resolved.contracts.items in
    let ss = c.args.clean.now.sounds.items in
    let many = zip_end cs ss c.loop-contract.yielded c.into_iter-contract-iterator.result c.loop-contract.contract-iterator c.next.new.self c.next.result (search rules) (search rules) c.loop-contract.yielded_by c.in-None.is c.next.ensures.steps in
    let sounds = length-map ss sound_parts in
    let contracts = length-map cs contract_model in
    let parts = length-map (map contract_model cs) (λ (s : ContractModel). s.parts) in
    let alike = ap length clean.sounds in
    let whole : length cs ≤ length c.loop-contract.yielded = omega (arith, many, sounds, contracts, parts, alike) in
    let size : c.len.result ≡ length cs = omega (arith, c.len.ensures, c.args.clean.now.resolved.contracts.ok.0) in
    bounds_are text c.args.clean.now (length c.loop-contract.yielded) c.loop-contract.answer.items _ clean whole c.loop-contract.invariant (c.in_ok-add_contracts.ensures ∙ ap (λ k. c.loop-contract.answer.items ++ ok_line k) size)
