use Rattle.std.proofs.Common.{◌∙◌, map, ap, sym, subst, length, arith}
use Rattle.std.specs.Prelude.{All}
use Rattle.std.proofs.lemmas.List.{length-map}
use Rattle.std.proofs.lemmas.List.Elements.{All-same}
use Rattle.program.specs.Parts.{ContractModel, IsWhole, contract_model}
use Rattle.program.specs.Programs.{ProgramModel, contracts_model}
use Rattle.contracts.specs.Conditions.{IsSound}
use Rattle.contracts.specs.Sounds.{sound_parts}
use Rattle.singcheck.specs.Entered.{AreCleanSafe}
use Rattle.singcheck.specs.Fronts.{AreBrokenContracts}
use Rattle.singcheck.specs.Judgements.{IsJudgement}
use Rattle.singcheck.proofs.front.judged_program.Goals as goal

pub judge_contracts-requires : goal.judge_contracts-requires
judge_contracts-requires c =
    let resolved = c.contracts.result.now.contracts.items in
    let size = length-map resolved contract_model in
    let same = ap length c.contracts.ensures in
    record {
      whole = All-same (λ s. IsWhole s.parts) (map contract_model resolved) (contracts_model c.args.methods) c.contracts.ensures c.requires.whole;
      few = omega (arith, size, same, c.requires.few);
    }

pub clean_methods_are_safe-requires : goal.clean_methods_are_safe-requires
clean_methods_are_safe-requires c =
    let sounds = subst (IsJudgement (map contract_model c.contracts.result.now.contracts.items)) c.in-Sound.is c.in_ok-broken.ensures in
    record { sound = ap (map sound_parts) c.deref.ensures.value ∙ sounds.kept ∙ ap (map (λ (x : ContractModel). x.parts)) c.contracts.ensures }

pub new-requires : goal.new-requires
new-requires c =
    let sounds = subst (IsJudgement (map contract_model c.contracts.result.now.contracts.items)) c.in-Sound.is c.in_ok-broken.ensures in
    record { sound = sounds.kept ∙ ap (map (λ (x : ContractModel). x.parts)) c.contracts.ensures }

pub returns-in-Broken-clause-refused : goal.returns-in-Broken-clause-refused
returns-in-Broken-clause-refused c = λ text items named.
    let contracts = map contract_model c.contracts.result.now.contracts.items in
    record {
      resolved = record { items = items; parsed = named.names.parsed; clean = named.names.clean; are = ap (λ (q : ProgramModel). q.contracts) named.names.is };
      are = subst (λ l. AreBrokenContracts l c.in-Broken.broken.items) c.contracts.ensures
          (subst (IsJudgement contracts) c.in-Broken.is c.in_ok-broken.ensures);
    }

pub returns-in_ok-new-in-Sound-clause-program : goal.returns-in_ok-new-in-Sound-clause-program
returns-in_ok-new-in-Sound-clause-program c =
    let contracts = map contract_model c.contracts.result.now.contracts.items in
    let sounds = subst (IsJudgement contracts) c.in-Sound.is c.in_ok-broken.ensures in
    let same = c.in_ok-new-in-Sound.ensures in
    record {
      same = same;
      sound = subst (λ (p : ProgramModel). All (λ (s : ContractModel). IsSound s.parts) p.contracts) (sym same)
          (All-same (λ (s : ContractModel). IsSound s.parts) (contracts_model c.args.methods) contracts (sym c.contracts.ensures) sounds.sound);
      safe = subst AreCleanSafe (sym same) c.clean_methods_are_safe.ensures;
    }
