-- Contracts are judged one after another.
use Rattle.std.proofs.Common.{◌≡◌, ℕ, zero, suc, ◌+◌, ◌<◌, List, [], ◌∷◌, ◌++◌, length, get_or, map, take, Option, Some, refl, sym, ap, ◌∙◌, subst, add-one, append-nil, arith, ⊎_elim}
use Rattle.std.specs.Prelude.{All, Contains, slice_get, ◌≢◌}
use Rattle.std.proofs.lemmas.Grind.{flat_map-append}
use Rattle.std.proofs.lemmas.Option.{get_or_from_slice_get, slice_get_within}
use Rattle.std.proofs.lemmas.List.{length-map, map-append}
use Rattle.std.proofs.lemmas.List.Elements.{All-head, Contains-append_left, Contains-append_right, Contains-append_cases, Contains-get_or, Contains-push, Contains-push_cases}
use Rattle.source.specs.Findings.{FindingModel, finding_model}
use Rattle.source.specs.declared.place.Place.{Place}
use Rattle.program.specs.Parts.{Parts, contract_parts, ContractModel, contract_model}
use Rattle.program.specs.declared.contract.Contract.{Contract}
use Rattle.contract_traces.specs.Shown.{IsShown}
use Rattle.contracts.proofs.PartLemmas.{contains_map}
use Rattle.contracts.specs.Conditions as conditions
use Rattle.contracts.specs.Conditions.{AreExactly, IsSound}
use Rattle.contracts.specs.Sounds.{sound_parts}
use Rattle.contracts.specs.declared.sound.Sound.{Sound}
use Rattle.explanations.specs.Explained.{explained_model}
use Rattle.explanations.specs.declared.line.Explained.{Explained}
use Rattle.singcheck.specs.Answers.{IsBroken}
use Rattle.singcheck.specs.Broken.{IsBrokenIn, findings_of, found_of}
use Rattle.singcheck.specs.Explains.{IsShownIn}
use Rattle.singcheck.specs.Fronts.{AreBrokenContracts}
use Rattle.singcheck.specs.Judgements.{JudgesContract, Keeps, Adds, AddsAll, AreJudged}
use Rattle.singcheck.specs.declared.soundness.BrokenContract.{BrokenContract}
use Rattle.singcheck.specs.declared.soundness.Judging.{Judging}

-- the parts at an index are those of the contract there
pub parts_at : (contracts : List Contract) (i : ℕ) (parts : Parts) (c : ContractModel) → slice_get (map contract_parts contracts) i ≡ Some parts → slice_get (map contract_model contracts) i ≡ Some c → c.parts ≡ parts
parts_at [] i parts c e f = absurd (cc)
parts_at (x ∷ xs) zero parts c e f =
    let one : contract_parts x ≡ parts = cc in
    let other : contract_model x ≡ c = cc in
    sym (ap (λ s. s.parts) other) ∙ one
parts_at (x ∷ xs) (suc i) parts c e f = parts_at xs i parts c e f

-- the contract whose parts are at an index
pub contract_there : (contracts : List Contract) (i : ℕ) (parts : Parts) → slice_get (map contract_parts contracts) i ≡ Some parts → (c : ContractModel) × (slice_get (map contract_model contracts) i ≡ Some c) × (c.parts ≡ parts)
contract_there [] i parts e = absurd (cc)
contract_there (x ∷ xs) zero parts e = (contract_model x, refl, let one : contract_parts x ≡ parts = cc in one)
contract_there (x ∷ xs) (suc i) parts e = contract_there xs i parts e

-- a contract with sound parts was added to the sound ones
pub keeps_is : (c : ContractModel) (parts : Parts) (old new : Judging) (sound : Sound) → c.parts ≡ parts → IsSound parts → sound_parts sound ≡ parts → new.sounds.items ≡ old.sounds.items ++ sound ∷ [] → new.broken.items ≡ old.broken.items → JudgesContract c old new
keeps_is c parts old new sound same is its e f = Keeps (record {
  sound = subst IsSound (sym same) is;
  kept = ap (map sound_parts) e ∙ map-append sound_parts old.sounds.items (sound ∷ []) ∙ ap (λ p. map sound_parts old.sounds.items ++ p ∷ []) (its ∙ sym same);
  same = f;
})

-- all findings of a contract were added
pub adds_is : (c : ContractModel) (some parts : Parts) (old new : Judging) → c.parts ≡ some → c.parts ≡ parts → (f : FindingModel) × conditions.IsFlaw some f → AddsAll parts old.broken.items new.broken.items → JudgesContract c old new
adds_is c some parts old new first same broken all = Adds (record {
  broken = (broken.0, subst (λ p. conditions.IsFlaw p broken.0) (sym first) broken.1);
  all = subst (λ p. AddsAll p old.broken.items new.broken.items) (sym same) all;
})

pub none_of : (f : FindingModel) → Contains [] f → ⊥
none_of f c = let below = c.1 in omega arith

-- the findings of some contracts and of one more
pub broken_more : (contracts : List ContractModel) (c : ContractModel) (old more new : List FindingModel) → AreExactly (IsBroken contracts) old → AreExactly (conditions.IsFlaw c.parts) more → new ≡ old ++ more → AreExactly (IsBroken (contracts ++ c ∷ [])) new
broken_more contracts c old more new so_far here added = record {
  right = λ f h. ⊎_elim
      (λ earlier. let r = so_far.right f earlier in (r.0, Contains-append_left contracts (c ∷ []) r.0 r.1, r.2))
      (λ its. (c, Contains-push contracts c, here.right f its))
      (Contains-append_cases old more f (subst (λ l. Contains l f) added h));
  all = λ f b. subst (λ l. Contains l f) (sym added) (⊎_elim
      (λ h. Contains-append_left old more f (so_far.all f (b.0, h, b.2)))
      (λ e. Contains-append_right old more f (here.all f (subst (λ x. conditions.IsFlaw x.parts f) (sym e) b.2)))
      (Contains-push_cases contracts c b.0 b.1));
}

-- one more contract was judged
pub judged_more : (contracts : List ContractModel) (c : ContractModel) (old new : Judging) → AreJudged contracts old → JudgesContract c old new → AreJudged (contracts ++ c ∷ []) new
judged_more contracts c old new so_far (Keeps k) = record {
  exactly = record {
    right = λ f h.
        let r = so_far.exactly.right f (subst (λ l. Contains (found_of l) f) k.same h) in
        (r.0, Contains-append_left contracts (c ∷ []) r.0 r.1, r.2);
    all = λ f b. subst (λ l. Contains (found_of l) f) (sym k.same) (⊎_elim
        (λ h. so_far.exactly.all f (b.0, h, b.2))
        (λ e. absurd (k.sound f (subst (λ x. conditions.IsFlaw x.parts f) (sym e) b.2)))
        (Contains-push_cases contracts c b.0 b.1));
  };
  kept = λ e. k.kept ∙ ap (λ l. l ++ c.parts ∷ []) (so_far.kept (sym k.same ∙ e)) ∙ sym (map-append (λ (x : ContractModel). x.parts) contracts (c ∷ []));
}
judged_more contracts c old new so_far (Adds a) =
    let exactly = broken_more contracts c (found_of old.broken.items) a.all.more (found_of new.broken.items) so_far.exactly a.all.exactly a.all.added in
    record {
      exactly = exactly;
      kept = λ e. absurd (none_of a.broken.0 (subst (λ l. Contains (found_of l) a.broken.0) e (exactly.all a.broken.0 (c, Contains-push contracts c, a.broken.1))));
    }

-- the contract at an index, and the contracts up to it
pub at_turn : (all : List ContractModel) (n : ℕ) → n < length all → (c : ContractModel) × (slice_get all n ≡ Some c) × (take (suc n) all ≡ take n all ++ c ∷ [])
at_turn [] n lt = absurd (omega (arith, lt))
at_turn (x ∷ xs) zero lt = (x, refl, refl)
at_turn (x ∷ xs) (suc n) lt = let r = at_turn xs n (omega arith) in (r.0, r.1, ap (λ l. x ∷ l) r.2)

pub judged_turn : (all : List ContractModel) (n : ℕ) (old new : Judging) → n < length all → AreJudged (take n all) old → ((c : ContractModel) → slice_get all n ≡ Some c → JudgesContract c old new) → AreJudged (take (n + 1) all) new
judged_turn all n old new lt so_far judges =
    let r = at_turn all n lt in
    rw add-one (subst (λ l. AreJudged l new) (sym r.2) (judged_more (take n all) r.0 old new so_far (judges r.0 r.1)))

pub broken_turn : (all : List ContractModel) (n : ℕ) (old more new : List FindingModel) → n < length all → AreExactly (IsBroken (take n all)) old → ((c : ContractModel) → slice_get all n ≡ Some c → AreExactly (conditions.IsFlaw c.parts) more) → new ≡ old ++ more → AreExactly (IsBroken (take (n + 1) all)) new
broken_turn all n old more new lt so_far here added =
    let r = at_turn all n lt in
    rw add-one (subst (λ l. AreExactly (IsBroken l) new) (sym r.2) (broken_more (take n all) r.0 old more new so_far (here r.0 r.1) added))

-- no contracts have no findings
pub broken_none : AreExactly (IsBroken []) []
broken_none = record { right = λ f h. absurd (none_of f h); all = λ f b. absurd (let below = b.1.1 in omega arith) }

pub no_items : {A : Type 0} (found : List A) → length found ≡ 0 → found ≡ []
no_items [] e = refl
no_items (x ∷ xs) e = absurd (omega (arith, e))

-- if something was found, these are all findings of the contracts
pub found_all : (contracts : List ContractModel) (judging : Judging) → AreJudged contracts judging → All (IsBrokenIn contracts) judging.broken.items → 0 < length judging.broken.items → AreBrokenContracts contracts judging.broken.items
found_all contracts judging judged each some = record { found = record { some = some_found judging.broken.items each some; are = judged.exactly }; each = each }
  where
    some_found : (broken : List BrokenContract) → All (IsBrokenIn contracts) broken → 0 < length broken → found_of broken ≢ []
    some_found [] each h = λ _. absurd (omega (arith, h))
    some_found (b ∷ bs) each h = λ none.
        let first = All-head (IsBrokenIn contracts) b bs each in
        absurd (none_of first.first (subst (λ l. Contains l first.first) none (Contains-append_left (findings_of b) (found_of bs) first.first first.some)))

-- the findings of one more contract
pub found_push : (broken : List BrokenContract) (b : BrokenContract) → found_of (broken ++ b ∷ []) ≡ found_of broken ++ findings_of b
found_push broken b = flat_map-append findings_of broken (b ∷ []) ∙ ap (λ l. found_of broken ++ l) (append-nil (findings_of b))

-- if nothing was found, each contract is sound
pub clean_all : (contracts : List ContractModel) (judging : Judging) → AreJudged contracts judging → judging.broken.items ≡ [] → All (λ c. IsSound c.parts) contracts
clean_all contracts judging judged none = λ k d lt f broken. none_of f (subst (λ l. Contains (found_of l) f) none (judged.exactly.all f (_, Contains-get_or contracts k d lt, broken)))

-- the number of a contract with findings
pub contract_within : (contracts : List Contract) (b : BrokenContract) → IsBrokenIn (map contract_model contracts) b → b.contract.0 < length contracts
contract_within contracts b is = let lt = slice_get_within (map contract_model contracts) b.contract.0 is.contract is.there in let size = length-map contracts contract_model in omega (arith, lt, size)

-- what is shown of the findings of one contract
pub shown_in : (named : Option Place) (contracts : List Contract) (b : BrokenContract) (parts : Parts) (more : List Explained) → IsBrokenIn (map contract_model contracts) b → slice_get (map contract_parts contracts) b.contract.0 ≡ Some parts
    → map (λ e. finding_model e.finding) more ≡ findings_of b → All (λ e. IsShown named parts (explained_model e)) more → All (λ e. IsShownIn named (map contract_model contracts) (explained_model e)) more
shown_in named contracts b parts more is at same shown =
    let own = parts_at contracts b.contract.0 parts is.contract at is.there in
    λ k d lt. record {
      contract = is.contract;
      there = (b.contract.0, slice_get_within (map contract_model contracts) b.contract.0 is.contract is.there, get_or_from_slice_get (map contract_model contracts) b.contract.0 is.contract is.contract is.there);
      flaw = is.exactly.right (finding_model (get_or more k d).finding)
          (subst (λ l. Contains l (finding_model (get_or more k d).finding)) same (contains_map (λ (e : Explained). finding_model e.finding) more (get_or more k d) (Contains-get_or more k d lt)));
      shown = subst (λ p. IsShown named p (explained_model (get_or more k d))) (sym own) (shown k d lt);
    }
