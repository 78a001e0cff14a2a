-- The lines of the bounds, one after another.
use Rattle.std.proofs.Common.{◌≡◌, ℕ, zero, suc, ◌+◌, ◌<◌, ◌≤◌, List, [], ◌∷◌, ◌++◌, length, map, take, get_or, refl, sym, ap, ◌∙◌, subst, add-one, arith}
use Rattle.std.specs.Prelude.{string_bytes}
use Rattle.std.specs.List.{AllZip, concat}
use Rattle.std.proofs.lemmas.List.{append_assoc, append-nil, length-map, take_all}
use Rattle.std.proofs.lemmas.Slice.Zip.{all_zipped_more}
use Rattle.program.specs.Parts.{contract_parts, ContractModel, contract_model}
use Rattle.program.specs.declared.contract.Contract.{Contract}
use Rattle.contracts.specs.Sounds.{sound_parts}
use Rattle.contracts.specs.declared.sound.Sound.{Sound}
use Rattle.singcheck.specs.Answers.{IsBoundsReport, IsBoundsLine}
use Rattle.singcheck.specs.Lines.{ok_line}
use Rattle.singcheck.specs.Judgements.{AddsLine, IsClean}
use Rattle.singcheck.specs.declared.bounds.Clean.{Clean}

-- a contract with the name of the first and the parts of the second
abbrev pub paired_with : Contract → Sound → ContractModel
paired_with c s = record { name = string_bytes c.name; parts = sound_parts s }

abbrev pub paired : List Contract → List Sound → List ContractModel
paired [] ss = []
paired (c ∷ cs) [] = []
paired (c ∷ cs) (s ∷ ss) = paired_with c s ∷ paired cs ss

-- the bytes are the lines of these contracts
pub record AddsLines (contracts : List ContractModel) (answer : List ℕ) : Type 0 where
  pub lines : List (List ℕ)
  pub each : AllZip IsBoundsLine contracts lines
  pub are : answer ≡ concat lines

concat_push : (lines : List (List ℕ)) (line : List ℕ) → concat (lines ++ line ∷ []) ≡ concat lines ++ line
concat_push [] line = append-nil line
concat_push (l ∷ ls) line = ap (λ rest. l ++ rest) (concat_push ls line) ∙ sym (append_assoc l (concat ls) line)

one_more : (contracts : List ContractModel) (c : ContractModel) (old new : List ℕ) → AddsLines contracts old → AddsLine c old new → AddsLines (contracts ++ c ∷ []) new
one_more contracts c old new so_far adds = record {
  lines = so_far.lines ++ adds.line ∷ [];
  each = all_zipped_more IsBoundsLine contracts so_far.lines c adds.line so_far.each adds.its;
  are = adds.added ∙ ap (λ l. l ++ adds.line) so_far.are ∙ sym (concat_push so_far.lines adds.line);
}

pair_at : (cs : List Contract) (ss : List Sound) (n : ℕ) (c : Contract) (s : Sound) → n < length cs → n < length ss → c ≡ get_or cs n c → s ≡ get_or ss n s → take (suc n) (paired cs ss) ≡ take n (paired cs ss) ++ paired_with c s ∷ []
pair_at [] ss n c s low high e f = absurd (omega (arith, low))
pair_at (x ∷ xs) [] n c s low high e f = absurd (omega (arith, high))
pair_at (x ∷ xs) (y ∷ ys) zero c s low high e f = ap (λ p. p ∷ []) (ap (λ z. paired_with z y) (sym e) ∙ ap (paired_with c) (sym f))
pair_at (x ∷ xs) (y ∷ ys) (suc n) c s low high e f = ap (λ l. paired_with x y ∷ l) (pair_at xs ys n c s (omega (arith, low)) (omega (arith, high)) e f)

pub lines_turn : (cs : List Contract) (ss : List Sound) (n : ℕ) (c : Contract) (s : Sound) (old new : List ℕ) → n < length cs → n < length ss → c ≡ get_or cs n c → s ≡ get_or ss n s → AddsLines (take n (paired cs ss)) old → AddsLine (paired_with c s) old new → AddsLines (take (n + 1) (paired cs ss)) new
lines_turn cs ss n c s old new low high e f so_far adds =
    rw add-one (subst (λ l. AddsLines l new) (sym (pair_at cs ss n c s low high e f)) (one_more (take n (paired cs ss)) (paired_with c s) old new so_far adds))

paired_is : (cs : List Contract) (ss : List Sound) → map sound_parts ss ≡ map (λ c. c.parts) (map contract_model cs) → paired cs ss ≡ map contract_model cs
paired_is [] ss e = refl
paired_is (c ∷ cs) [] e = absurd (cc)
paired_is (c ∷ cs) (s ∷ ss) e =
    let one : sound_parts s ≡ contract_parts c = cc in
    let rest : map sound_parts ss ≡ map (λ (x : ContractModel). x.parts) (map contract_model cs) = cc in
    let first : paired_with c s ≡ contract_model c = ap (λ p. record { name = string_bytes c.name; parts = p }) one in
    ap (λ p. p ∷ paired cs ss) first ∙ ap (λ l. contract_model c ∷ l) (paired_is cs ss rest)

-- after all lines and the number of the contracts, the bytes are the report of `bounds`
pub bounds_are : (text : List ℕ) (clean : Clean) (n : ℕ) (old new : List ℕ) → IsClean text clean → length clean.resolved.contracts.items ≤ n → AddsLines (take n (paired clean.resolved.contracts.items clean.sounds.items)) old → new ≡ old ++ ok_line (length clean.resolved.contracts.items) → IsBoundsReport text new
bounds_are text clean n old new is end so_far e =
    let all = map contract_model clean.resolved.contracts.items in
    let size = length-map clean.resolved.contracts.items contract_model in
    let whole : take n (paired clean.resolved.contracts.items clean.sounds.items) ≡ all
    = ap (take n) (paired_is clean.resolved.contracts.items clean.sounds.items is.sounds) ∙ take_all n all (omega (arith, size, end)) in
    let lines : AddsLines all old = subst (λ l. AddsLines l old) whole so_far in
    record {
      contracts = all;
      resolved = is.resolved;
      sound = is.sound;
      lines = lines.lines;
      each = lines.each;
      are = e ∙ ap (λ l. l ++ ok_line (length clean.resolved.contracts.items)) lines.are ∙ ap (λ k. concat lines.lines ++ ok_line k) (sym size);
    }
