-- A text has one program, one list of contracts, and findings in only one stage.
use Rattle.std.proofs.Common.{◌≡◌, ℕ, ◌+◌, ◌<◌, ◌≤◌, List, [], ◌∷◌, ◌++◌, length, take, drop, slice_get, refl, sym, ap, ◌∙◌, subst, arith, ⊎_elim, take-append-drop, map}
use Rattle.std.specs.Prelude.{Contains, ◌≢◌, All}
use Rattle.std.specs.List.{AllZip, concat}
use Rattle.std.proofs.Math.Logic.{∥∥₁_elim}
use Rattle.std.proofs.Math.Nat.{ℕ_set}
use Rattle.std.proofs.lemmas.Bool.{cases_lt}
use Rattle.std.proofs.lemmas.List.{append_assoc, append_cancel_right, take-take}
use Rattle.std.proofs.lemmas.List.Elements.{All-contains}
use Rattle.source.specs.Faults.{IsFault}
use Rattle.source.specs.Findings.{FindingModel, fault_findings}
use Rattle.source.specs.Tokens.{AreTokens}
use Rattle.source.specs.declared.fault.TextFault.{TextFault}
use Rattle.source.specs.declared.token.Token.{Token}
use Rattle.tree.specs.Spelled.{Spells, whole}
use Rattle.syntax.specs.Parsing.{IsFirstWrong, Viable}
use Rattle.tree.specs.Programs.{program}
use Rattle.tree.specs.Symbols.{Symbol, End, symbols}
use Rattle.tree.specs.Trees.{ItemTree, contracts_of}
use Rattle.program.specs.declared.contract.Sign.{Sign}
use Rattle.declarations.specs.Mistakes.{finding_in}
use Rattle.names.specs.Findings.{program_findings}
use Rattle.program.specs.Parts.{ContractModel}
use Rattle.declarations.specs.Resolution.{resolved_contracts}
use Rattle.program.specs.declared.contract.Edge.{Edge}
use Rattle.program.specs.declared.number.StateId.{StateId}
use Rattle.contracts.specs.Bounds.{IsBound}
use Rattle.contracts.specs.Conditions.{AreExactly, IsSound}
use Rattle.singcheck.specs.Answers.{IsBoundsReport, AreFindings, IsBoundsLine, IsBroken, IsFaulty, IsMisnamed, IsNoProgram, IsProgram, IsResolved, OfText, OfSyntax, OfNames, OfContracts, wrong_token}
use Rattle.singcheck.specs.Lines.{bounds_line, ok_line}
use Rattle.singcheck.proofs.one_answer.SameLemmas.{AreAlike, alike_exactly, alike_same, nothing_in}
use Rattle.machine.proofs.BoundLemmas.{least}

-- laws of the crates below about their own results
pub record Laws : Type 0 where
  pub tokens : (text : List ℕ) (a b : List Token) → AreTokens text a → AreTokens text b → a ≡ b
  pub fault : (text : List ℕ) (f g : TextFault) → IsFault text f → IsFault text g → f ≡ g
  pub none : (text : List ℕ) (tokens : List Token) (f : TextFault) → AreTokens text tokens → IsFault text f → ⊥
  pub trees : (s t : List ItemTree) → program s ≡ program t → s ≡ t

pub one_program : Laws → (text : List ℕ) (a b : List ItemTree) → IsProgram text a → IsProgram text b → a ≡ b
one_program laws text a b one other =
    let tokens : one.tokens ≡ other.tokens = laws.tokens text one.tokens other.tokens one.lexed other.lexed in
    let spelled : whole program a ≡ whole program b = one.spelled ∙ ap symbols tokens ∙ sym other.spelled in
    laws.trees a b (append_cancel_right (program a) (program b) (End ∷ []) spelled)

one_resolved : Laws → (text : List ℕ) (a b : List ContractModel) → IsResolved text a → IsResolved text b → a ≡ b
one_resolved laws text a b one other =
    let items = one_program laws text one.items other.items one.parsed other.parsed in
    one.are ∙ ap (λ l. resolved_contracts text (contracts_of l)) items ∙ sym other.are

-- if tokens begin a spelling, so does each front of them
shorter : (ss : List Symbol) (k j : ℕ) → k ≤ j → Viable (whole program) (take j ss) → Viable (whole program) (take k ss)
shorter ss k j le v = record {
  piece = v.piece;
  more = drop k (take j ss) ++ v.more;
  begins = v.begins ∙ ap (λ l. l ++ v.more) (sym (take-append-drop k (take j ss)) ∙ ap (λ l. l ++ drop k (take j ss)) (take-take k j ss le)) ∙ append_assoc (take k ss) (drop k (take j ss)) v.more;
}

not_before : (tokens : List Token) (k j : ℕ) → IsFirstWrong program tokens k → IsFirstWrong program tokens j → k < j → ⊥
not_before tokens k j one other lt = one.bad (shorter (symbols tokens) (k + 1) j (omega (arith, lt)) other.good)

one_number : (tokens : List Token) (k j : ℕ) → IsFirstWrong program tokens k → IsFirstWrong program tokens j → k ≡ j
one_number tokens k j one other = ⊎_elim
    (λ less. absurd (not_before tokens k j one other less))
    (λ more. ⊎_elim
    (λ less. absurd (not_before tokens j k other one less))
    (λ also. omega (arith, more, also))
    (cases_lt j k))
    (cases_lt k j)

-- a spelling has no wrong token
none_wrong : (tokens : List Token) (items : List ItemTree) (k : ℕ) → Spells program items tokens → IsFirstWrong program tokens k → ⊥
none_wrong tokens items k spelled wrong = wrong.bad (record {
  piece = items;
  more = drop (k + 1) (symbols tokens);
  begins = spelled ∙ sym (take-append-drop (k + 1) (symbols tokens));
})

text_or_program : Laws → (text : List ℕ) (found : List FindingModel) (items : List ItemTree) → IsFaulty text found → IsProgram text items → ⊥
text_or_program laws text found items faulty parsed = laws.none text parsed.tokens faulty.fault parsed.lexed faulty.first

syntax_or_program : Laws → (text : List ℕ) (found : List FindingModel) (items : List ItemTree) → IsNoProgram text found → IsProgram text items → ⊥
syntax_or_program laws text found items wrong parsed = none_wrong wrong.tokens items wrong.number (parsed.spelled ∙ ap symbols (laws.tokens text parsed.tokens wrong.tokens parsed.lexed wrong.lexed)) wrong.wrong

pub some_in : (found : List FindingModel) → found ≢ [] → (f : FindingModel) × Contains found f
some_in [] some = absurd (some refl)
some_in (f ∷ found) some = (f, (0, omega arith, refl))

names_or_clean : Laws → (text : List ℕ) (found : List FindingModel) (contracts : List ContractModel) → IsMisnamed text found → IsResolved text contracts → ⊥
names_or_clean laws text found contracts wrong resolved =
    let first = some_in found wrong.some in
    let same = one_program laws text wrong.items resolved.items wrong.parsed resolved.parsed in
    nothing_in first.0 (subst (λ l. Contains l first.0) (ap (λ l. program_findings (record { text = text; items = l })) same ∙ ap (map (finding_in text)) resolved.clean) (wrong.are.right first.0 first.1))

broken_or_sound : (contracts : List ContractModel) (f : FindingModel) → All (λ c. IsSound c.parts) contracts → IsBroken contracts f → ⊥
broken_or_sound contracts f sound broken = All-contains (λ c. IsSound c.parts) contracts broken.0 sound broken.1 f broken.2

-- a text with findings is not a program with sound contracts
pub found_or_sound : Laws → (text : List ℕ) (found : List FindingModel) (contracts : List ContractModel) → AreFindings text found → IsResolved text contracts → All (λ c. IsSound c.parts) contracts → ⊥
found_or_sound laws text found contracts (OfText h) resolved sound = text_or_program laws text found resolved.items h resolved.parsed
found_or_sound laws text found contracts (OfSyntax h) resolved sound = syntax_or_program laws text found resolved.items h resolved.parsed
found_or_sound laws text found contracts (OfNames h) resolved sound = names_or_clean laws text found contracts h resolved
found_or_sound laws text found contracts (OfContracts h) resolved sound =
    let first = some_in found h.some in
    let same = one_resolved laws text h.contracts contracts h.resolved resolved in
    broken_or_sound contracts first.0 sound (subst (λ l. IsBroken l first.0) same (h.are.right first.0 first.1))

-- a text with findings has no bounds
pub found_or_bounds : Laws → (text bytes : List ℕ) (found : List FindingModel) → AreFindings text found → IsBoundsReport text bytes → ⊥
found_or_bounds laws text bytes found h are = found_or_sound laws text found are.contracts h are.resolved are.sound

-- a text has one set of findings
pub one_findings : Laws → (text : List ℕ) (a b : List FindingModel) → AreFindings text a → AreFindings text b → AreAlike a b
one_findings laws text a b (OfText x) (OfText y) = alike_same a b (x.are ∙ ap fault_findings (laws.fault text x.fault y.fault x.first y.first) ∙ sym y.are)
one_findings laws text a b (OfText x) (OfSyntax y) = absurd (laws.none text y.tokens x.fault y.lexed x.first)
one_findings laws text a b (OfText x) (OfNames y) = absurd (text_or_program laws text a y.items x y.parsed)
one_findings laws text a b (OfText x) (OfContracts y) = absurd (text_or_program laws text a y.resolved.items x y.resolved.parsed)
one_findings laws text a b (OfSyntax x) (OfText y) = absurd (laws.none text x.tokens y.fault x.lexed y.first)
one_findings laws text a b (OfSyntax x) (OfSyntax y) =
    let tokens = laws.tokens text x.tokens y.tokens x.lexed y.lexed in
    let number = one_number y.tokens x.number y.number (subst (λ l. IsFirstWrong program l x.number) tokens x.wrong) y.wrong in
    alike_same a b (x.are ∙ ap (λ l. wrong_token text (slice_get l x.number) ∷ []) tokens ∙ ap (λ k. wrong_token text (slice_get y.tokens k) ∷ []) number ∙ sym y.are)
one_findings laws text a b (OfSyntax x) (OfNames y) = absurd (syntax_or_program laws text a y.items x y.parsed)
one_findings laws text a b (OfSyntax x) (OfContracts y) = absurd (syntax_or_program laws text a y.resolved.items x y.resolved.parsed)
one_findings laws text a b (OfNames x) (OfText y) = absurd (text_or_program laws text b x.items y x.parsed)
one_findings laws text a b (OfNames x) (OfSyntax y) = absurd (syntax_or_program laws text b x.items y x.parsed)
one_findings laws text a b (OfNames x) (OfNames y) =
    let same = one_program laws text x.items y.items x.parsed y.parsed in
    alike_exactly (Contains (program_findings (record { text = text; items = y.items }))) a b (subst (λ l. AreExactly (Contains (program_findings (record { text = text; items = l }))) a) same x.are) y.are
one_findings laws text a b (OfNames x) (OfContracts y) = absurd (names_or_clean laws text a y.contracts x y.resolved)
one_findings laws text a b (OfContracts x) (OfText y) = absurd (text_or_program laws text b x.resolved.items y x.resolved.parsed)
one_findings laws text a b (OfContracts x) (OfSyntax y) = absurd (syntax_or_program laws text b x.resolved.items y x.resolved.parsed)
one_findings laws text a b (OfContracts x) (OfNames y) = absurd (names_or_clean laws text b x.contracts y x.resolved)
one_findings laws text a b (OfContracts x) (OfContracts y) =
    let same = one_resolved laws text x.contracts y.contracts x.resolved y.resolved in
    alike_exactly (IsBroken y.contracts) a b (subst (λ l. AreExactly (IsBroken l) a) same x.are) y.are

one_bound : (edges : List Edge) (first : StateId) (sign : Sign) (m n : ℕ) → ∥ IsBound edges first sign m ∥₁ → ∥ IsBound edges first sign n ∥₁ → m ≡ n
one_bound edges first sign m n one other = ∥∥₁_elim one (ℕ_set m n) (λ x. ∥∥₁_elim other (ℕ_set m n) (λ y.
    let up = least edges first sign m n x y in
    let down = least edges first sign n m y x in
    omega (arith, up, down)))

one_line : (c : ContractModel) (l m : List ℕ) → IsBoundsLine c l → IsBoundsLine c m → l ≡ m
one_line c l m one other =
    let exp = one_bound c.parts.edges c.parts.first _ one.to_exp other.to_exp one.exp other.exp in
    let imp = one_bound c.parts.edges c.parts.first _ one.to_imp other.to_imp one.imp other.imp in
    one.is ∙ ap (λ n. bounds_line c.name n one.to_imp) exp ∙ ap (λ n. bounds_line c.name other.to_exp n) imp ∙ sym other.is

one_lines : (cs : List ContractModel) (ls ms : List (List ℕ)) → AllZip IsBoundsLine cs ls → AllZip IsBoundsLine cs ms → ls ≡ ms
one_lines [] [] [] one other = refl
one_lines [] [] (m ∷ ms) one other = absurd other
one_lines [] (l ∷ ls) ms one other = absurd one
one_lines (c ∷ cs) [] ms one other = absurd one
one_lines (c ∷ cs) (l ∷ ls) [] one other = absurd other
one_lines (c ∷ cs) (l ∷ ls) (m ∷ ms) one other = ap (λ x. x ∷ ls) (one_line c l m one.0 other.0) ∙ ap (λ x. m ∷ x) (one_lines cs ls ms one.1 other.1)

pub one_bounds : Laws → (text a b : List ℕ) → IsBoundsReport text a → IsBoundsReport text b → a ≡ b
one_bounds laws text a b one other =
    let same : one.contracts ≡ other.contracts = one_resolved laws text one.contracts other.contracts one.resolved other.resolved in
    let lines : one.lines ≡ other.lines = one_lines other.contracts one.lines other.lines (subst (λ l. AllZip IsBoundsLine l one.lines) same one.each) other.each in
    one.are ∙ ap (λ l. concat l ++ ok_line (length one.contracts)) lines ∙ ap (λ l. concat other.lines ++ ok_line (length l)) same ∙ sym other.are
