-- From the findings of methods, each with its trace, to the report of `why`.
use Rattle.std.proofs.Common.{◌≡◌, ◌↔◌, ℕ, ◌+◌, ◌<◌, ◌≤◌, inl, inr, List, [], ◌∷◌, ◌++◌, Option, length, get_or, map, take, refl, sym, ap, subst, arith, append_assoc, append-nil, ◌∙◌}
use Rattle.std.specs.Global.{Global}
use Rattle.std.specs.Prelude.{◌≢◌, All, Contains, Err, IfOk, Ok, Result, Vec}
use Rattle.std.specs.List.{flat_map}
use Rattle.std.specs.List.Sorted.{IsStrictlySortedBy}
use Rattle.std.proofs.lemmas.Grind.{flat_map-append}
use Rattle.std.proofs.lemmas.List.{length-map, take_all, take_more}
use Rattle.std.proofs.lemmas.List.Concat.{flat_map-cons}
use Rattle.std.proofs.lemmas.List.Folds.{flat_map-map}
use Rattle.std.proofs.lemmas.List.Elements.{All-cons, All-contains, All-contains_itself, All-map, All-nil, All-weaker, Contains-append_left, Contains-push}
use Rattle.source.specs.Findings.{FindingModel, finding_model}
use Rattle.source.specs.declared.fault.Memory.{Memory}
use Rattle.source.specs.declared.place.Place.{Place}
use Rattle.contracts.specs.Conditions.{AreExactly}
use Rattle.program.specs.Programs.{ProgramModel}
use Rattle.reports.specs.Orders.{report_cmp}
use Rattle.explanations.specs.Explained.{ExplainedModel, explained_model}
use Rattle.explanations.specs.Lines.{line_model}
use Rattle.explanations.specs.declared.line.Explained.{Explained}
use Rattle.explanations.specs.declared.line.Line.{Line}
use Rattle.program.specs.Parts.{ContractModel}
use Rattle.devices.specs.declared.fault.Status.TheVariants.{Empty, Found}
use Rattle.singcheck.specs.Answers.{AreFindings, IsProgram, OfNames, OfSyntax, OfText}
use Rattle.declarations.specs.Mistakes.{finding_in}
use Rattle.declarations.specs.declared.mistake.Mistake.{Mistake}
use Rattle.names.specs.Findings.{program_findings, program_mistakes}
use Rattle.tree.specs.Trees.{ItemTree}
use Rattle.singcheck.specs.Remarked.{HasFault, IsMistake}
use Rattle.singcheck.specs.Checks.{HasProgram, IsWrong}
use Rattle.singcheck.specs.Explains.{AreExplained, ByContract, ByFault, ByMistake, ByTokens, Explains, IsExplainedIn, IsExplainedFinding, IsShownIn, explained_bytes, explained_lines}
use Rattle.singcheck.specs.Lines.{clear_line, count_line, trace_line}
use Rattle.singcheck.specs.Broken.{found_of}
use Rattle.singcheck.specs.Fronts.{AreBrokenOf}
use Rattle.singcheck.specs.declared.soundness.BrokenContract.{BrokenContract}
use Rattle.singcheck.specs.Unexpected.{IsUnexpected}
use Rattle.singcheck.specs.declared.report.Report.{Report}
use Rattle.contracts.proofs.PartLemmas.{contains_map}
use Rattle.singcheck.proofs.JudgeLemmas.{none_of}
use Rattle.singcheck.proofs.StageLemmas.{unsound}

explained_view : (xs : List Explained) → map (λ (e : ExplainedModel). e.finding) (map explained_model xs) ≡ map (λ (e : Explained). finding_model e.finding) xs
explained_view [] = refl
explained_view (x ∷ xs) = ap (λ l. finding_model x.finding ∷ l) (explained_view xs)

-- all findings of the first stage with findings, in order
pub explains_noted : (named : Option Place) (text bytes : List ℕ) (found listed : List Explained) → AreExplained named text (map explained_model found)
    → ((f : FindingModel) → Contains (map (λ e. finding_model e.finding) listed) f ↔ Contains (map (λ e. finding_model e.finding) found) f) → ((e : Explained) → Contains listed e → Contains found e) → IsStrictlySortedBy report_cmp (map (λ e. finding_model e.finding) listed)
    → bytes ≡ explained_bytes (map explained_model listed) → Explains named text bytes Found
explains_noted named text bytes found listed all same among ordered bytes_are = inl (record {
  found = map (λ e. finding_model e.finding) found;
  are = subst (AreFindings text) (explained_view found) all.are;
  listed = map explained_model listed;
  same = subst (AreExactly (Contains (map (λ (e : Explained). finding_model e.finding) found))) (sym (explained_view listed)) (record { right = λ f h. (same f).0 h; all = λ f h. (same f).1 h });
  each = All-map (IsExplainedFinding named text) explained_model listed
      (All-weaker (Contains listed) (λ (e : Explained). IsExplainedFinding named text (explained_model e)) (λ e h. All-contains (λ (x : ExplainedModel). IsExplainedFinding named text x) (map explained_model found) (explained_model e) all.each (contains_map explained_model found e (among e h))) listed (All-contains_itself listed));
  ordered = subst (IsStrictlySortedBy report_cmp) (sym (explained_view listed)) ordered;
  is = bytes_are;
})

-- an unexpected token
pub syntax_explained : (named : Option Place) (text : List ℕ) (e : Explained) → IsUnexpected named text (explained_model e) → AreExplained named text (explained_model e ∷ [])
syntax_explained named text e is = record {
  are = OfSyntax (record { tokens = is.tokens; lexed = is.lexed; number = is.number; wrong = is.wrong; are = ap (λ f. f ∷ []) is.finding });
  each = All-cons (IsExplainedFinding named text) (explained_model e) [] (ByTokens is) (All-nil (IsExplainedFinding named text));
}

-- a fault of the text
pub fault_explained : (named : Option Place) (text : List ℕ) (e : Explained) → HasFault named text (explained_model e) → AreExplained named text (explained_model e ∷ [])
fault_explained named text e is = record {
  are = OfText (record { fault = is.fault; first = is.first; are = is.finding });
  each = All-cons (IsExplainedFinding named text) (explained_model e) [] (ByFault is) (All-nil (IsExplainedFinding named text));
}

-- all mistakes in the names of the text
pub names_explained : (named : Option Place) (text : List ℕ) (items : List ItemTree) (found : List Explained) → IsProgram text items
    → program_mistakes (record { text = text; items = items }) ≢ []
    → map (λ e. finding_model e.finding) found ≡ program_findings (record { text = text; items = items })
    → All (λ e. IsMistake named (record { text = text; items = items }) (explained_model e)) found → AreExplained named text (map explained_model found)
names_explained named text items found parsed some all each = record {
  are = OfNames (record {
    items = items;
    parsed = parsed;
    some = λ none. some (no_mistakes (program_mistakes (record { text = text; items = items })) (sym (explained_view found ∙ all) ∙ none));
    are = subst (AreExactly (Contains (program_findings (record { text = text; items = items })))) (sym (explained_view found ∙ all)) (record { right = λ f h. h; all = λ f h. h });
  });
  each = All-map (IsExplainedFinding named text) explained_model found (All-weaker (λ (e : Explained). IsMistake named (record { text = text; items = items }) (explained_model e)) (λ (e : Explained). IsExplainedFinding named text (explained_model e)) (λ e h. ByMistake (record { items = items; parsed = parsed; is = h })) found each);
}
  where
    no_mistakes : (ms : List Mistake) → map (finding_in text) ms ≡ [] → ms ≡ []
    no_mistakes [] none = refl
    no_mistakes (m ∷ ms) none = absurd (cc)

-- the findings of contracts, with the edges that show them
pub contracts_explained : (named : Option Place) (text : List ℕ) (contracts : List ContractModel) (broken : List BrokenContract) (found : List Explained) → AreBrokenOf text contracts broken → map (λ e. finding_model e.finding) found ≡ found_of broken
    → All (λ e. IsShownIn named contracts (explained_model e)) found → AreExplained named text (map explained_model found)
contracts_explained named text contracts broken found is same each = record {
  are = subst (AreFindings text) (sym (explained_view found ∙ same)) (unsound text contracts (found_of broken) is.resolved is.are.found);
  each = All-map (IsExplainedFinding named text) explained_model found (All-weaker (λ (e : Explained). IsShownIn named contracts (explained_model e)) (λ (e : Explained). IsExplainedFinding named text (explained_model e)) (λ e h. ByContract contracts is.resolved h) found each);
}

-- nothing is found
pub explains_clear : (named : Option Place) (p : ProgramModel) (found : List Explained) → found ≡ [] → AreExactly (IsWrong p) (map (λ e. finding_model e.finding) found) → (result : Result Report Memory) → IfOk result (λ r. r.bytes.items ≡ clear_line (length p.contracts) (length p.methods)) → IfOk result (λ r. r.status ≡ Empty)
    → IfOk result (λ r. (text : List ℕ) → HasProgram text p → Explains named text r.bytes.items r.status)
explains_clear named p found none are (Ok r) bytes is = λ text has. subst (Explains named text r.bytes.items) (sym is) (record {
  program = p;
  has = has;
  none = λ f w. none_of f (subst (λ l. Contains (map (λ e. finding_model e.finding) l) f) none (are.all f w));
  are = bytes;
})
explains_clear named p found none are (Err fault) bytes is = tt

-- something is found: the report has all findings in order, each with its trace
pub explains_reasons : (named : Option Place) (text bytes : List ℕ) (p : ProgramModel) (found listed : List Explained) → HasProgram text p → found ≢ [] → AreExactly (IsWrong p) (map (λ e. finding_model e.finding) found) → All (λ e. IsExplainedIn named p (explained_model e)) found
    → ((f : FindingModel) → Contains (map (λ e. finding_model e.finding) listed) f ↔ Contains (map (λ e. finding_model e.finding) found) f) → ((e : Explained) → Contains listed e → Contains found e) → IsStrictlySortedBy report_cmp (map (λ e. finding_model e.finding) listed)
    → bytes ≡ explained_bytes (map explained_model listed) → Explains named text bytes Found
explains_reasons named text bytes p found listed has some are each same among ordered is = inr (record {
  program = p;
  has = has;
  listed = map explained_model listed;
  some = λ none. absurd (some (all_gone found listed (no_mapped listed none) same));
  are = subst (AreExactly (IsWrong p)) (sym (explained_view listed)) (record { right = λ f h. are.right f ((same f).0 h); all = λ f w. (same f).1 (are.all f w) });
  each = All-map (IsExplainedIn named p) explained_model listed
      (All-weaker (Contains listed) (λ (e : Explained). IsExplainedIn named p (explained_model e)) (λ e h. All-contains (λ (x : Explained). IsExplainedIn named p (explained_model x)) found e each (among e h)) listed (All-contains_itself listed));
  ordered = subst (IsStrictlySortedBy report_cmp) (sym (explained_view listed)) ordered;
  is = is;
})
  where
    no_mapped : (xs : List Explained) → map explained_model xs ≡ [] → xs ≡ []
    no_mapped [] e = refl
    no_mapped (x ∷ xs) e = cc

    all_gone : (xs ys : List Explained) → ys ≡ [] → ((f : FindingModel) → Contains (map (λ (e : Explained). finding_model e.finding) ys) f ↔ Contains (map (λ (e : Explained). finding_model e.finding) xs) f) → xs ≡ []
    all_gone [] ys none alike = refl
    all_gone (x ∷ xs) ys none alike = absurd (none_of (finding_model x.finding) (subst (λ l. Contains (map (λ (e : Explained). finding_model e.finding) l) (finding_model x.finding)) none ((alike (finding_model x.finding)).1 (Contains-append_left (finding_model x.finding ∷ []) (map (λ (e : Explained). finding_model e.finding) xs) (finding_model x.finding) (Contains-push [] (finding_model x.finding))))))

pub no_explained : (found : List Explained) → length found ≡ 0 → found ≡ []
no_explained [] e = refl
no_explained (x ∷ found) e = absurd (omega (arith, e))

-- one more line of a trace
pub lines_more : (all : List Line) (n : ℕ) (d x : Line) (front old new : List ℕ) → n < length all → x ≡ get_or all n d → old ≡ front ++ flat_map (λ l. trace_line (line_model l)) (take n all) → new ≡ old ++ trace_line (line_model x)
    → new ≡ front ++ flat_map (λ l. trace_line (line_model l)) (take (n + 1) all)
lines_more all n d x front old new lt at before added =
    let each = λ (l : Line). trace_line (line_model l) in
    added ∙ ap (λ b. b ++ each x) before ∙ append_assoc front (flat_map each (take n all)) (each x)
    ∙ ap (λ b. front ++ (flat_map each (take n all) ++ b)) (ap each at ∙ sym (append-nil (each (get_or all n d))) ∙ sym (flat_map-cons each (get_or all n d) []))
    ∙ ap (λ b. front ++ b) (sym (flat_map-append each (take n all) (get_or all n d ∷ [])) ∙ ap (flat_map each) (sym (take_more all n d lt)))

-- all lines of a finding
pub lines_end : (all items : List Line) (n : ℕ) (old line new : List ℕ) → all ≡ items → length all ≤ n → new ≡ (old ++ line) ++ flat_map (λ l. trace_line (line_model l)) (take n all) → new ≡ old ++ (line ++ flat_map trace_line (map line_model items))
lines_end all items n old line new same over is =
    is ∙ ap (λ ls. (old ++ line) ++ flat_map (λ l. trace_line (line_model l)) ls) (take_all n all over ∙ same)
    ∙ ap (λ b. (old ++ line) ++ b) (sym (flat_map-map trace_line line_model items))
    ∙ append_assoc old line (flat_map trace_line (map line_model items))

-- the lines of all findings, and then their number
pub report_end : (all : List Explained) (n : ℕ) (answer new : List ℕ) → length all ≤ n → answer ≡ flat_map (λ e. explained_lines (explained_model e)) (take n all) → new ≡ answer ++ count_line (length all) → new ≡ explained_bytes (map explained_model all)
report_end all n answer new over is counted =
    counted
    ∙ ap (λ b. b ++ count_line (length all)) (is ∙ ap (flat_map (λ e. explained_lines (explained_model e))) (take_all n all over) ∙ sym (flat_map-map explained_lines explained_model all))
    ∙ ap (λ k. flat_map explained_lines (map explained_model all) ++ count_line k) (sym (length-map all explained_model))

-- contracts in a result
pub contracts_explained_if : (named : Option Place) (text : List ℕ) (contracts : List ContractModel) (broken : List BrokenContract) → AreBrokenOf text contracts broken → (result : Result (Vec Explained Global) Memory)
    → IfOk result (λ found. map (λ e. finding_model e.finding) found.items ≡ found_of broken)
    → IfOk result (λ found. All (λ e. IsShownIn named contracts (explained_model e)) found.items)
    → IfOk result (λ found. AreExplained named text (map explained_model found.items))
contracts_explained_if named text contracts broken is (Ok found) same each = contracts_explained named text contracts broken found.items is same each
contracts_explained_if named text contracts broken is (Err m) same each = tt

-- one finding with its lines
pub explained_alone : {named : Option Place} {text : List ℕ} (Is : ExplainedModel → Type 0)
    → ((e : Explained) → Is (explained_model e) → AreExplained named text (explained_model e ∷ [])) → (e : Explained) → Is (explained_model e)
    → (result : Result (Vec Explained Global) Memory) → IfOk result (λ found. found.items ≡ e ∷ [])
    → IfOk result (λ found. AreExplained named text (map explained_model found.items))
explained_alone {named} {text} Is all e is (Ok found) one = subst (λ l. AreExplained named text (map explained_model l)) (sym one) (all e is)
explained_alone Is all e is (Err m) one = tt
