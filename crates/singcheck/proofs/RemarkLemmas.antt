-- Mistakes in names that are explained one after another.
use Rattle.std.proofs.Common.{◌≡◌, ℕ, ◌+◌, ◌<◌, ◌≤◌, List, [], ◌∷◌, ◌++◌, Option, length, get_or, map, take, refl, sym, ap, subst, ◌∙◌}
use Rattle.std.specs.Prelude.{◌||◌, All, Bool, Some, is_some, nat_lt, slice_get}
use Rattle.std.proofs.lemmas.List.{map-append, take_all, take_more}
use Rattle.std.proofs.lemmas.List.Elements.{All-nil, All-push}
use Rattle.std.proofs.lemmas.Option.{slice_get-get_or}
use Rattle.std.specs.Prelude.{Err, IfOk, Ok, Result, option_map}
use Rattle.source.specs.Faults.{IsFault}
use Rattle.source.specs.Findings.{fault_findings, finding_model}
use Rattle.source.specs.declared.fault.Memory.{Memory}
use Rattle.source.specs.declared.fault.TextFault.{TextFault}
use Rattle.source.specs.declared.finding.Finding.{Finding}
use Rattle.source.specs.declared.place.Place.{Place}
use Rattle.declarations.specs.Mistakes.{finding_in}
use Rattle.declarations.specs.Program.{ProgramText}
use Rattle.declarations.specs.declared.mistake.Mistake.{Mistake}
use Rattle.names.specs.Findings.{program_findings, program_mistakes}
use Rattle.remarks.specs.FaultRemarks.{fault_remark}
use Rattle.explanations.specs.Explained.{explained_model}
use Rattle.explanations.specs.Lines.{line_model}
use Rattle.explanations.specs.declared.line.Explained.{Explained}
use Rattle.explanations.specs.declared.line.Line.{Line}
use Rattle.singcheck.specs.Remarked.{HasFault, IsMistake, most_searched, remark_lines, remark_within}

-- this many of the first mistakes are explained
pub record Remarked (named : Option Place) (p : ProgramText) (mistakes : List Mistake) (n : ℕ) (found : List Explained) : Type 0 where
  pub view : map (λ e. finding_model e.finding) found ≡ map (finding_in p.text) (take n mistakes)
  pub each : All (λ e. IsMistake named p (explained_model e)) found

pub remarked_none : (named : Option Place) (p : ProgramText) (mistakes : List Mistake) (found : List Explained) → found ≡ [] → Remarked named p mistakes 0 found
remarked_none named p mistakes [] none = record { view = refl; each = All-nil (λ (e : Explained). IsMistake named p (explained_model e)) }
remarked_none named p mistakes (x ∷ found) none = cc

pub remarked_more : (named : Option Place) (p : ProgramText) (mistakes : List Mistake) (n : ℕ) (d : Mistake) (within : Bool) (found : List Explained) (e : Explained) → n < length mistakes → mistakes ≡ program_mistakes p
    → within ≡ nat_lt n (most_searched p.text) || is_some named
    → finding_model e.finding ≡ finding_in p.text (get_or mistakes n d)
    → map line_model e.lines.items ≡ remark_lines named e.finding.place (remark_within within p (get_or mistakes n d))
    → Remarked named p mistakes n found
    → Remarked named p mistakes (n + 1) (found ++ e ∷ [])
remarked_more named p mistakes n d within found e lt all is finding lines so =
    let says = finding_in p.text in
    let m = get_or mistakes n d in
    record {
      view = map-append (λ (x : Explained). finding_model x.finding) found (e ∷ []) ∙ ap (λ l. l ++ finding_model e.finding ∷ []) so.view
          ∙ ap (λ f. map says (take n mistakes) ++ f ∷ []) finding ∙ sym (map-append says (take n mistakes) (m ∷ []))
          ∙ ap (map says) (sym (take_more mistakes n d lt));
      each = All-push (λ (x : Explained). IsMistake named p (explained_model x)) found e so.each
          (record {
            number = n;
            mistake = m;
            there = subst (λ l. slice_get l n ≡ Some m) all (slice_get-get_or mistakes n d lt);
            finding = finding;
            lines = lines ∙ ap (λ b. remark_lines named e.finding.place (remark_within b p m)) is;
          });
    }

pub remarked_all : (named : Option Place) (p : ProgramText) (mistakes : List Mistake) (n : ℕ) (found : List Explained) → length mistakes ≤ n → mistakes ≡ program_mistakes p → Remarked named p mistakes n found
    → map (λ e. finding_model e.finding) found ≡ program_findings p
remarked_all named p mistakes n found le all so = so.view ∙ ap (map (finding_in p.text)) (take_all n mistakes le ∙ all)

-- the first fault of a text, with its remark
pub faulty : (named : Option Place) (text : List ℕ) (fault : TextFault) (finding : Finding) (said : Option Line) → IsFault text fault
    → finding_model finding ∷ [] ≡ fault_findings fault → option_map line_model said ≡ fault_remark fault → (result : Result Explained Memory)
    → IfOk result (λ e. e.finding ≡ finding)
    → IfOk result (λ e. map line_model e.lines.items ≡ remark_lines named e.finding.place (option_map line_model said))
    → IfOk result (λ e. HasFault named text (explained_model e))
faulty named text fault finding said first told is (Ok e) same lines = record {
  fault = fault;
  first = first;
  finding = ap (λ (f : Finding). finding_model f ∷ []) same ∙ told;
  lines = lines ∙ ap (remark_lines named e.finding.place) is;
}
faulty named text fault finding said first told is (Err m) same lines = tt
