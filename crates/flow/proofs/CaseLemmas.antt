-- The cases of a switch, which are laid from the last one on, and the switch laid after them.
use Rattle.std.proofs.Common.{◌≡◌, ℕ, ◌+◌, ◌<◌, ◌≤◌, List, [], ◌∷◌, ◌++◌, length, map, reverse, refl, sym, ap, ◌∙◌, arith, append_assoc, append-nil, length-append, subst, Vec}
use Rattle.std.specs.List.{All, push}
use Rattle.std.proofs.lemmas.List.{map-append, reverse-append, reverse-reverse}
use Rattle.std.specs.Global.{Global}
use Rattle.std.proofs.lemmas.List.Elements.{All-nil, All-cons, All-append}
use Rattle.source.specs.declared.place.Place.{Place}
use Rattle.program.specs.Statements as stated
use Rattle.program.specs.Statements.{StatementModel, BlockModel, CaseModel, IfModel, TestModel, statement_model, block_model, case_model, case_sequence, statement_step, block_step, case_step, if_step, test_step}
use Rattle.program.specs.declared.number.VarId.{VarId}
use Rattle.program.specs.declared.statement as made
use Rattle.program.specs.declared.statement.Awaited.{Awaited}
use Rattle.program.specs.declared.statement.Mention.{Mention}
use Rattle.program.specs.declared.statement.Statement.TheFolds as folds
use Rattle.program.specs.declared.statement.Statement.TheOpen as layer
use Rattle.program.specs.declared.statement.Statement.TheVariants as variants
use Rattle.flow.specs.declared.graph.Entrance.{Entrance}
use Rattle.flow.specs.declared.graph.Instr.{Instr}
use Rattle.flow.specs.declared.graph.Instr.TheVariants as instr
use Rattle.flow.specs.Cases.{EntranceModel, entrance_model}
use Rattle.flow.specs.Graphs.{Switch, cases_model, instruction_model}
use Rattle.flow.specs.declared.cases.Cases.{Cases}
use Rattle.flow.specs.Growths.{Grew, GrewCases, CasesBehind}
use Rattle.flow.specs.Lowering.{Lays, LaidCases, LaysCases, block, cases, case_before, no_cases, waits}
use Rattle.flow.proofs.BehindLemmas.{one_more}
use Rattle.flow.proofs.GrowthLemmas.{seen_length}
use Rattle.flow.proofs.WithinLemmas.{AllBelow, IsBelow, StaysBelow}

-- laid cases begin below a bound, and each of their instructions continues below it
pub record CasesBelow (n : ℕ) (laid : LaidCases) : Type 0 where
  pub begin : All (λ p. p < n) (map (λ e. e.next) laid.entrances)
  pub within : All (IsBelow n) laid.instructions

-- `CasesBelow` holds if everything is laid below the bound and the method continues below it
pub record CasesStay (n : ℕ) (a : LaysCases) : Type 0 where
  pub stay : (from next : ℕ) → next < n → from + length (a from next).instructions ≤ n → CasesBelow n (a from next)

pub none_stay : (n : ℕ) → CasesStay n no_cases
none_stay n = record { stay = λ from next h fits. record { begin = All-nil (λ p. p < n); within = All-nil (IsBelow n) } }

-- the entrance of a case: what it awaits, and where it begins
abbrev pub entrance_at : Mention → Awaited → List VarId → ℕ → EntranceModel
entrance_at endpoint awaited targets point = record { endpoint = endpoint; awaited = awaited; targets = targets; next = point }

-- `CasesStay` holds for a case before others, if it does for its body and for them
pub case_stays : (n : ℕ) (endpoint : Mention) (awaited : Awaited) (targets : List VarId) (body : Lays) (others : LaysCases) → StaysBelow n body → CasesStay n others → CasesStay n (case_before (entrance_at endpoint awaited targets) body others)
case_stays n endpoint awaited targets body others inner outer = record {
  stay = λ from next h fits.
      let rest = others from next in
      let first = body (from + length rest.instructions) next in
      let long = length-append rest.instructions first.instructions in
      let under : CasesBelow n rest = outer.stay from next h (omega arith) in
      let top : AllBelow n first = inner.stays (from + length rest.instructions) next h (omega arith) in
      record {
        begin = All-cons (λ p. p < n) first.entry (map (λ e. e.next) rest.entrances) top.begins under.begin;
        within = All-append (IsBelow n) rest.instructions first.instructions under.within top.within;
      };
}

-- a switch stays below a bound if its cases do, whatever point below it they are given as its end
pub waits_stay : (n : ℕ) (place : Place) (a : ℕ → LaysCases) → ((exit : ℕ) → exit < n → CasesStay n (a exit)) → StaysBelow n (waits place a)
waits_stay n place a inner = record {
  stays = λ from next h fits.
      let all = a next from next in
      let switch = Switch place all.entrances in
      let long = length-append all.instructions (switch ∷ []) in
      let under : CasesBelow n all = (inner next h).stay from next h (omega arith) in
      record {
        begins = omega arith;
        within = All-append (IsBelow n) all.instructions (switch ∷ []) under.within (All-cons (IsBelow n) switch [] under.begin (All-nil (IsBelow n)));
      };
}

-- the model of a case is made of the models of its parts
case_is : (c : made.Case.Case) → case_model c ≡ stated.Case c.endpoint c.awaited c.targets.items (block_model c.body)
case_is = folds.fold_out-Case StatementModel BlockModel CaseModel IfModel TestModel statement_step block_step case_step if_step test_step

-- the number of instructions after cases are laid
grew_cases_length : (old new : List Instr) (es : List EntranceModel) (laid : LaidCases) → GrewCases old new es laid → length new ≡ length old + length laid.instructions
grew_cases_length old new es laid g =
    sym (seen_length new) ∙ ap length g.instructions ∙ length-append (map instruction_model old) laid.instructions ∙ ap (λ n. n + length laid.instructions) (seen_length old)

-- `GrewCases` holds after one more case is laid
grew_case : (old mid new : List Instr) (es : List EntranceModel) (e : EntranceModel) (entrance : ℕ → EntranceModel) (body : Lays) (others : LaysCases) (entry next : ℕ) → GrewCases old mid es (others (length old) next) → Grew mid new entry (body (length mid) next) → e ≡ entrance entry
    → GrewCases old new (es ++ e ∷ []) (case_before entrance body others (length old) next)
grew_case old mid new es e entrance body others entry next g h is =
    let rest = others (length old) next in
    let at : length mid ≡ length old + length rest.instructions = grew_cases_length old mid es rest g in
    let first = body (length old + length rest.instructions) next in
    let same : body (length mid) next ≡ first = ap (λ n. body n next) at in
    record {
      instructions = h.instructions ∙ ap (λ l. map instruction_model mid ++ l.instructions) same ∙ ap (λ l. l ++ first.instructions) g.instructions ∙ append_assoc (map instruction_model old) rest.instructions first.instructions;
      entrances = ap (λ l. l ++ e ∷ []) g.entrances ∙ ap (λ x. reverse rest.entrances ++ x ∷ []) (is ∙ ap entrance (h.begins ∙ ap (λ l. l.entry) same)) ∙ sym (reverse-append (entrance first.entry ∷ []) rest.entrances);
    }

-- what these cases lay from a point on
abbrev pub laid_cases : (exit again from next : ℕ) → List made.Case.Case → LaidCases
laid_cases exit again from next done = cases (case_sequence (map case_model done)) exit again from next

-- `CasesBehind` holds before any case is laid
pub cases_begin : (all rest : List made.Case.Case) (old : List Instr) (exit again next : ℕ) → rest ≡ all → CasesBehind all rest [] old old [] (laid_cases exit again (length old) next)
cases_begin all rest old exit again next is = record {
  split = sym is ∙ sym (append-nil rest);
  grew = record { instructions = sym (append-nil (map instruction_model old)); entrances = refl };
}

-- `CasesBehind` holds after the next case is laid, in front of the laid ones
pub cases_go_on : {B : Type 0} (f : B → made.Case.Case) (all rest left : List made.Case.Case) (ys : List B) (y : B) (old mid new : List Instr) (es fs : List Entrance) (e : Entrance) (exit again entry next : ℕ) → rest ≡ push left (f y)
    → CasesBehind all rest (map f (reverse ys)) old mid (map entrance_model es) (laid_cases exit again (length old) next)
    → Grew mid new entry (block (block_model (f y).body) exit again (length mid) next)
    → entrance_model e ≡ entrance_at (f y).endpoint (f y).awaited (f y).targets.items entry → fs ≡ es ++ e ∷ []
    → CasesBehind all left (map f (reverse (ys ++ y ∷ []))) old new (map entrance_model fs) (laid_cases exit again (length old) next)
cases_go_on f all rest left ys y old mid new es fs e exit again entry next more b g is grown =
    let c = f y in
    let done = map f (reverse ys) in
    let others : LaysCases = cases (case_sequence (map case_model done)) exit again in
    let here : GrewCases old new (map entrance_model es ++ entrance_model e ∷ []) (case_before (entrance_at c.endpoint c.awaited c.targets.items) (block (block_model c.body) exit again) others (length old) next) =
    grew_case old mid new (map entrance_model es) (entrance_model e) (entrance_at c.endpoint c.awaited c.targets.items) (block (block_model c.body) exit again) others entry next b.grew g is in
    let row : GrewCases old new (map entrance_model es ++ entrance_model e ∷ []) (laid_cases exit again (length old) next (c ∷ done)) =
    subst (λ x. GrewCases old new (map entrance_model es ++ entrance_model e ∷ []) (cases (stated.MoreCases x (case_sequence (map case_model done))) exit again (length old) next)) (sym (case_is c)) here in
    let entrances = ap (map entrance_model) grown ∙ map-append entrance_model es (e ∷ []) in
    record {
      split = b.split ∙ ap (λ r. r ++ done) more ∙ append_assoc left (c ∷ []) done ∙ ap (λ d. left ++ d) (sym (one_more f ys y));
      grew = subst (λ d. GrewCases old new (map entrance_model fs) (laid_cases exit again (length old) next d)) (sym (one_more f ys y))
          (subst (λ l. GrewCases old new l (laid_cases exit again (length old) next (c ∷ done))) (sym entrances) row);
    }

map_reverse : {A B : Type 0} (f : A → B) (xs : List A) → map f (reverse xs) ≡ reverse (map f xs)
map_reverse f [] = refl
map_reverse f (x ∷ xs) = ap (map f) (reverse-append (x ∷ []) xs) ∙ map-append f (reverse xs) (x ∷ []) ∙ ap (λ l. l ++ f x ∷ []) (map_reverse f xs) ∙ sym (reverse-append (f x ∷ []) (map f xs))

-- a switch laid after its cases
pub switch_laid : (old mid new : List Instr) (place : Place) (a : ℕ → LaysCases) (es : List Entrance) (listed : List Entrance) (cs : Cases) (entry next : ℕ) → GrewCases old mid (map entrance_model es) (a next (length old) next) → listed ≡ reverse es
    → cases_model cs ≡ map entrance_model listed → new ≡ mid ++ instr.Switch place cs ∷ [] → entry ≡ length mid → Grew old new entry (waits place a (length old) next)
switch_laid old mid new place a es listed cs entry next g is same grown at =
    let all = a next (length old) next in
    let entrances : cases_model cs ≡ all.entrances = same ∙ ap (map entrance_model) is ∙ map_reverse entrance_model es ∙ ap reverse g.entrances ∙ reverse-reverse all.entrances in
    record {
      instructions = ap (map instruction_model) grown ∙ map-append instruction_model mid (instr.Switch place cs ∷ []) ∙ ap (λ l. map instruction_model mid ++ Switch place l ∷ []) entrances
          ∙ ap (λ l. l ++ Switch place all.entrances ∷ []) g.instructions ∙ append_assoc (map instruction_model old) all.instructions (Switch place all.entrances ∷ []);
      begins = at ∙ grew_cases_length old mid (map entrance_model es) all g;
    }

-- once all cases are laid, the instructions grew by those of all cases
pub cases_end : (all rest done : List made.Case.Case) (old new : List Instr) (es : List EntranceModel) (lays : List made.Case.Case → LaidCases) → length rest ≡ 0 → CasesBehind all rest done old new es lays → GrewCases old new es (lays all)
cases_end all [] done old new es lays none b = subst (λ d. GrewCases old new es (lays d)) (sym b.split) b.grew
cases_end all (x ∷ rest) done old new es lays none b = absurd (cc)

-- the model of a switch is made of the models of its cases
pub switch_model : (place : Place) (cs : Vec made.Case.Case Global) → statement_model (variants.Switch place cs) ≡ stated.Switch place (case_sequence (map case_model cs.items))
switch_model place cs = ap statement_model (sym (variants.rolls-Switch place cs)) ∙ folds.fold-roll-Statement StatementModel BlockModel CaseModel IfModel TestModel statement_step block_step case_step if_step test_step (layer.Switch place cs)
