-- What the cases of a switch resolve to.
use denote.Param.Weighed.{at_most}
use Rattle.std.proofs.Common.{◌≡◌, ℕ, suc, ◌+◌, ◌<◌, ◌≤◌, List, [], ◌∷◌, ◌++◌, length, map, drop, get_or, sym, refl, ap, ◌∙◌, subst, add-one, arith}
use Rattle.std.specs.Prelude.{Vec}
use Rattle.std.specs.Global.{Global}
use Rattle.std.proofs.Math.Seq.{drop-cons}
use Rattle.std.proofs.lemmas.List.{drop_all, map-append}
use Rattle.source.specs.declared.place.Place.{Place}
use Rattle.tree.specs.StatementTrees as trees
use Rattle.tree.specs.StatementTrees.{CaseTree, CaseTrees, SwitchTree, case_tree, case_sequence, statement_tree, statement_sequence, switch_tree, behind_case}
use Rattle.tree.specs.declared.statement as stated
use Rattle.declarations.specs.Program.{ProgramText}
use Rattle.program.specs.Statements as seen
use Rattle.program.specs.Statements.{CaseModel, CasesModel, block_model, case_model}
use Rattle.program.specs.declared.number.VarId.{VarId}
use Rattle.program.specs.declared.statement.Awaited.{Awaited}
use Rattle.program.specs.declared.statement.Block as found_block
use Rattle.program.specs.declared.statement.Case as found_case
use Rattle.program.specs.declared.statement.Mention.{Mention}
use Rattle.resolving.specs.Binds.{binds_told}
use Rattle.resolving.specs.Frames.{IsLocalFrame}
use Rattle.resolving.specs.Locals.{LocalFrame}
use Rattle.resolving.specs.Steps.{IsResolvedPiece}
use Rattle.resolving.specs.Told.{ResolvedPiece, map_piece, block_of, awaited_as, awaited_message, awaited_params, case_endpoint, case_told, cases_told, statements_told}
use Rattle.resolving.specs.Staying.{Staying}
use Rattle.resolving.specs.declared.locals.Locals.{Locals}
use Rattle.resolving.proofs.SeenTwins.{case_made}
use Rattle.tree.proofs.StatementTwins.{case_is, switch_is}

-- what a case binds, and the frame after it
abbrev pub bound_in : ProgramText → stated.Case.Case → LocalFrame → ResolvedPiece (List VarId)
bound_in p case f = binds_told p (awaited_params (awaited_message p f case.endpoint case.message)) case.binds.items f

-- a case, part by part
pub case_ends : (p : ProgramText) (class : ℕ) (stays : Staying) (behind : Place) (f : LocalFrame) (case : stated.Case.Case) (endpoint : Mention) (awaited : Awaited) (bound : Vec VarId Global) (body : found_block.Block) (l : Locals)
    → (let m = awaited_message p f case.endpoint case.message in let t = statements_told p class stays (statement_sequence (map statement_tree case.statements.items)) (bound_in p case f).frame in
    endpoint ≡ case_endpoint p f case.endpoint → awaited ≡ awaited_as case.message m → bound.items ≡ (bound_in p case f).what → IsResolvedPiece p.text (block_of behind f t) (block_model body) l
    → IsResolvedPiece p.text (case_told p class stays behind (case_tree case) f) (case_model (found_case.roll-Case (record { endpoint = endpoint; awaited = awaited; targets = bound; body = body }))) l)
case_ends p class stays behind f case endpoint awaited bound body l at waits binds told =
    let m = awaited_message p f case.endpoint case.message in
    let whole = case_model (found_case.roll-Case (record { endpoint = endpoint; awaited = awaited; targets = bound; body = body })) in
    let first = (bound_in p case f).what in
    subst (λ k. IsResolvedPiece p.text (case_told p class stays behind k f) whole l) (sym (case_is case)) (record {
      is = case_made endpoint awaited bound body ∙ ap (λ e. seen.Case e awaited bound.items (block_model body)) at ∙ ap (λ w. seen.Case (case_endpoint p f case.endpoint) w bound.items (block_model body)) waits
          ∙ ap (λ b. seen.Case (case_endpoint p f case.endpoint) (awaited_as case.message m) b (block_model body)) binds ∙ ap (seen.Case (case_endpoint p f case.endpoint) (awaited_as case.message m) first) told.is;
      frame = told.frame;
    })

-- these cases, and then the rest
abbrev pub cases_before : List CaseModel → CasesModel → CasesModel
cases_before [] rest = rest
cases_before (c ∷ cs) rest = seen.MoreCases c (cases_before cs rest)

before_more : (done : List CaseModel) (c : CaseModel) (rest : CasesModel) → cases_before (done ++ c ∷ []) rest ≡ cases_before done (seen.MoreCases c rest)
before_more [] c rest = refl
before_more (d ∷ done) c rest = ap (seen.MoreCases d) (before_more done c rest)

before_none : (done : List CaseModel) → cases_before done seen.NoCase ≡ seen.case_sequence done
before_none [] = refl
before_none (d ∷ done) = ap (seen.MoreCases d) (before_none done)

-- the cases `done` are resolved; `next` comes now, and then `rest`
pub record CasesGo (p : ProgramText) (class : ℕ) (stays : Staying) (close : Place) (f : LocalFrame) (all : CaseTrees) (done : List CaseModel) (next : CaseTree) (rest : CaseTrees) (l : Locals) : Type 0 where
  pub here : LocalFrame
  pub stands : IsLocalFrame p.text here l
  pub whole : cases_told p class stays all close f ≡ map_piece (cases_before done) (cases_told p class stays (trees.MoreCases next rest) close here)

case_then : (p : ProgramText) (class : ℕ) (stays : Staying) (close : Place) (f : LocalFrame) (all : CaseTrees) (done : List CaseModel) (next : CaseTree) (after : CaseTree) (rest : CaseTrees) (l m : Locals) (x : CaseModel)
    → CasesGo p class stays close f all done next (trees.MoreCases after rest) l
    → ((g : LocalFrame) → IsLocalFrame p.text g l → IsResolvedPiece p.text (case_told p class stays (behind_case (trees.MoreCases after rest) close) next g) x m)
    → CasesGo p class stays close f all (done ++ x ∷ []) after rest m
case_then p class stays close f all done next after rest l m x go tell =
    let told = tell go.here go.stands in
    let t = case_told p class stays (behind_case (trees.MoreCases after rest) close) next go.here in
    let more = cases_told p class stays (trees.MoreCases after rest) close t.frame in
    record {
      here = t.frame;
      stands = told.frame;
      whole = go.whole ∙ ap (λ y. map_piece (λ w. cases_before done (seen.MoreCases y w)) more) (sym told.is) ∙ ap (λ (w : CasesModel). record { what = w; frame = more.frame }) (sym (before_more done x more.what));
    }

token_behind : (case : stated.Case.Case) (rest : CaseTrees) (close : Place) → behind_case (trees.MoreCases (case_tree case) rest) close ≡ case.word.place
token_behind case rest close = ap (λ c. behind_case (trees.MoreCases c rest) close) (case_is case)

-- no case is resolved yet
pub cases_start : (p : ProgramText) (class : ℕ) (stays : Staying) (close : Place) (f : LocalFrame) (first : CaseTree) (rest : CaseTrees) (l : Locals) → IsLocalFrame p.text f l → CasesGo p class stays close f (trees.MoreCases first rest) [] first rest l
cases_start p class stays close f first rest l h = record { here = f; stands = h; whole = refl }

-- one more case is resolved, and the next one follows
pub cases_more : (p : ProgramText) (class : ℕ) (stays : Staying) (close : Place) (f : LocalFrame) (all : CaseTrees) (done : List found_case.Case) (next : CaseTree) (others : List stated.Case.Case) (i : ℕ) (after : stated.Case.Case) (l m : Locals) (x : found_case.Case)
    → i < length others → after ≡ get_or others i after → CasesGo p class stays close f all (map case_model done) next (case_sequence (map case_tree (drop i others))) l
    → ((g : LocalFrame) → IsLocalFrame p.text g l → IsResolvedPiece p.text (case_told p class stays after.word.place next g) (case_model x) m)
    → CasesGo p class stays close f all (map case_model (done ++ x ∷ [])) (case_tree after) (case_sequence (map case_tree (drop (i + 1) others))) m
cases_more p class stays close f all done next others i after l m x lt is go tell =
    let seen_so : List CaseModel = map case_model done in
    let rest : CaseTrees = case_sequence (map case_tree (drop (i + 1) others)) in
    let sequence : case_sequence (map case_tree (drop i others)) ≡ trees.MoreCases (case_tree after) rest
    = ap (λ cs. case_sequence (map case_tree cs)) (drop-cons others i after lt ∙ ap (λ k. k ∷ drop (suc i) others) (sym is) ∙ ap (λ k. after ∷ drop k others) (sym (add-one i))) in
    subst (λ cs. CasesGo p class stays close f all cs (case_tree after) rest m) (sym (map-append case_model done (x ∷ [])))
    (case_then p class stays close f all seen_so next (case_tree after) rest l m (case_model x) (subst (λ cs. CasesGo p class stays close f all seen_so next cs l) sequence go)
    (λ g here. subst (λ k. IsResolvedPiece p.text (case_told p class stays k next g) (case_model x) m) (sym (token_behind after rest close)) (tell g here)))

-- the last case is resolved, and the switch ends
pub cases_end : (p : ProgramText) (class : ℕ) (stays : Staying) (close : Place) (f : LocalFrame) (all : CaseTrees) (done : List found_case.Case) (next : CaseTree) (others : List stated.Case.Case) (i : ℕ) (l m : Locals) (x : found_case.Case)
    → length others ≤ i → CasesGo p class stays close f all (map case_model done) next (case_sequence (map case_tree (drop i others))) l
    → ((g : LocalFrame) → IsLocalFrame p.text g l → IsResolvedPiece p.text (case_told p class stays close next g) (case_model x) m)
    → IsResolvedPiece p.text (cases_told p class stays all close f) (seen.case_sequence (map case_model (done ++ x ∷ []))) m
cases_end p class stays close f all done next others i l m x le go tell =
    let seen_so : List CaseModel = map case_model done in
    let none : case_sequence (map case_tree (drop i others)) ≡ trees.NoCase = ap (λ cs. case_sequence (map case_tree cs)) (drop_all i others le) in
    let last = subst (λ cs. CasesGo p class stays close f all seen_so next cs l) none go in
    let told = tell last.here last.stands in
    let t = case_told p class stays close next last.here in
    subst (λ w. IsResolvedPiece p.text w (seen.case_sequence (map case_model (done ++ x ∷ []))) m) (sym last.whole) (record {
      is = ap seen.case_sequence (map-append case_model done (x ∷ [])) ∙ sym (before_none (seen_so ++ case_model x ∷ [])) ∙ before_more seen_so (case_model x) seen.NoCase ∙ ap (λ y. cases_before seen_so (seen.MoreCases y seen.NoCase)) told.is;
      frame = told.frame;
    })

-- the cases of a switch in the tree are those in memory
pub switch_cases : (p : ProgramText) (class : ℕ) (stays : Staying) (f : LocalFrame) (s : stated.Switch.Switch)
    → (let parts = stated.Switch.out-Switch s in cases_told p class stays (trees.MoreCases (switch_tree s).first (case_sequence (switch_tree s).others)) (switch_tree s).close.place f
    ≡ cases_told p class stays (trees.MoreCases (case_tree parts.first) (case_sequence (map case_tree parts.others.items))) parts.close.place f)
switch_cases p class stays f s = ap (λ (t : SwitchTree). cases_told p class stays (trees.MoreCases t.first (case_sequence t.others)) t.close.place f) (switch_is s)

-- the first case of a switch is smaller than the switch
pub first_inside : (s : stated.Switch.Switch) → stated.Case.size-Case (stated.Switch.out-Switch s).first < stated.Switch.size-Switch s
first_inside s = let deep = stated.Switch.size_is-Switch s in omega (arith, deep)

-- and so is each further one
pub other_inside : (s : stated.Switch.Switch) (i : ℕ) (c : stated.Case.Case) → (let others = (stated.Switch.out-Switch s).others.items in i < length others → c ≡ get_or others i c → stated.Case.size-Case c < stated.Switch.size-Switch s)
other_inside s i c lt is =
    let others = (stated.Switch.out-Switch s).others.items in
    let deep = stated.Switch.size_is-Switch s in
    let less = at_most stated.Case.size-Case others i c lt in
    let same = ap stated.Case.size-Case is in
    omega (arith, deep, less, same)
