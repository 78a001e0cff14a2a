-- Lines of steps.
use Rattle.std.proofs.Common.{◌≡◌, Bool, ℕ, zero, suc, ◌<◌, ◌≤◌, List, [], ◌∷◌, ◌++◌, Option, Some, None, length, get_or, drop, slice_get, refl, sym, ap, ◌∙◌, arith, codes, append_assoc, if◌then◌else◌}
use Rattle.std.specs.List.{All, AllZip, list_all}
use Rattle.std.proofs.lemmas.List.Elements.{All-cons, All-nil}
use Rattle.std.proofs.lemmas.Option.{slice_get_within}
use Rattle.std.proofs.lemmas.List.{drop_all, map-append}
use Rattle.program.specs.Methods.{MethodModel}
use Rattle.program.specs.Programs.{ProgramModel}
use Rattle.source.specs.declared.place.Place.{Place}
use Rattle.flow.specs.Cases.{EntranceModel}
use Rattle.flow.specs.Graphs.{Instruction}
use Rattle.flow.specs.Lowering.{graph_of}
use Rattle.program.specs.declared.statement.Mention.{Mention}
use Rattle.rules.specs.Mentions.{name_of}
use Rattle.rules.specs.Outcomes.{Pair}
use Rattle.rows.specs.declared.row.Leaf.{Leaf}
use Rattle.rules.specs.Steps.{entry_of}
use Rattle.analyse.specs.Fronts.{Visit}
use Rattle.analyse.specs.Trails.{AreTrails}
use Rattle.analyse.specs.declared.trail.Trails.{Trails}
use Rattle.analyse.proofs.SearchLemmas.{view_at}
use Rattle.explanations.specs.Lines.{LineModel, line}
use Rattle.traces.specs.Lines.{came_at, case_line, case_lines, changes, changes_with, choice, keeps, move_in, path_lines, step_lines, takes}
use Rattle.traces.specs.Steps.{first_place}

module _ (p : ProgramModel) (m : MethodModel) where
  -- one more case
  pub lines_first : (taken : List EntranceModel) (c : EntranceModel) → first_place taken ≡ None → case_lines p m (taken ++ c ∷ []) ≡ case_lines p m taken ++ case_line p m (codes "case ") c ∷ []
  lines_first [] c e = refl
  lines_first (d ∷ taken) c e = cc

  pub lines_later : (taken : List EntranceModel) (c : EntranceModel) (at : Place) → first_place taken ≡ Some at → case_lines p m (taken ++ c ∷ []) ≡ case_lines p m taken ++ case_line p m (codes "or case ") c ∷ []
  lines_later [] c at e = cc
  lines_later (d ∷ taken) c at e = ap (λ ls. case_line p m (codes "case ") d ∷ ls) (map-append (case_line p m (codes "or case ")) taken (c ∷ []))

pub place_first : (taken : List EntranceModel) (c : EntranceModel) → first_place taken ≡ None → first_place (taken ++ c ∷ []) ≡ Some c.endpoint.place
place_first [] c e = refl
place_first (d ∷ taken) c e = cc

pub place_later : (taken : List EntranceModel) (c : EntranceModel) (at : Place) → first_place taken ≡ Some at → first_place (taken ++ c ∷ []) ≡ Some at
place_later [] c at e = cc
place_later (d ∷ taken) c at e = e

-- the lines of a step are those of its choice and of its changes
pub step_is : (p : ProgramModel) (m : MethodModel) (at : Option Instruction) (instruction : Instruction) (watched : List ℕ) (before after : Pair) (came : Place) (old mid new : List LineModel) → at ≡ Some instruction → mid ≡ old ++ choice p m instruction before after
    → came ≡ came_at p m instruction before after → new ≡ mid ++ changes p m came instruction watched before.1 after.1 → new ≡ old ++ step_lines p m at watched before after
step_is p m at instruction watched before after came old mid new is chose place changed =
    changed ∙ ap (λ ls. ls ++ changes p m came instruction watched before.1 after.1) chose
    ∙ ap (λ q. (old ++ choice p m instruction before after) ++ changes p m q instruction watched before.1 after.1) place
    ∙ append_assoc old (choice p m instruction before after) (changes p m (came_at p m instruction before after) instruction watched before.1 after.1)
    ∙ ap (λ o. old ++ step_lines p m o watched before after) (sym is)

drop-suc : {X : Type 0} (x : X) (xs : List X) (n : ℕ) → drop (suc n) (x ∷ xs) ≡ drop n xs
drop-suc x xs n = refl

-- the next step of a path
pub record NextStep (pairs : List Pair) (index : ℕ) (steps rest : List Pair) : Type 0 where
  pub next : Pair
  pub there : slice_get pairs index ≡ Some next
  pub are : steps ≡ next ∷ rest

pub next_step : (pairs : List Pair) (places : List ℕ) (steps : List Pair) (n d : ℕ) → AllZip (λ index x. slice_get pairs index ≡ Some x) places steps → n < length places → NextStep pairs (get_or places n d) (drop n steps) (drop (suc n) steps)
next_step pairs [] [] n d zip lt = absurd (omega (arith, lt))
next_step pairs [] (x ∷ steps) n d zip lt = absurd zip
next_step pairs (index ∷ places) [] n d zip lt = absurd zip
next_step pairs (index ∷ places) (x ∷ steps) zero d zip lt = record { next = x; there = zip.0; are = refl }
next_step pairs (index ∷ places) (x ∷ steps) (suc n) d zip lt =
    let s = next_step pairs places steps n d zip.1 (omega (arith, lt)) in record { next = s.next; there = s.there; are = s.are }

pub no_more_steps : (pairs : List Pair) (places : List ℕ) (steps : List Pair) (n : ℕ) → AllZip (λ index x. slice_get pairs index ≡ Some x) places steps → length places ≤ n → drop n steps ≡ []
no_more_steps pairs [] [] n zip past = drop_all n [] (omega arith)
no_more_steps pairs [] (x ∷ steps) n zip past = absurd zip
no_more_steps pairs (index ∷ places) [] n zip past = absurd zip
no_more_steps pairs (index ∷ places) (x ∷ steps) zero zip past = absurd (omega (arith, past))
no_more_steps pairs (index ∷ places) (x ∷ steps) (suc n) zip past = drop-suc x steps n ∙ no_more_steps pairs places steps n zip.1 (omega (arith, past))

pub one_pair : (a b : Pair) → Path (_) (Some a) (Some b) → a ≡ b
one_pair a b e = cc

-- one step further along a path
pub path_step : (p : ProgramModel) (m : MethodModel) (watched : List ℕ) (a b c : Pair) (rest now : List Pair) (old new whole : List LineModel) → now ≡ b ∷ rest → b ≡ c → new ≡ old ++ step_lines p m (slice_get (graph_of m).instructions a.0) watched a c
    → old ++ path_lines p m watched (a ∷ now) ≡ whole → new ++ path_lines p m watched (c ∷ rest) ≡ whole
path_step p m watched a b c rest now old new whole is same added before =
    ap (λ ls. ls ++ path_lines p m watched (c ∷ rest)) added
    ∙ append_assoc old (step_lines p m (slice_get (graph_of m).instructions a.0) watched a c) (path_lines p m watched (c ∷ rest))
    ∙ ap (λ x. old ++ path_lines p m watched (a ∷ x ∷ rest)) (sym same)
    ∙ ap (λ xs. old ++ path_lines p m watched (a ∷ xs)) (sym is)
    ∙ before

pub all_inside : (pairs : List Pair) (places : List ℕ) (steps : List Pair) → AllZip (λ index x. slice_get pairs index ≡ Some x) places steps → All (λ index. index < length pairs) places
all_inside pairs [] steps zip = All-nil (λ index. index < length pairs)
all_inside pairs (index ∷ places) [] zip = absurd zip
all_inside pairs (index ∷ places) (x ∷ steps) zip = All-cons (λ index. index < length pairs) index places (slice_get_within pairs index x zip.0) (all_inside pairs places steps zip.1)

-- the changes of a move
pub changes_of_move : (p : ProgramModel) (m : MethodModel) (came : Place) (i : Instruction) (watched : List ℕ) (before after : List Leaf) (target source : Mention) (kept : Bool) → move_in i ≡ Some (target, source) → list_all (keeps before after) watched ≡ kept
    → changes p m came i watched before after ≡ (if kept then [] else (line target.place (takes (name_of m target.variable.0) (name_of m source.variable.0)) ∷ []))
changes_of_move p m came i watched before after target source kept is same =
    ap (λ o. changes_with p m o came i watched before after) is
    ∙ ap (λ b. if b then [] else (line target.place (takes (name_of m target.variable.0) (name_of m source.variable.0)) ∷ [])) same

-- an instruction that is no move
pub no_move : (o : Option (Mention × Mention)) → ((move : Mention × Mention) → o ≡ Some move → ⊥) → o ≡ None
no_move None other = refl
no_move (Some move) other = absurd (other move refl)

-- the first pair that was seen is the entry
pub first_seen : (p : ProgramModel) (method : ℕ) (pairs : List Pair) (t : Trails) → AreTrails p method pairs t → slice_get pairs 0 ≡ Some (entry_of p method)
first_seen p method pairs t are = ap (λ l. slice_get l 0) are.are ∙ view_at (λ (v : Visit Pair). v.at) are.visits 0 _ are.spread.tree.first
