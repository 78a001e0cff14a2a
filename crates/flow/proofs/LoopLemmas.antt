-- Loops that are laid after others.
use Rattle.std.proofs.Common.{◌≡◌, ℕ, ◌+◌, List, [], ◌∷◌, ◌++◌, length, map, sym, ap, subst, ◌∙◌, append_assoc, length-append}
use Rattle.std.specs.Prelude.{slice_set}
use Rattle.std.proofs.Math.Seq.{set-append_seam}
use Rattle.std.proofs.lemmas.List.{map-append, map-set}
use Rattle.source.specs.declared.place.Place.{Place}
use Rattle.program.specs.declared.statement.Ways.{Ways}
use Rattle.flow.specs.declared.graph.Branches.{Branches}
use Rattle.flow.specs.declared.graph.Instr.{Instr}
use Rattle.flow.specs.declared.graph.Instr.TheVariants as instr
use Rattle.flow.specs.Graphs.{Branch, instruction_model}
use Rattle.flow.specs.Growths.{Grew}
use Rattle.flow.specs.Lowering.{Lays, branches, turns}
use Rattle.flow.proofs.GrowthLemmas.{seen_length, grew_length}

-- A loop: its Branch, what its condition reads, its block; then the Branch is overwritten with its two points.
pub grew_turns : (old one two three new : List Instr) (place : Place) (w : Ways) (blank : Branches) (test : Lays) (body : ℕ → ℕ → Lays) (branch head inside next : ℕ) → one ≡ old ++ instr.Branch place blank ∷ [] → branch ≡ length old → Grew one two head (test (length one) branch) → Grew two three inside (body next head (length two) head) → new ≡ slice_set three branch (instr.Branch place (branches w inside next)) → Grew old new head (turns place w test body (length old) next)
grew_turns old one two three new place w blank test body branch head inside next is at_end g h set =
    let long : length one ≡ length old + 1 = ap length is ∙ length-append old (instr.Branch place blank ∷ []) in
    let tests = test (length old + 1) (length old) in
    let same : test (length one) branch ≡ tests = λ j. test (long j) (at_end j) in
    let first : Grew one two head tests = subst (Grew one two head) same g in
    let wide : length two ≡ length old + 1 + length tests.instructions = grew_length one two head tests first ∙ ap (λ n. n + length tests.instructions) long in
    let inner = body next tests.entry (length old + 1 + length tests.instructions) tests.entry in
    let other : body next head (length two) head ≡ inner = λ j. body next (first.begins j) (wide j) (first.begins j) in
    let second : Grew two three inside inner = subst (Grew two three inside) other h in
    let all : map instruction_model three ≡ map instruction_model old ++ Branch place blank ∷ (tests.instructions ++ inner.instructions) =
    second.instructions ∙ ap (λ l. l ++ inner.instructions) (first.instructions ∙ ap (λ l. map instruction_model l ++ tests.instructions) is ∙ ap (λ l. l ++ tests.instructions) (map-append instruction_model old (instr.Branch place blank ∷ [])))
    ∙ ap (λ l. l ++ inner.instructions) (append_assoc (map instruction_model old) (Branch place blank ∷ []) tests.instructions)
    ∙ append_assoc (map instruction_model old) (Branch place blank ∷ tests.instructions) inner.instructions in
    record {
      instructions = ap (map instruction_model) set ∙ map-set instruction_model three branch (instr.Branch place (branches w inside next))
          ∙ (λ j. slice_set (all j) ((at_end ∙ sym (seen_length old)) j) (Branch place (branches w inside next)))
          ∙ set-append_seam (map instruction_model old) (Branch place blank) (tests.instructions ++ inner.instructions) (Branch place (branches w inside next))
          ∙ (λ j. map instruction_model old ++ Branch place (branches w (second.begins j) next) ∷ (tests.instructions ++ inner.instructions));
      begins = first.begins;
    }
