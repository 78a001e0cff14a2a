-- Instructions that are laid after others.
use Rattle.std.proofs.Common.{◌≡◌, ℕ, ◌+◌, List, [], ◌∷◌, ◌++◌, length, map, refl, sym, ap, ◌∙◌, append_assoc, length-append, append-nil}
use Rattle.std.proofs.lemmas.List.{length-map, map-append}
use Rattle.flow.specs.declared.graph.Instr.{Instr}
use Rattle.flow.specs.Graphs.{Instruction, instruction_model}
use Rattle.flow.specs.Growths.{Grew}
use Rattle.flow.specs.Lowering.{Laid, Lays, nothing, one, both}

-- there are as many models as instructions
pub seen_length : (xs : List Instr) → length (map instruction_model xs) ≡ length xs
seen_length xs = length-map xs instruction_model

-- the number of instructions after a piece is laid
pub grew_length : (old new : List Instr) (entry : ℕ) (laid : Laid) → Grew old new entry laid → length new ≡ length old + length laid.instructions
grew_length old new entry laid g =
    sym (seen_length new) ∙ ap length g.instructions ∙ length-append (map instruction_model old) laid.instructions ∙ ap (λ n. n + length laid.instructions) (seen_length old)

-- nothing is laid
pub grew_none : (old : List Instr) (next : ℕ) → Grew old old next (nothing (length old) next)
grew_none old next = record { instructions = sym (append-nil (map instruction_model old)); begins = refl }

-- one instruction
pub grew_one : (old new : List Instr) (at next : ℕ) (i : Instr) (f : ℕ → Instruction) → new ≡ old ++ i ∷ [] → at ≡ length old → instruction_model i ≡ f next → Grew old new at (one f (length old) next)
grew_one old new at next i f is at_end e = record {
  instructions = ap (map instruction_model) is ∙ map-append instruction_model old (i ∷ []) ∙ ap (λ p. map instruction_model old ++ p ∷ []) e;
  begins = at_end;
}

-- the second piece is laid, then the first
pub grew_both : (old mid new : List Instr) (a b : Lays) (behind entry next : ℕ) → Grew old mid behind (b (length old) next) → Grew mid new entry (a (length mid) behind) → Grew old new entry (both a b (length old) next)
grew_both old mid new a b behind entry next first second =
    let below = b (length old) next in
    let at : length mid ≡ length old + length below.instructions = grew_length old mid behind below first in
    let same : a (length mid) behind ≡ a (length old + length below.instructions) below.entry = λ j. a (at j) (first.begins j) in
    let above = a (length old + length below.instructions) below.entry in
    record {
      instructions = second.instructions ∙ ap (λ (l : Laid). map instruction_model mid ++ l.instructions) same ∙ ap (λ l. l ++ above.instructions) first.instructions ∙ append_assoc (map instruction_model old) below.instructions above.instructions;
      begins = second.begins ∙ ap (λ (l : Laid). l.entry) same;
    }
