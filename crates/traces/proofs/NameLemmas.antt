-- Names of messages, by the sound contracts of a program.
use Rattle.std.proofs.Common.{◌≡◌, ℕ, zero, suc, ◌<◌, ◌≤◌, List, [], ◌∷◌, length, get_or, map, Option, Some, None, slice_get, refl, sym, ap, ◌∙◌, arith}
use Rattle.std.specs.Option.{option_map, option_map_or}
use Rattle.std.proofs.lemmas.List.{length-map}
use Rattle.std.proofs.lemmas.Option.{slice_get-get_or, slice_get-map}
use Rattle.flow.specs.Graphs.{Instruction, instruction_model}
use Rattle.flow.specs.declared.graph.Instr.{Instr}
use Rattle.program.specs.Methods.{MethodModel, method_model}
use Rattle.program.specs.declared.method.Method.{Method}
use Rattle.contracts.specs.Leaving.{name_among}
use Rattle.contracts.specs.Sounds.{sound_parts}
use Rattle.contracts.specs.declared.sound.Sound.{Sound}
use Rattle.program.specs.Parts.{ContractModel}
use Rattle.program.specs.Programs.{ProgramModel}
use Rattle.program.specs.declared.types.HeapType.{HeapType}
use Rattle.program.specs.declared.types.HeapType.TheVariants.{Endpoint}
use Rattle.program.specs.declared.types.Side.{Side}
use Rattle.program.specs.declared.number.ContractId.{ContractId}
use Rattle.program.specs.declared.number.StateId.{StateId}
use Rattle.rules.specs.Endpoints.{message_name}

mapped : {A B C : Type 0} (f : A → B) (g : B → C) (d : C) (xs : List A) (n : ℕ) → option_map_or (λ a. g (f a)) (slice_get xs n) d ≡ option_map_or g (slice_get (map f xs) n) d
mapped f g d [] n = refl
mapped f g d (x ∷ xs) zero = refl
mapped f g d (x ∷ xs) (suc n) = mapped f g d xs n

-- the name of a message along an endpoint is that in its contract
pub name_along : (p : ProgramModel) (ty : Option HeapType) (contract : ContractId) (side : Side) (state : StateId) (sounds : List Sound) (message : ℕ) → Some (Endpoint contract side state) ≡ ty → map sound_parts sounds ≡ map (λ c. c.parts) p.contracts
    → option_map_or (λ s. name_among (sound_parts s).messages message) (slice_get sounds contract.0) [] ≡ message_name p ty message
name_along p ty contract side state sounds message is same =
    mapped sound_parts (λ parts. name_among parts.messages message) [] sounds contract.0
    ∙ ap (λ l. option_map_or (λ parts. name_among parts.messages message) (slice_get l contract.0) []) same
    ∙ sym (mapped (λ (c : ContractModel). c.parts) (λ parts. name_among parts.messages message) [] p.contracts contract.0)
    ∙ ap (λ k. message_name p k message) is

pub nothing_past : {X : Type 0} (xs : List X) (n : ℕ) → length xs ≤ n → slice_get xs n ≡ None
nothing_past [] n past = refl
nothing_past (x ∷ xs) zero past = absurd (omega (arith, past))
nothing_past (x ∷ xs) (suc n) past = nothing_past xs n (omega (arith, past))

-- a method by its number
pub method_at : (methods : List Method) (seen : List MethodModel) (n : ℕ) (m : Method) → map method_model methods ≡ seen → n < length seen → m ≡ get_or methods n m → slice_get seen n ≡ Some (method_model m)
method_at methods seen n m is there at =
    let inside : n < length methods = let same = ap length is in omega (arith, there, same, length-map methods method_model) in
    ap (λ l. slice_get l n) (sym is) ∙ slice_get-map method_model methods n ∙ ap (option_map method_model) (slice_get-get_or methods n m inside ∙ ap Some (sym at))

-- an instruction by its point
pub instruction_there : (items : List Instr) (seen : List Instruction) (n : ℕ) (i : Instr) → map instruction_model items ≡ seen → n < length items → i ≡ get_or items n i → Some (instruction_model i) ≡ slice_get seen n
instruction_there items seen n i is there at = sym (ap (λ l. slice_get l n) (sym is) ∙ slice_get-map instruction_model items n ∙ ap (option_map instruction_model) (slice_get-get_or items n i there ∙ ap Some (sym at)))

pub no_instruction : (items : List Instr) (seen : List Instruction) (n : ℕ) → map instruction_model items ≡ seen → length items ≤ n → None ≡ slice_get seen n
no_instruction items seen n is past = sym (ap (λ l. slice_get l n) (sym is) ∙ slice_get-map instruction_model items n ∙ ap (option_map instruction_model) (nothing_past items n past))
