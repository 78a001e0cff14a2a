-- The instruction at which a frame is, and what follows a call.
use Rattle.std.proofs.Common.{◌≡◌, ℕ, ◌≤◌, List, [], ◌∷◌, ◌++◌, length, map, Option, None, Some, IsSomeAnd, slice_get, sym, ap, ◌∙◌, reverse}
use Rattle.std.specs.Prelude.{IsSome}
use Rattle.std.specs.Option.{option_map}
use Rattle.std.proofs.lemmas.List.{reverse-append}
use Rattle.std.proofs.lemmas.Option.{slice_get-map, slice_get_past}
use Rattle.program.specs.Methods.{MethodModel}
use Rattle.program.specs.Programs.{ProgramModel}
use Rattle.program.specs.declared.statement.Mention.{Mention}
use Rattle.flow.specs.declared.graph.Graph.{Graph}
use Rattle.flow.specs.declared.graph.Instr.{Instr}
use Rattle.flow.specs.Graphs.{GraphModel, graph_model, instruction_model}
use Rattle.flow.specs.Lowering.{graph_of}
use Rattle.machine.specs.Answers.{outcome_of_end, given_back, with_stack}
use Rattle.machine.specs.Frames.{call_next, call_target, instruction_at, method_at, point_instruction}
use Rattle.machine.specs.Outcomes.{QueueBounds, Moved}
use Rattle.machine.specs.Views.{frame_model, stack_of}
use Rattle.machine.specs.World.{World}
use Rattle.machine.specs.declared.worlds as made

-- the instruction at a point of a method
pub standing : (o : Option MethodModel) (g : Graph) (point : ℕ) (i : Option Instr) → IsSomeAnd o (λ s. graph_model g ≡ graph_of s) → slice_get g.instructions.items point ≡ i
    → option_map instruction_model i ≡ point_instruction o point
standing None g point i graph is = absurd graph
standing (Some s) g point i graph is =
    sym (ap (λ (h : GraphModel). slice_get h.instructions point) (sym graph) ∙ slice_get-map instruction_model g.instructions.items point ∙ ap (option_map instruction_model) is)

-- a method that does not exist has no instruction
pub nowhere : (p : ProgramModel) (n point : ℕ) → length p.methods ≤ n → None ≡ point_instruction (method_at p n) point
nowhere p n point past = sym (ap (λ o. point_instruction o point) (slice_get_past p.methods n past))

-- the waiting frame goes on
pub ended_goes : (p : ProgramModel) (bound : QueueBounds) (w : World) (self : ℕ) (value : Option Mention) (top : Option made.Frame.Frame) (waiting xs : List made.Frame.Frame) (g : made.Frame.Frame) (next : ℕ) (variables : List (Option ℕ))
    → IsSome top → waiting ≡ xs ++ g ∷ [] → next ≡ call_next (instruction_at p (frame_model g))
    → variables ≡ given_back value (call_target (instruction_at p (frame_model g))) (stack_of top xs) (frame_model g).variables
    → outcome_of_end p bound w self value (stack_of top waiting)
    ≡ Moved (with_stack w self (record { method = g.method.0; point = next; variables = variables } ∷ map frame_model (reverse xs)) w.blocks)
ended_goes p bound w self value None waiting xs g next variables there is n v = absurd (cc)
ended_goes p bound w self None (Some f) waiting xs g next variables there is n v =
    ap (λ ys. outcome_of_end p bound w self None (frame_model f ∷ map frame_model ys)) (ap reverse is ∙ reverse-append xs (g ∷ []))
    ∙ (ap (λ m. Moved (with_stack w self (record { method = g.method.0; point = m; variables = (frame_model g).variables } ∷ map frame_model (reverse xs)) w.blocks)) (sym n)
    ∙ ap (λ vs. Moved (with_stack w self (record { method = g.method.0; point = next; variables = vs } ∷ map frame_model (reverse xs)) w.blocks)) (sym v))
ended_goes p bound w self (Some v) (Some f) waiting xs g next variables there is n vs =
    ap (λ ys. outcome_of_end p bound w self (Some v) (frame_model f ∷ map frame_model ys)) (ap reverse is ∙ reverse-append xs (g ∷ []))
    ∙ (ap (λ m. Moved (with_stack w self (record { method = g.method.0; point = m; variables = given_back (Some v) (call_target (instruction_at p (frame_model g))) (stack_of (Some f) xs) (frame_model g).variables } ∷ map frame_model (reverse xs)) w.blocks)) (sym n)
    ∙ ap (λ us. Moved (with_stack w self (record { method = g.method.0; point = next; variables = us } ∷ map frame_model (reverse xs)) w.blocks)) (sym vs))
