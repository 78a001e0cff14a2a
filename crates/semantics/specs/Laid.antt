-- A point, among instructions by their points, at which the method has still this to do.
use Rattle.std.specs.Prelude.{◌≡◌, ℕ, suc, List, [], ◌∷◌, Option, Some, None}
use Rattle.program.specs.Statements as stated
use Rattle.program.specs.declared.statement.Action.TheVariants.{Use}
use Rattle.program.specs.declared.statement.Mention.{Mention}
use Rattle.flow.specs.Cases.{EntranceModel}
use Rattle.flow.specs.Graphs as graph
use Rattle.flow.specs.Graphs.{Instruction}
use Rattle.flow.specs.Lowering.{block, branches}
use Rattle.semantics.specs.Rests.{Rest, Act, New, Send, Switch, If, While, Forget, Call, Start, Return, Stop, Missing}
use Rattle.semantics.specs.Rests.{Arms, NoArm, MoreArms}

module _ (at : ℕ → Option Instruction) where
  -- these instructions stand from a point on
  abbrev pub Stand : ℕ → List Instruction → Type 0
  Stand from [] = Unit {0}
  Stand from (i ∷ is) = (at from ≡ Some i) × Stand (suc from) is

  -- a Use of each mention leads from one point to the other
  abbrev pub ReadsTo : ℕ → List Mention → ℕ → Type 0
  ReadsTo from [] to = from ≡ to
  ReadsTo from (m ∷ ms) to = (n : ℕ) × ((at from ≡ Some (graph.Act (Use m) n)) × ReadsTo n ms to)

  abbrev mutual
    pub IsAt : ℕ → Rest → Type 0
    IsAt point (Act action next) = (n : ℕ) × ((at point ≡ Some (graph.Act action n)) × IsAt n next)
    IsAt point (New target arguments next) = (n : ℕ) × ((at point ≡ Some (graph.New target arguments n)) × IsAt n next)
    IsAt point (Send place endpoint message payloads next) =
        (n : ℕ) × ((at point ≡ Some (graph.Send place endpoint message payloads n)) × IsAt n next)
    IsAt point (Switch place arms) = (es : List EntranceModel) × ((at point ≡ Some (graph.Switch place es)) × AreAt es arms)
    IsAt point (If place ways inside past) =
        (i : ℕ) × ((p : ℕ) × ((at point ≡ Some (graph.Branch place (branches ways i p))) × (IsAt i inside × IsAt p past)))
    -- the block of a loop stands somewhere; it continues at the head of the loop
    IsAt point (While (stated.Test place mentions ways body) next) =
        (head : ℕ) × ((from : ℕ) × ((past : ℕ) × (ReadsTo head mentions point
        × ((at point ≡ Some (graph.Branch place (branches ways (block body past head from head).entry past)))
        × (Stand from (block body past head from head).instructions × IsAt past next)))))
    IsAt point (Forget forget next) = (n : ℕ) × ((at point ≡ Some (graph.Forget forget n)) × IsAt n next)
    IsAt point (Call place method arguments target next) =
        (n : ℕ) × ((at point ≡ Some (graph.Call place method arguments target n)) × IsAt n next)
    IsAt point (Start place method arguments next) =
        (n : ℕ) × ((at point ≡ Some (graph.Start place method arguments n)) × IsAt n next)
    IsAt point (Return place value scope) = at point ≡ Some (graph.Return place value scope)
    IsAt point (Stop place) = at point ≡ Some (graph.Stop place)
    IsAt point Missing = at point ≡ None

    pub AreAt : List EntranceModel → Arms → Type 0
    AreAt [] NoArm = Unit {0}
    AreAt [] (MoreArms endpoint awaited targets body others) = ⊥
    AreAt (e ∷ es) NoArm = ⊥
    AreAt (e ∷ es) (MoreArms endpoint awaited targets body others) =
        (e.endpoint ≡ endpoint) × ((e.awaited ≡ awaited) × ((e.targets ≡ targets) × (IsAt e.next body × AreAt es others)))
