-- Transfers: what an instruction does to a row, if that depends only on the leaves of one or two variables.
use Rattle.std.specs.Prelude.{ℕ, ◌==◌, Bool, true, not, ◌&&◌, List, [], Option, Some, None, option_map, set, if◌then◌else◌}
use Rattle.program.specs.Methods.{MethodModel}
use Rattle.program.specs.declared.statement.Action.{Action}
use Rattle.program.specs.declared.statement.Action.TheVariants as does
use Rattle.flow.specs.Graphs as graphs
use Rattle.flow.specs.Graphs.{Instruction}
use Rattle.rules.specs.Mentions.{is_lent}
use Rattle.rows.specs.Rows.{is_owned, leaf_at}
use Rattle.rows.specs.declared.row.Leaf.{Leaf}
use Rattle.rows.specs.declared.row.Leaf.TheVariants.{Nothing, Block}
use Rattle.rules.specs.declared.transfer.Transfer.{Transfer}
use Rattle.rules.specs.declared.transfer.Transfer.TheVariants.{Use, New, Move, Delete}

-- whether a row passes the checks that depend on it
abbrev pub allows : Transfer → List Leaf → Bool
allows (Use v) row = is_owned row v.0
allows (New v) row = not (is_owned row v.0)
allows (Move target source) row = is_owned row source.0 && not (is_owned row target.0)
allows (Delete v) row = is_owned row v.0

-- the row after the transfer
abbrev pub row_after_transfer : Transfer → List Leaf → List Leaf
row_after_transfer (Use v) row = row
row_after_transfer (New v) row = set row v.0 Block
row_after_transfer (Move target source) row = set (set row target.0 (leaf_at row source.0)) source.0 Nothing
row_after_transfer (Delete v) row = set row v.0 Nothing

-- whether the checks pass that do not depend on a row: nothing is given to itself, and nothing that is lent is taken or given
abbrev pub fits : MethodModel → Transfer → Bool
fits m (Use v) = true
fits m (New v) = not (is_lent m v.0)
fits m (Move target source) = not (target.0 == source.0) && (not (is_lent m source.0) && not (is_lent m target.0))
fits m (Delete v) = not (is_lent m v.0)

-- the transfer of an action, if it has one
abbrev pub transfer_of : Action → Option Transfer
transfer_of (does.Use at) = Some (Use at.variable)
transfer_of (does.Move target source) = Some (Move target.variable source.variable)
transfer_of (does.Delete at) = Some (Delete at.variable)
transfer_of _ = None

-- the transfer of an instruction and the point after it, if it has one
abbrev pub transfer_in : Instruction → Option (Transfer × ℕ)
transfer_in (graphs.Act action next) = option_map (λ t. (t, next)) (transfer_of action)
transfer_in (graphs.New at [] next) = Some (New at.variable, next)
transfer_in _ = None

-- that transfer, if it fits
abbrev pub fitting_transfer : MethodModel → Option (Transfer × ℕ) → Option (Transfer × ℕ)
fitting_transfer m None = None
fitting_transfer m (Some t) = if fits m t.0 then Some t else None

-- the transfer of an instruction, if there is an instruction and its transfer fits
abbrev pub transfer_at : MethodModel → Option Instruction → Option (Transfer × ℕ)
transfer_at m None = None
transfer_at m (Some instruction) = fitting_transfer m (transfer_in instruction)
