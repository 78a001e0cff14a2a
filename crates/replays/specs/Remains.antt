-- What a run leaves: a line for each process that has not ended, and one for each block that is not freed.
use Rattle.std.specs.Prelude.{ℕ, Bool, List, [], ◌∷◌, ◌++◌, get_or, false, codes, if◌then◌else◌}
use Rattle.std.specs.Fmt.{decimal}
use Rattle.std.specs.List.{enumerate_from, flat_map}
use Rattle.std.specs.Option.{option_map_or}
use Rattle.program.specs.declared.statement.Mention.{Mention}
use Rattle.flow.specs.Cases.{first_mentions}
use Rattle.flow.specs.Graphs.{Instruction, Switch}
use Rattle.machine.specs.Frames.{instruction_at}
use Rattle.machine.specs.Places.{place_of}
use Rattle.machine.specs.World.{Block, Frame, World, block_at}
use Rattle.machine.specs.declared.worlds.Owner.{Owner}
use Rattle.machine.specs.declared.worlds.Owner.TheVariants.{Freed}
use Rattle.replays.specs.EventLines.{at, name}
use Rattle.replays.specs.Names.{Words, type_name}
use Rattle.replays.specs.WorldLines.{block_text, owner_text, place_text}

-- a peer, and who owns it
abbrev pub peer_text : List Block → ℕ → List ℕ
peer_text blocks peer = codes "; peer " ++ (decimal peer ++ (codes ", owner " ++ owner_text (block_at blocks peer).owner))

module _ (w : Words) where
  -- an endpoint on which a frame waits, its peer, and who owns that: ` on a (block 0; peer 1, owner process 1)`
  abbrev pub endpoint_text : List Block → Frame → Mention → List ℕ
  endpoint_text blocks f x =
      codes " on " ++ (name w f x ++ (codes " (block " ++ (decimal (at w f x)
      ++ (peer_text blocks (block_at blocks (at w f x)).peer ++ codes ")"))))

  -- what a frame does at an instruction: at a switch it waits, on each of these endpoints; elsewhere it runs
  abbrev pub waits_text : List Block → Frame → Instruction → List ℕ
  waits_text blocks f (Switch place cases) = codes "waits" ++ flat_map (endpoint_text blocks f) (first_mentions [] cases)
  waits_text blocks f i = codes "runs"

  -- `P0 9:5 waits on a (block 0; peer 1, owner process 1)`, with its end
  abbrev pub waits_line : List Block → (process : ℕ) → Frame → Instruction → List ℕ
  waits_line blocks process f i =
      codes "P" ++ (decimal process ++ (codes " " ++ (place_text (place_of i) ++ (codes " " ++ (waits_text blocks f i ++ codes "\n")))))

  -- the line of a process with these frames; none if it has ended
  abbrev pub process_waits : List Block → (process : ℕ) → List Frame → List ℕ
  process_waits blocks process [] = []
  process_waits blocks process (f ∷ rest) = option_map_or (waits_line blocks process f) (instruction_at w.program f) []

  -- a line for each process that has not ended
  abbrev pub waits_lines : World → List ℕ
  waits_lines v = flat_map (λ q. process_waits v.blocks q.0 q.1) (enumerate_from 0 v.processes)

  -- what is printed of a block with this owner, and whether it is lost; nothing if it is freed
  abbrev pub owned_line : ℕ → Block → Bool → Owner → List ℕ
  owned_line a b lost Freed = []
  owned_line a b lost owner =
      codes "block " ++ (decimal a ++ (codes " " ++ (type_name w b.ty ++ (block_text w b owner
      ++ ((if lost then codes ", lost" else []) ++ codes "\n")))))

  -- a line for each block that is not freed: `block 2 Note owner channel, lost`; which blocks are lost is given by their addresses
  abbrev pub left_lines : List Block → (lost : List Bool) → List ℕ
  left_lines blocks lost = flat_map (λ b. owned_line b.0 b.1 (get_or lost b.0 false) b.1.owner) (enumerate_from 0 blocks)
