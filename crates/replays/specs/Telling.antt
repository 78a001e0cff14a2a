-- For proofs within the crate: an event as the code has it.
use Rattle.std.specs.Prelude.{ℕ, List, map}
use Rattle.flow.specs.Graphs.{Instruction}
use Rattle.machine.specs.Views.{frame_model, world_model}
use Rattle.replays.specs.EventLines.{TraceWords, step_line, step_text}
use Rattle.replays.specs.Naming.{words_of}
use Rattle.replays.specs.declared.sites.EventSite.{EventSite}
use Rattle.replays.specs.declared.tracer.Tracer.{Tracer}

-- where the names of its line come from
abbrev pub site_words : EventSite → TraceWords
site_words s = record { words = words_of s.at.naming.now; methods = map (λ name. name.items) s.methods.now; detail = s.detail }

-- what the event does if its frame is at this instruction
abbrev pub site_text : EventSite → Instruction → List ℕ
site_text s = step_text (site_words s) (world_model s.world.now) s.event (frame_model s.at.frame.now) s.callers

-- the line of the event if its frame is at this instruction
abbrev pub site_line : EventSite → Instruction → List ℕ
site_line s = step_line (site_words s) (world_model s.world.now) s.event (frame_model s.at.frame.now) s.callers

-- where the names in lines come from
abbrev pub tracer_words : Tracer → TraceWords
tracer_words t = record { words = words_of t.naming; methods = map (λ name. name.items) t.methods.now; detail = t.detail }
