use Rattle.std.proofs.Common.{◌≡◌, ◌++◌, map, take}
use Rattle.tree.specs.Trees.{message_tree}
use Rattle.declarations.specs.Program.{ProgramText}
use Rattle.resolving.specs.Around.{IsDirectory}
use Rattle.resolving.specs.Brought.{payload_types}
use Rattle.program.specs.Programs.{type_lists}
use Rattle.resolving.proofs.brought.add_messages.Given as goal

abbrev pub invariant-loop-message : goal.invariant-loop-message
invariant-loop-message l = (p : ProgramText) → IsDirectory p l.directory → type_lists l.told.items ≡ type_lists l.fn.told.items ++ map (λ m. payload_types p (message_tree m)) (take l.message-index l.messages)
