-- Owners of deques, one for each worker, and how they change.
use Rattle.std.specs.Prelude.{◌≡◌, ℕ, ◌+◌, ◌<◌, List, [], ◌++◌, All, length, slice_index_or, slice_set}
use Rattle.crossbeam_deque.specs.Handles.{IsPassOf, stealer_deque, stealer_flavor, view, worker_deque, worker_flavor, worker_view}
use Rattle.crossbeam_deque.specs.declared.handles.Stealer.{Stealer}
use Rattle.std.specs.declared.alloc.Global.{Global}
use Rattle.tasks.specs.declared.task.Task.{Task}
use Rattle.pool.specs.Counts.{DequeOwner, Ticket}
use Rattle.pool.specs.declared.deque.Sharing.{Sharing}
use Rattle.pool.specs.declared.held.Hand.{Hand}
use Rattle.pool.specs.declared.held.HeldTask.{HeldTask}

-- the side of a deque by which other threads steal
abbrev pub Thief : Type 0
Thief = Stealer HeldTask Global Hand Sharing

-- the owner's parts of the right to know the whole
abbrev pub owner_parts : DequeOwner → ℕ
owner_parts o = (worker_view o).parts

-- what was put into its deque
abbrev pub owner_put : DequeOwner → List HeldTask
owner_put o = (worker_view o).put

-- what the owner has taken itself
abbrev pub owner_taken : DequeOwner → List HeldTask
owner_taken o = (worker_view o).taken

-- the owner takes tasks in their order, has all parts, and has taken nothing
pub record IsWholeOwner (o : DequeOwner) : Type 0 where
  pub fifo : worker_flavor o ≡ 0
  pub parts : owner_parts o ≡ 1024
  pub none : owner_taken o ≡ []

-- the owner takes tasks in their order, has a part, and all that were put may be run
pub record IsOwn (takes : Task → Type 0) (o : DequeOwner) : Type 0 where
  pub fifo : worker_flavor o ≡ 0
  pub part : 0 < owner_parts o
  pub tasks : All (λ (x : HeldTask). takes x.task) (owner_put o)

-- all tasks are still in the deques, and may be run
pub record AreFilled (takes : Task → Type 0) (owners : List DequeOwner) : Type 0 where
  pub whole : All IsWholeOwner owners
  pub tasks : All (λ (o : DequeOwner). All (λ (x : HeldTask). takes x.task) (owner_put o)) owners

-- the owner is that of the same deque, and knows the same about what was put
pub record Keeps (old new : DequeOwner) : Type 0 where
  pub deque : worker_deque new ≡ worker_deque old
  pub flavor : worker_flavor new ≡ worker_flavor old
  pub put : owner_put new ≡ owner_put old

-- the owner has taken from its deque, and kept its parts
pub record Took (old new : DequeOwner) : Type 0 where
  pub keeps : Keeps old new
  pub parts : owner_parts new ≡ owner_parts old

-- a pass with one part was cut off
pub record CutOff (old new : DequeOwner) (p : Ticket) : Type 0 where
  pub keeps : Keeps old new
  pub parts : owner_parts new + 1 ≡ owner_parts old
  pub taken : owner_taken new ≡ owner_taken old
  pub pass : IsPassOf (worker_deque old) p
  pub part : (view p).parts ≡ 1
  pub none : (view p).taken ≡ []
  pub put : (view p).put ≡ owner_put old

-- `count` passes with one part each were cut off
pub record LostParts (count : ℕ) (old new : DequeOwner) : Type 0 where
  pub keeps : Keeps old new
  pub parts : owner_parts new + count ≡ owner_parts old
  pub taken : owner_taken new ≡ owner_taken old

-- `count` passes with one part each were taken in
pub record GotParts (count : ℕ) (old new : DequeOwner) : Type 0 where
  pub keeps : Keeps old new
  pub parts : owner_parts new ≡ owner_parts old + count

-- a pass was taken in
pub record TookIn (p : Ticket) (old new : DequeOwner) : Type 0 where
  pub keeps : Keeps old new
  pub parts : owner_parts new ≡ owner_parts old + (view p).parts
  pub taken : owner_taken new ≡ owner_taken old ++ (view p).taken

-- one of the owners changed, and the others are as they were
pub record OneChanges (d : ℕ) (change : DequeOwner → DequeOwner → Type 0) (owners owners' : List DequeOwner) : Type 0 where
  pub old : DequeOwner
  pub new : DequeOwner
  pub was : (o : DequeOwner) → slice_index_or owners d o ≡ old
  pub now : owners' ≡ slice_set owners d new
  pub changes : change old new

-- each of the owners changed
pub record EachChanges (change : DequeOwner → DequeOwner → Type 0) (owners owners' : List DequeOwner) : Type 0 where
  pub lengths : length owners' ≡ length owners
  pub each : (d : ℕ) (o : DequeOwner) → d < length owners → change (slice_index_or owners d o) (slice_index_or owners' d o)

-- there is a stealer of each deque, in order
pub record AreThieves (owners : List DequeOwner) (thieves : List Thief) : Type 0 where
  pub lengths : length thieves ≡ length owners
  pub each : (d : ℕ) (o : DequeOwner) (t : Thief) → d < length owners
      → stealer_deque (slice_index_or thieves d t) ≡ worker_deque (slice_index_or owners d o)
  pub fifo : All (λ (t : Thief). stealer_flavor t ≡ 0) thieves
