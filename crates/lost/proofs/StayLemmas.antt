-- What is still reached after an event was reached before, or is new.
use Rattle.std.proofs.Common.{◌≡◌, ◌⊎◌, ◌∷◌, ◌++◌, ◌∙◌, ◌-◌, ◌<◌, ◌≤◌, ℕ, Bool, true, false, List, [], Contains, Option}
use Rattle.std.proofs.Common.{Some, None, ap, arith, get_or, inl, inr, length, map, refl, set, subst, sym, ⊎_elim}
use Rattle.std.specs.Prelude.{if◌then◌else◌}
use Rattle.std.proofs.Math.ListN.{length-set}
use Rattle.std.proofs.lemmas.Bool.{cases_eq, cases_lt}
use Rattle.std.proofs.lemmas.List.{get_or-append_right, get_or-set_other, get_or-set_same, get_or_append_left, get_or_default}
use Rattle.std.proofs.lemmas.List.{get_or_past}
use Rattle.std.proofs.lemmas.List.Elements.{Contains-append_right, Contains-get_or}
use Rattle.program.specs.Methods.{MethodModel, VariableModel}
use Rattle.program.specs.WellFormed.{is_parameter}
use Rattle.program.specs.declared.call.Argument.{Argument}
use Rattle.program.specs.declared.number.VarId.{VarId}
use Rattle.program.specs.declared.statement.Mention.{Mention}
use Rattle.machine.specs.Frames.{bound_to, entered_at, out_of_scope, put, variables_at_entry}
use Rattle.machine.specs.Heaps.{FieldsHold}
use Rattle.machine.specs.World.{Block, Frame, World, block_at, change_each, is_freed_at, let_go, no_block, read, stack_at}
use Rattle.machine.proofs.ChangeLemmas.{changed_length}
use Rattle.machine.proofs.HeapLemmas.{at_changed}
use Rattle.lost.specs.Lost.{IsLost, IsReached, by_field, by_message, by_variable}
use Rattle.lost.specs.Marks.{BlockHolds}
use Rattle.lost.proofs.CoverLemmas.{held_reached, none_held}
use Rattle.lost.proofs.MarkLemmas.{first_or, none_in}

-- a value of a list in which one was replaced
pub from_set : {X : Type 0} (xs : List X) (i : ℕ) (y z : X) → Contains (set xs i y) z → Contains xs z ⊎ (y ≡ z)
from_set xs i y z is =
    let lt = is.1 in
    let short : is.0 < length xs = omega (arith, lt, length-set xs i y) in
    ⊎_elim
    (λ same. inr (sym (get_or-set_same xs i y z (subst (λ k. k < length xs) same short))
    ∙ (ap (λ k. get_or (set xs i y) k z) (sym same) ∙ is.2)))
    (λ other. inl (is.0, short, sym (get_or-set_other xs i is.0 y z other) ∙ is.2))
    (cases_eq is.0 i)

-- what a variable has
pub read_in : (variables : List (Option ℕ)) (v a : ℕ) → read variables v ≡ Some a → Contains variables (Some a)
read_in variables v a is = ⊎_elim
    (λ less. (v, less, get_or_default variables v (Some a) None less ∙ is))
    (λ past. absurd (let e : None ≡ Some a = sym (get_or_past variables v None past) ∙ is in cc))
    (cases_lt v (length variables))

module _ (w : World) where
  -- reached before the event, or new
  abbrev pub IsOldOrNew : ℕ → Type 0
  IsOldOrNew a = IsReached w a ⊎ (length w.blocks ≤ a)

  -- other blocks: no address has gone, and no lost block is freed, if fields hold what is inside blocks
  pub record AreLasting (blocks : List Block) : Type 0 where
    pub longer : length w.blocks ≤ length blocks
    pub alive : FieldsHold w.blocks → (a : ℕ) → IsLost w a → is_freed_at blocks a ≡ false

  -- another world: its blocks are such, and what is reached there was reached before or is new
  pub record IsNext (v : World) : Type 0 where
    pub reached : (a : ℕ) → IsReached v a → IsOldOrNew a
    pub lasting : AreLasting v.blocks

  -- so are all addresses that variables have, all in a list, all that variables of frames have, and all that a block holds
  abbrev pub AreKept : List (Option ℕ) → Type 0
  AreKept variables = (a : ℕ) → Contains variables (Some a) → IsOldOrNew a

  abbrev pub AreListed : List ℕ → Type 0
  AreListed xs = (a : ℕ) → Contains xs a → IsOldOrNew a

  abbrev pub KeepFrames : List Frame → Type 0
  KeepFrames frames = (f : Frame) → Contains frames f → AreKept f.variables

  abbrev pub KeepsBlock : Block → Type 0
  KeepsBlock b = (a : ℕ) → BlockHolds b a → IsOldOrNew a

  abbrev pub KeepBlocks : List Block → Type 0
  KeepBlocks blocks = (b : ℕ) → IsOldOrNew b → KeepsBlock (block_at blocks b)

  -- then all that is reached is old or new
  pub stays : (v : World) → ((stack : List Frame) → Contains v.processes stack → KeepFrames stack) → KeepBlocks v.blocks
      → (a : ℕ) → IsReached v a → IsOldOrNew a
  stays v frames blocks _ (by_variable stack f a there inside has) = frames stack there f inside a has
  stays v frames blocks _ (by_field b a reached has) = blocks b (stays v frames blocks b reached) a (inl has)
  stays v frames blocks _ (by_message b a m reached inside has) = blocks b (stays v frames blocks b reached) a (inr (m, inside, has))

  -- ---- before the event
  pub old_blocks : KeepBlocks w.blocks
  old_blocks b (inl reached) a has = inl (held_reached w b a reached has)
  old_blocks b (inr new) a has = absurd (none_held w b a new has)

  pub old_frames : (stack : List Frame) → Contains w.processes stack → KeepFrames stack
  old_frames stack there f inside a has = inl (by_variable stack f a there inside has)

  pub old_stack : (q : ℕ) (f : Frame) → Contains (stack_at w.processes q) f → (a : ℕ) → Contains f.variables (Some a) → IsReached w a
  old_stack q f inside a has = ⊎_elim
      (λ less. by_variable (stack_at w.processes q) f a (Contains-get_or w.processes q [] less) inside has)
      (λ past. absurd (none_in (stack_at w.processes q) f (get_or_past w.processes q [] past) inside))
      (cases_lt q (length w.processes))

  -- ---- variables
  pub read_kept : (variables : List (Option ℕ)) (v a : ℕ) → AreKept variables → read variables v ≡ Some a → IsOldOrNew a
  read_kept variables v a kept is = kept a (read_in variables v a is)

  pub set_kept : (variables : List (Option ℕ)) (v : ℕ) (x : Option ℕ) → AreKept variables → ((a : ℕ) → x ≡ Some a → IsOldOrNew a)
      → AreKept (set variables v x)
  set_kept variables v x kept new a has = ⊎_elim (λ old. kept a old) (λ is. new a is) (from_set variables v x (Some a) has)

  pub none_kept : (a : ℕ) → None ≡ Some a → IsOldOrNew a
  none_kept a is = absurd (cc)

  pub some_kept : (x a : ℕ) → IsOldOrNew x → Some x ≡ Some a → IsOldOrNew a
  some_kept x a kept is = let e : x ≡ a = cc in subst IsOldOrNew e kept

  pub let_go_kept : (variables : List (Option ℕ)) (arguments : List Argument) → AreKept variables → AreKept (let_go variables arguments)
  let_go_kept variables [] kept = kept
  let_go_kept variables (x ∷ arguments) kept =
      let_go_kept (if x.claimed then set variables x.mention.variable.0 None else variables) arguments (one x.claimed)
    where
      one : (b : Bool) → AreKept (if b then set variables x.mention.variable.0 None else variables)
      one true = set_kept variables x.mention.variable.0 None kept none_kept
      one false = kept

  pub out_kept : (variables : List (Option ℕ)) (gone : List ℕ) → AreKept variables → AreKept (out_of_scope variables gone)
  out_kept variables [] kept = kept
  out_kept variables (v ∷ gone) kept = out_kept (set variables v None) gone (set_kept variables v None kept none_kept)

  pub bound_kept : (variables : List (Option ℕ)) (targets : List VarId) (payload : List ℕ) → AreKept variables → AreListed payload
      → AreKept (bound_to variables targets payload)
  bound_kept variables [] payload kept listed = kept
  bound_kept variables (v ∷ targets) [] kept listed = kept
  bound_kept variables (v ∷ targets) (x ∷ payload) kept listed =
      bound_kept (set variables v.0 (Some x)) targets payload
      (set_kept variables v.0 (Some x) kept (λ a is. some_kept x a (listed x (0, omega arith, refl)) is))
      (λ a has. listed a (Contains-append_right (x ∷ []) payload a has))

  pub put_kept : (variables : List (Option ℕ)) (target : Option Mention) (x : Option ℕ) → AreKept variables
      → ((a : ℕ) → x ≡ Some a → IsOldOrNew a) → AreKept (put variables target x)
  put_kept variables None x kept new = kept
  put_kept variables (Some v) x kept new = set_kept variables v.variable.0 x kept new

  -- ---- a frame that begins
  pub given_kept : (variables : List (Option ℕ)) (arguments : List Argument) → AreKept variables
      → AreKept (map (λ x. read variables x.mention.variable.0) arguments)
  given_kept variables [] kept = λ a has. absurd (none_in [] (Some a) refl has)
  given_kept variables (x ∷ arguments) kept = λ a has. ⊎_elim
      (λ is. read_kept variables x.mention.variable.0 a kept is)
      (λ more. given_kept variables arguments kept a more)
      (first_or (read variables x.mention.variable.0) (map (λ y. read variables y.mention.variable.0) arguments) (Some a) has)

  cons_kept : (x : Option ℕ) (variables : List (Option ℕ)) → ((a : ℕ) → x ≡ Some a → IsOldOrNew a) → AreKept variables
      → AreKept (x ∷ variables)
  cons_kept x variables new kept a has = ⊎_elim (λ is. new a is) (λ more. kept a more) (first_or x variables (Some a) has)

  entry_kept : (variables : List VariableModel) (given : List (Option ℕ)) → AreKept given → AreKept (variables_at_entry variables given)
  entry_kept [] given kept = λ a has. absurd (none_in [] (Some a) refl has)
  entry_kept (v ∷ variables) [] kept = cons_kept None (variables_at_entry variables []) none_kept (entry_kept variables [] kept)
  entry_kept (v ∷ variables) (x ∷ given) kept =
      one (is_parameter v.role) (entry_kept variables given rest) (entry_kept variables (x ∷ given) kept)
    where
      rest : AreKept given
      rest a has = kept a (Contains-append_right (x ∷ []) given (Some a) has)

      one : (b : Bool) → AreKept (variables_at_entry variables given) → AreKept (variables_at_entry variables (x ∷ given))
          → AreKept (if b then x ∷ variables_at_entry variables given else (None ∷ variables_at_entry variables (x ∷ given)))
      one true taken left = cons_kept x (variables_at_entry variables given) (λ a is. kept a (0, omega arith, is)) taken
      one false taken left = cons_kept None (variables_at_entry variables (x ∷ given)) none_kept left

  pub entered_kept : (m : Option MethodModel) (n : ℕ) (given : List (Option ℕ)) → AreKept given → AreKept (entered_at m n given).variables
  entered_kept None n given kept = λ a has. absurd (none_in [] (Some a) refl has)
  entered_kept (Some m) n given kept = entry_kept m.variables given kept

  -- ---- frames and blocks
  pub cons_frames : (f : Frame) (frames : List Frame) → AreKept f.variables → KeepFrames frames → KeepFrames (f ∷ frames)
  cons_frames f frames kept rest g inside = ⊎_elim
      (λ same. subst (λ (h : Frame). AreKept h.variables) same kept)
      (λ more. rest g more)
      (first_or f frames g inside)

  pub set_frames : (q : ℕ) (frames : List Frame) → KeepFrames frames → (stack : List Frame) → Contains (set w.processes q frames) stack
      → KeepFrames stack
  set_frames q frames kept stack there = ⊎_elim
      (λ old. old_frames stack old)
      (λ same. subst KeepFrames same kept)
      (from_set w.processes q frames stack there)

  pub no_block_kept : (b : ℕ) (blocks : List Block) → length blocks ≤ b → KeepsBlock (block_at blocks b)
  no_block_kept b blocks past a has = ⊎_elim
      (λ field. absurd (none_in [] a refl field))
      (λ message. absurd (none_in [] message.0 refl message.1))
      (subst (λ x. BlockHolds x a) (get_or_past blocks b no_block past) has)

  pub change_kept : (f : ℕ → Block → Block) → ((b : ℕ) (x : Block) → KeepsBlock x → KeepsBlock (f b x))
      → KeepBlocks (change_each f w.blocks)
  change_kept f each b is = ⊎_elim
      (λ less. subst KeepsBlock (sym (at_changed f w.blocks b less)) (each b (block_at w.blocks b) (old_blocks b is)))
      (λ past. no_block_kept b (change_each f w.blocks) (omega (arith, past, changed_length f w.blocks)))
      (cases_lt b (length w.blocks))

  pub append_kept : (blocks more : List Block) → KeepBlocks blocks → ((b : ℕ) → KeepsBlock (block_at more b)) → KeepBlocks (blocks ++ more)
  append_kept blocks more kept each b is = ⊎_elim
      (λ less. subst KeepsBlock (sym (get_or_append_left blocks more no_block b less)) (kept b is))
      (λ past. subst KeepsBlock (sym (get_or-append_right blocks more (length blocks) b no_block refl past)) (each (b - length blocks)))
      (cases_lt b (length blocks))
