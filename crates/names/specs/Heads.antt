-- The heads of a switch, as the code has them.
use Rattle.std.specs.Prelude.{◌≡◌, ℕ, Bool, ltb, true, false, ◌||◌, ◌&&◌, not, List, [], ◌∷◌, Option, None, Some, option_map, position, map}
use Rattle.std.specs.Prelude.{slice_get, Result, OnOk}
use Rattle.std.specs.Borrow.{Bor}
use Rattle.std.specs.BTreeMap.{get}
use Rattle.std.specs.Cmp.Lexicographic.{slice_cmp}
use Rattle.std.specs.Option.{option_cmp}
use Rattle.std.specs.Ordering.{nat_cmp, ordering_then}
use Rattle.tree.specs.StatementTrees.{SwitchTree, case_sequence}
use Rattle.tree.specs.declared.statement as made
use Rattle.tree.specs.declared.statement.Awaited.{Awaited}
use Rattle.tree.specs.declared.statement.Awaited.TheVariants.{Message, Closed}
use Rattle.declarations.specs.Mistakes.{Adds}
use Rattle.declarations.specs.Program.{ProgramText}
use Rattle.declarations.specs.Scopes.{IsScope}
use Rattle.declarations.specs.declared.mistake.Mistake.{Mistake}
use Rattle.declarations.specs.declared.scope.Scope.{Scope}
use Rattle.names.specs.Bodies as bodies
use Rattle.names.specs.Bodies.{case_turn, cases_turn, head_of, heads_of}
use Rattle.names.specs.Cases.{Head, awaits_too, names_endpoint, awaits_closed}
use Rattle.names.specs.Expressions.{InScope}
use Rattle.names.specs.Frames.{AreSurroundings, IsNameFrame, Turned}
use Rattle.names.specs.Operands.{in_frame}
use Rattle.names.specs.Variables.{NameFrame, CheckedPiece, follow}
use Rattle.tables.specs.Tables.{IsTable}
use Rattle.tables.specs.Words.{word_at, words_at, same_word}
use Rattle.names.specs.declared.heads.Awaiting.{Awaiting}
use Rattle.names.specs.declared.heads.Heads.{Heads}
use Rattle.names.specs.declared.surroundings.Surroundings.{Surroundings}
use Rattle.names.specs.declared.variables.ScopeVariables.{ScopeVariables}

-- the heads of a switch, in order
abbrev pub switch_heads : SwitchTree → List Head
switch_heads s = head_of s.first ∷ heads_of (case_sequence s.others)

-- the head of a case in the code
abbrev pub case_head : made.Case.Case → Head
case_head c = record { endpoint = c.endpoint; awaited = c.message; binds = c.binds.items }

-- whether no case is for the close of this endpoint, and no head before this one names it
abbrev pub lacks : List ℕ → List Head → List Head → Head → Bool
lacks text all before h = not (names_endpoint text h.endpoint before || awaits_closed text h.endpoint all)

-- the part of a head that is compared
abbrev pub awaiting_of : Head → Awaiting
awaiting_of h = record { endpoint = h.endpoint; awaited = h.awaited }

-- the word of a message that is awaited; none for a close
abbrev pub awaited_word : List ℕ → Awaited → Option (List ℕ)
awaited_word text (Message m) = Some (word_at text m)
awaited_word text (Closed word) = None

-- the words of the endpoint of a head and of its message
abbrev pub Written : Type 0
Written = List ℕ × Option (List ℕ)

abbrev pub key_words : Bor (List ℕ) × Option (Bor (List ℕ)) → Written
key_words k = (k.0.now, option_map (λ w. w.now) k.1)

abbrev pub head_words : List ℕ → Head → Written
head_words text h = (word_at text h.endpoint, awaited_word text h.awaited)

-- whether two of them are the same word
abbrev pub same_message : Option (List ℕ) → Option (List ℕ) → Bool
same_message None None = true
same_message (Some a) (Some b) = same_word a b
same_message _ _ = false

abbrev pub same_key : Written → Written → Bool
same_key a b = same_word a.0 b.0 && same_message a.1 b.1

-- the index of the first head with these words
abbrev pub key_at : List ℕ → Written → List Head → Option ℕ
key_at text key all = position (λ h. same_key key (head_words text h)) all

-- whether it is found before this index
abbrev pub is_before : ℕ → Option ℕ → Bool
is_before place None = false
is_before place (Some first) = ltb first place

-- a switch; the surroundings are those within it
abbrev pub switch_turn : bodies.Surroundings → SwitchTree → NameFrame → CheckedPiece
switch_turn m s f = follow (case_turn m (switch_heads s) [] s.first f)
    (cases_turn m (switch_heads s) (head_of s.first ∷ []) (case_sequence s.others))

-- For all heads before this one in its switch: if `twice` is whether one of them awaits the same, these mistakes are added.
abbrev pub AddsBehind : {X E : Type 0} → Scope → (twice : Bool) → Head → (old new : List Mistake) → Result X E
    → (InScope → List Head → List Mistake) → Type 0
AddsBehind scope twice head old new answer more = (p : ProgramText) (f : NameFrame) (earlier : List Head) → IsScope p scope
    → twice ≡ awaits_too p.text head earlier → OnOk answer (Adds old new (more (in_frame p f) earlier))

-- the table of the heads of a switch, and that of their endpoints
pub record IsHeads (text : List ℕ) (all : List Head) (heads : Heads) : Type 0 where
  pub cases : (key : Bor (List ℕ) × Option (Bor (List ℕ))) → get (λ x y. ordering_then (slice_cmp nat_cmp x.0.now y.0.now)
      (option_cmp (λ a b. slice_cmp nat_cmp a.now b.now) x.1 y.1)) heads.cases key ≡ key_at text (key_words key) all
  pub endpoints : IsTable (words_at text (map (λ h. h.endpoint) all)) heads.endpoints

-- For all heads of a switch with this one at this index: the mistakes of the turn of its case are added, and the frame
-- of that turn is in scope afterwards.
abbrev pub TurnsAmong : {X E : Type 0} → Surroundings → Heads → (index : ℕ) → Head → (before behind : ScopeVariables)
    → (old new : List Mistake) → Result X E → (bodies.Surroundings → List Head → NameFrame → CheckedPiece) → Type 0
TurnsAmong around heads index head before behind old new answer turn =
    (m : bodies.Surroundings) (f : NameFrame) (all : List Head) → AreSurroundings m around → IsNameFrame m.program.text f before
    → IsHeads m.program.text all heads → slice_get all index ≡ Some head → OnOk answer (Turned m.program.text old new behind (turn m all f))
