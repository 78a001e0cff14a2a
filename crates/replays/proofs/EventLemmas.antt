-- Lines of events.
use Rattle.std.proofs.Common.{◌≡◌, ◌<◌, ◌==◌, ℕ, zero, suc, true, false, List, [], ◌∷◌, ◌++◌, length, drop, replicate, refl, ap, ap₂, sym, ◌∙◌, subst, arith, append-nil, take-append-drop, eqb-true, true≢false}
use Rattle.std.specs.Prelude.{Option, None, Some, IfNone}
use Rattle.std.proofs.lemmas.List.{length-replicate}
use Rattle.std.proofs.Math.Seq.{drop-append_seam}
use Rattle.std.specs.Char.{is_ascii_digit}
use Rattle.std.specs.List.{prefix_len}
use Rattle.machine.specs.declared.halts.Event.{Event}
use Rattle.replays.specs.Fronts.{BeginsWith, StopsAt, is_space}
use Rattle.replays.specs.Schedules.{IsEventLine}
use Rattle.replays.proofs.FrontLemmas.{begins_once, number_no_space, spaces_are, spaces_end}

-- what follows the first number in the line of an event
abbrev pub behind_first : (line : List ℕ) (e : Event) → IsEventLine line e → List ℕ
behind_first line e l = replicate l.spaces 32 ++ l.second

spaces_stop : (n : ℕ) (rest : List ℕ) → 0 < n → StopsAt is_ascii_digit (replicate n 32 ++ rest)
spaces_stop zero rest h = absurd (omega arith)
spaces_stop (suc n) rest h = refl

-- the line of an event begins with the number of its process
pub line_begins : (line : List ℕ) (e : Event) (l : IsEventLine line e) → BeginsWith line e.process (behind_first line e l)
line_begins line e l = record { digits = l.first; number = l.process; are = l.spelled; stops = spaces_stop l.spaces l.second l.some }

second_stops : (line : List ℕ) (e : Event) (l : IsEventLine line e) → StopsAt is_space l.second
second_stops line e l = subst (StopsAt is_space) (append-nil l.second) (number_no_space l.second [] e.choice l.choice)

-- after that number come its spaces, and then the choice
pub behind_spaces : (line : List ℕ) (e : Event) (l : IsEventLine line e) → prefix_len is_space (behind_first line e l) ≡ l.spaces
behind_spaces line e l = spaces_end l.spaces l.second (second_stops line e l)

pub behind_begins : (line : List ℕ) (e : Event) (l : IsEventLine line e) → BeginsWith (drop (prefix_len is_space (behind_first line e l)) (behind_first line e l)) e.choice []
behind_begins line e l = subst (λ b. BeginsWith b e.choice []) (sym is) record { digits = l.second; number = l.choice; are = sym (append-nil l.second); stops = tt }
  where
    is : drop (prefix_len is_space (behind_first line e l)) (behind_first line e l) ≡ l.second
    is = ap (λ k. drop k (behind_first line e l)) (behind_spaces line e l ∙ sym (length-replicate l.spaces 32)) ∙ drop-append_seam (replicate l.spaces 32) l.second

-- what the line of an event has after the number at its front
pub record EventBehind (n : ℕ) (rest : List ℕ) (e : Event) : Type 0 where
  pub process : n ≡ e.process
  pub some : 0 < prefix_len is_space rest
  pub choice : BeginsWith (drop (prefix_len is_space rest) rest) e.choice []

pub event_behind : (line : List ℕ) (e : Event) (n : ℕ) (rest : List ℕ) → IsEventLine line e → BeginsWith line n rest → EventBehind n rest e
event_behind line e n rest l b =
    let once = begins_once line n e.process rest (behind_first line e l) b (line_begins line e l) in
    record {
      process = once.0;
      some = subst (λ r. 0 < prefix_len is_space r) (sym once.1) (omega (arith, behind_spaces line e l, l.some));
      choice = subst (λ r. BeginsWith (drop (prefix_len is_space r) r) e.choice []) (sym once.1) (behind_begins line e l);
    }

-- a number, spaces and a number are the line of an event
pub an_event : (line rest : List ℕ) (process choice : ℕ) → BeginsWith line process rest → 0 < prefix_len is_space rest → BeginsWith (drop (prefix_len is_space rest) rest) choice [] → IsEventLine line (record { process = process; choice = choice })
an_event line rest process choice a some b = record {
  first = a.digits;
  spaces = prefix_len is_space rest;
  second = b.digits;
  spelled = a.are ∙ ap (λ r. a.digits ++ r) (sym (ap₂ (λ x y. x ++ y) (sym (spaces_are rest)) (sym (append-nil b.digits) ∙ sym b.are) ∙ take-append-drop (prefix_len is_space rest) rest));
  process = a.number;
  some = some;
  choice = b.number;
}

-- a line has one event
pub one_event : (line : List ℕ) (e f : Event) → IsEventLine line e → IsEventLine line f → e ≡ f
one_event line e f l m =
    let b = event_behind line f e.process (behind_first line e l) m (line_begins line e l) in
    let c = begins_once _ e.choice f.choice [] [] (behind_begins line e l) b.choice in
    ap₂ (λ p q. the_event p q) b.process c.0
  where
    the_event : ℕ → ℕ → Event
    the_event p q = record { process = p; choice = q }

-- an unconditional fact holds in particular if there is nothing
pub at_none : {X P : Type 0} (r : Option X) → P → IfNone r P
at_none None p = p
at_none (Some x) p = tt

-- a list of length 0 is empty, and one of any other length is not
pub no_length : (xs : List ℕ) → (length xs == 0) ≡ true → xs ≡ []
no_length [] e = refl
no_length (x ∷ xs) e = absurd (omega (arith, eqb-true (length (x ∷ xs)) 0 e))

pub some_length : (xs : List ℕ) → (length xs == 0) ≡ false → xs ≡ [] → ⊥
some_length [] e h = true≢false e
some_length (x ∷ xs) e h = omega (arith, ap (λ l. length l) h)
