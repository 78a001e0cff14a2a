-- Each endpoint of a switch has a case for its close.
use Rattle.std.proofs.Common.{◌≡◌, ℕ, Bool, true, false, List, [], ◌∷◌, ◌++◌, ap, eq-eqb, map, refl, subst, sym, ◌∙◌, ⊎_elim}
use Rattle.std.proofs.lemmas.Bool.{and_parts, or_cases, or_left, or_right}
use Rattle.std.specs.Cmp.Lexicographic.{bytes_decides}
use Rattle.std.specs.Option.{option_map_or}
use Rattle.std.specs.Prelude.{Option, None, Some, ◌==◌, ◌&&◌, ◌||◌, if◌then◌else◌, option_and_then, option_map, slice_get}
use Rattle.source.specs.declared.place.Place.{Place}
use Rattle.source.specs.declared.token.Span.{Span}
use Rattle.tree.specs.StatementTrees.{Case, CaseTree, CaseTrees, MoreCases, NoCase, behind_case}
use Rattle.tree.specs.declared.statement.Awaited.{Awaited}
use Rattle.tree.specs.declared.statement.Awaited.TheVariants.{Closed, Message}
use Rattle.names.specs.Bodies.{Surroundings, case_turn, cases_turn, head_of, heads_of, scope_in}
use Rattle.names.specs.Cases.{Head, awaits_closed, head_mistakes, type_head_mistakes, lack_mistakes, names_endpoint, other_mistakes, same_awaited, same_name, awaited_mistakes}
use Rattle.names.specs.Expressions.{InScope, variable_mistakes, type_named}
use Rattle.tables.specs.Firsts.{first_of}
use Rattle.declarations.specs.declared.mistake.Mistake.{Mistake}
use Rattle.declarations.specs.declared.mistake.Mistake.TheVariants.{LacksClosed}
use Rattle.declarations.specs.Program.{ProgramText}
use Rattle.names.specs.Variables as names
use Rattle.tables.specs.Words.{same_word, word_at, words_at}
use Rattle.declarations.specs.declared.value_type.ValueType.{ValueType}
use Rattle.declarations.specs.declared.value_type.ValueType.TheVariants as ty
use Rattle.program.specs.Methods.{VariableModel}
use Rattle.resolving.specs.Locals.{LocalFrame, Local, mention_of}
use Rattle.resolving.specs.Told.{case_endpoint, case_told, cases_told}
use Rattle.resolving.specs.Staying.{Staying}
use Rattle.program.specs.Lists.{Each, is_among}
use Rattle.program.specs.WellFormed.{endpoints, closes}
use Rattle.wellformed.proofs.MentionLemmas.{held_known}
use Rattle.wellformed.proofs.ListLemmas.{both_none, each_append}
use Rattle.wellformed.proofs.Standing.{AreStanding, IsKnown, scope_of}

-- the heads of cases have no mistakes, given these others before them in the same switch
abbrev pub HeadsClean : ProgramText → names.NameFrame → List Head → List Head → List Head → Type 0
HeadsClean p g all before [] = Unit {0}
HeadsClean p g all before (h ∷ heads) = (head_mistakes (scope_of p g) all before h ≡ []) × HeadsClean p g all (before ++ h ∷ []) heads

-- this depends only on what is in scope
heads_kept : (p : ProgramText) (g h : names.NameFrame) (all before heads : List Head) → scope_of p g ≡ scope_of p h → HeadsClean p g all before heads → HeadsClean p h all before heads
heads_kept p g h all before [] same clean = tt
heads_kept p g h all before (x ∷ heads) same clean = (subst (λ s. head_mistakes s all before x ≡ []) same clean.0, heads_kept p g h all (before ++ x ∷ []) heads same clean.1)

-- it holds if the cases have no mistakes
pub heads_clean : (m : Surroundings) (all before : List Head) (cases : CaseTrees) (f : names.NameFrame) → (cases_turn m all before cases f).found ≡ [] → HeadsClean m.program f all before (heads_of cases)
heads_clean m all before NoCase f none = tt
heads_clean m all before (MoreCases (Case word endpoint awaited left binds statements) cases) f none =
    let h : Head = record { endpoint = endpoint; awaited = awaited; binds = binds } in
    let here : names.CheckedPiece = case_turn m all before (Case word endpoint awaited left binds statements) f in
    let parts = both_none here.found (cases_turn m all (before ++ h ∷ []) cases here.frame).found none in (
      (both_none (head_mistakes (scope_in m f) all before h) _ parts.0).0,
      heads_kept m.program here.frame f all (before ++ h ∷ []) (heads_of cases) refl (heads_clean m all (before ++ h ∷ []) cases here.frame parts.1),
    )

-- two names with the same spelling
same_words : (text : List ℕ) (a b : Span) → same_name text a b ≡ true → word_at text a ≡ word_at text b
same_words text a b same = (bytes_decides (word_at text a) (word_at text b)).0 same

-- all closes are alike, whatever their spans
closed_alike : (text : List ℕ) (a b : Span) (x : Awaited) → same_awaited text x (Closed a) ≡ same_awaited text x (Closed b)
closed_alike text a b (Message m) = refl
closed_alike text a b (Closed word) = refl

awaits_same : (text : List ℕ) (heads : List Head) (a b : Span) → word_at text a ≡ word_at text b → awaits_closed text a heads ≡ awaits_closed text b heads
awaits_same text [] a b same = refl
awaits_same text (x ∷ heads) a b same =
    ap (λ w. (same_word (word_at text x.endpoint) w && same_awaited text x.awaited (Closed a)) || awaits_closed text a heads) same
    ∙ ap (λ r. (same_name text x.endpoint b && r) || awaits_closed text a heads) (closed_alike text a b x.awaited)
    ∙ ap (λ r. (same_name text x.endpoint b && same_awaited text x.awaited (Closed b)) || r) (awaits_same text heads a b same)

-- one of all heads awaits the close of this head's endpoint
abbrev HasClose : List ℕ → List Head → Head → Type 0
HasClose text all h = awaits_closed text h.endpoint all ≡ true

-- if this holds for the heads before, it holds for each endpoint that one of them names
named_closes : (text : List ℕ) (all before : List Head) (name : Span) → Each (HasClose text all) before → names_endpoint text name before ≡ true → awaits_closed text name all ≡ true
named_closes text all [] name close named = cc
named_closes text all (x ∷ before) name close named = ⊎_elim
    (λ here. sym (awaits_same text all x.endpoint name (same_words text x.endpoint name here)) ∙ close.0)
    (λ later. named_closes text all before name close.1 later)
    (or_cases (same_name text x.endpoint name) (names_endpoint text name before) named)

other_wrong : (k : ValueType) (h : Head) (a : Awaited) → other_mistakes k h a ≡ [] → ⊥
other_wrong k h (Message word) none = cc
other_wrong k h (Closed word) none = cc

-- if the head of a case has no mistakes, the close of its endpoint is awaited
no_lack : (p : ProgramText) (s : InScope) (all before : List Head) (h : Head) (k : ValueType) → IsKnown p k → type_head_mistakes s all before k h ≡ [] → lack_mistakes s all before h ≡ []
no_lack p s all before h (ty.Endpoint end n) known none = (both_none (awaited_mistakes s before end n h h.awaited) (lack_mistakes s all before h) none).1
no_lack p s all before h (ty.Scalar t) known none = absurd (other_wrong (ty.Scalar t) h h.awaited none)
no_lack p s all before h (ty.Array element) known none = absurd (other_wrong (ty.Array element) h h.awaited none)
no_lack p s all before h (ty.Pointer n) known none = absurd (other_wrong (ty.Pointer n) h h.awaited none)
no_lack p s all before h ty.Missing known none = absurd known
no_lack p s all before h ty.Unknown known none = absurd known

nothing_lacks : (b : Bool) (x : Mistake) → (if b then [] else x ∷ []) ≡ [] → b ≡ true
nothing_lacks true x none = refl
nothing_lacks false x none = cc

heads_close : (p : ProgramText) (vs : List VariableModel) (f : LocalFrame) (g : names.NameFrame) (all before heads : List Head) → AreStanding p vs f g → Each (HasClose p.text all) before
    → HeadsClean p g all before heads → Each (HasClose p.text all) heads
heads_close p vs f g all before [] standing close clean = tt
heads_close p vs f g all before (h ∷ heads) standing close clean =
    let parts = both_none (variable_mistakes (scope_of p g) h.endpoint) (type_head_mistakes (scope_of p g) all before (type_named (scope_of p g) h.endpoint) h) clean.0 in
    let lack = no_lack p (scope_of p g) all before h (type_named (scope_of p g) h.endpoint) (held_known p vs f g h.endpoint standing parts.0) parts.1 in
    let told = nothing_lacks (names_endpoint p.text h.endpoint before || awaits_closed p.text h.endpoint all) (LacksClosed h.endpoint) lack in
    let here : HasClose p.text all h = ⊎_elim
    (λ named. named_closes p.text all before h.endpoint close named)
    (λ awaits. awaits)
    (or_cases (names_endpoint p.text h.endpoint before) (awaits_closed p.text h.endpoint all) told) in
    (here, heads_close p vs f g all (before ++ h ∷ []) heads standing (each_append (HasClose p.text all) before (h ∷ []) close (here, tt)) clean.1)

-- the number of the endpoint of a case
abbrev end_number : ProgramText → LocalFrame → Span → ℕ
end_number p f name = (case_endpoint p f name).variable.0

abbrev number_written : List ℕ → List Local → List ℕ → Option ℕ
number_written text locals word = option_and_then (λ l. l.number) (option_and_then (slice_get locals) (first_of (words_at text (map (λ l. l.name) locals)) word))

number_alone : (name : Span) (o : Option ℕ) → (option_map_or (λ m. m) (option_map (mention_of name) o) (mention_of name 0)).variable.0 ≡ option_map_or (λ n. n) o 0
number_alone name None = refl
number_alone name (Some n) = refl

-- names with the same spelling have one number
same_number : (p : ProgramText) (f : LocalFrame) (a b : Span) → word_at p.text a ≡ word_at p.text b → end_number p f a ≡ end_number p f b
same_number p f a b same =
    number_alone a (number_written p.text f.locals (word_at p.text a))
    ∙ ap (λ w. option_map_or (λ n. n) (number_written p.text f.locals w) 0) same
    ∙ sym (number_alone b (number_written p.text f.locals (word_at p.text b)))

not_here : (a b : Bool) → ((a && false) || b) ≡ true → b ≡ true
not_here true b is = is
not_here false b is = is

-- if a head awaits the close of an endpoint, there is a case for its close
close_there : (p : ProgramText) (class : ℕ) (stays : Staying) (cases : CaseTrees) (close : Place) (f : LocalFrame) (name : Span) → awaits_closed p.text name (heads_of cases) ≡ true
    → is_among (closes (cases_told p class stays cases close f).what) (end_number p f name) ≡ true
close_there p class stays NoCase close f name awaits = cc
close_there p class stays (MoreCases (Case word endpoint (Message m) left binds statements) cases) close f name awaits =
    close_there p class stays cases close (case_told p class stays (behind_case cases close) (Case word endpoint (Message m) left binds statements) f).frame name
    (not_here (same_name p.text endpoint name) (awaits_closed p.text name (heads_of cases)) awaits)
close_there p class stays (MoreCases (Case word endpoint (Closed w) left binds statements) cases) close f name awaits =
    let behind : LocalFrame = (case_told p class stays (behind_case cases close) (Case word endpoint (Closed w) left binds statements) f).frame in
    let others : List ℕ = closes (cases_told p class stays cases close behind).what in
    ⊎_elim
    (λ here. or_left (end_number p f endpoint == end_number p f name) (is_among others (end_number p f name))
    (eq-eqb (end_number p f endpoint) (end_number p f name) (same_number p f endpoint name (same_words p.text endpoint name (and_parts (same_name p.text endpoint name) true here).0))))
    (λ later. or_right (end_number p f endpoint == end_number p f name) (is_among others (end_number p f name)) (close_there p class stays cases close behind name later))
    (or_cases (same_name p.text endpoint name && true) (awaits_closed p.text name (heads_of cases)) awaits)

ends_close : (p : ProgramText) (class : ℕ) (stays : Staying) (cases : CaseTrees) (close : Place) (f : LocalFrame) (all : List Head) (numbers : List ℕ)
    → ((name : Span) → awaits_closed p.text name all ≡ true → is_among numbers (end_number p f name) ≡ true) → Each (HasClose p.text all) (heads_of cases)
    → Each (λ e. is_among numbers e ≡ true) (endpoints (cases_told p class stays cases close f).what)
ends_close p class stays NoCase close f all numbers there each = tt
ends_close p class stays (MoreCases (Case word endpoint awaited left binds statements) cases) close f all numbers there each = (
  there endpoint each.0,
  ends_close p class stays cases close (case_told p class stays (behind_case cases close) (Case word endpoint awaited left binds statements) f).frame all numbers there each.1,
)

-- so each endpoint has a case for its close
pub all_close : (p : ProgramText) (class : ℕ) (vs : List VariableModel) (stays : Staying) (first : CaseTree) (cases : CaseTrees) (close : Place) (f : LocalFrame) (g : names.NameFrame) → AreStanding p vs f g
    → HeadsClean p g (head_of first ∷ heads_of cases) [] (head_of first ∷ heads_of cases)
    → Each (λ e. is_among (closes (cases_told p class stays (MoreCases first cases) close f).what) e ≡ true) (endpoints (cases_told p class stays (MoreCases first cases) close f).what)
all_close p class vs stays first cases close f g standing clean =
    let heads : List Head = heads_of (MoreCases first cases) in
    ends_close p class stays (MoreCases first cases) close f heads (closes (cases_told p class stays (MoreCases first cases) close f).what)
    (close_there p class stays (MoreCases first cases) close f)
    (heads_close p vs f g heads [] heads standing tt clean)
