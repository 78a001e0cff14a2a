-- What holds of the bytes that are read holds of the whole text: a text that is too long has the fault of its
-- length and no other.
use Rattle.std.proofs.Common.{◌≡◌, ℕ, ◌+◌, ◌<◌, ◌≤◌, inl, inr, List, Option, length, take, refl, subst, arith, ⊎_elim, length-take}
use Rattle.std.proofs.lemmas.Bool.{cases_lt}
use Rattle.std.proofs.lemmas.List.{take_all}
use Rattle.std.proofs.lemmas.List.Elements.{All-weaker}
use Rattle.source.specs.Faults.{IsFault}
use Rattle.source.specs.Findings.{FindingModel}
use Rattle.source.specs.Tokens.{AreTokens}
use Rattle.source.specs.declared.fault.TextFault.{TextFault}
use Rattle.source.specs.declared.fault.TextFault.TheVariants.{Stray, OpenComment, TooLong, TooDeep, TooLarge, Memory}
use Rattle.source.specs.declared.lexer.TheConstants.{MAX_TEXT}
use Rattle.source.specs.declared.place.Place.{Place}
use Rattle.source.specs.declared.token.Token.{Token}
use Rattle.devices.specs.declared.fault.Status.{Status}
use Rattle.devices.specs.declared.fault.Status.TheVariants.{Empty, Found}
use Rattle.devices.specs.declared.reading.TheConstants.{MAX_READ}
use Rattle.singcheck.specs.Answers.{AreFindings, OfText, OfSyntax, OfNames, OfContracts, Answers}
use Rattle.singcheck.specs.Checks.{AreCheckFindings, Before, OfMethods, Checks}
use Rattle.explanations.specs.Explained.{ExplainedModel}
use Rattle.singcheck.specs.Explains.{ByContract, ByFault, ByMistake, ByTokens, Explains, IsExplainedFinding}

-- both texts are too long
pub record AreLong (text other : List ℕ) : Type 0 where
  pub one : MAX_TEXT < length text
  pub two : MAX_TEXT < length other

never : (n m : ℕ) → n < m → m ≤ n → ⊥
never n m more few = omega arith

no_tokens : (text : List ℕ) (tokens : List Token) → MAX_TEXT < length text → AreTokens text tokens → ⊥
no_tokens text tokens long are = never MAX_TEXT (length text) long are.short

pub no_program : {A : Type 0} (text : List ℕ) → MAX_TEXT < length text → (tokens : List Token) → AreTokens text tokens → A
no_program text long tokens are = absurd (no_tokens text tokens long are)

fault_long : (text other : List ℕ) (fault : TextFault) → AreLong text other → IsFault text fault → IsFault other fault
fault_long text other (Stray place) long is = absurd (never MAX_TEXT (length text) long.one is.0)
fault_long text other (OpenComment place) long is = absurd (never MAX_TEXT (length text) long.one is.0)
fault_long text other TooLong long is = long.two
fault_long text other (TooDeep place) long is = absurd (never MAX_TEXT (length text) long.one is.0)
fault_long text other (TooLarge place) long is = absurd (never MAX_TEXT (length text) long.one is.0)
fault_long text other Memory long is = absurd (never MAX_TEXT (length text) long.one is.0)

findings_long : (text other : List ℕ) (found : List FindingModel) → AreLong text other → AreFindings text found → AreFindings other found
findings_long text other found long (OfText is) = OfText (record { fault = is.fault; first = fault_long text other is.fault long is.first; are = is.are })
findings_long text other found long (OfSyntax is) = no_program text long.one is.tokens is.lexed
findings_long text other found long (OfNames is) = no_program text long.one is.parsed.tokens is.parsed.lexed
findings_long text other found long (OfContracts is) = no_program text long.one is.resolved.parsed.tokens is.resolved.parsed.lexed

pub answers_long : (text other bytes : List ℕ) (status : Status) → AreLong text other → Answers text bytes status → Answers other bytes status
answers_long text other bytes Empty long told = no_program text long.one told.resolved.parsed.tokens told.resolved.parsed.lexed
answers_long text other bytes Found long told = record { found = told.found; are = findings_long text other told.found long told.are; told = told.told }

checked_long : (text other : List ℕ) (found : List FindingModel) → AreLong text other → AreCheckFindings text found → AreCheckFindings other found
checked_long text other found long (Before is) = Before (findings_long text other found long is)
checked_long text other found long (OfMethods is) = no_program text long.one is.has.resolved.parsed.tokens is.has.resolved.parsed.lexed

checks_long : (text other bytes : List ℕ) (status : Status) → AreLong text other → Checks text bytes status → Checks other bytes status
checks_long text other bytes Empty long told = no_program text long.one told.has.resolved.parsed.tokens told.has.resolved.parsed.lexed
checks_long text other bytes Found long told = record { found = told.found; are = checked_long text other told.found long told.are; told = told.told }

noted_long : (named : Option Place) (text other : List ℕ) → AreLong text other → (e : ExplainedModel) → IsExplainedFinding named text e → IsExplainedFinding named other e
noted_long named text other long e (ByTokens is) = no_program text long.one is.tokens is.lexed
noted_long named text other long e (ByFault is) = ByFault (record { fault = is.fault; first = fault_long text other is.fault long is.first; finding = is.finding; lines = is.lines })
noted_long named text other long e (ByMistake is) = no_program text long.one is.parsed.tokens is.parsed.lexed
noted_long named text other long e (ByContract contracts resolved shown) = no_program text long.one resolved.parsed.tokens resolved.parsed.lexed

explains_long : (named : Option Place) (text other bytes : List ℕ) (status : Status) → AreLong text other → Explains named text bytes status → Explains named other bytes status
explains_long named text other bytes Empty long told = no_program text long.one told.has.resolved.parsed.tokens told.has.resolved.parsed.lexed
explains_long named text other bytes Found long told = elim told [
  | inl before ↦ inl (record {
    found = before.found;
    are = findings_long text other before.found long before.are;
    listed = before.listed;
    same = before.same;
    each = All-weaker (IsExplainedFinding named text) (IsExplainedFinding named other) (noted_long named text other long) before.listed before.each;
    ordered = before.ordered;
    is = before.is;
  })
  | inr reasons ↦ no_program text long.one reasons.has.resolved.parsed.tokens reasons.has.resolved.parsed.lexed
]

-- what holds of the bytes that are read holds of the text, if it carries over from a front that is too long to the text
pub of_front : (P : List ℕ → Type 0) (limit most : ℕ) → most ≡ limit + 1 → ((front text : List ℕ) → limit < length front → limit < length text → P front → P text) → (text : List ℕ) → P (take most text) → P text
of_front P limit most one_more long text told = ⊎_elim
    (λ short. subst P (take_all most text (omega (arith, short))) told)
    (λ full. let size = length-take most text in long (take most text) text (omega (arith, full, one_more, size)) (omega (arith, full, one_more)) told)
    (cases_lt (length text) most)

-- what a run returns for the bytes that are read, it may return for the text
pub record IsOfFront (answer : List ℕ → List ℕ → Status → Type 0) (most : ℕ) : Type 0 where
  pub whole : (text bytes : List ℕ) (status : Status) → answer (take most text) bytes status → answer text bytes status

pub answers_of_front : IsOfFront Answers MAX_READ
answers_of_front = record {
  whole = λ text bytes status. of_front (λ t. Answers t bytes status) MAX_TEXT MAX_READ refl (λ a b x y. answers_long a b bytes status (record { one = x; two = y })) text;
}

pub explains_of_front : (named : Option Place) → IsOfFront (Explains named) MAX_READ
explains_of_front named = record {
  whole = λ text bytes status. of_front (λ t. Explains named t bytes status) MAX_TEXT MAX_READ refl (λ a b x y. explains_long named a b bytes status (record { one = x; two = y })) text;
}

pub checks_of_front : IsOfFront Checks MAX_READ
checks_of_front = record {
  whole = λ text bytes status. of_front (λ t. Checks t bytes status) MAX_TEXT MAX_READ refl (λ a b x y. checks_long a b bytes status (record { one = x; two = y })) text;
}
