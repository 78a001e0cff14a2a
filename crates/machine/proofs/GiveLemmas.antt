-- What arguments give, one after another.
use Rattle.std.proofs.Common.{◌≡◌, ℕ, ◌+◌, ◌==◌, ◌<◌, ◌≤◌, Bool, true, false, List, [], ◌∷◌, ◌++◌, Some, refl, sym, ap, subst, ◌∙◌, drop, length, take}
use Rattle.std.specs.Prelude.{Option, if◌then◌else◌, ◌||◌, get_or}
use Rattle.std.proofs.lemmas.List.{append-nil, append_assoc, drop_all, drop_more, get_or-map, length-map, take-append-drop, take-map, take_more}
use Rattle.std.proofs.lemmas.Bool.{eq-eqb, ne_eqb}
use Rattle.std.specs.BTreeSet.{BTreeSet, IsEmpty}
use Rattle.program.specs.Lists.{is_among}
use Rattle.program.specs.declared.call.Argument.{Argument}
use Rattle.program.specs.declared.statement.Mention.{Mention}
use Rattle.rules.specs.Arguments.{payload}
use Rattle.rules.specs.Checks.{AreIn}
use Rattle.rules.proofs.ArgumentLemmas.{none_in}
use Rattle.machine.specs.Answers.{Pass, claimed_in}
use Rattle.machine.specs.declared.halts.Fault.{Fault}
use Rattle.machine.specs.declared.halts.Fault.TheVariants.{F1, F3}
use Rattle.machine.specs.Blocks.{is_own_still, argument_tests}
use Rattle.machine.specs.Frames.{address, addresses, payloads_claimed}
use Rattle.machine.specs.Outcomes.{FaultTest, Outcome, Faulty, test, after_tests}
use Rattle.machine.specs.World.{Block, read}

pub passes : (b : Bool) (f : Fault) (ts : List FaultTest) (o : Outcome) → b ≡ true → after_tests (test b f ∷ ts) o ≡ after_tests ts o
passes b f ts o h = ap (λ t. after_tests (test t f ∷ ts) o) h

pub refuses : (b : Bool) (f : Fault) (ts : List FaultTest) (o : Outcome) → b ≡ false → after_tests (test b f ∷ ts) o ≡ Faulty f
refuses b f ts o h = ap (λ t. after_tests (test t f ∷ ts) o) h

-- ---- what is claimed
-- what an argument claims, followed by what was claimed before
abbrev one_claimed : List (Option ℕ) → List ℕ → Argument → List ℕ
one_claimed variables taken x = if x.claimed then address (read variables x.mention.variable.0) ∷ taken else taken

-- the claims of joined lists are those of the first, then those of the second
claimed_both : (variables : List (Option ℕ)) (taken : List ℕ) (xs ys : List Argument)
    → claimed_in variables taken (xs ++ ys) ≡ claimed_in variables (claimed_in variables taken xs) ys
claimed_both variables taken [] ys = refl
claimed_both variables taken (x ∷ xs) ys = claimed_both variables (one_claimed variables taken x) xs ys

-- one more argument
claimed_more : (variables : List (Option ℕ)) (arguments : List Argument) (done : ℕ) (d : Argument) → done < length arguments
    → claimed_in variables [] (take (done + 1) arguments)
    ≡ one_claimed variables (claimed_in variables [] (take done arguments)) (get_or arguments done d)
claimed_more variables arguments done d lt =
    ap (claimed_in variables []) (take_more arguments done d lt) ∙ claimed_both variables [] (take done arguments) (get_or arguments done d ∷ [])

-- what was claimed remains claimed
claimed_stays : (variables : List (Option ℕ)) (taken : List ℕ) (a : ℕ) (xs : List Argument) → is_among taken a ≡ true → is_among (claimed_in variables taken xs) a ≡ true
claimed_stays variables taken a [] is = is
claimed_stays variables taken a (x ∷ xs) is =
    claimed_stays variables (one_claimed variables taken x) a xs (at x.claimed (address (read variables x.mention.variable.0)) taken is)
  where
    or_true : (s t : Bool) → t ≡ true → (s || t) ≡ true
    or_true true t is = refl
    or_true false t is = is

    at : (claimed : Bool) (b : ℕ) (taken : List ℕ) → is_among taken a ≡ true → is_among (if claimed then b ∷ taken else taken) a ≡ true
    at true b taken is = or_true (b == a) (is_among taken a) is
    at false b taken is = is

-- the argument at an index claims the block at an address
pub claims : (variables : List (Option ℕ)) (arguments : List Argument) (n a : ℕ) (d : Argument) → n < length arguments
    → (get_or arguments n d).claimed ≡ true → address (read variables (get_or arguments n d).mention.variable.0) ≡ a
    → is_among (claimed_in variables [] arguments) a ≡ true
claims variables arguments n a d lt claimed is =
    let x = get_or arguments n d in
    let taken = claimed_in variables [] (take n arguments) in
    let here : is_among (one_claimed variables taken x) a ≡ true =
    ap (λ t. is_among (if t then address (read variables x.mention.variable.0) ∷ taken else taken) a) claimed
    ∙ ap (λ t. t || is_among taken a) (eq-eqb (address (read variables x.mention.variable.0)) a is) in
    ap (λ l. is_among (claimed_in variables [] l) a) (sym (take-append-drop n arguments))
    ∙ (ap (λ l. is_among l a) (claimed_both variables [] (take n arguments) (drop n arguments))
    ∙ (ap (λ l. is_among (claimed_in variables taken l) a) (drop_more arguments n d lt)
    ∙ claimed_stays variables (one_claimed variables taken x) a (drop (n + 1) arguments) here))

-- the argument at an index does not claim it
pub claims_not : (variables : List (Option ℕ)) (arguments : List Argument) (n a : ℕ) (d : Argument) → n < length arguments
    → is_among (claimed_in variables [] (take n arguments)) a ≡ false
    → ((get_or arguments n d).claimed ≡ true → address (read variables (get_or arguments n d).mention.variable.0) ≡ a → ⊥)
    → is_among (claimed_in variables [] (take (n + 1) arguments)) a ≡ false
claims_not variables arguments n a d lt none misses =
    ap (λ l. is_among l a) (claimed_more variables arguments n d lt)
    ∙ at (get_or arguments n d).claimed (address (read variables (get_or arguments n d).mention.variable.0)) (claimed_in variables [] (take n arguments)) none misses
  where
    at : (claimed : Bool) (b : ℕ) (taken : List ℕ) → is_among taken a ≡ false → (claimed ≡ true → b ≡ a → ⊥) → is_among (if claimed then b ∷ taken else taken) a ≡ false
    at true b taken none misses = ap (λ t. t || is_among taken a) (ne_eqb b a (misses refl)) ∙ none
    at false b taken none misses = none

-- ---- the tests
-- the tests of this many arguments passed
pub record Given (blocks : List Block) (self : ℕ) (variables : List (Option ℕ)) (arguments : List Argument) (done : ℕ) : Type 0 where
  pub tests : (more : List FaultTest) (o : Outcome) → after_tests (argument_tests blocks self variables [] arguments ++ more) o
      ≡ after_tests (argument_tests blocks self variables (claimed_in variables [] (take done arguments)) (drop done arguments) ++ more) o

-- no argument was tested yet
pub given_none : (blocks : List Block) (self : ℕ) (variables : List (Option ℕ)) (arguments : List Argument) → Given blocks self variables arguments 0
given_none blocks self variables arguments = record { tests = λ more o. refl }

-- the argument at this index is the next one to test
tests_left : (blocks : List Block) (self : ℕ) (variables : List (Option ℕ)) (arguments : List Argument) (done : ℕ) (d : Argument) (more : List FaultTest) (o : Outcome) → done < length arguments
    → Given blocks self variables arguments done
    → after_tests (argument_tests blocks self variables [] arguments ++ more) o
    ≡ after_tests (argument_tests blocks self variables (claimed_in variables [] (take done arguments)) (get_or arguments done d ∷ drop (done + 1) arguments) ++ more) o
tests_left blocks self variables arguments done d more o lt h =
    h.tests more o ∙ ap (λ l. after_tests (argument_tests blocks self variables (claimed_in variables [] (take done arguments)) l ++ more) o) (drop_more arguments done d lt)

-- the next argument is not owned, or was claimed before
pub given_fails : (blocks : List Block) (self : ℕ) (variables : List (Option ℕ)) (arguments : List Argument) (done : ℕ) (d : Argument) (fault : Fault)
    → done < length arguments → Given blocks self variables arguments done
    → is_own_still blocks self (claimed_in variables [] (take done arguments)) (read variables (get_or arguments done d).mention.variable.0) ≡ false
    → fault ≡ (if (get_or arguments done d).claimed then F3 else F1)
    → (more : List FaultTest) (o : Outcome) → after_tests (argument_tests blocks self variables [] arguments ++ more) o ≡ Faulty fault
given_fails blocks self variables arguments done d fault lt h fails is more o =
    let x = get_or arguments done d in
    let taken = claimed_in variables [] (take done arguments) in
    tests_left blocks self variables arguments done d more o lt h
    ∙ (refuses (is_own_still blocks self taken (read variables x.mention.variable.0)) (if x.claimed then F3 else F1)
    (argument_tests blocks self variables (one_claimed variables taken x) (drop (done + 1) arguments) ++ more) o fails
    ∙ ap Faulty (sym is))

-- the next argument is owned and was not claimed before
pub given_more : (blocks : List Block) (self : ℕ) (variables : List (Option ℕ)) (arguments : List Argument) (done : ℕ) (d : Argument)
    → done < length arguments → Given blocks self variables arguments done
    → is_own_still blocks self (claimed_in variables [] (take done arguments)) (read variables (get_or arguments done d).mention.variable.0) ≡ true
    → Given blocks self variables arguments (done + 1)
given_more blocks self variables arguments done d lt h own =
    let x = get_or arguments done d in
    let taken = claimed_in variables [] (take done arguments) in
    let rest = drop (done + 1) arguments in
    record {
      tests = λ more o.
          tests_left blocks self variables arguments done d more o lt h
          ∙ (passes (is_own_still blocks self taken (read variables x.mention.variable.0)) (if x.claimed then F3 else F1)
          (argument_tests blocks self variables (one_claimed variables taken x) rest ++ more) o own
          ∙ ap (λ l. after_tests (argument_tests blocks self variables l rest ++ more) o) (sym (claimed_more variables arguments done d lt)));
    }

-- all arguments were tested
pub given_pass : (blocks : List Block) (self : ℕ) (variables : List (Option ℕ)) (arguments : List Argument) (done : ℕ) → length arguments ≤ done
    → Given blocks self variables arguments done → Pass (argument_tests blocks self variables [] arguments)
given_pass blocks self variables arguments done le h =
    λ more o. h.tests more o
    ∙ ap (λ l. after_tests (argument_tests blocks self variables (claimed_in variables [] (take done arguments)) l ++ more) o) (drop_all done arguments le)

-- ---- the tests with a set
-- the tests of this many arguments passed, and the set has what they claim
pub record GivenBySet (blocks : List Block) (self : ℕ) (variables : List (Option ℕ)) (arguments : List Argument) (done : ℕ) (taken : BTreeSet ℕ) : Type 0 where
  pub given : Given blocks self variables arguments done
  pub are : AreIn (claimed_in variables [] (take done arguments)) taken

pub set_none : (blocks : List Block) (self : ℕ) (variables : List (Option ℕ)) (arguments : List Argument) (taken : BTreeSet ℕ) → IsEmpty taken → GivenBySet blocks self variables arguments 0 taken
set_none blocks self variables arguments taken empty = record { given = given_none blocks self variables arguments; are = none_in taken empty }

pub set_more : (blocks : List Block) (self : ℕ) (variables : List (Option ℕ)) (arguments : List Argument) (done : ℕ) (taken more : BTreeSet ℕ) (d : Argument) (a : ℕ)
    → done < length arguments → GivenBySet blocks self variables arguments done taken
    → read variables (get_or arguments done d).mention.variable.0 ≡ Some a
    → ((listed : List ℕ) → AreIn listed taken → is_own_still blocks self listed (read variables (get_or arguments done d).mention.variable.0) ≡ true)
    → ((listed : List ℕ) → AreIn listed taken → AreIn (if (get_or arguments done d).claimed then a ∷ listed else listed) more)
    → GivenBySet blocks self variables arguments (done + 1) more
set_more blocks self variables arguments done taken more d a lt h has own takes =
    let x = get_or arguments done d in
    let listed = claimed_in variables [] (take done arguments) in
    record {
      given = given_more blocks self variables arguments done d lt h.given (own listed h.are);
      are = subst (λ l. AreIn l more) (sym (claimed_more variables arguments done d lt))
          (subst (λ r. AreIn (if x.claimed then address r ∷ listed else listed) more) (sym has) (takes listed h.are));
    }

-- ---- the addresses
-- the address of one more argument
pub address_more : (variables : List (Option ℕ)) (arguments : List Argument) (done : ℕ) (given pushed : List ℕ) (d : Argument) (a : ℕ) → done < length arguments
    → addresses variables arguments ≡ given ++ addresses variables (drop done arguments)
    → a ≡ address (read variables (get_or arguments done d).mention.variable.0) → pushed ≡ given ++ a ∷ []
    → addresses variables arguments ≡ pushed ++ addresses variables (drop (done + 1) arguments)
address_more variables arguments done given pushed d a lt h is push =
    let rest = drop (done + 1) arguments in
    h ∙ (ap (λ l. given ++ addresses variables l) (drop_more arguments done d lt)
    ∙ (ap (λ b. given ++ b ∷ addresses variables rest) (sym is)
    ∙ (sym (append_assoc given (a ∷ []) (addresses variables rest)) ∙ ap (λ g. g ++ addresses variables rest) (sym push))))

pub address_all : (variables : List (Option ℕ)) (arguments : List Argument) (done : ℕ) (given : List ℕ) → length arguments ≤ done
    → addresses variables arguments ≡ given ++ addresses variables (drop done arguments) → given ≡ addresses variables arguments
address_all variables arguments done given le h =
    sym (h ∙ (ap (λ l. given ++ addresses variables l) (drop_all done arguments le) ∙ append-nil given))

-- ---- payloads, which are claimed
sent_at : (payloads : List Mention) (n : ℕ) (d : Mention) → n < length payloads → get_or (payloads_claimed payloads) n (payload d) ≡ payload (get_or payloads n d)
sent_at payloads n d lt = get_or-map payload payloads n d (payload d) lt

sent_short : (payloads : List Mention) (n : ℕ) → n < length payloads → n < length (payloads_claimed payloads)
sent_short payloads n lt = subst (λ l. n < l) (sym (length-map payloads payload)) lt

-- the payload at an index is the block at an address
pub sent_claims : (variables : List (Option ℕ)) (payloads : List Mention) (n a : ℕ) (d : Mention) → n < length payloads
    → address (read variables (get_or payloads n d).variable.0) ≡ a → is_among (claimed_in variables [] (payloads_claimed payloads)) a ≡ true
sent_claims variables payloads n a d lt is =
    let at = sent_at payloads n d lt in
    claims variables (payloads_claimed payloads) n a (payload d) (sent_short payloads n lt) (ap (λ x. x.claimed) at)
    (ap (λ x. address (read variables x.mention.variable.0)) at ∙ is)

-- the payload at an index is not the block at an address
pub sent_claims_not : (variables : List (Option ℕ)) (payloads : List Mention) (n a : ℕ) (d : Mention) → n < length payloads
    → is_among (claimed_in variables [] (take n (payloads_claimed payloads))) a ≡ false
    → (address (read variables (get_or payloads n d).variable.0) ≡ a → ⊥)
    → is_among (claimed_in variables [] (take (n + 1) (payloads_claimed payloads))) a ≡ false
sent_claims_not variables payloads n a d lt none misses =
    claims_not variables (payloads_claimed payloads) n a (payload d) (sent_short payloads n lt) none
    (λ claimed is. misses (sym (ap (λ x. address (read variables x.mention.variable.0)) (sent_at payloads n d lt)) ∙ is))

-- a payload is tested like a claimed argument
sent_own : (blocks : List Block) (self : ℕ) (variables : List (Option ℕ)) (payloads : List Mention) (n : ℕ) (d : Mention) (own : Bool) → n < length payloads
    → is_own_still blocks self (claimed_in variables [] (payloads_claimed (take n payloads))) (read variables (get_or payloads n d).variable.0) ≡ own
    → is_own_still blocks self (claimed_in variables [] (take n (payloads_claimed payloads))) (read variables (get_or (payloads_claimed payloads) n (payload d)).mention.variable.0) ≡ own
sent_own blocks self variables payloads n d own lt is =
    ap (λ l. is_own_still blocks self (claimed_in variables [] l) (read variables (get_or (payloads_claimed payloads) n (payload d)).mention.variable.0)) (take-map payload n payloads)
    ∙ (ap (λ x. is_own_still blocks self (claimed_in variables [] (payloads_claimed (take n payloads))) (read variables x.mention.variable.0)) (sent_at payloads n d lt) ∙ is)

pub sent_fails : (blocks : List Block) (self : ℕ) (variables : List (Option ℕ)) (payloads : List Mention) (done : ℕ) (d : Mention)
    → done < length payloads → Given blocks self variables (payloads_claimed payloads) done
    → is_own_still blocks self (claimed_in variables [] (payloads_claimed (take done payloads))) (read variables (get_or payloads done d).variable.0) ≡ false
    → (more : List FaultTest) (o : Outcome) → after_tests (argument_tests blocks self variables [] (payloads_claimed payloads) ++ more) o ≡ Faulty F3
sent_fails blocks self variables payloads done d lt h fails =
    given_fails blocks self variables (payloads_claimed payloads) done (payload d) F3 (sent_short payloads done lt) h (sent_own blocks self variables payloads done d false lt fails)
    (ap (λ x. if x.claimed then F3 else F1) (sym (sent_at payloads done d lt)))

pub sent_more : (blocks : List Block) (self : ℕ) (variables : List (Option ℕ)) (payloads : List Mention) (done : ℕ) (d : Mention)
    → done < length payloads → Given blocks self variables (payloads_claimed payloads) done
    → is_own_still blocks self (claimed_in variables [] (payloads_claimed (take done payloads))) (read variables (get_or payloads done d).variable.0) ≡ true
    → Given blocks self variables (payloads_claimed payloads) (done + 1)
sent_more blocks self variables payloads done d lt h own =
    given_more blocks self variables (payloads_claimed payloads) done (payload d) (sent_short payloads done lt) h (sent_own blocks self variables payloads done d true lt own)
