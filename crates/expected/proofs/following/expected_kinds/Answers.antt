use Rattle.std.proofs.Common.{◌≡◌, ◌+◌, Bool, true, false, length, take, get_or, ◌<◌, sym, refl, ap, subst, ◌∙◌, arith}
use Rattle.std.proofs.lemmas.Bool.{true≢false}
use Rattle.std.proofs.lemmas.Grind.{common_steps}
use Rattle.source.specs.declared.kind.Kind.{Kind}
use Rattle.source.specs.declared.kind.Kind.TheVariants.{Name}
use Rattle.expected.specs.Expected.{IsExpected}
use Rattle.source.specs.declared.kinds.TheConstants.{ALL_KINDS}
use Rattle.expected.proofs.AmongLemmas.{is_among, among, is_in}
use Rattle.expected.proofs.Picking.{HasPicked, none_picked, one_picked, one_left, exactly, in_order}
use Rattle.expected.proofs.Trials.{of_front}
use Rattle.expected.proofs.following.expected_kinds.Goals as goal
use Rattle.expected.proofs.following.expected_kinds.Goals.{then-branch+in_ok-push, else-branch}

pub returns-clause-exact : goal.returns-clause-exact
returns-clause-exact c =
    let P : Kind → Type 0 = IsExpected c.args.tokens.now.list.items c.args.count c.args.at in
    λ kind. exactly P ALL_KINDS c.loop-kind.kinds.items c.loop-kind.kind-index (omega arith) c.loop-kind.invariant.1 kind (c.each_kind_is_listed.ensures kind)

not_among : (b : Bool) → (b ≡ true → ⊥) → b ≡ false
not_among true h = absurd (h refl)
not_among false h = refl

pub returns-clause-order : goal.returns-clause-order
returns-clause-order c =
    let P : Kind → Type 0 = IsExpected c.args.tokens.now.list.items c.args.count c.args.at in
    let found = c.loop-kind.kinds.items in
    let exact = exactly P ALL_KINDS found c.loop-kind.kind-index (omega arith) c.loop-kind.invariant.1 in (
      is_among found,
      in_order P (is_among found) ALL_KINDS found c.loop-kind.kind-index (omega arith)
          (λ kind p. is_in found kind ((exact kind (c.each_kind_is_listed.ensures kind)).1 p))
          (λ kind none. not_among (is_among found kind) (λ h. none ((exact kind (c.each_kind_is_listed.ensures kind)).0 (among found kind h))))
          c.loop-kind.invariant.1,
    )

pub loop-kind-init : goal.loop-kind-init
loop-kind-init c =
    let P : Kind → Type 0 = IsExpected c.args.tokens.now.list.items c.args.count c.args.at in
    (grind (arith, common_steps), none_picked P ALL_KINDS c.new-kinds.result.items c.new-kinds.ensures.items)

pub loop-kind-preserved : goal.loop-kind-preserved
loop-kind-preserved c =
    let ts = c.args.tokens.now.list.items in
    let P : Kind → Type 0 = IsExpected ts c.args.count c.args.at in
    let i = c.loop-kind.kind-index in
    let kind = get_or ALL_KINDS i Name in
    let within : i < length ALL_KINDS = c.loop-kind-test.true in
    let front = c.loop-kind.front.list.items in
    let same = of_front ts front c.args.count c.args.at kind c.requires c.loop-kind.invariant.0 in
    let exact = c.in_ok-goes_on.ensures.exact in (
      c.in_ok-goes_on.ensures.same ∙ c.loop-kind.invariant.0,
      elim c.if-branch.branch [
        | then-branch+in_ok-push w ↦
            one_picked P ALL_KINDS c.loop-kind.kinds.items c.if-branch.kinds.items i Name within
            (ap (λ v. v.items) w.kinds-is ∙ w.in_ok-push.ensures.items) (same.0 (exact.0 w.if-branch.true)) c.loop-kind.invariant.1
        | else-branch w ↦
            subst (HasPicked P (take (i + 1) ALL_KINDS)) (sym (ap (λ v. v.items) w.kinds-is))
            (one_left P ALL_KINDS c.loop-kind.kinds.items i Name within
            (λ p. true≢false (sym (exact.1 (same.1 p)) ∙ w.if-branch.false)) c.loop-kind.invariant.1)
      ],
    )
