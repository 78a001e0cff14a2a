use Rattle.std.proofs.Common.{◌≡◌, ◌<◌, ◌==◌, arith, ℕ, true, false, length, subst, sym, ap, take, drop, ◌∙◌, inl, inr, eqb-true}
use Rattle.std.proofs.lemmas.Bool.Decides.{nat_tests}
use Rattle.std.proofs.lemmas.List.Sums.{prefix_len-le-length}
use Rattle.std.specs.Char.{is_ascii_digit}
use Rattle.std.specs.List.{prefix_len}
use Rattle.std.specs.Str.Parse.{AllDigits}
use Rattle.replays.proofs.FrontLemmas.{a_number, digits_pass, no_number}
use Rattle.replays.proofs.fronts.number_at.Goals as goal

pub split_at-requires : goal.split_at-requires
split_at-requires c = omega (arith, c.digits_at.ensures, prefix_len-le-length is_ascii_digit c.args.bytes.now)

pub capped_value-value-requires : goal.capped_value-value-requires
capped_value-value-requires c = subst (λ l. AllDigits 10 l) (sym c.split_at.ensures.front) (subst (λ k. AllDigits 10 (take k c.args.bytes.now)) (sym c.digits_at.ensures) (digits_pass c.args.bytes.now))

false_is_some : (n : ℕ) → (n == 0) ≡ false → 0 < n
false_is_some n e = grind (arith, nat_tests)

pub returns-then-is_empty-clause-none : goal.returns-then-is_empty-clause-none
returns-then-is_empty-clause-none c = λ n rest b.
    let front : c.split_at.result.0.now ≡ take (prefix_len is_ascii_digit c.args.bytes.now) c.args.bytes.now = c.split_at.ensures.front ∙ ap (λ k. take k c.args.bytes.now) c.digits_at.ensures in
    let none = λ (e : c.is_empty.result ≡ true). eqb-true (length c.split_at.result.0.now) 0 (sym c.is_empty.ensures ∙ e) in
    no_number c.args.bytes.now c.split_at.result.0.now c.capped_value-value.result n rest front c.capped_value-value.ensures (elim c.then-is_empty.either [ inl e ↦ inl (none e) | inr e ↦ inr e.1 ]) b

pub returns-clause-some : goal.returns-clause-some
returns-clause-some c =
    let front : c.split_at.result.0.now ≡ take (prefix_len is_ascii_digit c.args.bytes.now) c.args.bytes.now = c.split_at.ensures.front ∙ ap (λ k. take k c.args.bytes.now) c.digits_at.ensures in
    let back : c.split_at.result.1.now ≡ drop (prefix_len is_ascii_digit c.args.bytes.now) c.args.bytes.now = c.split_at.ensures.back ∙ ap (λ k. drop k c.args.bytes.now) c.digits_at.ensures in
    a_number c.args.bytes.now c.split_at.result.0.now c.split_at.result.1.now c.capped_value-value.result front back c.capped_value-value.ensures (false_is_some (length c.split_at.result.0.now) (sym c.is_empty.ensures ∙ c.if-is_empty.false)) c.if-value-gt-MOST_NUMBER.false
