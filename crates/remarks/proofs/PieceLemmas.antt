-- Pieces of a text that are added in turn.
use Rattle.std.proofs.Common.{◌≡◌, ◌++◌, ℕ, List, Result, ap, ◌∙◌, append_assoc}
use Rattle.std.specs.Prelude.{OnOk}
use Rattle.std.proofs.lemmas.Result.{on_ok_weaker}

-- A call that adds a piece after a first one has added both.
pub both_added : {T E : Type 0} (r : Result T E) (old between new first second : List ℕ)
    → between ≡ old ++ first → OnOk r (new ≡ between ++ second) → OnOk r (new ≡ old ++ (first ++ second))
both_added r old between new first second before behind =
    on_ok_weaker r (λ e. e ∙ ap (λ t. t ++ second) before ∙ append_assoc old first second) behind
