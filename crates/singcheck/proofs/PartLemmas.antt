-- Bytes that are appended one part after another.
use Rattle.std.proofs.Common.{◌≡◌, ℕ, List, ◌++◌, ap, ◌∙◌}
use Rattle.std.proofs.lemmas.List.{append_assoc}

pub three_added : (old a b c first second new : List ℕ) → first ≡ old ++ a → second ≡ first ++ b → new ≡ second ++ c → new ≡ old ++ (a ++ b ++ c)
three_added old a b c first second new e f g = g ∙ ap (λ l. l ++ c) (f ∙ ap (λ l. l ++ b) e ∙ append_assoc old a b) ∙ append_assoc old (a ++ b) c

pub five_added : (old a b c d e first second third fourth new : List ℕ) → first ≡ old ++ a → second ≡ first ++ b → third ≡ second ++ c → fourth ≡ third ++ d → new ≡ fourth ++ e → new ≡ old ++ (a ++ b ++ c ++ d ++ e)
five_added old a b c d e first second third fourth new f g h i j = three_added old (a ++ b ++ c) d e third fourth new (three_added old a b c first second third f g h) i j
