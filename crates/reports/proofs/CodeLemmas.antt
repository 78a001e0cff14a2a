-- No two codes are printed alike.
use Rattle.std.proofs.Common.{◌≡◌, ℕ, ◌+◌, ◌-◌, ◌*◌, ◌==◌, cond, List, [], ◌∷◌, get_or, refl, sym, ap, ◌∙◌}
use Rattle.source.specs.Findings.{code_name}
use Rattle.source.specs.declared.finding.Code.{Code}
use Rattle.source.specs.declared.finding.Code.TheVariants.{A01, A02, A03, A04, A05, A06, A07, A08, A09, A10, A11, A12, A13, A14, A15, C01, C02, C03, C04, N01, N02, N03, N04, N05, N06, N07, N08, N09, S01, S02, S03, S04, S05, S06}

all_codes : List Code
all_codes = A01 ∷ A02 ∷ A03 ∷ A04 ∷ A05 ∷ A06 ∷ A07 ∷ A08 ∷ A09 ∷ A10 ∷ A11 ∷ A12 ∷ A13 ∷ A14 ∷ A15 ∷ C01 ∷ C02 ∷ C03 ∷ C04 ∷ N01 ∷ N02 ∷ N03 ∷ N04 ∷ N05 ∷ N06 ∷ N07 ∷ N08 ∷ N09 ∷ S01 ∷ S02 ∷ S03 ∷ S04 ∷ S05 ∷ S06 ∷ []

-- how many codes have an earlier letter
before_letter : ℕ → ℕ
before_letter letter = cond (letter == 65) 0 (cond (letter == 67) 15 (cond (letter == 78) 19 28))

-- the code with this name
code_named : List ℕ → Code
code_named name = get_or all_codes (before_letter (get_or name 0 0) + (get_or name 1 0 - 48) * 10 + (get_or name 2 0 - 48) - 1) A01

named_back : (c : Code) → code_named (code_name c) ≡ c
unfolding code_named before_letter all_codes
named_back A01 = refl
named_back A02 = refl
named_back A03 = refl
named_back A04 = refl
named_back A05 = refl
named_back A06 = refl
named_back A07 = refl
named_back A08 = refl
named_back A09 = refl
named_back A10 = refl
named_back A11 = refl
named_back A12 = refl
named_back A13 = refl
named_back A14 = refl
named_back A15 = refl
named_back C01 = refl
named_back C02 = refl
named_back C03 = refl
named_back C04 = refl
named_back N01 = refl
named_back N02 = refl
named_back N03 = refl
named_back N04 = refl
named_back N05 = refl
named_back N06 = refl
named_back N07 = refl
named_back N08 = refl
named_back N09 = refl
named_back S01 = refl
named_back S02 = refl
named_back S03 = refl
named_back S04 = refl
named_back S05 = refl
named_back S06 = refl

pub one_code : (c d : Code) → code_name c ≡ code_name d → c ≡ d
one_code c d e = sym (named_back c) ∙ ap code_named e ∙ named_back d
