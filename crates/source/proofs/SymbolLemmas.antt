-- Which symbol comes first.
use Rattle.std.proofs.Common.{◌≡◌, ℕ, zero, suc, ◌<◌, ◌≤◌, false, List, [], ◌∷◌, length, get_or, take, Some, None, sym, refl, ◌∙◌, ap, arith}
use Rattle.std.specs.Prelude.{is_some, ◌&&◌, ◌==◌, if◌then◌else◌}
use Rattle.std.specs.List.{list_all}
use Rattle.std.specs.Char.{is_ascii_digit}
use Rattle.source.specs.declared.kind.Kind.{Kind}
use Rattle.source.specs.declared.kind.Kind.TheVariants.{Number}
use Rattle.source.specs.Classes.{in_word, IsOther}
use Rattle.source.specs.Comments.{begins_block}
use Rattle.source.specs.Pieces.{is_piece, kind_of}
use Rattle.source.specs.Words.{symbol, all_symbols, word_kind}
use Rattle.source.specs.Cutting.{IsFirstPiece}
use Rattle.source.specs.Faults.{IsStray}
use Rattle.source.proofs.WrittenLemmas.{none_longer}
use Rattle.source.proofs.FrontLemmas.{front_other}

only_symbols : (b : ℕ) (bs : List ℕ) → IsOther b → is_piece (b ∷ bs) ≡ is_some (symbol (b ∷ bs))
only_symbols b bs o = front_other b bs o.blank o.word o.digit o.slash

-- no symbol has three bytes
three_none : (b c d : ℕ) (bs : List ℕ) → symbol (b ∷ c ∷ d ∷ bs) ≡ None
three_none b c d bs = none_longer 2 all_symbols (b ∷ c ∷ d ∷ bs) refl (omega arith)

-- two bytes or more are no piece, if they do not begin with a symbol of two bytes
longer_none : (b : ℕ) (bs : List ℕ) (m : ℕ) → IsOther b → (1 < length (b ∷ bs) → symbol (b ∷ get_or bs 0 0 ∷ []) ≡ None) → 1 < m → m ≤ length (b ∷ bs) → is_piece (take m (b ∷ bs)) ≡ false
longer_none b bs zero o d low high = absurd (omega arith)
longer_none b bs (suc zero) o d low high = absurd (omega arith)
longer_none b [] (suc (suc m)) o d low high = absurd (omega arith)
longer_none b (c ∷ bs) (suc (suc zero)) o d low high = only_symbols b (c ∷ []) o ∙ ap is_some (d (omega arith))
longer_none b (c ∷ []) (suc (suc (suc m))) o d low high = absurd (omega arith)
longer_none b (c ∷ e ∷ bs) (suc (suc (suc m))) o d low high = only_symbols b (c ∷ e ∷ take m bs) o ∙ ap is_some (three_none b c e (take m bs))

symbol_kind : (b : ℕ) (bs : List ℕ) → IsOther b → kind_of (b ∷ bs) ≡ symbol (b ∷ bs)
symbol_kind b bs o = λ i. if o.word i && list_all in_word bs then Some (word_kind (b ∷ bs)) else (if o.digit i && list_all is_ascii_digit bs then Some Number else symbol (b ∷ bs))

-- a symbol of two bytes
pub first_double : (rest : List ℕ) (k : Kind) → 1 < length rest → IsOther (get_or rest 0 0) → symbol (get_or rest 0 0 ∷ get_or rest 1 0 ∷ []) ≡ Some k → IsFirstPiece rest 2 × (Some k ≡ kind_of (take 2 rest))
first_double [] k some o is = absurd (omega arith)
first_double (b ∷ []) k some o is = absurd (omega arith)
first_double (b ∷ c ∷ bs) k some o is = (
  record {
    some = omega arith;
    within = omega arith;
    piece = only_symbols b (c ∷ []) o ∙ ap is_some is;
    longest = longer b c bs o;
  },
  sym (symbol_kind b (c ∷ []) o ∙ is),
)
  where
    longer : (b c : ℕ) (bs : List ℕ) → IsOther b → (m : ℕ) → 2 < m → m ≤ length (b ∷ c ∷ bs) → is_piece (take m (b ∷ c ∷ bs)) ≡ false
    longer b c bs o zero low high = absurd (omega arith)
    longer b c bs o (suc zero) low high = absurd (omega arith)
    longer b c bs o (suc (suc zero)) low high = absurd (omega arith)
    longer b c [] o (suc (suc (suc m))) low high = absurd (omega arith)
    longer b c (e ∷ bs) o (suc (suc (suc m))) low high = only_symbols b (c ∷ e ∷ take m bs) o ∙ ap is_some (three_none b c e (take m bs))

-- a symbol of one byte
pub first_single : (rest : List ℕ) (k : Kind) → 0 < length rest → IsOther (get_or rest 0 0) → (1 < length rest → symbol (get_or rest 0 0 ∷ get_or rest 1 0 ∷ []) ≡ None) → symbol (get_or rest 0 0 ∷ []) ≡ Some k → IsFirstPiece rest 1 × (Some k ≡ kind_of (take 1 rest))
first_single [] k some o d is = absurd (omega arith)
first_single (b ∷ bs) k some o d is = (
  record {
    some = omega arith;
    within = omega arith;
    piece = only_symbols b [] o ∙ ap is_some is;
    longest = λ m. longer_none b bs m o d;
  },
  sym (symbol_kind b [] o ∙ is),
)

-- neither a piece nor a comment
pub first_none : (rest : List ℕ) → 0 < length rest → IsOther (get_or rest 0 0) → (1 < length rest → symbol (get_or rest 0 0 ∷ get_or rest 1 0 ∷ []) ≡ None) → symbol (get_or rest 0 0 ∷ []) ≡ None → IsStray rest
first_none [] some o d is = absurd (omega arith)
first_none (b ∷ bs) some o d is = record { some = some; none = record { none = none b bs o d is }; other = no_block b bs o }
  where
    none : (b : ℕ) (bs : List ℕ) → IsOther b → (1 < length (b ∷ bs) → symbol (b ∷ get_or bs 0 0 ∷ []) ≡ None) → symbol (b ∷ []) ≡ None → (m : ℕ) → m ≤ length (b ∷ bs) → is_piece (take m (b ∷ bs)) ≡ false
    none b bs o d is zero within = refl
    none b bs o d is (suc zero) within = only_symbols b [] o ∙ ap is_some is
    none b bs o d is (suc (suc m)) within = longer_none b bs (suc (suc m)) o d (omega arith) within

    no_block : (b : ℕ) (bs : List ℕ) → IsOther b → begins_block (b ∷ bs) ≡ false
    no_block b [] o = refl
    no_block b (c ∷ bs) o = λ i. o.slash i && c == 42
