-- Seeds of texts.
use Rattle.std.specs.Prelude.{ℕ, List}
use Rattle.std.specs.List.{fold}
use Rattle.std.specs.Hash as fed
use Rattle.std.specs.Hash.DefaultHasher as digest
use Rattle.std.specs.Hash.FoldHasher as folding
use Rattle.tables.specs.declared.seed.Seed.{Seed}

-- the digest of all bytes of a text, by SipHash-1-3 with a key of zeros
abbrev pub digest_of : List ℕ → ℕ
digest_of text = digest.finish (digest.write digest.initial text)

-- the seed of a text: a hasher that has been fed the digest of the text
abbrev pub seed_of : List ℕ → Seed
seed_of text = record { start = fold folding.write folding.initial (fed.u64 (digest_of text)) }
