-- Receipts and shelves as callers see them.
use Rattle.std.specs.Prelude.{ℕ, map}
use Rattle.source.specs.Findings.{finding_model}
use Rattle.rules.specs.Programs.{model_of}
use Rattle.analyse.specs.VerdictParts.{findings_of, program_of, verdict_number}
use Rattle.analyse.specs.Verdicts.{IsMethodVerdict}
use Rattle.analyse.specs.declared.verdict.Verdict.{Verdict}
use Rattle.boxcar.specs.Table.{Shows}
use Rattle.shelf.specs.declared.receipt.Receipt.{Receipt}
use Rattle.shelf.specs.declared.shelf.Shelf.{Shelf}

-- the receipt is of this shelf, which has what it reads
abbrev pub IsOf : Receipt → Shelf → Type 0
IsOf receipt shelf = Shows shelf.verdicts receipt.pushed

-- the verdict that was put for the receipt
abbrev pub verdict_of : Receipt → Verdict
verdict_of receipt = receipt.pushed.value

-- the index of that verdict on the shelf
abbrev pub index_of : Receipt → ℕ
index_of receipt = receipt.pushed.index

-- the findings are the verdict of its method in the program that it remembers
abbrev pub IsOwnVerdict : Verdict → Type 0
IsOwnVerdict verdict =
    ∥ IsMethodVerdict (model_of (program_of verdict)) (verdict_number verdict) (map finding_model (findings_of verdict)) ∥₁
