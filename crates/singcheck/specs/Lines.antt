-- The lines that are printed, each with its end.
use Rattle.std.specs.Prelude.{ℕ, List, ◌++◌, codes}
use Rattle.std.specs.Fmt.{decimal}
use Rattle.source.specs.Findings.{FindingModel, code_name}
use Rattle.explanations.specs.Lines.{LineModel}

-- `LINE:COL CODE text`
abbrev pub finding_line : FindingModel → List ℕ
finding_line f = decimal f.place.line ++ codes ":" ++ decimal f.place.col ++ codes " " ++ code_name f.code ++ codes " "
    ++ f.text ++ codes "\n"

-- `  LINE:COL text`
abbrev pub trace_line : LineModel → List ℕ
trace_line l = codes "  " ++ decimal l.place.line ++ codes ":" ++ decimal l.place.col ++ codes " " ++ l.text ++ codes "\n"

-- `findings: N`
abbrev pub count_line : ℕ → List ℕ
count_line count = codes "findings: " ++ decimal count ++ codes "\n"

-- `NAME: to Exp N, to Imp N`
abbrev pub bounds_line : List ℕ → ℕ → ℕ → List ℕ
bounds_line name to_exp to_imp = name ++ codes ": to Exp " ++ decimal to_exp ++ codes ", to Imp " ++ decimal to_imp ++ codes "\n"

-- `ok: C contracts`
abbrev pub ok_line : ℕ → List ℕ
ok_line contracts = codes "ok: " ++ decimal contracts ++ codes " contracts\n"

-- `ok: C contracts, M methods`
abbrev pub clear_line : ℕ → ℕ → List ℕ
clear_line contracts methods = codes "ok: " ++ decimal contracts ++ codes " contracts, " ++ decimal methods ++ codes " methods\n"

-- `no deadlock in all 31 worlds`, with its end
abbrev pub none_line : ℕ → List ℕ
none_line worlds = codes "no deadlock in all " ++ (decimal worlds ++ codes " worlds\n")

-- `no deadlock within 100000 worlds`, with its end
abbrev pub unknown_line : ℕ → List ℕ
unknown_line worlds = codes "no deadlock within " ++ (decimal worlds ++ codes " worlds\n")
