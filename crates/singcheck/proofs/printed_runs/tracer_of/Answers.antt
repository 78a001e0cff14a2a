use Rattle.std.proofs.Common.{◌∙◌, List, ℕ, ap, ap₂, map}
use Rattle.std.proofs.lemmas.Result.{IfOk-weaker}
use Rattle.std.specs.Prelude.{string_bytes}
use Rattle.replays.specs.EventLines.{TraceWords}
use Rattle.rules.specs.Programs.{model_of}
use Rattle.singcheck.proofs.printed_runs.tracer_of.Goals as goal

pub returns-clause-program : goal.returns-clause-program
returns-clause-program c =
    IfOk-weaker c.new.result _ _ (λ tracer told. ap (λ (t : TraceWords). t.words.program) told) c.new.ensures

pub returns-clause-words : goal.returns-clause-words
returns-clause-words c =
    let p = model_of c.args.begun.now.program in
    IfOk-weaker c.new.result _ _ (λ tracer told text entry is. told
    ∙ ap₂ (λ (s m : List (List ℕ)). record { words = record { program = p; structs = s }; methods = m; detail = c.args.detail })
    (ap (map string_bytes) c.deref.ensures.value ∙ is.structs)
    (ap (map (λ name. name.items)) c.deref-2.ensures.value ∙ is.methods)) c.new.ensures
