use Rattle.std.proofs.Common.{rules, ap, ◌∙◌, ◌++◌}
use Rattle.std.proofs.lemmas.List.{append_assoc}
use Rattle.std.specs.Str.Lossy.{utf8_lossy}
use Rattle.source.proofs.texts.ownership.around.Goals as goal

pub returns : goal.returns
returns c =
    c.in_ok-push_str-2.ensures.bytes
    ∙ ap (λ t. t ++ c.args.back.now) (c.in_ok-push_str.ensures.bytes ∙ search rules)
    ∙ append_assoc c.args.front.now (utf8_lossy c.args.name.now) c.args.back.now
