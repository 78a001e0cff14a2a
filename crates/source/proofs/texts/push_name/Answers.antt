use Rattle.std.proofs.Common.{◌++◌, sym, ap, ◌∙◌}
use Rattle.std.specs.Prelude.{string_bytes}
use Rattle.std.proofs.lemmas.Str.{utf8_lossy-IsUtf8}
use Rattle.source.proofs.texts.push_name.Goals as goal

pub returns-in_ok-push_str-in-Ok : goal.returns-in_ok-push_str-in-Ok
returns-in_ok-push_str-in-Ok c =
    let cases = c.in-Ok.ensures.cases in
    c.in_ok-push_str-in-Ok.ensures.bytes ∙ ap (λ bytes. string_bytes c.args.text.now ++ bytes) (cases.0 ∙ sym (utf8_lossy-IsUtf8 c.args.name.now cases.1))
