use Rattle.names.proofs.MentionLemmas.{given_pointed}
use Rattle.names.proofs.mentions.judge_struct_field.Goals as goal

pub returns-in-Some : goal.returns-in-Some
returns-in-Some c =
    given_pointed c.args.scope.now c.args.field c.in-Some.fields.now c.args.found.now.items _ c.args.index c.judge_field_in.result c.in-Some.ensures c.judge_field_in.ensures
