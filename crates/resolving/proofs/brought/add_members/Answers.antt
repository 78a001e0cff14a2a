use Rattle.std.proofs.Common.{◌++◌, ◌∙◌, ap, append-nil, map, sym}
use Rattle.std.specs.Global.{Vec}
use Rattle.tree.specs.Trees.{member_tree}
use Rattle.tree.specs.declared.contract.Member.{Member}
use Rattle.declarations.specs.Declarations.{message_among}
use Rattle.program.specs.declared.types.HeapType.{HeapType}
use Rattle.resolving.specs.Brought.{payload_types, params_held}
use Rattle.program.specs.Programs.{type_lists}
use Rattle.resolving.proofs.BroughtLemmas.{members_all, members_more, lists_more}
use Rattle.resolving.proofs.brought.add_members.Goals as goal
use Rattle.resolving.proofs.brought.add_members.Goals.{in-Message+in_ok-params_held+in_ok-push, in_default}

pub loop-member-preserved : goal.loop-member-preserved
loop-member-preserved c = λ p round.
    let done = c.loop-member.told.items in
    let here = λ (x : Member). type_lists done ++ map (payload_types p) (message_among (member_tree x)) in
    let more = members_more p c.args.members.now c.loop-member.member-index c.member-item.result (type_lists c.args.told.now.items) (type_lists done) (type_lists c.match-member.told.items)
    c.loop-member-test.true c.member-item.is (c.loop-member.invariant p round) in
    elim c.match-member.branch [
      | in-Message+in_ok-params_held+in_ok-push w ↦ more (ap (λ (t : Vec (Vec HeapType)). type_lists t.items) w.told-is
          ∙ lists_more done w.push.new.self.items w.in_ok-params_held.field-0 (params_held p w.in-Message.message.params.items) w.in_ok-push.ensures.items (w.in_ok-params_held.ensures p round ∙ ap (params_held p) w.deref.ensures.value)
          ∙ ap here (sym w.in-Message.is))
      | in_default w ↦ more (ap (λ (t : Vec (Vec HeapType)). type_lists t.items) w.told-is ∙ sym (append-nil (type_lists done)) ∙ ap here (sym w.in_default.is))
    ]

pub returns : goal.returns
returns c = λ p round.
    c.loop-member.invariant p round ∙ ap (λ l. type_lists c.args.told.now.items ++ l) (members_all p c.args.members.now c.loop-member.member-index c.loop-member-test.false)
