-- `store::messages::take_message` meets its contract. Assumes nothing.
use Rattle.std.proofs.Common.{refl, ◌∙◌}
use lib.Seq.{take_all}
use Rattle.store.specs.Columns.{each_part, cell_out}
use Rattle.store.specs.Store.{time_parts, route_parts, message_parts}
use Rattle.store.proofs.Groups.{each_next}
use Rattle.store.proofs.States.{put-take}
use Rattle.store.proofs.messages.take_message.Goals as goal

pub loop-field-init : goal.loop-field-init
unfolding each_part
loop-field-init c = refl

pub loop-field-preserved : goal.loop-field-preserved
unfolding time_parts route_parts
loop-field-preserved c =
    let next = each_next (λ b f. cell_out b f c.args.i c.message_count-n.result) message_parts _ refl in
    c.close_gap.ensures ∙ rw c.loop-field.invariant (next c.loop-field.field-index _ c.loop-field-test.true c.args.s.now)

pub returns : goal.returns
unfolding time_parts route_parts
returns c =
    let n = c.message_count-n in
    c.put.ensures ∙ rw (c.loop-field.invariant, take_all c.loop-field.field-index message_parts c.loop-field-test.false)
    (put-take c.args.s.now c.requires.held c.args.i n.result n.ensures (rw n.ensures c.requires.i_in_bounds))
