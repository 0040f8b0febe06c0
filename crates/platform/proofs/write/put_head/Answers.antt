-- `platform::write::put_head` meets its contract: the P line, then the Q line. Assumes nothing.
use Rattle.text.proofs.PutLaws.{first-part, second-part, both-parts}
use Rattle.store.specs.Store.{plan_in}
use Rattle.platform.proofs.Writing.{start-read}
use Rattle.platform.proofs.write.put_head.Goals as goal

pub put_start-requires : goal.put_start-requires
put_start-requires c =
    let parts = start-read (plan_in c.args.store.now) c.node_count.ensures c.period.ensures c.time_out.ensures c.longest_delay.ensures c.end_tick.ensures in
    first-part c.args.out.now _ _ _ parts c.requires.room

pub put_ring-requires-clause-room : goal.put_ring-requires-clause-room
put_ring-requires-clause-room c =
    let parts = start-read (plan_in c.args.store.now) c.node_count.ensures c.period.ensures c.time_out.ensures c.longest_delay.ensures c.end_tick.ensures in
    second-part _ _ parts c.requires.room c.put_start.ensures

pub returns : goal.returns
returns c =
    let parts = start-read (plan_in c.args.store.now) c.node_count.ensures c.period.ensures c.time_out.ensures c.longest_delay.ensures c.end_tick.ensures in
    both-parts _ parts c.requires.room c.put_start.ensures c.put_ring.ensures
