-- `store::messages::put_message` meets its contract. Assumes nothing.
use Rattle.store.proofs.States.{put-message}
use Rattle.store.specs.Columns.{each_part}
use Rattle.store.specs.Store.{time_parts, route_parts}
use Rattle.store.specs.Inside.{message_of}
use Rattle.store.proofs.messages.put_message.Goals as goal

pub returns : goal.returns
unfolding each_part time_parts route_parts
returns c =
    let n = c.message_count-n in
    rw (
      c.put-8.ensures,
      c.put-7.ensures,
      c.put-6.ensures,
      c.put-5.ensures,
      c.put-4.ensures,
      c.put-3.ensures,
      c.put-2.ensures,
      c.put.ensures,
    )
    (put-message c.args.s.now c.requires.held (message_of c.args.m) n.result n.ensures (rw n.ensures c.requires.s_len_bound))
