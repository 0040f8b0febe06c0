-- `course::act::do_crash` meets its contract. Assumes nothing.
use Rattle.event.proofs.Readiness.{held-sized}
use Rattle.course.proofs.Parting.{apart-held, apart-acting}
use Rattle.course.proofs.Crashes.{crash-more, crash-row, crash-tick, crash-here, crash-crashes, crash-stepped}
use Rattle.course.proofs.act.do_crash.Goals as goal

pub crashes_done-requires : goal.crashes_done-requires
crashes_done-requires c = (apart-held c.requires.underway.apart).size

pub crash_at-row-requires : goal.crash_at-row-requires
crash_at-row-requires c =
    let p = c.requires in
    let more = crash-more _ p.q c.args.c.now p.whole p.underway c.args.t p.node p.next in
    record {
      sized = held-sized _ (apart-held p.underway.apart);
      i_in_bounds = rw c.crashes_done.ensures more;
    }

pub crash-deed-requires : goal.crash-deed-requires
crash-deed-requires c =
    let p = c.requires in
    let row = c.crash_at-row in
    let n = c.crashes_done in
    let e =
    crash-row _ p.q c.args.c.now p.whole p.underway c.args.t p.node p.next row.result n.result n.ensures row.ensures in
    let tick = crash-tick _ p.q c.args.c.now p.whole p.underway c.args.t p.node p.next in
    let here = crash-here _ p.q c.args.c.now p.whole p.underway c.args.t p.node p.next in
    record {
      acting = apart-acting p.underway.apart p.underway.ready;
      t_le_most_tick = (tick, rw e here);
    }

pub crashed_list-c-requires : goal.crashed_list-c-requires
crashed_list-c-requires c =
    let p = c.requires in
    let r = crash-crashes _ p.q c.args.c.now p.whole p.underway c.args.t p.node p.next _ c.crash-deed.ensures.s_after in
    record { sized = r.0; s_value = r.1.0; s_in_bounds = r.1.1 }

pub returns : goal.returns
returns c =
    λ q whole n k next.
    let row = c.crash_at-row in
    let i = c.crashes_done in
    let e = crash-row _ q c.args.c.now whole k c.args.t n next row.result i.result i.ensures row.ensures in
    let l = rw e at c.crash-deed.ensures.value in
    crash-stepped _ q c.args.c.now whole k c.args.t n next _ c.crash-deed.ensures.s_after _ c.crashed_list-c.ensures _ l
