-- `platform::write::put_file` meets its contract: the head, then the C lines and the L lines. Assumes nothing.
use native.Mathlib.Omega.{arith}
use borrow.Author.Rules.{rules}
use Prim.Native.Nat.{◌+◌, ◌≤◌}
use mathlib.Core.Path.{refl, ap}
use mathlib.Core.List.{◌++◌}
use lib.ListN.{length}
use Rattle.text.proofs.PutLaws.{first-part, second-part, both-parts}
use Rattle.runfile.specs.Text.{head_text, crash_text, delay_text, rows_text, plan_text}
use Rattle.store.specs.Store.{plan_in}
use Rattle.platform.proofs.Writing.{plan-parts}
use Rattle.platform.proofs.write.put_file.Goals as goal

pub put_head-requires-clause-room : goal.put_head-requires-clause-room
put_head-requires-clause-room c =
    let p = plan_in c.args.store.now in
    let w = c.new-writer.ensures in
    first-part c.new-writer.result _ (head_text p) (rows_text crash_text p.crashes ++ rows_text delay_text p.delays) (plan-parts p)
    (omega (arith, c.requires.store_in_bounds, w.start, ap length w.value))

pub put_crashes-requires-clause-room : goal.put_crashes-requires-clause-room
put_crashes-requires-clause-room c =
    let p = plan_in c.args.store.now in
    let w = c.new-writer.ensures in
    let rest = second-part _ _ (plan-parts p) (omega (arith, c.requires.store_in_bounds, w.start, ap length w.value)) c.put_head.ensures in
    first-part c.put_head.new.out _ (rows_text crash_text p.crashes) (rows_text delay_text p.delays) refl rest

pub put_delays-requires-clause-room : goal.put_delays-requires-clause-room
put_delays-requires-clause-room c =
    let p = plan_in c.args.store.now in
    let w = c.new-writer.ensures in
    let rest = second-part _ _ (plan-parts p) (omega (arith, c.requires.store_in_bounds, w.start, ap length w.value)) c.put_head.ensures in
    second-part _ (rows_text delay_text p.delays) refl rest c.put_crashes.ensures

pub returns : goal.returns
returns c =
    let p = plan_in c.args.store.now in
    let w = c.new-writer.ensures in
    let room : c.new-writer.result.at + length (plan_text p) ≤ length c.new-writer.result.out.now =
    omega (arith, c.requires.store_in_bounds, w.start, ap length w.value) in
    let rest = second-part _ _ (plan-parts p) room c.put_head.ensures in
    let all = both-parts _ (plan-parts p) room c.put_head.ensures (both-parts _ refl rest c.put_crashes.ensures c.put_delays.ensures) in
    search (all, rules)
