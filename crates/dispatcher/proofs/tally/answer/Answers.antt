-- `dispatcher::tally::answer` meets its contract. Assumes nothing.
use Rattle.std.proofs.Common.{◌≡◌, false, map, rules, arith}
use mathlib.Core.Path.{sym, ◌∙◌}
use Rattle.dispatcher.specs.Tally.{new_tally, answer_of}
use Rattle.dispatcher.proofs.Marks.{events-all}
use Rattle.dispatcher.proofs.tally.answer.Goals as goal

pub returns : goal.returns
unfolding answer_of
returns c =
    let m = c.map.ensures.items in
    let e : c.map.result ≡ map (λ t. t.events) c.args.tallies.now =
    events-all c.args.tallies.now c.map.result (m.long ∙ sym c.told-tallies)
    (λ i h. let a = (m.at i (new_tally false) 0 (omega (arith, m.long))).2 in search (a, rules)) in
    rw (e, c.stopped_bits.ensures)
