-- `platform::fill::add_delays` meets its contract. Assumes nothing.
use mathlib.Core.Path.{sym, ◌∙◌}
use Rattle.store.specs.Filling.{filled}
use Rattle.platform.proofs.Opening.{delay-fits, delay-found, delay-next, delay-put, at-end}
use borrow.Author.Rules.{rules}
use Rattle.platform.proofs.fill.add_delays.Goals as goal

pub unreachable-requires : goal.unreachable-requires
unreachable-requires c =
    delay-found _ c.requires.accepts _ c.loop-i-test.true c.requires.first_value.1 c.loop-i.invariant.0 (sym c.row_at.ensures ∙ c.in_default.is)

pub put_delay-requires : goal.put_delay-requires
put_delay-requires c = search (delay-fits, rules)

pub loop-i-preserved : goal.loop-i-preserved
loop-i-preserved c =
    let w = c.loop-i.invariant in
    let got = sym c.in-Some.is ∙ c.row_at.ensures in
    let a = c.requires in (
      delay-next _ a.accepts _ c.loop-i-test.true a.first_value.1 w.0 got,
      delay-put _ a.accepts _ c.loop-i-test.true a.first_value.1 w.0 got w.1 c.put_delay.ensures,
      search (◌∙◌, rules),
    )

pub returns : goal.returns
returns c =
    at-end (filled _ _) c.loop-i.auto.i-end c.loop-i-test.false c.loop-i.invariant.1
