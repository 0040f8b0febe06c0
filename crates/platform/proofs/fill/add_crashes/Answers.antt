-- `platform::fill::add_crashes` meets its contract. Assumes nothing.
use mathlib.Core.Path.{sym, ◌∙◌}
use Rattle.plans.specs.Plan.{Plan}
use Rattle.runfile.specs.Reader.{crash_place}
use Rattle.store.specs.Filling.{filled}
use Rattle.platform.specs.Accepts.{plan_of}
use Rattle.platform.proofs.Opening.{crash-fits, crash-found, crash-next, crash-put, at-end}
use borrow.Author.Rules.{rules}
use Rattle.platform.proofs.fill.add_crashes.Goals as goal

pub unreachable-requires : goal.unreachable-requires
unreachable-requires c =
    crash-found _ c.requires.accepts _ c.loop-i-test.true c.requires.first_value.1 c.loop-i.invariant.0 (sym c.row_at.ensures ∙ c.in_default.is)

pub put_crash-requires : goal.put_crash-requires
put_crash-requires c = search (crash-fits, rules)

pub loop-i-preserved : goal.loop-i-preserved
loop-i-preserved c =
    let w = c.loop-i.invariant in
    let got = sym c.in-Some.is ∙ c.row_at.ensures in
    let a = c.requires in (
      crash-next _ a.accepts _ c.loop-i-test.true a.first_value.1 w.0 got,
      crash-put _ a.accepts _ c.loop-i-test.true a.first_value.1 w.0 got w.1 c.put_crash.ensures,
      search (◌∙◌, rules),
    )

pub returns : goal.returns
returns c =
    let v = c.loop-i.invariant in
    let p : Plan = plan_of c.args.file.now in
    record {
      value = at-end (crash_place p) c.loop-i.auto.i-end c.loop-i-test.false v.0;
      s_after = at-end (λ k. filled p k 0) c.loop-i.auto.i-end c.loop-i-test.false v.1;
    }
