-- `platform::fill::add_numbers` meets its contract. Assumes nothing.
use mathlib.Core.Path.{sym, ◌∙◌}
use Rattle.plans.specs.Plan.{Plan}
use Rattle.runfile.specs.Reader.{ring_place}
use Rattle.store.specs.Filling.{begun}
use Rattle.platform.specs.Accepts.{plan_of}
use Rattle.platform.proofs.Opening.{number_fits, number-found, number-next, number_put, at-end}
use borrow.Author.Rules.{rules}
use Rattle.platform.proofs.fill.add_numbers.Goals as goal

pub unreachable-requires : goal.unreachable-requires
unreachable-requires c =
    number-found _ c.requires.accepts _ c.loop-i-test.true c.requires.first_value.1 c.loop-i.invariant.0 (sym c.read_field.ensures ∙ c.in_default.is)

pub put_ring-requires : goal.put_ring-requires
put_ring-requires c = search (number_fits, rules)

pub loop-i-preserved : goal.loop-i-preserved
loop-i-preserved c =
    let w = c.loop-i.invariant in
    let got = sym c.in-Some.is ∙ c.read_field.ensures in
    let a = c.requires in (
      number-next _ a.accepts _ c.loop-i-test.true a.first_value.1 w.0 got,
      number_put _ a.accepts _ c.loop-i-test.true a.first_value.1 w.0 got w.1 c.put_ring.ensures,
      search (◌∙◌, rules),
    )

pub returns : goal.returns
returns c =
    let v = c.loop-i.invariant in
    let p : Plan = plan_of c.args.file.now in
    record {
      value = at-end (ring_place p) c.loop-i.auto.i-end c.loop-i-test.false v.0;
      s_after = at-end (begun p) c.loop-i.auto.i-end c.loop-i-test.false v.1;
    }
