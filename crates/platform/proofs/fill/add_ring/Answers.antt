-- `platform::fill::add_ring` meets its contract. Assumes nothing.
use mathlib.Core.Path.{sym, ap, ◌∙◌}
use native.Mathlib.Omega.{arith}
use Rattle.store.specs.Filling.{begun}
use Rattle.platform.specs.Accepts.{plan_of}
use Rattle.platform.proofs.Opening.{start_small, line-none, line_first, line-last, line_small}
use Rattle.platform.proofs.fill.add_ring.Goals as goal

pub returns-then-count-eq0 : goal.returns-then-count-eq0
returns-then-count-eq0 c =
    let file = c.args.file.now in record {
      value = line-none file c.requires.accepts c.requires.first_value.1 c.if-count-eq0.true c.requires.first_value.0;
      s_after = c.requires.s_value.0 ∙ ap (begun (plan_of file)) (sym c.if-count-eq0.true);
    }

pub overflow_add-first : goal.overflow_add-first
overflow_add-first c =
    omega (arith, c.requires.first_value.0, start_small c.args.file.now c.requires.accepts)

pub add_numbers-end-requires : goal.add_numbers-end-requires
add_numbers-end-requires c =
    let place = line_first c.args.file.now c.requires.accepts c.requires.first_value.1 c.requires.first_value.0 in
    record {
      accepts = c.requires.accepts;
      first_value = (place, c.requires.first_value.1);
      s_value = c.requires.s_value;
    }

pub overflow_add-result : goal.overflow_add-result
overflow_add-result c =
    omega (arith, line_small c.args.file.now c.requires.accepts c.requires.first_value.1 c.if-count-eq0.false c.add_numbers-end.ensures.value)

pub returns : goal.returns
returns c =
    let end = line-last c.args.file.now c.requires.accepts c.requires.first_value.1 c.if-count-eq0.false c.add_numbers-end.ensures.value in
    record {
      value = end;
      s_after = c.add_numbers-end.ensures.s_after;
    }
