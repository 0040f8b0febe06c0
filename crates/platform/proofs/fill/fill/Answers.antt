-- `platform::fill::fill` meets its contract. Assumes nothing.
use mathlib.Core.Path.{◌∙◌}
use Rattle.platform.proofs.Opening.{outlined-rows, outlined-delays, crashed, whole}
use Rattle.platform.proofs.fill.fill.Goals as goal

pub add_crashes-delays-requires : goal.add_crashes-delays-requires
add_crashes-delays-requires c =
    let file = c.args.file.now in
    let begun = c.begin-rows in
    let places = outlined-rows file c.requires.accepts c.args.o c.requires.o_value.0 begun.ensures.value in
    record {
      accepts = c.requires.accepts;
      first_value = places;
      s_value = (begun.ensures.s_after, begun.auto.s ∙ c.requires.o_value.1);
    }

pub add_delays-requires : goal.add_delays-requires
add_delays-requires c =
    let file = c.args.file.now in
    let accepts = c.requires.accepts in
    let same = c.requires.o_value.0 in
    let added = c.add_crashes-delays in
    let places = outlined-delays file accepts c.args.o same added.ensures.value in
    let store = crashed file accepts c.args.o same added.ensures.s_after in
    record {
      accepts = accepts;
      first_value = places;
      s_value = (store, added.auto.s ∙ c.begin-rows.auto.s ∙ c.requires.o_value.1);
    }

pub returns : goal.returns
returns c =
    whole c.args.file.now c.requires.accepts c.args.o c.requires.o_value.0 c.add_delays.ensures
