-- `platform::fill::begin` meets its contract. Assumes nothing.
use mathlib.Core.Path.{◌∙◌}
use Rattle.platform.proofs.Opening.{outlined, outlined-ring, started, ringed, opened}
use Rattle.platform.proofs.fill.begin.Goals as goal

pub begin-requires : goal.begin-requires
begin-requires c =
    (outlined c.args.file.now c.requires.accepts c.args.o c.requires.o_value.0, c.requires.o_value.1)

pub add_ring-rows-requires : goal.add_ring-rows-requires
add_ring-rows-requires c =
    let file = c.args.file.now in
    let accepts = c.requires.accepts in
    let same = c.requires.o_value.0 in
    let store = started file accepts c.args.o same c.begin.ensures in
    record {
      accepts = accepts;
      first_value = outlined-ring file accepts c.args.o same;
      s_value = (store, c.begin.auto.s ∙ c.requires.o_value.1);
    }

pub open_nodes-requires : goal.open_nodes-requires
open_nodes-requires c =
    ringed c.args.file.now c.requires.accepts c.args.o c.requires.o_value.0 c.add_ring-rows.ensures.s_after

pub returns : goal.returns
returns c =
    let added = c.add_ring-rows in record {
      value = added.ensures.value;
      s_after = opened c.args.file.now c.requires.accepts c.args.o c.requires.o_value.0 added.ensures.s_after c.open_nodes.ensures;
    }
