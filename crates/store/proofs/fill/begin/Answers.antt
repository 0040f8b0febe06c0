-- `store::fill::begin` meets its contract. Assumes nothing.
use Rattle.store.proofs.Filling.{start-begun}
use Rattle.store.proofs.fill.begin.Goals as goal

pub returns : goal.returns
returns c =
    start-begun _ _ _ _ _ c.args.s.now c.requires.0 c.requires.1 c.clear.ensures c.put_start.ensures
