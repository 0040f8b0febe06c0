-- `ring::is_listed` meets its contract. Assumes nothing.
use mathlib.Core.Path.{refl, sym, ◌∙◌}
use borrow.Author.Tests.{le-ltb}
use borrow.Author.Rules.{rules}
use Rattle.ring.specs.Ring.{listed}
use Rattle.ring.proofs.Laws.{listed-beyond}
use Rattle.ring.proofs.is_listed.Goals as goal

pub returns-then-i-lt-MOST_NODES : goal.returns-then-i-lt-MOST_NODES
unfolding listed
returns-then-i-lt-MOST_NODES c = refl

pub returns-else-i-lt-MOST_NODES : goal.returns-else-i-lt-MOST_NODES
returns-else-i-lt-MOST_NODES c = le-ltb _ _ c.if-i-lt-MOST_NODES.false ∙ sym (listed-beyond 64 c.args.d c.args.i (search rules) (search rules))
