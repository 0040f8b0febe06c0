-- `ring::with_unlisted` meets its contract. Assumes nothing.
use Rattle.ring.proofs.Laws.{one_shl}
use Rattle.ring.proofs.Lists.{unlisting-mask}
use borrow.Author.Rules.{rules}
use Rattle.ring.proofs.with_unlisted.Goals as goal

pub returns : goal.returns
returns c = rw (one_shl 64 c.args.i (search rules)) (unlisting-mask 64 _ _ (search rules) (search rules))
