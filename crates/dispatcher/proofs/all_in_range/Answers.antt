-- `dispatcher::all_in_range` meets its contract. Assumes nothing.
use Rattle.std.proofs.Common.{rules}
use borrow.Author.Tests.{tests}
use mathlib.Core.Path.{◌∙◌}
use Rattle.std.proofs.lemmas.Iterator.Search.{all_from_yields_List}
use Rattle.store.specs.Store.{store_in_range}
use Rattle.dispatcher.proofs.Chunks.{stores-give, all-tested}
use Rattle.dispatcher.proofs.all_in_range.Goals as goal

pub returns : goal.returns
returns c =
    all_from_yields_List store_in_range _ _ _ c.all.ensures.ran (stores-give c.args.part.now c.chunks_exact.ensures.size c.chunks_exact.ensures.rest)
    (λ x b q k. search (rules, tests)) ∙ all-tested _
