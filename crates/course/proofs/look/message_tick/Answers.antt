-- `course::look::message_tick` meets its contract. Assumes nothing.
use mathlib.Core.Path.{◌≡◌}
use Rattle.std.specs.List.{between}
use Rattle.std.specs.Option.{option_map}
use Rattle.std.specs.Prelude.{slice_get}
use Rattle.store.specs.declared.Flight.{Flight}
use Rattle.course.proofs.Looking.{first-due}
use borrow.Author.Rules.{rules}
use Rattle.course.proofs.look.message_tick.Goals as goal

pub returns : goal.returns
returns c =
    λ flight h.
    let e : c.map.result ≡ option_map (λ (m : Flight). m.due) (slice_get (between c.args.start c.args.end c.args.q.now) 0) = search rules in
    first-due _ _ _ flight h _ e
