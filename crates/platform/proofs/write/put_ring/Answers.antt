-- `platform::write::put_ring` meets its contract: nothing, or the letter, the numbers and the line feed. Assumes nothing.
use native.Mathlib.Omega.{arith}
use mathlib.Core.Path.{refl, ap}
use lib.ListN.{length}
use mathlib.Core.List.{[], ◌∷◌}
use Rattle.text.specs.Field.{field, line_feed}
use Rattle.text.proofs.PutLaws.{first-part, second-part, both-parts}
use Rattle.runfile.specs.Text.{rows_text}
use Rattle.store.specs.Store.{plan_in}
use Rattle.platform.proofs.Writing.{line-parts, none_written}
use Rattle.platform.proofs.write.put_ring.Goals as goal

pub returns-then-ring_size-eq0 : goal.returns-then-ring_size-eq0
returns-then-ring_size-eq0 c = none_written _ _ (omega (arith, c.ring_size.ensures))

pub byte-requires : goal.byte-requires
byte-requires c =
    let parts = line-parts (plan_in c.args.store.now).ring (λ e. omega (arith, c.ring_size.ensures, e)) in
    omega (arith, c.requires.room, ap length parts)

pub put_numbers-requires-clause-room : goal.put_numbers-requires-clause-room
put_numbers-requires-clause-room c =
    let parts = line-parts (plan_in c.args.store.now).ring (λ e. omega (arith, c.ring_size.ensures, e)) in
    let rest = second-part _ _ parts c.requires.room c.byte.ensures in
    first-part c.byte.new.self _ (rows_text field (plan_in c.args.store.now).ring) (line_feed ∷ []) refl rest

pub byte-requires-2 : goal.byte-requires-2
byte-requires-2 c =
    let parts = line-parts (plan_in c.args.store.now).ring (λ e. omega (arith, c.ring_size.ensures, e)) in
    let rest = second-part _ _ parts c.requires.room c.byte.ensures in
    omega (arith, second-part _ (line_feed ∷ []) refl rest c.put_numbers.ensures)

pub returns : goal.returns
returns c =
    let parts = line-parts (plan_in c.args.store.now).ring (λ e. omega (arith, c.ring_size.ensures, e)) in
    let rest = second-part _ _ parts c.requires.room c.byte.ensures in
    both-parts _ parts c.requires.room c.byte.ensures (both-parts _ refl rest c.put_numbers.ensures c.byte-2.ensures)
