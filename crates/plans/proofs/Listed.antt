-- The nodes of C lines as a dead list: which it lists, one line more, and that it stays below 2 ^ n. Assumes nothing.
use Prim.Native.Nat.{ℕ, ◌^◌, ◌<◌}
use mathlib.Core.Path.{◌≡◌, ap, ◌∙◌}
use mathlib.Core.List.{List, [], ◌∷◌, ◌++◌, map-append}
use lib.ListN.{length, get_or}
use Rattle.ring.specs.Ring.{listed, listing, listing_all}
use Rattle.ring.proofs.Once.{listed-all, all_snoc, all_small}
use Rattle.plans.specs.Plan.{Crash, nodes_of, hits, with_crashed}
use Rattle.plans.specs.Plain.{no_crash}
use Rattle.plans.proofs.Rows.{nodes-below}

-- from nobody on, exactly those that rows hit
pub listed-hits : (rows : List Crash) (k : ℕ) → listed (with_crashed 0 rows) k ≡ hits rows k
unfolding with_crashed hits
listed-hits rows k = listed-all (nodes_of rows) k

pub with-snoc : (rows : List Crash) (d : ℕ) (r : Crash) → with_crashed d (rows ++ (r ∷ [])) ≡ listing (with_crashed d rows) r.node
unfolding with_crashed
with-snoc rows d r =
    ap (listing_all d) (map-append (λ (c : Crash). c.node) rows (r ∷ [])) ∙ all_snoc (nodes_of rows) d r.node

pub with-small : (n : ℕ) (rows : List Crash) (d : ℕ) → d < 2 ^ n → ((i : ℕ) → i < length rows → (get_or rows i no_crash).node < n)
    → with_crashed d rows < 2 ^ n
unfolding with_crashed
with-small n rows d h f = all_small n (nodes_of rows) d h (nodes-below n rows no_crash f)
