-- The forwarding table's laws. Assumes nothing.
use mathlib.Core.Path.{◌≡◌, refl, ap, ◌∙◌}
use mathlib.Core.Bool.{Bool, true, false, cond, not, ◌&&◌, and-eq-true_iff}
use mathlib.Core.List.{List, map}
use Prim.Native.Nat.{ℕ, ◌^◌, ◌≤◌, ◌<◌}
use borrow.Author.Tests.{lt-ltb, le-ltb, leb-true, ltb-true}
use lib.Dec.{leb, ltb}
use lib.ListN.{length, replicate}
use Rattle.limits.specs.Limits.{most_nodes}
use Rattle.ring.specs.Ring.{row_size, none, numbers, listed, place, targets, row, table_answer, table_row, table_rows}
use Rattle.limits.specs.declared.Refusal.{Refusal}
use Rattle.limits.specs.declared.Refusal.TheVariants.{OutOfRange}
use Rattle.std.specs.Prelude.{Result, Ok, Err, is_ok}

-- the three cases of a row
module _ (order : List ℕ) (d i : ℕ) where
  pub row-beyond : length order ≤ i → replicate row_size none ≡ table_row order d i
  unfolding table_row row
  row-beyond h = rw (le-ltb i (length order) h)

  pub row_listed : i < length order → listed d i ≡ true → replicate row_size none ≡ table_row order d i
  unfolding table_row row
  row_listed h e = rw (lt-ltb i (length order) h, e)

  pub row-unlisted : (p : ℕ) → p ≡ place order i → i < length order → listed d i ≡ false → row (targets order d p) ≡ table_row order d i
  unfolding table_row
  row-unlisted p q h e = rw (q, lt-ltb i (length order) h, e)

answered : (b : Bool) → is_ok (cond {A = Result (Unit {0}) Refusal} b (Ok tt) (Err OutOfRange)) ≡ true → b ≡ true
answered true e = refl
answered false e = e

module _ (n d : ℕ) where
  pub refused-rows : is_ok (table_answer n d) ≡ false → replicate most_nodes (replicate row_size none) ≡ table_rows n d
  unfolding table_rows row
  refused-rows h = rw h

  pub accepted-rows : is_ok (table_answer n d) ≡ true → map (table_row (numbers 0 n) d) (numbers 0 most_nodes) ≡ table_rows n d
  unfolding table_rows
  accepted-rows e = rw e

  pub accepted : is_ok (table_answer n d) ≡ true → (1 ≤ n) × (n ≤ most_nodes) × (d < 2 ^ n)
  unfolding table_answer
  accepted e =
      let a = (and-eq-true_iff (leb 1 n && leb n most_nodes) (ltb d (2 ^ n))).0 (answered _ e) in
      let b = (and-eq-true_iff (leb 1 n) (leb n most_nodes)).0 a.0 in
      (leb-true 1 n b.0, leb-true n most_nodes b.1, ltb-true d (2 ^ n) a.1)

-- the same where the answer is r, and b says whether that is a refusal
module _ (n d : ℕ) (r : Result (Unit {0}) Refusal) (b : Bool) (e : r ≡ table_answer n d) (q : is_ok r ≡ not b) where
  pub is-refused : b ≡ true → is_ok (table_answer n d) ≡ false
  is-refused t = rw e at (q ∙ ap not t)

  pub is-taken : b ≡ false → is_ok (table_answer n d) ≡ true
  is-taken t = rw e at (q ∙ ap not t)

pub ruleset rows_of_table = (row-beyond, row_listed, row-unlisted)
