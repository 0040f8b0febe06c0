-- The L row of a message, where rows rise by number: what a search for it may conclude. Assumes nothing.
use Prim.Native.Nat.{ℕ, zero, suc, ◌+◌, ◌-◌, ◌≤◌, ◌<◌}
use mathlib.Core.Path.{◌≡◌, refl, sym, ap, ◌∙◌}
use mathlib.Core.Logic.{◌≢◌}
use mathlib.Core.Bool.{true, and-eq-true_iff}
use mathlib.Core.List.{List, [], ◌∷◌}
use native.Mathlib.Decide.{ℕ_discrete, dec_lt}
use native.Mathlib.Omega.{arith}
use borrow.Author.Tests.{ltb-true, eq-eqb, ne_eqb}
use lib.Dec.{ltb}
use lib.ListN.{length, get_or}
use Rattle.plans.specs.Plan.{Delay, above, rising, rising_from, delay_order}
use Rattle.model.specs.Platform.{delay_in, delay_of}
use Rattle.store.specs.Store.{plan_in, delay_numbers, delay_ticks}
use Rattle.store.specs.Inside.{delay_number, FirstRow}
use Rattle.store.specs.Columns.{cell}
use Rattle.store.proofs.Store.{delay-read}

abbrev pub Rising : List Delay → Type 0
Rising rows = (i j : ℕ) → i < j → j < length rows → delay_number rows i < delay_number rows j

-- rows that a run file may hold rise
rows-rise-from : (r : Delay) (rs : List Delay) → rising_from above r rs ≡ true → Rising (r ∷ rs)
unfolding rising_from above
rows-rise-from r [] t i j h k = absurd (omega arith)
rows-rise-from r (q ∷ rs) t zero (suc zero) h k =
    let a = (and-eq-true_iff (ltb r.number q.number) (rising_from above q rs)).0 t in
    ltb-true r.number q.number a.0
rows-rise-from r (q ∷ rs) t zero (suc (suc j)) h k =
    let a = (and-eq-true_iff (ltb r.number q.number) (rising_from above q rs)).0 t in
    let e : r.number < q.number = ltb-true r.number q.number a.0 in
    let f : q.number < delay_number (q ∷ rs) (suc j) = rows-rise-from q rs a.1 0 (suc j) (omega arith) (omega arith) in
    omega arith
rows-rise-from r (q ∷ rs) t (suc i) (suc j) h k =
    let a = (and-eq-true_iff (ltb r.number q.number) (rising_from above q rs)).0 t in
    rows-rise-from q rs a.1 i j (omega arith) (omega arith)
rows-rise-from r (q ∷ rs) t (suc i) zero h k = absurd (omega arith)
rows-rise-from r (q ∷ rs) t zero zero h k = absurd (omega arith)

pub rows-rise : (rows : List Delay) → delay_order rows ≡ true → Rising rows
unfolding delay_order rising
rows-rise [] t i j h k = absurd (omega arith)
rows-rise (r ∷ rs) t i j h k = rows-rise-from r rs t i j h k

rest-rises : (r : Delay) (rs : List Delay) → Rising (r ∷ rs) → Rising rs
rest-rises r rs up i j h k = up (suc i) (suc j) (omega arith) (omega arith)

-- no row has the number
pub delay-none : (d : ℕ) (rows : List Delay) (x : ℕ) → ((i : ℕ) → i < length rows → delay_number rows i ≢ x) → delay_in d rows x ≡ d
unfolding delay_in
delay-none d [] x h = refl
delay-none d (r ∷ rs) x h = rw (ne_eqb r.number x (h 0 (omega arith))) (delay-none d rs x (λ i k. h (suc i) (omega arith)))

-- the row at a place has it
pub delay-here : (d : ℕ) (rows : List Delay) (x i : ℕ) → Rising rows → i < length rows → delay_number rows i ≡ x
    → delay_in d rows x ≡ (get_or rows i (record { number = 0; delay = 0 })).delay
unfolding delay_in
delay-here d [] x i up h e = absurd (omega arith)
delay-here d (r ∷ rs) x zero up h e = rw (eq-eqb r.number x e)
delay-here d (r ∷ rs) x (suc i) up h e =
    let less : r.number < delay_number rs i = up 0 (suc i) (omega arith) h in
    rw (ne_eqb r.number x (λ q. omega arith)) (delay-here d rs x i (rest-rises r rs up) (omega arith) e)

module _ (d : ℕ) (rows : List Delay) (x : ℕ) (up : Rising rows) where
  up_to : (i j : ℕ) → i ≤ j → j < length rows → delay_number rows i ≤ delay_number rows j
  up_to i j h k = go (ℕ_discrete i j)
    where
      go : Dec (i ≡ j) → delay_number rows i ≤ delay_number rows j
      go (yes e) = omega (arith, ap (delay_number rows) e)
      go (no e) = omega (arith, up i j (omega (arith, e)) k)

  pub above-last : delay_number rows (length rows - 1) < x → delay_in d rows x ≡ d
  above-last h = delay-none d rows x (λ i k e. omega (arith, up_to i (length rows - 1) (omega arith) (omega arith)))

  pub first-none : (r : ℕ) → FirstRow rows x r → r ≡ length rows → delay_in d rows x ≡ d
  first-none r f e = delay-none d rows x (λ i k q. omega (arith, f.before i (omega arith)))

  pub first-other : (r : ℕ) → FirstRow rows x r → r < length rows → delay_number rows r ≢ x → delay_in d rows x ≡ d
  first-other r f h n = delay-none d rows x (λ i k q. go i k q (ℕ_discrete i r) (dec_lt i r))
    where
      go : (i : ℕ) → i < length rows → delay_number rows i ≡ x → Dec (i ≡ r) → Dec (i < r) → ⊥
      go i k q (yes e) l = n (ap (delay_number rows) (sym e) ∙ q)
      go i k q (no e) (yes l) = omega (arith, f.before i l)
      go i k q (no e) (no l) = omega (arith, up r i (omega (arith, e, l)) k, f.from r (omega arith) h)

-- ---- the search: the first row of no lower number stands from low to high

pub record Between (rows : List Delay) (x low high : ℕ) : Type 0 where
  pub order : low ≤ high
  pub inside : high ≤ length rows
  pub before : (i : ℕ) → i < low → delay_number rows i < x
  pub from : (i : ℕ) → high ≤ i → i < length rows → x ≤ delay_number rows i

module _ (rows : List Delay) (x : ℕ) where
  pub search-start : (n : ℕ) → n ≡ length rows → Between rows x 0 n
  search-start n e = record { order = omega arith; inside = omega arith; before = λ i h. absurd (omega arith); from = λ i h k. absurd (omega arith) }

  pub search-end : (low high : ℕ) → Between rows x low high → high ≤ low → FirstRow rows x low
  search-end low high b h =
      let e : high ≡ low = omega arith in
      record { inside = omega arith; before = b.before; from = λ i k l. b.from i (omega arith) l }

  module _ (up : Rising rows) (low high m here : ℕ) (b : Between rows x low high)
      (m≥ : low ≤ m) (m< : m < high) (got : here ≡ delay_number rows m) where
    pub search-up : here < x → Between rows x (m + 1) high
    search-up h =
        record {
          order = omega arith;
          inside = b.inside;
          before = λ i k. omega (arith, up_to 0 rows x up i m (omega arith) (omega arith));
          from = b.from;
        }

    pub search-down : x ≤ here → Between rows x low m
    search-down h =
        record {
          order = m≥;
          inside = omega arith;
          before = b.before;
          from = λ i k l. omega (arith, up_to 0 rows x up m i k l);
        }

-- ---- the delay of message x, by the bytes of a store with n rows

module _ (b : List ℕ) (x n : ℕ) (rise : delay_order (plan_in b).delays ≡ true) (count : n ≡ length (plan_in b).delays) where
  abbrev rows : List Delay
  rows = (plan_in b).delays

  up : Rising rows
  up = rows-rise rows rise

  number_at : (i : ℕ) → i < length rows → delay_number rows i ≡ cell b delay_numbers i
  number_at i h = ap (λ (r : Delay). r.number) (delay-read b i h)

  pub delay-no-rows : n ≡ 0 → (plan_in b).d ≡ delay_of (plan_in b) x
  unfolding delay_of
  delay-no-rows z = sym (delay-none (plan_in b).d rows x (λ i h e. omega arith))

  pub delay-above : (n ≡ 0 → ⊥) → cell b delay_numbers (n - 1) < x → (plan_in b).d ≡ delay_of (plan_in b) x
  unfolding delay_of
  delay-above z h =
      let last : delay_number rows (n - 1) ≡ cell b delay_numbers (n - 1) = number_at (n - 1) (omega (arith, z)) in
      sym (above-last (plan_in b).d rows x up (rw (← count) (omega arith)))

  module _ (r : ℕ) (first : FirstRow rows x r) where
    pub delay-past : r ≡ n → (plan_in b).d ≡ delay_of (plan_in b) x
    unfolding delay_of
    delay-past e = sym (first-none (plan_in b).d rows x up r first (e ∙ count))

    module _ (inside : r ≡ n → ⊥) where
      below : r < length rows
      below = omega (arith, inside, first.inside)

      pub delay-other : (cell b delay_numbers r ≡ x → ⊥) → (plan_in b).d ≡ delay_of (plan_in b) x
      unfolding delay_of
      delay-other h = sym (first-other (plan_in b).d rows x up r first below (λ e. h (sym (number_at r below) ∙ e)))

      pub delay-found : cell b delay_numbers r ≡ x → cell b delay_ticks r ≡ delay_of (plan_in b) x
      unfolding delay_of
      delay-found e =
          sym (delay-here (plan_in b).d rows x r up below (number_at r below ∙ e) ∙ ap (λ (q : Delay). q.delay) (delay-read b r below))
