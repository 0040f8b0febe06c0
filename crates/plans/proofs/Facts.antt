-- A plan that passes the run file's test has its lines in range: the test as facts. Assumes nothing.
use mathlib.Core.Path.{◌≡◌, refl, sym}
use mathlib.Core.Logic.{◌⊎◌, inl, inr}
use mathlib.Core.Bool.{Bool, true, false, ◌&&◌, ◌||◌, true≢false}
use mathlib.Core.List.Memᴰ
use mathlib.Core.List.{List, [], ◌∷◌, Memᴰ}
use mathlib.Mathlib.Data.Bool.Basic.{and_elim_left, and_elim_right}
use Prim.Native.Nat.{ℕ, zero, suc, ◌≤◌, ◌<◌}
use native.Mathlib.Omega.{arith}
use borrow.Author.Tests.{eqb-true, ltb-true}
use lib.Dec.{eqb, ltb}
use lib.ListN.{length, get_or}
use Rattle.plans.specs.Plan.{Crash, Plan, crash_range, delay_range, rising_from, rising, later, none_twice, crash_order, every, plan_test}
use Rattle.plans.specs.Plain.{no_crash, Plain}
use Rattle.plans.proofs.Rows.{every-at, crash-row, delay-row, rows-once}
use Rattle.plans.proofs.Tests.{tests-of, ranges, in_order}

-- ---- C lines

later-tick : (a b : Crash) → later a b ≡ true → a.tick ≤ b.tick
unfolding later
later-tick a b h = go (ltb a.tick b.tick) refl (eqb a.tick b.tick) refl h
  where
    go : (c : Bool) → ltb a.tick b.tick ≡ c → (d : Bool) → eqb a.tick b.tick ≡ d → (c || (d && ltb a.node b.node)) ≡ true
        → a.tick ≤ b.tick
    go true e d f h = let l : a.tick < b.tick = ltb-true _ _ e in omega arith
    go false e true f h = let l : a.tick ≡ b.tick = eqb-true _ _ f in omega arith
    go false e false f h = absurd (true≢false (sym h))

-- each row of a list is not before the row in front of it
rows-after : (rs : List Crash) (r : Crash) → rising_from later r rs ≡ true → (i : ℕ) → i < length rs → r.tick ≤ (get_or rs i no_crash).tick
unfolding rising_from
rows-after [] r u i l = absurd (omega arith)
rows-after (q ∷ rs) r u zero l = later-tick r q (and_elim_left (later r q) (rising_from later q rs) u)
rows-after (q ∷ rs) r u (suc i) l =
    let first = later-tick r q (and_elim_left (later r q) (rising_from later q rs) u) in
    let rest = rows-after rs q (and_elim_right (later r q) (rising_from later q rs) u) i (omega arith) in
    omega (arith, first, rest)

rising-rest : (r : Crash) (rs : List Crash) → rising_from later r rs ≡ true → rising later rs ≡ true
unfolding rising_from rising
rising-rest r [] h = refl
rising-rest r (q ∷ rs) h = and_elim_right (later r q) (rising_from later q rs) h

rows-rise : (rs : List Crash) → rising later rs ≡ true → (i j : ℕ) → i < j → j < length rs
    → (get_or rs i no_crash).tick ≤ (get_or rs j no_crash).tick
unfolding rising
rows-rise [] h i j a l = absurd (omega arith)
rows-rise (r ∷ rs) h i zero a l = absurd (omega arith)
rows-rise (r ∷ rs) h (suc i) (suc j) a l = rows-rise rs (rising-rest r rs h) i j (omega arith) (omega arith)
rows-rise (r ∷ rs) h zero (suc j) a l = rows-after rs r h j (omega arith)

-- ---- L lines

-- a row that is among others which all pass a test passes it
every-member : {A : Type 0} (test : A → Bool) (rs : List A) → every test rs ≡ true → (r : A) → Memᴰ r rs → test r ≡ true
unfolding every
every-member test [] h r m = absurd (Memᴰ.not-nil m)
every-member test (x ∷ rs) h r m =
    go (Memᴰ.cases_cons m) (and_elim_left (test x) (every test rs) h) (every-member test rs (and_elim_right (test x) (every test rs) h) r)
  where
    go : (r ≡ x) ⊎ Memᴰ r rs → test x ≡ true → (Memᴰ r rs → test r ≡ true) → test r ≡ true
    go (inl e) u f = rw e u
    go (inr k) u f = f k

-- ---- a plan

pub plan-plain : (p : Plan) → plan_test p ≡ true → Plain p
unfolding crash_order
plan-plain p good =
    let t = tests-of p good in
    let r = ranges p good in
    let row : (i : ℕ) → i < length p.crashes → ((get_or p.crashes i no_crash).tick ≤ p.end) × ((get_or p.crashes i no_crash).node < p.n) =
    λ i l. crash-row p (get_or p.crashes i no_crash) (every-at (crash_range p) p.crashes i no_crash t.crashes l) in
    record {
      n≥ = r.n-low;
      n≤ = r.n-high;
      h≥ = r.h-low;
      w≥ = r.w-low;
      d≥ = r.d-low;
      end≤ = r.end-high;
      order = in_order p good;
      node = λ i l. (row i l).1;
      tick = λ i l. (row i l).0;
      rising = rows-rise p.crashes (and_elim_left _ (none_twice p.crashes) t.crash-order);
      once = rows-once p.crashes no_crash (and_elim_right (rising later p.crashes) _ t.crash-order);
      delay = λ x m. let f = delay-row p x (every-member (delay_range p) p.delays t.delays x m) in (f.low, f.high);
    }
