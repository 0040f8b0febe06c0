-- Tests of rows: of one among others, of those at the start, of one more at the end. Assumes nothing.
use Prim.Native.Nat.{ℕ, zero, suc, ◌+◌, ◌≤◌, ◌<◌}
use native.Mathlib.Omega.{arith}
use mathlib.Core.Path.{◌≡◌, refl, sym, ap, ◌∙◌}
use mathlib.Core.Logic.{◌≢◌}
use mathlib.Core.Bool.{Bool, true, not, ◌&&◌, ◌||◌}
use mathlib.Core.List.{List, [], ◌∷◌, ◌++◌, map-append}
use mathlib.Mathlib.Data.Bool.Basic.{and_elim_left, and_elim_right}
use borrow.Author.Tests.{le-leb, leb-true, ltb-true}
use lib.Dec.{eqb, leb, ltb}
use lib.ListN.{length, get_or, length-append, length-map}
use Rattle.limits.specs.Limits.{most_number, most_delays}
use Rattle.plans.specs.Plan.{Crash, Delay, Plan, within, crash_range, delay_range, rising_from, rising, later, hits, none_twice, crash_order, above}
use Rattle.plans.specs.Plan.{nodes_of, delay_order, few_delays, every}
use Rattle.ring.specs.Ring.{place, among, each_once, InOrder}
use Rattle.ring.proofs.Once.{among-at, among-snoc, found, once-snoc, once-start, once-apart}
use Rattle.ring.proofs.Gaps.{gap, back-many}

-- ---- a test that every row passes

pub every-at : {A : Type 0} (test : A → Bool) (l : List A) (i : ℕ) (d : A) → every test l ≡ true → i < length l → test (get_or l i d) ≡ true
unfolding every
every-at test [] i d h k = absurd (omega arith)
every-at test (x ∷ l) zero d h k = and_elim_left (test x) (every test l) h
every-at test (x ∷ l) (suc i) d h k = every-at test l i d (and_elim_right (test x) (every test l) h) (omega arith)

pub every-snoc : {A : Type 0} (test : A → Bool) (xs : List A) (r : A) → every test xs ≡ true → test r ≡ true
    → every test (xs ++ (r ∷ [])) ≡ true
unfolding every
every-snoc test [] r h e = rw e
every-snoc test (x ∷ xs) r h e =
    rw (and_elim_left (test x) (every test xs) h) (every-snoc test xs r (and_elim_right (test x) (every test xs) h) e)

-- rows that pass a test pass a weaker one
pub every-weaker : {A : Type 0} (test weaker : A → Bool) → ((r : A) → test r ≡ true → weaker r ≡ true) → (rs : List A) → every test rs ≡ true
    → every weaker rs ≡ true
unfolding every
every-weaker test weaker h [] e = refl
every-weaker test weaker h (r ∷ rs) e =
    rw (h r (and_elim_left (test r) (every test rs) e)) (every-weaker test weaker h rs (and_elim_right (test r) (every test rs) e))

-- rows at the start of others that pass
pub every-there : {A : Type 0} (test : A → Bool) (xs : List A) (r : A) (ys : List A) → every test (xs ++ (r ∷ ys)) ≡ true → test r ≡ true
unfolding every
every-there test [] r ys e = and_elim_left (test r) (every test ys) e
every-there test (x ∷ xs) r ys e = every-there test xs r ys (and_elim_right (test x) (every test (xs ++ (r ∷ ys))) e)

-- ---- rows that rise

rising-from-start : {A : Type 0} (after : A → A → Bool) (x : A) (xs ys : List A) → rising_from after x (xs ++ ys) ≡ true
    → rising_from after x xs ≡ true
unfolding rising_from
rising-from-start after x [] ys e = refl
rising-from-start after x (y ∷ xs) ys e =
    rw (and_elim_left (after x y) (rising_from after y (xs ++ ys)) e)
    (rising-from-start after y xs ys (and_elim_right (after x y) (rising_from after y (xs ++ ys)) e))

rising-start : {A : Type 0} (after : A → A → Bool) (xs ys : List A) → rising after (xs ++ ys) ≡ true → rising after xs ≡ true
unfolding rising
rising-start after [] ys e = refl
rising-start after (x ∷ xs) ys e = rising-from-start after x xs ys e

-- ---- rows of a node

pub length-nodes : (rows : List Crash) → length (nodes_of rows) ≡ length rows
length-nodes rows = length-map rows (λ (r : Crash). r.node)

node_at : (rows : List Crash) (z : Crash) (i : ℕ) → i < length rows → get_or (nodes_of rows) i 0 ≡ (get_or rows i z).node
node_at [] z i h = absurd (omega arith)
node_at (r ∷ rs) z zero h = refl
node_at (r ∷ rs) z (suc i) h = node_at rs z i (omega arith)

pub nodes-below : (n : ℕ) (rows : List Crash) (z : Crash) → ((i : ℕ) → i < length rows → (get_or rows i z).node < n)
    → (i : ℕ) → i < length (nodes_of rows) → get_or (nodes_of rows) i 0 < n
nodes-below n rows z f i h =
    let inside : i < length rows = rw (← length-nodes rows) h in
    rw (node_at rows z i inside) (f i inside)

-- the row at a place hits its node
pub hit-of : (rows : List Crash) (z : Crash) (i k : ℕ) → i < length rows → (get_or rows i z).node ≡ k → hits rows k ≡ true
unfolding hits
hit-of rows z i k h e = among-at (nodes_of rows) i k (rw (length-nodes rows) h) (node_at rows z i h ∙ e)

-- and a node that rows hit has a row
pub hit-where : (rows : List Crash) (z : Crash) (k : ℕ) → hits rows k ≡ true → (i : ℕ) × (i < length rows) × ((get_or rows i z).node ≡ k)
unfolding hits
hit-where rows z k h =
    let f = found (nodes_of rows) k h in
    let inside : place (nodes_of rows) k < length rows = rw (← length-nodes rows) f.inside in
    (place (nodes_of rows) k, inside, sym (node_at rows z (place (nodes_of rows) k) inside) ∙ f.there)

-- rows that hit all nodes up to g steps back from j are at least g
pub hits-many : (n : ℕ) {order : List ℕ} (o : InOrder n order) (rows : List Crash) (j g : ℕ) → j < n → g ≤ n
    → ((k : ℕ) → gap n o j k ≤ g → hits rows k ≡ true) → g ≤ length rows
unfolding hits
hits-many n o rows j g j_n g_n all = rw (length-nodes rows) at (back-many n o (nodes_of rows) j g j_n g_n all)

pub hits-snoc : (rows : List Crash) (r : Crash) (k : ℕ) → hits (rows ++ (r ∷ [])) k ≡ (hits rows k || eqb r.node k)
unfolding hits
hits-snoc rows r k = ap (λ (l : List ℕ). among l k) (map-append (λ (c : Crash). c.node) rows (r ∷ [])) ∙ among-snoc (nodes_of rows) r.node k

-- rows of which no two are of one node, at two places
pub rows-once : (rows : List Crash) (z : Crash) → none_twice rows ≡ true → (i j : ℕ) → i < j → j < length rows
    → (get_or rows i z).node ≢ (get_or rows j z).node
unfolding none_twice
rows-once rows z h i j a l = λ e.
    once-apart (nodes_of rows) h i j a (rw (length-nodes rows) l) (node_at rows z i (omega arith) ∙ e ∙ sym (node_at rows z j l))

pub twice-snoc : (rs : List Crash) (r : Crash) → none_twice (rs ++ (r ∷ [])) ≡ (none_twice rs && not (hits rs r.node))
unfolding none_twice hits
twice-snoc rs r = ap each_once (map-append (λ (c : Crash). c.node) rs (r ∷ [])) ∙ once-snoc (nodes_of rs) r.node

twice-start : (xs ys : List Crash) → none_twice (xs ++ ys) ≡ true → none_twice xs ≡ true
unfolding none_twice
twice-start xs ys e = once-start (nodes_of xs) (nodes_of ys) (ap each_once (sym (map-append (λ (c : Crash). c.node) xs ys)) ∙ e)

-- ---- the orders of C lines and of L lines, and how many L lines

pub crash-order-start : (xs ys : List Crash) → crash_order (xs ++ ys) ≡ true → crash_order xs ≡ true
unfolding crash_order
crash-order-start xs ys e =
    let rises = and_elim_left (rising later (xs ++ ys)) (none_twice (xs ++ ys)) e in
    let once = and_elim_right (rising later (xs ++ ys)) (none_twice (xs ++ ys)) e in
    rw (rising-start later xs ys rises) (twice-start xs ys once)

pub delay-order-start : (xs ys : List Delay) → delay_order (xs ++ ys) ≡ true → delay_order xs ≡ true
unfolding delay_order
delay-order-start xs ys e = rising-start above xs ys e

pub few-start : (xs ys : List Delay) → few_delays (xs ++ ys) ≡ true → few_delays xs ≡ true
unfolding few_delays
few-start xs ys e = le-leb (length xs) most_delays (omega (arith, leb-true (length (xs ++ ys)) most_delays e, length-append xs ys))

pub few-snoc : (rs : List Delay) (r : Delay) → few_delays (rs ++ (r ∷ [])) ≡ ltb (length rs) most_delays
unfolding few_delays
few-snoc rs r = let e : length rs + 1 ≡ suc (length rs) = omega arith in rw (length-append rs (r ∷ []), e)

-- ---- ranges of a row as facts

pub crash-row : (p : Plan) (r : Crash) → crash_range p r ≡ true → (r.tick ≤ p.end) × (r.node < p.n)
unfolding crash_range
crash-row p r h =
    (leb-true _ _ (and_elim_left (leb r.tick p.end) _ h), ltb-true _ _ (and_elim_right (leb r.tick p.end) _ h))

pub record DelayFacts (p : Plan) (r : Delay) : Type 0 where
  pub number : r.number ≤ most_number
  pub low : 1 ≤ r.delay
  pub high : r.delay ≤ p.d

pub delay-row : (p : Plan) (r : Delay) → delay_range p r ≡ true → DelayFacts p r
unfolding delay_range within
delay-row p r h =
    let d : (leb 1 r.delay && leb r.delay p.d) ≡ true = and_elim_right (leb r.number most_number) _ h in
    record {
      number = leb-true _ _ (and_elim_left (leb r.number most_number) _ h);
      low = leb-true _ _ (and_elim_left (leb 1 r.delay) _ d);
      high = leb-true _ _ (and_elim_right (leb 1 r.delay) _ d);
    }
