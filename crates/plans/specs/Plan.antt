-- What a run file plans, and which plans a run file may hold: document 01's 'Run file and log', document 02's #101 for the line Q.
-- Assumes nothing.
use Rattle.std.specs.Prelude.{Bool, true, ◌&&◌, ◌||◌, List, [], ◌∷◌, ◌++◌, map, ℕ, ◌+◌, eqb, leb, ltb, length}
use Rattle.ring.specs.Ring.{numbers, among, each_once, listing_all}
use Rattle.limits.specs.Limits.{most_nodes, most_h, most_w, most_d, most_tick, most_number, most_delays}

-- a line C: node `node` crashes at tick `tick`
pub record Crash : Type 0 where
  pub tick : ℕ
  pub node : ℕ

-- a line L: the message of this number has this delay
pub record Delay : Type 0 where
  pub number : ℕ
  pub delay : ℕ

-- a run file: the values of its P line, the numbers of its Q line, none where there is no such line, the rows of its C lines and of its L
-- lines
pub record Plan : Type 0 where
  pub n : ℕ
  pub h : ℕ
  pub w : ℕ
  pub d : ℕ
  pub end : ℕ
  pub ring : List ℕ
  pub crashes : List Crash
  pub delays : List Delay

-- the plan of a P line, without a Q line and rows
unfoldable pub start_plan : ℕ → ℕ → ℕ → ℕ → ℕ → Plan
start_plan n h w d end = record { n = n; h = h; w = w; d = d; end = end; ring = []; crashes = []; delays = [] }

-- a plan with a Q line, with a C line more, and with an L line more
unfoldable pub with_ring : Plan → List ℕ → Plan
with_ring p ks = record {
  n = p.n;
  h = p.h;
  w = p.w;
  d = p.d;
  end = p.end;
  ring = ks;
  crashes = p.crashes;
  delays = p.delays;
}

unfoldable pub with_crash : Plan → Crash → Plan
with_crash p r = record {
  n = p.n;
  h = p.h;
  w = p.w;
  d = p.d;
  end = p.end;
  ring = p.ring;
  crashes = p.crashes ++ (r ∷ []);
  delays = p.delays;
}

unfoldable pub with_delay : Plan → Delay → Plan
with_delay p r = record {
  n = p.n;
  h = p.h;
  w = p.w;
  d = p.d;
  end = p.end;
  ring = p.ring;
  crashes = p.crashes;
  delays = p.delays ++ (r ∷ []);
}

-- 'the ring in that order': the numbers of the Q line, and number order where there is none
unfoldable pub ring_order : List ℕ → ℕ → List ℕ
ring_order [] n = numbers 0 n
ring_order (k ∷ ks) n = k ∷ ks

unfoldable pub order_of : Plan → List ℕ
order_of p = ring_order p.ring p.n

-- all rows pass a test
unfoldable pub every : {A : Type 0} → (A → Bool) → List A → Bool
every test [] = true
every test (x ∷ xs) = test x && every test xs

-- ---- ranges: 'H 1 to 1,000; W 1 to 65,535; D 1 to 255; end 0 to 1,000,000; tick 0 to end; number 0 to 999,999; delay 1 to D'

unfoldable pub within : ℕ → ℕ → ℕ → Bool
within low high x = leb low x && leb x high

-- the ranges of a P line
unfoldable pub start_ranges : Plan → Bool
start_ranges p =
    within 1 most_nodes p.n
    && (within 1 most_h p.h && (within 1 most_w p.w && (within 1 most_d p.d && within 0 most_tick p.end)))

-- W is at least H + D; with 'W below H + D' a 'run's last line has the letter F instead of E'
unfoldable pub long_enough : Plan → Bool
long_enough p = leb (p.h + p.d) p.w

-- 'N node numbers': as many as there are nodes, and each is one
unfoldable pub ring_count : Plan → List ℕ → Bool
ring_count p ks = eqb (length ks) p.n

unfoldable pub ring_range : Plan → List ℕ → Bool
ring_range p ks = every (λ k. ltb k p.n) ks

-- the ranges of a C line: 'tick 0 to end', 'node not below N'
unfoldable pub crash_range : Plan → Crash → Bool
crash_range p r = leb r.tick p.end && ltb r.node p.n

-- the ranges of an L line
unfoldable pub delay_range : Plan → Delay → Bool
delay_range p r = leb r.number most_number && within 1 p.d r.delay

-- ---- orders of lines

-- each row but the first comes after the one before it
unfoldable pub rising_from : {A : Type 0} → (A → A → Bool) → A → List A → Bool
rising_from after r [] = true
rising_from after r (x ∷ xs) = after r x && rising_from after x xs

unfoldable pub rising : {A : Type 0} → (A → A → Bool) → List A → Bool
rising after [] = true
rising after (x ∷ xs) = rising_from after x xs

-- crash row b comes after a: 'rising by tick then node'
unfoldable pub later : Crash → Crash → Bool
later a b = ltb a.tick b.tick || (eqb a.tick b.tick && ltb a.node b.node)

-- the nodes of C lines
abbrev pub nodes_of : List Crash → List ℕ
nodes_of rs = map (λ (r : Crash). r.node) rs

-- a row is of node k
unfoldable pub hits : List Crash → ℕ → Bool
hits rs k = among (nodes_of rs) k

-- a dead list with the nodes of some C lines added
unfoldable pub with_crashed : ℕ → List Crash → ℕ
with_crashed d rs = listing_all d (nodes_of rs)

-- 'no node twice'
unfoldable pub none_twice : List Crash → Bool
none_twice rs = each_once (nodes_of rs)

-- the order of C lines
unfoldable pub crash_order : List Crash → Bool
crash_order rs = rising later rs && none_twice rs

-- delay row b comes after a: 'rising by number'
unfoldable pub above : Delay → Delay → Bool
above a b = ltb a.number b.number

-- the order of L lines
unfoldable pub delay_order : List Delay → Bool
delay_order rs = rising above rs

-- 'at most 2,048'
unfoldable pub few_delays : List Delay → Bool
few_delays rs = leb (length rs) most_delays

-- ---- the whole test

-- a run file may hold the plan's Q line, where it has one; its C lines and its L lines
unfoldable pub ring_test : Plan → Bool
ring_test p = eqb (length p.ring) 0 || (ring_count p p.ring && (ring_range p p.ring && each_once p.ring))

unfoldable pub crash_test : Plan → Bool
crash_test p = every (crash_range p) p.crashes && crash_order p.crashes

unfoldable pub delay_test : Plan → Bool
delay_test p = every (delay_range p) p.delays && (delay_order p.delays && few_delays p.delays)

-- a run file may hold the plan
unfoldable pub plan_test : Plan → Bool
plan_test p = start_ranges p && (ring_test p && (crash_test p && delay_test p))
