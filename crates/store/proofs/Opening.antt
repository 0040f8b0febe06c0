-- The nodes are opened one after another: what a store then holds, and that it fits. Assumes nothing.
use mathlib.Core.Path.{◌≡◌, refl, sym, ap, ◌∙◌}
use mathlib.Core.Bool.{true}
use mathlib.Core.List.{List, [], map}
use Prim.Native.Nat.{ℕ, zero, suc, ◌+◌, ◌-◌, ◌≤◌, ◌<◌, zero-le}
use native.Mathlib.Omega.{arith}
use borrow.Author.Rules.{rules}
use lib.ListN.{length, get_or, replicate, length-map, length-append, length-replicate}
use lib.Dec.{lit<}
use Rattle.limits.specs.Limits.{most_nodes}
use Rattle.ring.specs.Ring.{numbers}
use Rattle.ring.proofs.Rows.{length-numbers, filled as opened, filled-turn, full}
use Rattle.node.specs.declared.Node.{Node}
use Rattle.node.specs.Node.{opening}
use Rattle.plans.specs.Plan.{Plan, start_plan, with_ring, order_of, plan_test}
use Rattle.plans.proofs.Facts.{plan-plain}
use Rattle.plans.proofs.Tests.{ranges, in_order, head-good}
use Rattle.model.specs.Platform.{State, start}
use Rattle.model.proofs.RangesKept.{start-range}
use Rattle.store.specs.Columns.{RowFits, RowsFit}
use Rattle.store.specs.Store.{head_parts, node_parts, encode, plan_in, state_in}
use Rattle.store.specs.Inside.{Sized, Fits, Held, with_node}
use Rattle.store.specs.Filling.{zero_node, unopened, begun, Unopened, rows_up_to}
use Rattle.store.proofs.Groups.{fit_at, fit-each, fit_append}
use Rattle.store.proofs.Reading.{row_made}
use Rattle.store.proofs.Store.{plan-encode, state-encode, held-encode}
use Rattle.store.proofs.Fitting.{sound-fits}
use Rattle.store.proofs.Filling.{all-begun}

module _ (p : Plan) where
  -- a node as it is opened
  abbrev fresh : ℕ → Node
  fresh = opening (order_of p) p.h p.w

  -- the first i nodes are opened
  unfoldable pub up_to : ℕ → State
  up_to i = record { done = 0; last = 0; next = 0; nodes = opened fresh zero_node p.n i; flight = [] }

  pub none-opened : unopened p ≡ up_to 0
  unfolding unopened up_to opened numbers
  none-opened = let z : p.n - 0 ≡ p.n = omega arith in rw z

  pub all-opened : up_to p.n ≡ start p
  unfolding up_to start
  all-opened = rw (full fresh zero_node p.n)

  -- one node more
  pub one-opened : (i : ℕ) (a : Node) → a ≡ fresh i → i < p.n → with_node (up_to i) i a ≡ up_to (i + 1)
  unfolding with_node up_to
  one-opened i a e h = rw (filled-turn fresh zero_node p.n (opened fresh zero_node p.n i) i a refl e h)

  zeros-fit : (k : ℕ) → RowsFit node_parts (replicate k zero_node)
  unfolding RowsFit RowFits node_parts zero_node
  zeros-fit zero = tt
  zeros-fit (suc k) = let rest = zeros-fit k in search rules

  module _ (good : plan_test p ≡ true) where
    all : Fits p (start p)
    unfolding start
    all = sound-fits p good (start p) (start-range p (plan-plain p good)) (lit< tt)

    nodes-fit : (i : ℕ) → i ≤ p.n → RowsFit node_parts (opened fresh zero_node p.n i)
    unfolding opened start
    nodes-fit i h =
        fit_append node_parts (map fresh (numbers 0 i)) (replicate (p.n - i) zero_node) (fit-each node_parts (map fresh (numbers 0 i)) (λ j. zero_node) one)
        (zeros-fit (p.n - i))
      where
        one : (j : ℕ) → j < length (map fresh (numbers 0 i)) → RowFits node_parts (get_or (map fresh (numbers 0 i)) j zero_node)
        one j l =
            let few : j < i = rw (length-map (numbers 0 i) fresh ∙ length-numbers i 0) at l in
            let inside : j < length (map fresh (numbers 0 p.n)) = rw (length-map (numbers 0 p.n) fresh ∙ length-numbers p.n 0) (omega arith) in
            rw (row_made fresh i j zero_node few ∙ sym (row_made fresh p.n j zero_node (omega arith)))
            (fit_at node_parts (map fresh (numbers 0 p.n)) j zero_node all.node_rows inside)

    pub upto-fits : (i : ℕ) → i ≤ p.n → Fits p (up_to i)
    unfolding up_to start opened RowFits RowsFit head_parts
    upto-fits i h = record {
      nodes =
          length-append (map fresh (numbers 0 i)) (replicate (p.n - i) zero_node)
          ∙ rw (length-map (numbers 0 i) fresh, length-numbers i 0, length-replicate (p.n - i) zero_node) (omega arith);
      counts =
          let c = all.counts in
          record { nodes = c.nodes; ring = c.ring; crashes = c.crashes; delays = c.delays; messages = zero-le };
      head = all.head;
      ring_rows = all.ring_rows;
      node_rows = nodes-fit i h;
      crash_rows = all.crash_rows;
      delay_rows = all.delay_rows;
      message_rows = tt;
    }

    -- a store in which the first i nodes are opened
    pub upto-held : (i : ℕ) → i ≤ p.n → Held (encode p (up_to i))
    upto-held i h = held-encode p (up_to i) (upto-fits i h)

    pub upto-plan : (i : ℕ) → i ≤ p.n → plan_in (encode p (up_to i)) ≡ p
    upto-plan i h = plan-encode p (up_to i) (upto-fits i h)

    -- and one more
    pub upto_turn : (i : ℕ) (a : Node) {b c : List ℕ} → i < p.n → b ≡ encode p (up_to i) → a ≡ fresh i
        → c ≡ encode (plan_in b) (with_node (state_in b) i a)
        → c ≡ encode p (up_to (i + 1))
    upto_turn i a h e new put =
        let le : i ≤ p.n = omega arith in
        let state : state_in (encode p (up_to i)) ≡ up_to i = state-encode p (up_to i) (upto-fits i le) in
        put ∙ rw (e, upto-plan i le, state) (ap (encode p) (one-opened i a new h))

-- bytes that hold a plan in range, and no node is opened yet
module _ (b : List ℕ) (u : Unopened b) where
  abbrev p : Plan
  p = plan_in b

  pub unopened-is : b ≡ encode p (up_to p 0)
  unopened-is = u.is ∙ ap (encode p) (none-opened p)

  pub unopened-held : Held b
  unopened-held = rw unopened-is (upto-held p u.good 0 zero-le)

  -- what the next turn asks for
  module _ {s : List ℕ} {i : ℕ} (is : s ≡ encode p (up_to p i)) (few : i ≤ p.n) where
    pub turn-held : Held s
    turn-held = rw is (upto-held p u.good i few)

    pub turn-sized : Sized s
    turn-sized = record { size = turn-held.size; counts = turn-held.fits.counts }

    pub turn-plan : plan_in s ≡ p
    turn-plan = rw is (upto-plan p u.good i few)

  -- the order has a place for each node
  pub order-size : length (order_of p) ≤ most_nodes
  order-size = rw (in_order p u.good).size (ranges p u.good).n-high

  pub all-nodes : {s : List ℕ} {i n : ℕ} → s ≡ encode p (up_to p i) → i ≤ n → n ≤ i → n ≡ p.n → s ≡ encode p (start p)
  all-nodes {s} {i} {n} is le ge e =
      let end : i ≡ p.n = omega arith in
      is ∙ ap (encode p) (ap (up_to p) end ∙ all-opened p)

-- the P line and the Q line of a plan in range, with no node opened yet
pub begun-unopened : (p : Plan) → plan_test p ≡ true → {b : List ℕ} → b ≡ begun p (length p.ring) → Unopened b × (plan_in b ≡ rows_up_to p 0 0)
unfolding rows_up_to with_ring start_plan
begun-unopened p good {b} e =
    let q : Plan = rows_up_to p 0 0 in
    let good' : plan_test q ≡ true = head-good p good in
    let is : b ≡ encode q (unopened q) = e ∙ all-begun p in
    let held : plan_in b ≡ q = ap plan_in (is ∙ ap (encode q) (none-opened q)) ∙ upto-plan q good' 0 zero-le in
    (record { good = rw held good'; is = rw held is }, held)
