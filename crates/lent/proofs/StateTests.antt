-- What the tests of a store's state answer is what the definitions say. Assumes nothing.
use Prim.Native.Nat.{ℕ, suc, ◌+◌, ◌-◌, ◌^◌, ◌≤◌, ◌<◌}
use mathlib.Core.Path.{◌≡◌, refl, ap, ◌∙◌}
use mathlib.Core.Bool.{Bool, true, false, cond, not, ◌&&◌, ◌||◌, and_comm}
use mathlib.Core.List.{List, [], ◌∷◌}
use native.Mathlib.Numerals.{add-one}
use native.Mathlib.Omega.{arith}
use native.Mathlib.Decide.{dec_lt}
use borrow.Author.Tests.{lt-ltb, le-ltb, le-leb, lt-leb, eq-eqb}
use lib.Dec.{eqb, ltb, leb}
use lib.ListN.{length, get_or, drop, drop_of_length-le}
use lib.Pow.{pow_pos}
use lib.Seq.{drop-cons}
use Rattle.std.specs.List.{list_all, range_with_len}
use Rattle.ring.specs.Ring.{listed}
use Rattle.node.specs.declared.Node.{Node}
use Rattle.node.specs.Node.{H, alone}
use Rattle.plans.specs.Plan.{Plan}
use Rattle.plans.proofs.Bools.{and_left, and_right}
use Rattle.limits.specs.Limits.{most_in_flight, most_next}
use Rattle.model.specs.Platform.{State, InFlight, alive, crashed_list, no_message}
use Rattle.plans.specs.Plain.{Plain}
use Rattle.model.specs.Range.{nodes_test, message_test, flight_test, undone_test, sound_test, node_here}
use Rattle.node.specs.Range.{node_test, live_test, timers_test, carried_test}
use Rattle.model.proofs.SettledNode.{crashed-listed}
use Rattle.store.specs.declared.Flight.{Flight}
use Rattle.store.specs.Inside.{flying, message_of}
use Rattle.store.proofs.Places.{row-here, rows-after}

-- ---- a node, by whether it is listed

module _ (p : Plan) (pl : Plain p) (done t x : ℕ) (a : Node) where
  crashed-is : (dead : ℕ) → dead ≡ crashed_list p done → listed dead x ≡ not (alive p done x)
  crashed-is dead list = ap (λ (d : ℕ). listed d x) list ∙ crashed-listed p pl done x

  pub node-test : (dead : ℕ) → dead ≡ crashed_list p done
      → node_here p done t x a ≡ (node_test p.n p.h p.w t a && (listed dead x || (live_test x a && timers_test t a)))
  node-test dead list =
      ap (λ (b : Bool). node_test p.n p.h p.w t a && b)
      (go (alive p done x) (listed dead x) (live_test x a && timers_test t a) (crashed-is dead list))
    where
      go : (live dead fits : Bool) → dead ≡ not live → cond live fits true ≡ (dead || fits)
      go true d f e = rw e
      go false d f e = rw e

-- ---- the nodes

module _ (p : Plan) (done t : ℕ) (all : List Node) where
  abbrev node : ℕ → Node
  node i = get_or all i (alone i 0 0)

  nodes-from : (x : ℕ) (ns : List Node) → drop x all ≡ ns
      → list_all (λ i. node_here p done t i (node i)) (range_with_len x (length ns)) ≡ nodes_test p done t x ns
  unfolding nodes_test
  nodes-from x [] e = refl
  nodes-from x (a ∷ ns) e =
      let rest = nodes-from (x + 1) ns (rows-after all (alone x 0 0) x a ns e) in
      rw (row-here all (alone x 0 0) x a ns e, rest, add-one x)

  -- place by place
  pub nodes-places : (n : ℕ) → n ≡ length all
      → list_all (λ i. node_here p done t i (node i)) (range_with_len 0 (n - 0)) ≡ nodes_test p done t 0 all
  nodes-places n e = let k : n - 0 ≡ length all = omega arith in rw k (nodes-from 0 all refl)

-- ---- a message's list, where `all` is the set of all n nodes

pub carried-test : (n kind list all : ℕ) → all ≡ 2 ^ n - 1 → carried_test n kind list ≡ (leb list all && (eqb kind H || eqb list 0))
unfolding carried_test
carried-test n kind list all is = go (dec_lt list (2 ^ n))
  where
    go : Dec (list < 2 ^ n) → (ltb list (2 ^ n) && (eqb kind H || eqb list 0)) ≡ (leb list all && (eqb kind H || eqb list 0))
    go (yes h) = rw (lt-ltb list (2 ^ n) h, le-leb list all (omega arith))
    go (no h) = rw (le-ltb list (2 ^ n) (omega arith), lt-leb list all (omega (arith, pow_pos n)))

-- ---- the messages from place i on

module _ (p : Plan) (t hi : ℕ) where
  -- numbers that rise are below hi only where the first is
  flight-over : (ms : List InFlight) (lo : ℕ) → hi < lo → flight_test p t lo hi ms ≡ false
  unfolding flight_test
  flight-over [] lo h = lt-leb lo hi h
  flight-over (m ∷ ms) lo h = go (dec_lt m.number lo) (flight-over ms (suc m.number))
    where
      go : Dec (m.number < lo) → (hi < suc m.number → flight_test p t (suc m.number) hi ms ≡ false)
          → (leb lo m.number && (message_test p t m && flight_test p t (suc m.number) hi ms)) ≡ false
      go (yes l) rest = rw (lt-leb lo m.number l)
      go (no l) rest = and_right (leb lo m.number) (and_right (message_test p t m) (rest (omega arith)))

  module _ (ms : List InFlight) (i lo : ℕ) where
    module _ (m : Flight) (h : i < length ms) (is : m ≡ flying (get_or ms i no_message)) where
      flight-on : flight_test p t lo hi (drop i ms)
          ≡ (leb lo m.number && (message_test p t (message_of m) && flight_test p t (suc m.number) hi (drop (suc i) ms)))
      unfolding flight_test
      flight-on = rw (drop-cons ms i no_message h, is)

      pub number-low : m.number < lo → flight_test p t lo hi (drop i ms) ≡ false
      number-low l = flight-on ∙ and_left _ (lt-leb lo m.number l)

      pub number-high : hi ≤ m.number → flight_test p t lo hi (drop i ms) ≡ false
      number-high l =
          flight-on
          ∙ and_right (leb lo m.number) (and_right (message_test p t (message_of m)) (flight-over (drop (suc i) ms) (suc m.number) (omega arith)))

      pub message-out : message_test p t (message_of m) ≡ false → flight_test p t lo hi (drop i ms) ≡ false
      message-out e = flight-on ∙ and_right (leb lo m.number) (rw e)

      pub message-turn : lo ≤ m.number → message_test p t (message_of m) ≡ true
          → flight_test p t lo hi (drop i ms) ≡ flight_test p t (m.number + 1) hi (drop (i + 1) ms)
      message-turn l e = flight-on ∙ rw (le-leb lo m.number l, e, add-one i, add-one m.number)

    pub flight-end : length ms ≤ i → lo ≤ hi → flight_test p t lo hi (drop i ms) ≡ true
    unfolding flight_test
    flight-end h l = rw (drop_of_length-le ms h) (le-leb lo hi l)

-- ---- the whole

-- six tests in the order of the definition, and in the order of the code
code-order : (d l n f u c : Bool) → ((d && (l && (true && (n && (f && (true && u)))))) && c) ≡ (d && (l && (c && (n && (f && u)))))
code-order true true n f u c = and_comm (n && (f && u)) c
code-order true false n f u c = refl
code-order false l n f u c = refl

module _ (p : Plan) (s : State) (size : length s.nodes ≡ p.n) (few : length s.flight ≤ most_in_flight) where
  abbrev Whole : Bool
  Whole = sound_test p s && leb s.next most_next

  -- the three parts that are tests of lists, where t is the last event's tick and k the next number
  abbrev nodes_part : ℕ → Bool
  nodes_part t = nodes_test p s.done t 0 s.nodes

  abbrev flight_part : ℕ → ℕ → Bool
  flight_part t k = flight_test p t 0 k s.flight

  abbrev undone_part : ℕ → Bool
  undone_part t = undone_test t (drop s.done p.crashes)

  -- as the code goes through them
  pub whole-parts : Whole
      ≡ (leb s.done (length p.crashes) && (leb s.last p.end && (leb s.next most_next
      && (nodes_part s.last && (flight_part s.last s.next && undone_part s.last)))))
  unfolding sound_test
  whole-parts =
      rw (eq-eqb (length s.nodes) p.n size, le-leb (length s.flight) most_in_flight few)
      (code-order (leb s.done (length p.crashes)) (leb s.last p.end) (nodes_part s.last)
      (flight_part s.last s.next) (undone_part s.last) (leb s.next most_next))
