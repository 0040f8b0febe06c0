-- Messages in their seven places, and the reports among them. Assumes nothing.
use mathlib.Core.Path.{◌≡◌, refl, sym, ap, ◌∙◌}
use mathlib.Core.List.{List, ◌++◌}
use Prim.Native.Nat.{ℕ, suc, ◌+◌, ◌-◌, ◌≤◌, ◌<◌}
use native.Mathlib.Numerals.{add-one}
use native.Mathlib.Omega.{arith}
use lib.ListN.{length, get_or, take, drop, set, replicate, length-append, length-map, length-replicate, drop_of_length-le, replicate-append-replicate}
use lib.Seq.{sets, sets-eq, drop-cons, take_at, drop-append-add, drop_at}
use Rattle.ring.specs.Ring.{place, targets, row, jumps, count}
use Rattle.ring.proofs.Counts.{length-targets, jumps-count-le, take_row}
use Rattle.node.specs.declared.Message.{Message}
use Rattle.node.specs.declared.Node.{Node}
use Rattle.node.specs.declared.Turned.{Turned}
use Rattle.node.specs.Node.{Turn, turn, R, message, reports, sending, places, turned, relayed}
use Rattle.limits.specs.Limits.{most_sent}

-- ---- a loop that puts reports

pub length-reports : (subject : ℕ) (nodes : List ℕ) → length (reports subject nodes) ≡ length nodes
unfolding reports
length-reports subject nodes = length-map nodes _

module _ (subject : ℕ) (nodes : List ℕ) (from : ℕ) where
  -- what is still to be put once i of the reports stand
  unfoldable pub rest : List Message → ℕ → List Message
  rest out i = sets out (from + i) (reports subject (drop i nodes))

  pub rest-start : (out : List Message) → sets out from (reports subject nodes) ≡ rest out 0
  unfolding rest
  rest-start out = let e : from + 0 ≡ from = omega arith in rw e

  pub rest-turn : (out : List Message) (i : ℕ) → i < length nodes
      → rest out i ≡ rest (set out (from + i) (message R (get_or nodes i 0) subject)) (i + 1)
  unfolding rest reports
  rest-turn out i h =
      let e : from + suc i ≡ suc (from + i) = omega arith in
      rw (add-one, e, drop-cons nodes i 0 h)

  pub rest_end : (out : List Message) (i : ℕ) → length nodes ≤ i → rest out i ≡ out
  unfolding rest reports
  rest_end out i h = rw (drop_of_length-le nodes {i = i} h)

-- ---- seven places

abbrev none : Message
none = message 0 0 0

-- messages put after those that stand there already
pub places-more : (ms ns : List Message) → length ms + length ns ≤ 7 → sets (places ms) (length ms) ns ≡ places (ms ++ ns)
unfolding places
places-more ms ns h =
    let l : length (ms ++ replicate (7 - length ms) none) ≡ 7 = rw (length-append, length-replicate) (omega arith) in
    let e : 7 - length ms ≡ length ns + (7 - (length ms + length ns)) = omega arith in
    sets-eq ns (ms ++ replicate (7 - length ms) none) (length ms) (omega arith)
    ∙ rw (
      take_at ms (replicate (7 - length ms) none) (length ms) refl,
      drop-append-add ms (replicate (7 - length ms) none) (length ns),
      length-append,
      e,
      ← replicate-append-replicate (length ns) (7 - (length ms + length ns)) none,
    )
    (ap (λ (l : List Message). (ms ++ ns) ++ l)
    (drop_at (replicate (length ns) none) (replicate (7 - (length ms + length ns)) none) (length ns) (length-replicate (length ns) none)))

-- a node that sends one message at most, with reports after it
pub relayed-turned : (order : List ℕ) (me subject : ℕ) (n : Node) (ms : List Message) (k : ℕ) → length ms ≤ 1 → length order ≤ 64
    → relayed order me subject (turned (turn n ms k)) ≡ turned (turn n (ms ++ reports subject (targets order n.list (place order me))) k)
unfolding relayed turned
relayed-turned order me subject n ms k h l =
    let to : List ℕ = targets order n.list (place order me) in
    let rs : List Message = reports subject to in
    let e : length rs ≤ 6 =
    rw (length-reports subject to, length-targets order n.list (place order me)) (jumps-count-le (length order) n.list l) in
    rw (places-more ms rs (omega arith), length-append ms rs)

-- how many reports there are
pub jumps-few : (order : List ℕ) (d m k : ℕ) → length order ≤ 64 → m ≡ count (length order) d → k ≡ jumps m → k ≤ 6
jumps-few order d m k l mq kq = rw (kq, mq) (jumps-count-le (length order) d l)

pub ruleset few_reports = (jumps-few)

-- what a node sends, with the reports that the code puts after it
pub relayed-put : (order : List ℕ) (me subject : ℕ) (t : Turned) (p m k : ℕ) (to : List ℕ) (sent : List Message)
    → p ≡ place order me → to ≡ row (targets order t.node.list p) → m ≡ count (length order) t.node.list → k ≡ jumps m
    → sent ≡ sets t.sent t.count (reports subject (take k to))
    → relayed order me subject t ≡ record { node = t.node; sent = sent; count = t.count + k; passed = t.passed }
unfolding relayed
relayed-put order me subject t p m k to sent pq tq mq kq sq =
    let d : ℕ = t.node.list in
    let e : take k to ≡ targets order d (place order me) =
    rw (tq, pq, kq, mq) (take_row order d (place order me) _ refl) in
    let l : length (reports subject (targets order d (place order me))) ≡ k =
    length-reports subject (targets order d (place order me)) ∙ length-targets order d (place order me) ∙ sym (kq ∙ ap jumps mq) in
    rw (l, sq, e)

pub turned-count : (t : Turned) (u : Turn) → t ≡ turned u → t.count ≡ length u.sends
unfolding turned
turned-count t u e = ap (λ (x : Turned). x.count) e

-- a turn of which it is said how many listed nodes were passed
pub turned-passed : (t : Turned) (n : Node) (ms : List Message) (k : ℕ) → t ≡ turned (sending n ms)
    → record { node = t.node; sent = t.sent; count = t.count; passed = k } ≡ turned (turn n ms k)
unfolding turned
turned-passed t n ms k e = rw e

pub turned-sends : (t : Turned) (u : Turn) → t ≡ turned u → take t.count t.sent ≡ u.sends
unfolding turned places
turned-sends t u e = rw e (take_at u.sends (replicate (most_sent - length u.sends) none) (length u.sends) refl)
