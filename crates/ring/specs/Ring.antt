-- The ring of nodes as document 01 fixes it: dead lists, going ahead and back, forward targets, the forwarding table.
-- A node is a number. The ring is given by its order, a list that has each node below n once, and a place is a position
-- in that list: 01's ring is number order, `numbers 0 n`, one instance. Assumes nothing.
use Rattle.std.specs.Prelude.{◌≡◌, Bool, true, false, cond, not, ◌&&◌, ◌||◌, List, [], ◌∷◌, ◌++◌, map, reverse, Result}
use Rattle.std.specs.Prelude.{Ok, Err, is_ok, ℕ, zero, suc, ◌-◌, ◌/◌, ◌%◌, ◌^◌, ◌<◌, eqb, ltb, leb, length, get_or, take, drop, replicate}
use Rattle.std.specs.Int.Bits.{bit_or}
use Rattle.limits.specs.Limits.{most_nodes}
use Rattle.limits.specs.declared.Refusal.{Refusal}
use Rattle.limits.specs.declared.Refusal.TheVariants.{OutOfRange}
use Rattle.ring.specs.declared.NodeBefore.{NodeBefore}

-- ---- 01's numbers

-- "rows of six targets"
abbrev pub row_size : ℕ
row_size = 6

-- "255 where there is none"
abbrev pub none : ℕ
none = 255

-- ---- lists

-- the numbers of a list that pass a test, in the list's order
unfoldable pub keep : (ℕ → Bool) → List ℕ → List ℕ
keep test [] = []
keep test (x ∷ xs) = cond (test x) (x ∷ keep test xs) (keep test xs)

-- n numbers from i on
unfoldable pub numbers : ℕ → ℕ → List ℕ
numbers i zero = []
numbers i (suc n) = i ∷ numbers (suc i) n

-- a number is among others
unfoldable pub among : List ℕ → ℕ → Bool
among [] k = false
among (x ∷ xs) k = eqb x k || among xs k

-- no number stands twice
unfoldable pub each_once : List ℕ → Bool
each_once [] = true
each_once (x ∷ xs) = not (among xs x) && each_once xs

-- ---- "a dead list, a 64-bit number whose bit i stands for node i"

-- d lists node i
unfoldable pub listed : ℕ → ℕ → Bool
listed d i = eqb (d / 2 ^ i % 2) 1

-- d with node i listed
unfoldable pub listing : ℕ → ℕ → ℕ
listing d i = bit_or d (2 ^ i)

-- d without node i
unfoldable pub unlisting : ℕ → ℕ → ℕ
unlisting d i = cond (listed d i) (d - 2 ^ i) d

-- d with all nodes listed that e lists
unfoldable pub merging : ℕ → ℕ → ℕ
merging d e = bit_or d e

-- every node that m lists is one that d lists: m adds nothing to d
unfoldable pub part_of : ℕ → ℕ → Bool
part_of m d = eqb (bit_or m d) d

-- d with all nodes of a list listed
unfoldable pub listing_all : ℕ → List ℕ → ℕ
listing_all d [] = d
listing_all d (x ∷ xs) = listing_all (listing d x) xs

-- the nodes of a list that d does not list
unfoldable pub unlisted : ℕ → List ℕ → List ℕ
unlisted d xs = keep (λ i. not (listed d i)) xs

-- the nodes below n that d does not list, as a set like d: all bits below n, without d's
unfoldable pub unlisted_set : ℕ → ℕ → ℕ
unlisted_set n d = 2 ^ n - 1 - d % 2 ^ n

-- ---- the answer of a search: a node, and how many listed nodes were passed on the way to it

abbrev pub node_before : ℕ → ℕ → NodeBefore
node_before node passed = record { node = node; passed = passed }

-- one more is passed
unfoldable pub passing : NodeBefore → NodeBefore
passing b = node_before b.node (suc b.passed)

-- ---- "nodes are 0 to N−1 in a ring"

-- the place of node i, or the list's length where it has none
unfoldable pub place : List ℕ → ℕ → ℕ
place [] i = zero
place (x ∷ xs) i = cond (eqb x i) zero (suc (place xs i))

-- the order has each node below n once: n places with nodes below n, a place for each node, and no second place
pub record InOrder (n : ℕ) (order : List ℕ) : Type 0 where
  pub size : length order ≡ n
  pub below : (q : ℕ) → q < n → get_or order q 0 < n
  pub placed : (k : ℕ) → k < n → place order k < n
  pub has : (k : ℕ) → k < n → get_or order (place order k) 0 ≡ k
  pub once : (q : ℕ) → q < n → place order (get_or order q 0) ≡ q

-- the ring from the place p on, once round
unfoldable pub round : List ℕ → ℕ → List ℕ
round order p = drop p order ++ take p order

-- "that many unlisted nodes ahead": the node k unlisted nodes ahead of the unlisted node at the place p
unfoldable pub ahead : List ℕ → ℕ → ℕ → ℕ → ℕ
ahead order d p k = get_or (unlisted d (round order p)) k none

-- of nodes in turn, the first that d does not list, and how many listed ones are passed before it
unfoldable pub first_unlisted : ℕ → List ℕ → NodeBefore
first_unlisted d [] = node_before none 0
first_unlisted d (x ∷ xs) = cond (listed d x) (passing (first_unlisted d xs)) (node_before x 0)

-- "the search for the node before": "the first unlisted node going back" from the place p, and "how many listed nodes it passed". It begins at
-- the place before p, and the node at p comes last
unfoldable pub back : List ℕ → ℕ → ℕ → NodeBefore
back order d p = first_unlisted d (reverse (round order p))

-- the search from a node that is just left: it begins at that node, listed by then, and so has "the one just left included"
abbrev pub back_from : List ℕ → ℕ → ℕ → NodeBefore
back_from order d e = back order d (suc (place order e))

-- the first unlisted node ahead of the place p; the node there comes last
unfoldable pub next : List ℕ → ℕ → ℕ → ℕ
next order d p = get_or (unlisted d (round order (suc p))) 0 none

-- ---- "Forward targets"

-- "the count of unlisted nodes, m, the node itself included"
unfoldable pub count : ℕ → ℕ → ℕ
count n d = length (unlisted d (numbers 0 n))

-- "each power of two below m, smallest first"; an exponent below m is enough, as 2 ^ m is above m
unfoldable pub powers : ℕ → List ℕ
powers m = keep (λ x. ltb x m) (map (λ j. 2 ^ j) (numbers 0 m))

-- how many there are: the base-two logarithm of m, rounded up
unfoldable pub jumps : ℕ → ℕ
jumps m = length (powers m)

-- the forward targets of the unlisted node at the place p; d is "the list after the change"
unfoldable pub targets : List ℕ → ℕ → ℕ → List ℕ
targets order d p = map (ahead order d p) (powers (count (length order) d))

-- ---- "The forwarding table of a dead list"

-- "six targets, 255 where there is none"
unfoldable pub row : List ℕ → List ℕ
row ts = ts ++ replicate (row_size - length ts) none

-- "the rows of listed nodes and of numbers from N on are all 255"
unfoldable pub table_row : List ℕ → ℕ → ℕ → List ℕ
table_row order d i = row (cond (ltb i (length order) && not (listed d i)) (targets order d (place order i)) [])

-- "N outside 1 to 64, or a list with a bit from N on, is refused by 3"
unfoldable pub table_answer : ℕ → ℕ → Result (Unit {0}) Refusal
table_answer n d = cond (leb 1 n && leb n most_nodes && ltb d (2 ^ n)) (Ok tt) (Err OutOfRange)

-- "64 rows" in number order; of a refused table, all are empty
unfoldable pub table_rows : ℕ → ℕ → List (List ℕ)
table_rows n d = cond (is_ok (table_answer n d)) (map (table_row (numbers 0 n) d) (numbers 0 most_nodes)) (replicate most_nodes (row []))
