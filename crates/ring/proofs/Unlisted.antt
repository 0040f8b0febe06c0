-- The unlisted nodes as a ring of their own, for any test l of who is listed: `listed d` of a dead list d, or who has crashed. A node's index is how
-- many unlisted ones stand before it; jumps ahead add up, and back and next are inverse. Assumes nothing.
use mathlib.Core.Path.{◌≡◌, refl, sym, ap, ap₂, ◌∙◌}
use mathlib.Core.Bool.{Bool, false, not}
use mathlib.Core.List.{List, [], ◌∷◌, ◌++◌, reverse, reverse-cons}
use mathlib.Core.Logic.{◌≢◌}
use Prim.Native.Nat.{ℕ, suc, ◌+◌, ◌-◌, ◌%◌, ◌≤◌, ◌<◌}
use native.Mathlib.Nat.{add-zero, add_assoc, mod-lt, mod-eq_of_lt, mod-eq-sub-mod, mod_self, mod-add-mod, add-mod-mod, add-mod_right}
use native.Mathlib.Numerals.{add-one}
use native.Mathlib.Decide.{dec_lt}
use native.Mathlib.Omega.{arith}
use borrow.Author.Tests.{not-true}
use lib.ListN.{length, get_or, take, drop, length-append, length-reverse, take-append-drop, get_or-append}
use lib.Seq.{get_or-append-add, take-suc, get_or-append_seam, split_at, take-append_seam, drop-append_seam}
use Rattle.ring.specs.Ring.{keep, numbers, none, round, place, InOrder}
use Rattle.ring.proofs.Laws.{keep_append, keep-reverse, keep-round, keep-yes, round-near, round-far}
use Rattle.ring.proofs.Orders.{Kept, kept_at, order-kept}

-- ---- the definitions of Ring.antt for any test: those are these for `listed d`

abbrev pub unlisted_by : (ℕ → Bool) → List ℕ → List ℕ
unlisted_by l xs = keep (λ i. not (l i)) xs

unfoldable pub count_by : ℕ → (ℕ → Bool) → ℕ
count_by n l = length (unlisted_by l (numbers 0 n))

unfoldable pub ahead_by : List ℕ → (ℕ → Bool) → ℕ → ℕ → ℕ
ahead_by order l p k = get_or (unlisted_by l (round order p)) k none

unfoldable pub back_by : List ℕ → (ℕ → Bool) → ℕ → ℕ
back_by order l p = get_or (unlisted_by l (reverse (round order p))) 0 none

unfoldable pub next_by : List ℕ → (ℕ → Bool) → ℕ → ℕ
next_by order l p = get_or (unlisted_by l (round order (suc p))) 0 none

next-first : (order : List ℕ) (l : ℕ → Bool) (p : ℕ) → next_by order l p ≡ ahead_by order l (suc p) 0
unfolding next_by ahead_by
next-first order l p = refl

-- ---- rings of any list

-- what is kept of a ring is the kept ring, from the place that has as many kept ones before it
kept-round : (t : ℕ → Bool) (order : List ℕ) (p : ℕ) → keep t (round order p) ≡ round (keep t order) (length (keep t (take p order)))
unfolding round
kept-round t order p =
    let a = keep t (take p order) in
    let b = keep t (drop p order) in
    keep_append t (drop p order) (take p order)
    ∙ ap₂ (λ (x y : List ℕ). x ++ y) (sym (drop-append_seam a b)) (sym (take-append_seam a b))
    ∙ ap (λ (l : List ℕ). drop (length a) l ++ take (length a) l)
    (sym (keep_append t (take p order) (drop p order)) ∙ ap (keep t) (take-append-drop p order))

-- the k-th from the place a, where a may also be the length
round-mod : (z : ℕ) (s : List ℕ) (a k : ℕ) → a ≤ length s → k < length s → get_or (round s a) k z ≡ get_or s ((a + k) % length s) z
round-mod z s a k h g = go (dec_lt (a + k) (length s))
  where
    go : Dec (a + k < length s) → get_or (round s a) k z ≡ get_or s ((a + k) % length s) z
    go (yes l) = rw (mod-eq_of_lt l) (round-near s a k z (omega arith))
    go (no l) =
        let e : k - (length s - a) ≡ a + k - length s = omega arith in
        let m : (a + k) % length s ≡ a + k - length s = mod-eq-sub-mod (omega arith) ∙ mod-eq_of_lt (omega arith) in
        rw (m, ← e) (round-far s a k z h (omega arith) g)

-- the i-th of a list turned round
pub get_d_reverse : (xs : List ℕ) (i z : ℕ) → i < length xs → get_or (reverse xs) i z ≡ get_or xs (length xs - 1 - i) z
get_d_reverse [] i z h = absurd (omega arith)
get_d_reverse (x ∷ xs) i z h = rw (reverse-cons x xs) (go (dec_lt i (length xs)) (get_d_reverse xs i z))
  where
    go : Dec (i < length xs) → (i < length xs → get_or (reverse xs) i z ≡ get_or xs (length xs - 1 - i) z)
        → get_or (reverse xs ++ (x ∷ [])) i z ≡ get_or (x ∷ xs) (suc (length xs) - 1 - i) z
    go (yes a) ih =
        let e : suc (length xs) - 1 - i ≡ suc (length xs - 1 - i) = omega arith in
        rw e (get_or-append (reverse xs) (x ∷ []) z i (rw length-reverse a) ∙ ih a)
    go (no a) ih =
        let e : suc (length xs) - 1 - i ≡ 0 = omega arith in
        let g : i ≡ length (reverse xs) + 0 = rw length-reverse (omega arith) in
        rw e (ap (λ (n : ℕ). get_or (reverse xs ++ (x ∷ [])) n z) g ∙ get_or-append-add (reverse xs) (x ∷ []) 0 z)

first-reverse : (z : ℕ) (xs : List ℕ) → get_or (reverse xs) 0 z ≡ get_or xs (length xs - 1) z
first-reverse z [] = refl
first-reverse z (x ∷ xs) =
    let e : length (x ∷ xs) - 1 - 0 ≡ length (x ∷ xs) - 1 = omega arith in
    get_d_reverse (x ∷ xs) 0 z (omega arith) ∙ ap (λ (i : ℕ). get_or (x ∷ xs) i z) e

-- numbers that differ by less than m differ modulo m
mod-differ : (m a i j : ℕ) → i < j → j < m → (a + i) % m ≢ (a + j) % m
mod-differ m a i j g h e = go (dec_lt (x + (j - i)) m)
  where
    x : ℕ
    x = (a + i) % m

    same : x ≡ (x + (j - i)) % m
    same =
        let s : a + j ≡ a + i + (j - i) = omega arith in
        e ∙ ap (λ (y : ℕ). y % m) s ∙ sym (mod-add-mod (a + i) m (j - i))

    go : Dec (x + (j - i) < m) → ⊥
    go (yes l) = omega (arith, same ∙ mod-eq_of_lt l)
    go (no l) =
        let b : x < m = mod-lt (a + i) (omega arith) in
        omega (arith, same ∙ mod-eq-sub-mod {n = x + (j - i)} {m = m} (omega arith) ∙ mod-eq_of_lt (omega arith))

-- ---- the index of a place

module _ (l : ℕ → Bool) (order : List ℕ) where
  abbrev un : ℕ → Bool
  un i = not (l i)

  -- how many unlisted nodes stand before the place p
  abbrev index : ℕ → ℕ
  index p = length (unlisted_by l (take p order))

  index-le : (p : ℕ) → index p ≤ length (unlisted_by l order)
  index-le p =
      let parts : index p + length (unlisted_by l (drop p order)) ≡ length (unlisted_by l order) =
      sym (length-append (unlisted_by l (take p order)) (unlisted_by l (drop p order)))
      ∙ ap length (sym (keep_append un (take p order) (drop p order)))
      ∙ ap (λ (xs : List ℕ). length (keep un xs)) (take-append-drop p order) in
      omega arith

  module _ (p : ℕ) (h : p < length order) (e : l (get_or order p 0) ≡ false) where
    index-suc : index (suc p) ≡ suc (index p)
    unfolding keep
    index-suc = rw (take-suc order p 0 h, keep_append, length-append, e) (omega arith)

    -- the node there is the unlisted node of its index
    index_at : (z : ℕ) → get_or (unlisted_by l order) (index p) z ≡ get_or order p 0
    index_at z =
        ap (λ (xs : List ℕ). get_or xs (index p) z) whole ∙ get_or-append_seam (keep un (take p order)) (get_or order p 0) (keep un (drop (suc p) order)) z
      where
        whole : keep un order ≡ keep un (take p order) ++ (get_or order p 0 ∷ keep un (drop (suc p) order))
        whole =
            ap (keep un) (split_at order p 0 h)
            ∙ keep_append un (take p order) (get_or order p 0 ∷ drop (suc p) order)
            ∙ ap (λ (xs : List ℕ). keep un (take p order) ++ xs) (keep-yes un (get_or order p 0) (drop (suc p) order) (ap not e))

-- ---- the unlisted nodes of an order

module _ (n : ℕ) (l : ℕ → Bool) (order : List ℕ) (r : InOrder n order) where
  abbrev un' : ℕ → Bool
  un' i = not (l i)

  -- how many are unlisted
  abbrev m : ℕ
  m = count_by n l

  -- the unlisted node of index k, and the index of the node x
  abbrev nth : ℕ → ℕ
  nth k = get_or (unlisted_by l order) k none

  abbrev index_of : ℕ → ℕ
  index_of x = index l order (place order x)

  size : length (unlisted_by l order) ≡ m
  unfolding count_by
  size = order-kept un' n order r

  at : (k : ℕ) → k < m → Kept un' none order k
  at k h = kept_at un' none order k (rw size h)

  nth-below : (k : ℕ) → k < m → nth k < n
  nth-below k h = rw (at k h).is (r.below (at k h).q (rw r.size at (at k h).inside))

  nth-unlisted : (k : ℕ) → k < m → l (nth k) ≡ false
  nth-unlisted k h = rw (at k h).is (not-true _ (at k h).passes)

  index-nth : (k : ℕ) → k < m → index_of (nth k) ≡ k
  index-nth k h = rw ((at k h).is, r.once (at k h).q (rw r.size at (at k h).inside)) (at k h).before

  -- a node ahead, by its index
  ahead-nth : (p k : ℕ) → k < m → ahead_by order l p k ≡ nth ((index l order p + k) % m)
  unfolding ahead_by
  ahead-nth p k h =
      ap (λ (xs : List ℕ). get_or xs k none) (kept-round un' order p)
      ∙ round-mod none (unlisted_by l order) (index l order p) k (index-le l order p) (rw size h)
      ∙ ap (λ (c : ℕ). nth ((index l order p + k) % c)) size

  pub ahead_by-below : (p k : ℕ) → k < m → ahead_by order l p k < n
  ahead_by-below p k h = rw (ahead-nth p k h) (nth-below _ (mod-lt _ (omega arith)))

  pub ahead_by-unlisted : (p k : ℕ) → k < m → l (ahead_by order l p k) ≡ false
  ahead_by-unlisted p k h = rw (ahead-nth p k h) (nth-unlisted _ (mod-lt _ (omega arith)))

  -- two different jumps lead to two different nodes
  pub ahead_by-differ : (p i j : ℕ) → i < j → j < m → ahead_by order l p i ≢ ahead_by order l p j
  ahead_by-differ p i j g h e = mod-differ m (index l order p) i j g h
      (sym (index-nth _ (mod-lt _ (omega arith))) ∙ ap index_of (sym (ahead-nth p i (omega arith)) ∙ e ∙ ahead-nth p j h)
      ∙ index-nth _ (mod-lt _ (omega arith)))

  -- jumps add up: k ahead of the node that is j ahead is j + k ahead, round the m unlisted nodes
  pub ahead_by-add : (p j k : ℕ) → j < m → k < m → ahead_by order l (place order (ahead_by order l p j)) k ≡ ahead_by order l p ((j + k) % m)
  ahead_by-add p j k g h =
      let some : 0 < m = omega arith in
      let a : ℕ = index l order p in
      let there : index_of (ahead_by order l p j) ≡ (a + j) % m = ap index_of (ahead-nth p j g) ∙ index-nth ((a + j) % m) (mod-lt (a + j) some) in
      let sum : ((a + j) % m + k) % m ≡ (a + (j + k) % m) % m =
      mod-add-mod (a + j) m k ∙ ap (λ (x : ℕ). x % m) (add_assoc a j k) ∙ sym (add-mod-mod a (j + k) m) in
      ahead-nth (place order (ahead_by order l p j)) k h
      ∙ ap nth (ap (λ (x : ℕ). (x + k) % m) there ∙ sum)
      ∙ sym (ahead-nth p ((j + k) % m) (mod-lt (j + k) some))

  -- the first going back is the last ahead
  pub back_by-ahead : (p : ℕ) → back_by order l p ≡ ahead_by order l p (m - 1)
  unfolding back_by ahead_by
  back_by-ahead p =
      ap (λ (xs : List ℕ). get_or xs 0 none) (keep-reverse un' (round order p))
      ∙ first-reverse none (keep un' (round order p))
      ∙ ap (λ (c : ℕ). get_or (keep un' (round order p)) (c - 1) none) (keep-round un' order p ∙ size)

  -- ---- the neighbours of an unlisted node x

  module _ (x : ℕ) (h : x < n) (u : l x ≡ false) where
    spot : place order x < length order
    spot = rw r.size (r.placed x h)

    there : l (get_or order (place order x) 0) ≡ false
    there = ap l (r.has x h) ∙ u

    index-lt : index_of x < m
    index-lt = omega (arith, size, index-le l order (suc (place order x)), index-suc l order (place order x) spot there)

    nth-index : nth (index_of x) ≡ x
    nth-index = index_at l order (place order x) spot there none ∙ r.has x h

    -- an unlisted node counts itself
    pub count_by-some : 0 < m
    count_by-some = omega (arith, index-lt)

    pub ahead_by-itself : ahead_by order l (place order x) 0 ≡ x
    ahead_by-itself =
        ahead-nth (place order x) 0 count_by-some
        ∙ ap (λ (i : ℕ). nth (i % m)) (add-zero (index_of x)) ∙ ap nth (mod-eq_of_lt index-lt) ∙ nth-index

    -- the next is one ahead, and the node itself where it is alone
    pub next_by-ahead : next_by order l (place order x) ≡ ahead_by order l (place order x) (1 % m)
    next_by-ahead =
        next-first order l (place order x)
        ∙ ahead-nth (suc (place order x)) 0 count_by-some
        ∙ ap (λ (i : ℕ). nth (i % m)) (add-zero _ ∙ index-suc l order (place order x) spot there ∙ sym (add-one (index_of x)))
        ∙ ap nth (sym (add-mod-mod (index_of x) 1 m))
        ∙ sym (ahead-nth (place order x) (1 % m) (mod-lt 1 count_by-some))

  module _ (x : ℕ) (h : x < n) (u : l x ≡ false) where
    -- every unlisted node is so many ahead
    pub ahead_by-reaches : (y : ℕ) → y < n → l y ≡ false → (k : ℕ) × (k < m) × (ahead_by order l (place order x) k ≡ y)
    ahead_by-reaches y g v =
        let a : ℕ = index_of x in
        let b : ℕ = index_of y in
        let c : ℕ = m - a in
        let k : (b + c) % m < m = mod-lt (b + c) (count_by-some x h u) in
        let sum : a + (b + c) ≡ b + m = omega (arith, index-lt x h u) in
        let back : (a + (b + c) % m) % m ≡ b =
        add-mod-mod a (b + c) m ∙ ap (λ (i : ℕ). i % m) sum ∙ add-mod_right b m ∙ mod-eq_of_lt (index-lt y g v) in
        ((b + c) % m, k, ahead-nth (place order x) ((b + c) % m) k ∙ ap nth back ∙ nth-index y g v)

    -- going back and going on are inverse among the unlisted
    pub next_by-back : next_by order l (place order (back_by order l (place order x))) ≡ x
    next_by-back =
        let some : 0 < m = count_by-some x h u in
        let k : m - 1 < m = omega arith in
        let p : ℕ = place order x in
        let e : m - 1 + 1 ≡ m = omega arith in
        ap (λ (z : ℕ). next_by order l (place order z)) (back_by-ahead p)
        ∙ next_by-ahead (ahead_by order l p (m - 1)) (ahead_by-below p (m - 1) k) (ahead_by-unlisted p (m - 1) k)
        ∙ ahead_by-add p (m - 1) (1 % m) k (mod-lt 1 some)
        ∙ ap (ahead_by order l p) (add-mod-mod (m - 1) 1 m ∙ ap (λ (z : ℕ). z % m) e ∙ mod_self m)
        ∙ ahead_by-itself x h u

    pub back_by-next : back_by order l (place order (next_by order l (place order x))) ≡ x
    back_by-next =
        let some : 0 < m = count_by-some x h u in
        let k : m - 1 < m = omega arith in
        let p : ℕ = place order x in
        let e : 1 + (m - 1) ≡ m = omega arith in
        ap (λ (z : ℕ). back_by order l (place order z)) (next_by-ahead x h u)
        ∙ back_by-ahead (place order (ahead_by order l p (1 % m)))
        ∙ ahead_by-add p (1 % m) (m - 1) (mod-lt 1 some) k
        ∙ ap (ahead_by order l p) (mod-add-mod 1 m (m - 1) ∙ ap (λ (z : ℕ). z % m) e ∙ mod_self m)
        ∙ ahead_by-itself x h u
