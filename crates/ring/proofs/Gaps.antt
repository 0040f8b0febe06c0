-- Steps back in the ring from one node to another (`gap`), for any order: a full round from a node to itself. The nodes of the ring going back from
-- a node are 1, 2 and so on steps back from it. Assumes nothing.
use mathlib.Core.Path.{◌≡◌, sym, ap, ◌∙◌}
use mathlib.Core.Logic.{◌⊎◌, inl, inr, ◌≢◌, ite, if_pos, if_neg}
use mathlib.Core.Bool.{true}
use mathlib.Core.List.{List, map, reverse}
use Prim.Native.Nat.{ℕ, suc, ◌+◌, ◌-◌, ◌≤◌, ◌<◌}
use native.Mathlib.Omega.{arith}
use native.Mathlib.Decide.{dec_lt}
use lib.ListN.{length, get_or, length-map}
use Rattle.ring.specs.Ring.{among, place, round, InOrder}
use Rattle.ring.proofs.Laws.{length-round, round-near, round-far}
use Rattle.ring.proofs.Once.{all-many, among-map}
use Rattle.ring.proofs.Unlisted.{get_d_reverse}

module _ (n : ℕ) where
  -- s steps back from the place a is the place b: without passing the first place, or round from it to the last
  data Steps (a b s : ℕ) : Type 0 where
    direct : b < a → s + b ≡ a → Steps a b s
    around : a ≤ b → s + b ≡ a + n → Steps a b s

  steps_back : ℕ → ℕ → ℕ
  steps_back a b = ite (dec_lt b a) (a - b) (a + n - b)

  steps : (a b : ℕ) → b < n → Steps a b (steps_back a b)
  unfolding steps_back
  steps a b h = go (dec_lt b a)
    where
      go : (d : Dec (b < a)) → Steps a b (ite d (a - b) (a + n - b))
      go (yes l) = direct l (omega arith)
      go (no l) = around (omega arith) (omega arith)

  module _ (a b : ℕ) (a_n : a < n) (b_n : b < n) where
    steps-range : (s : ℕ) → Steps a b s → (1 ≤ s) × (s ≤ n)
    steps-range s (direct h e) = (omega arith, omega arith)
    steps-range s (around h e) = (omega arith, omega arith)

    steps-one : (s t : ℕ) → Steps a b s → Steps a b t → s ≡ t
    steps-one s t (direct h e) (direct k f) = omega arith
    steps-one s t (direct h e) (around k f) = omega arith
    steps-one s t (around h e) (direct k f) = omega arith
    steps-one s t (around h e) (around k f) = omega arith

    module _ (c : ℕ) (c_n : c < n) where
      steps-inj : (s t : ℕ) → Steps a b s → Steps a c t → s ≡ t → b ≡ c
      steps-inj s t (direct h e) (direct k f) q = omega arith
      steps-inj s t (direct h e) (around k f) q = omega arith
      steps-inj s t (around h e) (direct k f) q = omega arith
      steps-inj s t (around h e) (around k f) q = omega arith

      steps-add : (s t u : ℕ) → Steps a b s → Steps a c t → Steps b c u → s < t → t ≡ s + u
      steps-add s t u (direct h e) (direct k f) (direct i g) q = omega arith
      steps-add s t u (direct h e) (direct k f) (around i g) q = omega arith
      steps-add s t u (direct h e) (around k f) (direct i g) q = omega arith
      steps-add s t u (direct h e) (around k f) (around i g) q = omega arith
      steps-add s t u (around h e) (direct k f) (direct i g) q = omega arith
      steps-add s t u (around h e) (direct k f) (around i g) q = omega arith
      steps-add s t u (around h e) (around k f) (direct i g) q = omega arith
      steps-add s t u (around h e) (around k f) (around i g) q = omega arith

      -- of two places, one is met before c going back from the other
      steps-cyc : (s t u v : ℕ) → Steps b a s → Steps b c t → Steps a b u → Steps a c v → a ≢ b → (s < t) ⊎ (u < v)
      steps-cyc s t u v x y z w ne = go (dec_lt s t) (dec_lt u v)
        where
          never : Steps b a s → Steps b c t → Steps a b u → Steps a c v → t ≤ s → v ≤ u → ⊥
          never (direct h e) (direct h₁ e₁) (direct h₂ e₂) w p q = omega arith
          never (direct h e) (direct h₁ e₁) (around h₂ e₂) (direct h₃ e₃) p q = omega arith
          never (direct h e) (direct h₁ e₁) (around h₂ e₂) (around h₃ e₃) p q = omega arith
          never (direct h e) (around h₁ e₁) z w p q = omega arith
          never (around h e) y (around h₂ e₂) w p q = omega arith
          never (around h e) y (direct h₂ e₂) (around h₃ e₃) p q = omega arith
          never (around h e) (direct h₁ e₁) (direct h₂ e₂) (direct h₃ e₃) p q = omega arith
          never (around h e) (around h₁ e₁) (direct h₂ e₂) (direct h₃ e₃) p q = omega arith

          go : Dec (s < t) → Dec (u < v) → (s < t) ⊎ (u < v)
          go (yes p) d = inl p
          go (no p) (yes q) = inr q
          go (no p) (no q) = absurd (never x y z w (omega arith) (omega arith))

-- ---- from node to node

module _ (n : ℕ) {order : List ℕ} (o : InOrder n order) where
  -- steps back from j to k; no node from n on is met, and from such none starts
  pub gap : ℕ → ℕ → ℕ
  gap j k = ite (dec_lt j n) (ite (dec_lt k n) (steps_back n (place order j) (place order k)) (n + 1 + k)) 0

  pub gap-out : (j k : ℕ) → j < n → ¬ (k < n) → gap j k ≡ n + 1 + k
  unfolding gap
  gap-out j k j_n k_n = if_pos (dec_lt j n) j_n _ _ ∙ if_neg (dec_lt k n) k_n _ _

  pub gap-far : (j k : ℕ) → ¬ (j < n) → gap j k ≡ 0
  unfolding gap
  gap-far j k j_n = if_neg (dec_lt j n) j_n _ _

  gap-in : (j k : ℕ) → j < n → k < n → gap j k ≡ steps_back n (place order j) (place order k)
  unfolding gap
  gap-in j k j_n k_n = if_pos (dec_lt j n) j_n _ _ ∙ if_pos (dec_lt k n) k_n _ _

  gap-steps : (j k : ℕ) → j < n → k < n → Steps n (place order j) (place order k) (gap j k)
  gap-steps j k j_n k_n = rw (gap-in j k j_n k_n) (steps n (place order j) (place order k) (o.placed k k_n))

  gap-range : (j k : ℕ) → j < n → k < n → (1 ≤ gap j k) × (gap j k ≤ n)
  gap-range j k j_n k_n = steps-range n (place order j) (place order k) (o.placed j j_n) (o.placed k k_n) (gap j k) (gap-steps j k j_n k_n)

  pub gap≥1 : (j k : ℕ) → j < n → k < n → 1 ≤ gap j k
  gap≥1 j k j_n k_n = (gap-range j k j_n k_n).0

  pub gap≤n : (j k : ℕ) → j < n → k < n → gap j k ≤ n
  gap≤n j k j_n k_n = (gap-range j k j_n k_n).1

  -- where the gap is at most n, a node is meant
  pub gap-node : (j k : ℕ) → j < n → gap j k ≤ n → k < n
  gap-node j k j_n h = go (dec_lt k n)
    where
      go : Dec (k < n) → k < n
      go (yes l) = l
      go (no l) = absurd (omega (arith, gap-out j k j_n l))

  place-inj : (j k : ℕ) → j < n → k < n → place order j ≡ place order k → j ≡ k
  place-inj j k j_n k_n e = sym (o.has j j_n) ∙ ap (λ (q : ℕ). get_or order q 0) e ∙ o.has k k_n

  pub gap-inj : (j k i : ℕ) → j < n → gap j k ≡ gap j i → k ≡ i
  gap-inj j k i j_n e = go (dec_lt k n) (dec_lt i n)
    where
      go : Dec (k < n) → Dec (i < n) → k ≡ i
      go (yes k_n) (yes i_n) =
          place-inj k i k_n i_n
          (steps-inj n (place order j) (place order k) (o.placed j j_n) (o.placed k k_n) (place order i) (o.placed i i_n) _ _
          (gap-steps j k j_n k_n) (gap-steps j i j_n i_n) e)
      go (yes k_n) (no i_n) = absurd (omega (arith, gap-out j i j_n i_n, gap≤n j k j_n k_n))
      go (no k_n) (yes i_n) = absurd (omega (arith, gap-out j k j_n k_n, gap≤n j i j_n i_n))
      go (no k_n) (no i_n) = omega (arith, gap-out j k j_n k_n, gap-out j i j_n i_n)

  pub gap-cyc : (j k i : ℕ) → j < n → k < n → j ≢ k → (gap k j < gap k i) ⊎ (gap j k < gap j i)
  gap-cyc j k i j_n k_n ne = go (dec_lt i n)
    where
      go : Dec (i < n) → (gap k j < gap k i) ⊎ (gap j k < gap j i)
      go (yes i_n) =
          steps-cyc n (place order j) (place order k) (o.placed j j_n) (o.placed k k_n) (place order i) (o.placed i i_n) _ _ _ _
          (gap-steps k j k_n j_n) (gap-steps k i k_n i_n) (gap-steps j k j_n k_n) (gap-steps j i j_n i_n) (λ e. ne (place-inj j k j_n k_n e))
      go (no i_n) = inl (omega (arith, gap-out k i k_n i_n, gap≤n k j k_n j_n))

  pub gap-add : (j i k : ℕ) → j < n → i < n → k < n → gap j i < gap j k → gap j k ≡ gap j i + gap i k
  gap-add j i k j_n i_n k_n =
      steps-add n (place order j) (place order i) (o.placed j j_n) (o.placed i i_n) (place order k) (o.placed k k_n) _ _ _
      (gap-steps j i j_n i_n) (gap-steps j k j_n k_n) (gap-steps i k i_n k_n)

  -- ---- the ring going back from a node

  -- the place of its i-th node
  module _ (p i : ℕ) (p_n : p < n) (i_n : i < n) where
    back-place : (q : ℕ) × (q < n) × (get_or (reverse (round order p)) i 0 ≡ get_or order q 0) × Steps n p q (suc i)
    back-place = go (dec_lt i p)
      where
        all : length order ≡ n
        all = o.size

        turned : get_or (reverse (round order p)) i 0 ≡ get_or (round order p) (n - 1 - i) 0
        turned = rw (length-round, all) at (get_d_reverse (round order p) i 0 (rw (length-round, all) i_n))

        go : Dec (i < p) → (q : ℕ) × (q < n) × (get_or (reverse (round order p)) i 0 ≡ get_or order q 0) × Steps n p q (suc i)
        go (yes l) =
            let e : n - 1 - i - (length order - p) ≡ p - 1 - i = omega arith in
            let far : get_or (round order p) (n - 1 - i) 0 ≡ get_or order (n - 1 - i - (length order - p)) 0 =
            round-far order p (n - 1 - i) 0 (omega arith) (omega arith) (omega arith) in
            (p - 1 - i, omega arith, turned ∙ far ∙ ap (λ (q : ℕ). get_or order q 0) e, direct (omega arith) (omega arith))
        go (no l) =
            (p + (n - 1 - i), omega arith, turned ∙ round-near order p (n - 1 - i) 0 (omega arith), around (omega arith) (omega arith))

  -- it is i + 1 steps back
  pub gap_back : (j i : ℕ) → j < n → i < n → gap j (get_or (reverse (round order (place order j))) i 0) ≡ suc i
  gap_back j i j_n i_n = rw w.2 here
    where
      w : (q : ℕ) × (q < n) × (get_or (reverse (round order (place order j))) i 0 ≡ get_or order q 0) × Steps n (place order j) q (suc i)
      w = back-place (place order j) i (o.placed j j_n) i_n

      q : ℕ
      q = w.0

      q_n : q < n
      q_n = w.1

      here : gap j (get_or order q 0) ≡ suc i
      here =
          steps-one n (place order j) q (o.placed j j_n) q_n _ _ (rw (o.once q q_n) at (gap-steps j (get_or order q 0) j_n (o.below q q_n))) w.3

  -- nodes among which all are that stand up to g steps back from j are at least g
  pub back-many : (xs : List ℕ) (j g : ℕ) → j < n → g ≤ n → ((k : ℕ) → gap j k ≤ g → among xs k ≡ true) → g ≤ length xs
  back-many xs j g j_n g_n all = rw length-map at (all-many g (map (λ k. gap j k - 1) xs) at-step)
    where
      at-step : (i : ℕ) → i < g → among (map (λ k. gap j k - 1) xs) i ≡ true
      at-step i h =
          let k : ℕ = get_or (reverse (round order (place order j))) i 0 in
          let there : gap j k ≡ suc i = gap_back j i j_n (omega arith) in
          among-map (λ k. gap j k - 1) xs k i (omega arith) (all k (omega arith))
