-- The count of unlisted nodes is the ones of the unlisted set, and the number of jumps, a logarithm, comes from leading zeros; the
-- targets by exponents, as the code finds them. Assumes nothing.
use mathlib.Core.Path.{◌≡◌, refl, sym, ap, ap₂, ◌∙◌}
use mathlib.Core.Bool.{Bool, true, false, cond, not}
use mathlib.Core.List.{List, [], ◌∷◌, ◌++◌, map, map-map}
use Prim.Native.Nat.{ℕ, zero, suc, ◌+◌, ◌-◌, ◌*◌, ◌/◌, ◌%◌, ◌^◌, ◌≤◌, ◌<◌}
use native.Mathlib.Nat.{sub-zero, add-mul, mod-lt, zero-sub, pow-suc, div-one}
use native.Mathlib.Numerals.{add-one}
use native.Mathlib.Decide.{dec_lt}
use native.Mathlib.Omega.{arith}
use borrow.Author.Tests.{lt-ltb, le-ltb}
use lib.Count.{ones, ones_step, count_leading_zeros, leading_length, leading_le}
use lib.Dec.{ltb}
use lib.ListN.{length, take, drop, replicate, length-map}
use lib.Seq.{take_at}
use lib.Pow.{pow_mono, pow_pos, shr_lt, shr-shr, ones_split, split, field, mod-mod-pow}
use lib.Bits.{bit_and, and_mask}
use lib.Arith.{digits_mod}
use Rattle.limits.specs.Limits.{most_nodes}
use Rattle.ring.specs.Ring.{row_size, none, keep, numbers, listed, unlisted, unlisted_set, ahead, count, powers, jumps, targets, row}
use Rattle.std.proofs.lemmas.List.{take-replicate, drop-replicate}
use Rattle.ring.proofs.Rows.{length-numbers, filled, full}

-- ---- the ones of the unlisted set

-- the machine's complement, cut to k bits
not-mask : (j k a : ℕ) → a < 2 ^ (j + k) → bit_and ((2 ^ (j + k) - 1) - a) (2 ^ k - 1) ≡ 2 ^ k - 1 - a % 2 ^ k
not-mask j k a h =
    and_mask ((2 ^ (j + k) - 1) - a) k
    ∙ ap (λ (x : ℕ). x % 2 ^ k) whole
    ∙ digits_mod (2 ^ j - 1 - a / 2 ^ k) (omega (arith, pow_pos k))
  where
    whole : (2 ^ (j + k) - 1) - a ≡ (2 ^ j - 1 - a / 2 ^ k) * 2 ^ k + (2 ^ k - 1 - a % 2 ^ k)
    whole =
        let g = 2 ^ j - 1 - a / 2 ^ k in
        let e : 2 ^ j - 1 ≡ g + a / 2 ^ k = omega (arith, shr_lt j k h) in
        let f : (2 ^ j - 1) * 2 ^ k ≡ g * 2 ^ k + a / 2 ^ k * 2 ^ k = ap (λ (x : ℕ). x * 2 ^ k) e ∙ add-mul g (a / 2 ^ k) (2 ^ k) in
        omega (arith, ones_split j k, split a k, mod-lt a (pow_pos k), pow_pos k)

-- what is left of k + 1 digits: its last digit and, halved, what is left of k
left-half : (k e : ℕ) → (2 ^ suc k - 1 - e % 2 ^ suc k) / 2 ≡ 2 ^ k - 1 - e / 2 % 2 ^ k
left-half k e =
    let a : e % 2 ^ suc k / 2 ≡ e / 2 % 2 ^ k = rw (add-one) at (field e k 1) in
    let g : e % 2 ^ suc k < 2 ^ suc k = mod-lt e (pow_pos (suc k)) in
    let p : 2 ^ suc k ≡ 2 ^ k * 2 = pow-suc 2 k in
    omega arith

left-last : (k e : ℕ) → (2 ^ suc k - 1 - e % 2 ^ suc k) % 2 ≡ 1 - e % 2
left-last k e =
    let b : e % 2 ^ suc k % 2 ≡ e % 2 = rw (add-one) at (mod-mod-pow e k 1) in
    let g : e % 2 ^ suc k < 2 ^ suc k = mod-lt e (pow_pos (suc k)) in
    let p : 2 ^ suc k ≡ 2 ^ k * 2 = pow-suc 2 k in
    omega arith

left_step : (k e : ℕ) → ones (2 ^ suc k - 1 - e % 2 ^ suc k) ≡ (1 - e % 2) + ones (2 ^ k - 1 - e / 2 % 2 ^ k)
left_step k e = ones_step (2 ^ suc k - 1 - e % 2 ^ suc k) ∙ ap₂ (λ (x y : ℕ). x + ones y) (left-last k e) (left-half k e)

ones-left : (k i d : ℕ) → ones (2 ^ k - 1 - d / 2 ^ i % 2 ^ k) ≡ length (unlisted d (numbers i k))
unfolding ones numbers listed unlisted keep
ones-left zero i d = ap ones (zero-sub (d / 2 ^ i % 1))
ones-left (suc k) i d = go (d / 2 ^ i % 2) refl (ones-left k (suc i) d)
  where
    half : d / 2 ^ suc i ≡ d / 2 ^ i / 2
    half = sym (shr-shr d i 1 ∙ ap (λ (x : ℕ). d / 2 ^ x) (add-one i))

    go : (b : ℕ) → d / 2 ^ i % 2 ≡ b → ones (2 ^ k - 1 - d / 2 ^ suc i % 2 ^ k) ≡ length (unlisted d (numbers (suc i) k))
        → ones (2 ^ suc k - 1 - d / 2 ^ i % 2 ^ suc k) ≡ length (unlisted d (numbers i (suc k)))
    go zero e ih = rw (left_step k (d / 2 ^ i), e, ← half) (omega arith)
    go (suc zero) e ih = rw (left_step k (d / 2 ^ i), e, ← half) (omega arith)
    go (suc (suc b)) e ih = absurd (omega arith)

-- ---- the powers of two below a number

pub lt-pow : (k : ℕ) → k < 2 ^ k
lt-pow zero = omega arith
lt-pow (suc k) = omega (arith, lt-pow k, pow-suc 2 k)

-- where a test holds of f below L and not from L on, it keeps what f gives below L
module _ (p : ℕ → Bool) (f : ℕ → ℕ) (L : ℕ) (below : (j : ℕ) → j < L → p (f j) ≡ true)
    (above : (j : ℕ) → L ≤ j → p (f j) ≡ false) where
  keep-below : (k i : ℕ) → L ≤ i + k → keep p (map f (numbers i k)) ≡ map f (numbers i (L - i))
  unfolding keep numbers
  keep-below zero i h =
      let e : L - i ≡ 0 = omega arith in
      rw e
  keep-below (suc k) i h = go (dec_lt i L) (keep-below k (suc i) (omega arith))
    where
      go : Dec (i < L) → keep p (map f (numbers (suc i) k)) ≡ map f (numbers (suc i) (L - suc i))
          → keep p (map f (numbers i (suc k))) ≡ map f (numbers i (L - i))
      go (yes l) ih =
          let e : L - i ≡ suc (L - suc i) = omega arith in
          rw (e, below i l) (ap (λ (l : List ℕ). f i ∷ l) ih)
      go (no n) ih =
          let e : L - i ≡ 0 = omega arith in
          let g : L - suc i ≡ 0 = omega arith in
          rw (e, above i (omega arith)) (rw g at ih)

-- the powers below m are the first L, where m has L digits at most and no fewer would do
powers-is : (m L : ℕ) → m ≤ 2 ^ L → 2 ^ L ≤ 2 * (m - 1) + 1 → 1 ≤ m → powers m ≡ map (λ j. 2 ^ j) (numbers 0 L)
unfolding powers
powers-is m L h g o =
    keep-below (λ x. ltb x m) (λ j. 2 ^ j) L (λ j l. lt-ltb (2 ^ j) m (low j l)) (λ j l. le-ltb (2 ^ j) m (omega (arith, pow_mono l))) m 0 (fits L g)
    ∙ ap (λ (x : ℕ). map (λ j. 2 ^ j) (numbers 0 x)) (sub-zero L)
  where
    low : (j : ℕ) → j < L → 2 ^ j < m
    low j l = omega (arith, pow_mono l, pow-suc 2 j)

    fits : (n : ℕ) → 2 ^ n ≤ 2 * (m - 1) + 1 → n ≤ 0 + m
    fits zero q = omega arith
    fits (suc n) q = omega (arith, lt-pow n, pow-suc 2 n)

jumps-is : (m L : ℕ) → m ≤ 2 ^ L → 2 ^ L ≤ 2 * (m - 1) + 1 → 1 ≤ m → jumps m ≡ L
unfolding jumps
jumps-is m L h g o = ap length (powers-is m L h g o) ∙ length-map (numbers 0 L) (λ j. 2 ^ j) ∙ length-numbers L 0

pub jumps-leading : (w m : ℕ) → 1 ≤ m → m ≤ 2 ^ w → w - count_leading_zeros w (m - 1) ≡ jumps m
jumps-leading w m o h =
    let t = leading_length w (m - 1) (omega arith) in
    let e : w - count_leading_zeros w (m - 1) ≡ t.0 = omega arith in
    e ∙ sym (jumps-is m t.0 (omega arith) t.3 o)

-- `jumps m` is the base-two logarithm of m rounded up, 0 for none: the least L with m at most 2 ^ L
pub jumps-zero : jumps 0 ≡ 0
unfolding jumps powers numbers keep
jumps-zero = refl

-- the number of jumps that a number above 0 has, with what `powers-is` asks
logarithm : (m : ℕ) → (L : ℕ) × (suc m ≤ 2 ^ L) × (2 ^ L ≤ 2 * (suc m - 1) + 1)
logarithm m =
    let t = leading_length (suc m) m (omega (arith, lt-pow (suc m))) in
    (t.0, omega arith, omega (arith, t.3))

jumps-logarithm : (m : ℕ) → jumps (suc m) ≡ (logarithm m).0
jumps-logarithm m = jumps-is (suc m) (logarithm m).0 (logarithm m).1 (logarithm m).2 (omega arith)

pub jumps-covers : (m : ℕ) → m ≤ 2 ^ jumps m
jumps-covers zero = omega arith
jumps-covers (suc m) = rw (jumps-logarithm m) (logarithm m).1

pub jumps-below : (m k : ℕ) → k < jumps m → 2 ^ k < m
jumps-below zero k h = absurd (omega (arith, jumps-zero))
jumps-below (suc m) k h =
    let l : suc k ≤ (logarithm m).0 = omega (arith, jumps-logarithm m) in
    omega (arith, (logarithm m).2, pow_mono l, pow-suc 2 k)

pub jumps-above : (m k : ℕ) → 2 ^ k < m → k < jumps m
jumps-above m k h = go (dec_lt k (jumps m))
  where
    go : Dec (k < jumps m) → k < jumps m
    go (yes l) = l
    go (no l) = absurd (omega (arith, jumps-covers m, pow_mono {i = jumps m} {j = k} (omega arith)))

pub jumps-le : (k m : ℕ) → m ≤ 2 ^ k → jumps m ≤ k
jumps-le k m h = go (dec_lt k (jumps m))
  where
    go : Dec (k < jumps m) → jumps m ≤ k
    go (yes l) = absurd (omega (arith, jumps-below m k l))
    go (no l) = omega arith

-- ---- the count of unlisted nodes

pub ones-count : (n d : ℕ) → ones (unlisted_set n d) ≡ count n d
unfolding count unlisted_set
ones-count n d = ap (λ (x : ℕ). ones (2 ^ n - 1 - x % 2 ^ n)) (sym (div-one d)) ∙ ones-left n 0 d

-- the same set from a word of w bits
pub unlisted-mask : (w n d : ℕ) → n ≤ w → d < 2 ^ w → bit_and ((2 ^ w - 1) - d) (2 ^ n - 1) ≡ unlisted_set n d
unfolding unlisted_set
unlisted-mask w n d h g =
    let e : w - n + n ≡ w = omega arith in
    ap (λ (x : ℕ). bit_and ((2 ^ x - 1) - d) (2 ^ n - 1)) (sym e) ∙ not-mask (w - n) n d (rw e g)

pub length-keep : (p : ℕ → Bool) (xs : List ℕ) → length (keep p xs) ≤ length xs
unfolding keep
length-keep p [] = omega arith
length-keep p (x ∷ xs) = go (p x) (length-keep p xs)
  where
    go : (b : Bool) → length (keep p xs) ≤ length xs → length (cond b (x ∷ keep p xs) (keep p xs)) ≤ suc (length xs)
    go true h = omega arith
    go false h = omega arith

pub count-le : (n d : ℕ) → count n d ≤ n
unfolding count unlisted
count-le n d = omega (arith, length-keep (λ i. not (listed d i)) (numbers 0 n), length-numbers n 0)

pub jumps-count-le : (n d : ℕ) → n ≤ 64 → jumps (count n d) ≤ 6
jumps-count-le n d h = jumps-le 6 (count n d) (omega (arith, count-le n d))

-- ---- the powers and the targets by their exponents

powers-are : (m : ℕ) → powers m ≡ map (λ j. 2 ^ j) (numbers 0 (jumps m))
unfolding powers numbers keep
powers-are zero = rw jumps-zero
powers-are (suc m) = rw (jumps-logarithm m) (powers-is (suc m) (logarithm m).0 (logarithm m).1 (logarithm m).2 (omega arith))

pub targets-are : (order : List ℕ) (d p : ℕ) → targets order d p ≡ map (λ j. ahead order d p (2 ^ j)) (numbers 0 (jumps (count (length order) d)))
unfolding targets
targets-are order d p =
    let m : ℕ = count (length order) d in
    ap (map (ahead order d p)) (powers-are m) ∙ map-map (ahead order d p) (λ j. 2 ^ j) (numbers 0 (jumps m))

pub length-targets : (order : List ℕ) (d p : ℕ) → length (targets order d p) ≡ jumps (count (length order) d)
unfolding targets jumps
length-targets order d p = length-map (powers (count (length order) d)) (ahead order d p)

pub targets-few : (order : List ℕ) (d p : ℕ) → length order ≤ most_nodes → length (targets order d p) ≤ row_size
targets-few order d p h = omega (arith, length-targets order d p, jumps-count-le (length order) d h)

-- the first of a row are the targets
pub take_row : (order : List ℕ) (d p k : ℕ) → k ≡ jumps (count (length order) d) → take k (row (targets order d p)) ≡ targets order d p
unfolding row
take_row order d p k e = take_at (targets order d p) (replicate (row_size - length (targets order d p)) none) k (length-targets order d p ∙ sym e)

-- the row as a loop fills it
-- a row, of the targets and of what stands behind them in a row of none; last is how many targets there are
module _ (order : List ℕ) (d p last : ℕ) (e : last ≡ jumps (count (length order) d)) where
  pub targets-fit : length order ≤ most_nodes → last ≤ row_size
  targets-fit h = rw e (jumps-count-le (length order) d h)

  pub row-begun : last ≤ row_size → take last (replicate row_size none) ≡ filled (λ j. ahead order d p (2 ^ j)) none last 0
  unfolding filled numbers
  row-begun h = rw sub-zero (take-replicate last row_size none h)

  pub row-filled : (found : List ℕ) (j : ℕ) → found ≡ filled (λ i. ahead order d p (2 ^ i)) none last j → j ≡ last
      → found ++ drop last (replicate row_size none) ≡ row (targets order d p)
  unfolding row
  row-filled found j f q =
      rw (f, q, drop-replicate last row_size none, full (λ i. ahead order d p (2 ^ i)) none last, length-targets order d p, targets-are order d p, e)

pub ruleset unlisted_ones = (ones-count)

pub ruleset jumps_by_zeros = (jumps-leading, jumps-zero, leading_le)
