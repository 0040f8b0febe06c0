-- Dead lists with all nodes of another, with one node more or fewer, the empty one, when two are one and when one is part of another; places
-- in number order. Assumes nothing.
use mathlib.Core.Path.{◌≡◌, refl, sym, ap, ◌∙◌}
use mathlib.Core.Logic.{◌⊎◌, inl, inr, ◌≢◌}
use mathlib.Core.Bool.{Bool, true, false, cond, not, ◌&&◌, ◌||◌, true≢false}
use Prim.Native.Nat.{ℕ, zero, suc, ◌+◌, ◌-◌, ◌*◌, ◌/◌, ◌%◌, ◌^◌, ◌≤◌, ◌<◌}
use native.Mathlib.Nat.{add-zero, div-one, div_self, div-eq_of_lt, mul-mod_left, pow-suc}
use native.Mathlib.Omega.{arith}
use native.Mathlib.Decide.{dec_lt, ℕ_discrete}
use borrow.Author.Tests.{eq-eqb, ne_eqb, eqb-true}
use lib.Bits.{bit_and, bit_or, or_zero_l, or_lt, or_shr, or_mod, or_add_and, and_le_r}
use lib.Dec.{eqb}
use lib.Pow.{pow-lt, pow_pos, pow-add, shl-shr, shr-shr}
use Rattle.std.proofs.lemmas.Nat.{and_comm, and-not}
use Rattle.std.proofs.lemmas.Nat.Bits.{and_high}
use Rattle.ring.specs.Ring.{numbers, listed, listing, unlisting, merging, part_of, place}
use Rattle.ring.proofs.Laws.{listed-beyond}

-- ---- a list with all nodes of another

bits : (a b : ℕ) → a < 2 → b < 2 → eqb (bit_or a b) 1 ≡ (eqb b 1 || eqb a 1)
bits zero zero h g = refl
bits zero (suc zero) h g = refl
bits (suc zero) zero h g = refl
bits (suc zero) (suc zero) h g = refl
bits zero (suc (suc b)) h g = absurd (omega arith)
bits (suc zero) (suc (suc b)) h g = absurd (omega arith)
bits (suc (suc a)) b h g = absurd (omega arith)

pub listed-merging : (d e k : ℕ) → listed (merging d e) k ≡ (listed e k || listed d k)
unfolding listed merging
listed-merging d e k =
    rw (or_shr d e k, or_mod (d / 2 ^ k) (e / 2 ^ k) 1, bits (d / 2 ^ k % 2) (e / 2 ^ k % 2) (omega arith) (omega arith))

pub merging-lt : (n d e : ℕ) → d < 2 ^ n → e < 2 ^ n → merging d e < 2 ^ n
unfolding merging
merging-lt n d e h g = or_lt n d e h g

-- it lists all that were listed, and all that the other lists
pub merging-keeps : (d e k : ℕ) → listed d k ≡ true → listed (merging d e) k ≡ true
merging-keeps d e k h = listed-merging d e k ∙ go (listed e k)
  where
    go : (b : Bool) → (b || listed d k) ≡ true
    go true = refl
    go false = h

pub merging-takes : (d e k : ℕ) → listed e k ≡ true → listed (merging d e) k ≡ true
merging-takes d e k h = listed-merging d e k ∙ rw h

-- and no other
pub merging-only : (d e k : ℕ) → listed (merging d e) k ≡ true → (listed d k ≡ true) ⊎ (listed e k ≡ true)
merging-only d e k h = go (listed e k) refl (sym (listed-merging d e k) ∙ h)
  where
    go : (b : Bool) → listed e k ≡ b → (b || listed d k) ≡ true → (listed d k ≡ true) ⊎ (listed e k ≡ true)
    go true l h = inr l
    go false l h = inl h

pub merging-neither : (d e k : ℕ) → listed d k ≡ false → listed e k ≡ false → listed (merging d e) k ≡ false
merging-neither d e k h g = listed-merging d e k ∙ rw (g, h)

-- ---- a list with one node more: with all of the list that has it alone, 2 ^ i

bit-same : (i : ℕ) → 2 ^ i / 2 ^ i % 2 ≡ 1
bit-same i = rw (div_self (pow_pos i))

bit_below : (i k : ℕ) → k < i → 2 ^ i / 2 ^ k % 2 ≡ 0
bit_below i k h =
    let a = i - suc k in
    let e : i ≡ suc a + k = omega arith in
    ap (λ (x : ℕ). 2 ^ x / 2 ^ k % 2) e ∙ rw (pow-add 2 (suc a) k, shl-shr (2 ^ suc a) k, pow-suc 2 a) (mul-mod_left (2 ^ a) 2)

bit-above : (i k : ℕ) → i < k → 2 ^ i / 2 ^ k % 2 ≡ 0
bit-above i k h = rw (div-eq_of_lt (pow-lt h))

listed-one : (i k : ℕ) → listed (2 ^ i) k ≡ eqb i k
unfolding listed
listed-one i k = go (dec_lt i k) (dec_lt k i)
  where
    go : Dec (i < k) → Dec (k < i) → eqb (2 ^ i / 2 ^ k % 2) 1 ≡ eqb i k
    go (yes l) g = rw (bit-above i k l, ne_eqb i k (omega arith))
    go (no l) (yes g) = rw (bit_below i k g, ne_eqb i k (omega arith))
    go (no l) (no g) =
        let e : i ≡ k = omega arith in
        rw (e, bit-same k, eq-eqb k k refl)

pub listed-listing : (d i k : ℕ) → listed (listing d i) k ≡ (eqb i k || listed d k)
unfolding listing merging
listed-listing d i k = listed-merging d (2 ^ i) k ∙ ap (λ (b : Bool). b || listed d k) (listed-one i k)

pub listing-lt : (n d i : ℕ) → d < 2 ^ n → i < n → listing d i < 2 ^ n
unfolding listing merging
listing-lt n d i h g = merging-lt n d (2 ^ i) h (pow-lt g)

pub listing-lists : (d i : ℕ) → listed (listing d i) i ≡ true
listing-lists d i = listed-listing d i i ∙ rw (eq-eqb i i refl)

pub listing-keeps : (d i k : ℕ) → listed d k ≡ true → listed (listing d i) k ≡ true
unfolding listing merging
listing-keeps d i k h = merging-keeps d (2 ^ i) k h

pub listing-only : (d i k : ℕ) → listed (listing d i) k ≡ true → (listed d k ≡ true) ⊎ (k ≡ i)
unfolding listing merging
listing-only d i k h = go (merging-only d (2 ^ i) k h)
  where
    go : (listed d k ≡ true) ⊎ (listed (2 ^ i) k ≡ true) → (listed d k ≡ true) ⊎ (k ≡ i)
    go (inl l) = inl l
    go (inr l) = inr (sym (eqb-true i k (sym (listed-one i k) ∙ l)))

pub listing-other : (d i k : ℕ) → i ≢ k → listed d k ≡ false → listed (listing d i) k ≡ false
listing-other d i k ne h = listed-listing d i k ∙ rw (ne_eqb i k ne) h

-- the empty list lists nobody
pub listed-none : (k : ℕ) → listed 0 k ≡ false
listed-none k = listed-beyond 0 0 k (omega arith) (omega arith)

-- ---- two dead lists of n bits that list the same are one

pub listed-half : (a k : ℕ) → listed a (suc k) ≡ listed (a / 2) k
unfolding listed
listed-half a k =
    let one : 1 + k ≡ suc k = omega arith in
    ap (λ (x : ℕ). eqb (x % 2) 1) (sym (shr-shr a 1 k ∙ ap (λ (e : ℕ). a / 2 ^ e) one))

pub listed-last : (a : ℕ) → listed a 0 ≡ eqb (a % 2) 1
unfolding listed
listed-last a = ap (λ (x : ℕ). eqb (x % 2) 1) (div-one a)

same_bit : (a b : ℕ) → a < 2 → b < 2 → eqb a 1 ≡ eqb b 1 → a ≡ b
same_bit zero zero h g e = refl
same_bit (suc zero) (suc zero) h g e = refl
same_bit zero (suc zero) h g e = absurd (true≢false (sym e))
same_bit (suc zero) zero h g e = absurd (true≢false e)
same_bit zero (suc (suc b)) h g e = absurd (omega arith)
same_bit (suc zero) (suc (suc b)) h g e = absurd (omega arith)
same_bit (suc (suc a)) b h g e = absurd (omega arith)

pub listed-ext : (n a b : ℕ) → a < 2 ^ n → b < 2 ^ n → ((k : ℕ) → listed a k ≡ listed b k) → a ≡ b
listed-ext zero a b h g f = omega arith
listed-ext (suc n) a b h g f =
    let half : a / 2 ≡ b / 2 =
    listed-ext n (a / 2) (b / 2) (omega arith) (omega arith) (λ k. sym (listed-half a k) ∙ f (suc k) ∙ listed-half b k) in
    let last : a % 2 ≡ b % 2 = same_bit (a % 2) (b % 2) (omega arith) (omega arith) (sym (listed-last a) ∙ f 0 ∙ listed-last b) in
    omega arith

-- ---- a list with one node fewer

less-bit : (d i : ℕ) → listed d i ≡ true → 2 ^ i ≤ d
unfolding listed
less-bit d i h = go (dec_lt d (2 ^ i))
  where
    go : Dec (d < 2 ^ i) → 2 ^ i ≤ d
    go (no n) = omega arith
    go (yes l) = absurd (true≢false (sym h ∙ ap (λ (x : ℕ). eqb (x % 2) 1) (div-eq_of_lt l)))

eqb-suc : (i k : ℕ) → eqb (suc i) (suc k) ≡ eqb i k
eqb-suc i k = go (ℕ_discrete i k)
  where
    go : Dec (i ≡ k) → eqb (suc i) (suc k) ≡ eqb i k
    go (yes q) = rw (eq-eqb i k q, eq-eqb (suc i) (suc k) (ap suc q))
    go (no q) = rw (ne_eqb i k q, ne_eqb (suc i) (suc k) (λ e. q (omega arith)))

drop-bit : (i d k : ℕ) → listed d i ≡ true → listed (d - 2 ^ i) k ≡ (not (eqb i k) && listed d k)
drop-bit zero d zero h =
    let odd : d % 2 ≡ 1 = eqb-true (d % 2) 1 (sym (listed-last d) ∙ h) in
    let even : (d - 1) % 2 ≡ 0 = omega arith in
    listed-last (d - 1) ∙ rw even
drop-bit zero d (suc k) h =
    let odd : d % 2 ≡ 1 = eqb-true (d % 2) 1 (sym (listed-last d) ∙ h) in
    let half : (d - 1) / 2 ≡ d / 2 = omega arith in
    rw (ne_eqb 0 (suc k) (omega arith)) (listed-half (d - 1) k ∙ ap (λ (x : ℕ). listed x k) half ∙ sym (listed-half d k))
drop-bit (suc i) d zero h =
    let twice : 2 ^ suc i ≡ 2 ^ i * 2 = pow-suc 2 i in
    let same : (d - 2 ^ suc i) % 2 ≡ d % 2 = omega (arith, less-bit d (suc i) h) in
    rw (ne_eqb (suc i) 0 (omega arith)) (listed-last (d - 2 ^ suc i) ∙ ap (λ (x : ℕ). eqb x 1) same ∙ sym (listed-last d))
drop-bit (suc i) d (suc k) h =
    let twice : 2 ^ suc i ≡ 2 ^ i * 2 = pow-suc 2 i in
    let half : (d - 2 ^ suc i) / 2 ≡ d / 2 - 2 ^ i = omega (arith, less-bit d (suc i) h) in
    listed-half (d - 2 ^ suc i) k ∙ ap (λ (x : ℕ). listed x k) half ∙ drop-bit i (d / 2) k (sym (listed-half d i) ∙ h)
    ∙ rw (eqb-suc i k) (ap (λ (b : Bool). not (eqb i k) && b) (sym (listed-half d k)))

pub listed-unlisting : (d i k : ℕ) → listed (unlisting d i) k ≡ (not (eqb i k) && listed d k)
unfolding unlisting
listed-unlisting d i k = go (listed d i) refl
  where
    go : (b : Bool) → listed d i ≡ b → listed (cond b (d - 2 ^ i) d) k ≡ (not (eqb i k) && listed d k)
    go true e = drop-bit i d k e
    go false e = last (ℕ_discrete i k)
      where
        last : Dec (i ≡ k) → listed d k ≡ (not (eqb i k) && listed d k)
        last (yes q) = rw (eq-eqb i k q) (rw q at e)
        last (no q) = rw (ne_eqb i k q)

pub unlisting-lt : (n d i : ℕ) → d < 2 ^ n → unlisting d i < 2 ^ n
unfolding unlisting
unlisting-lt n d i h = go (listed d i)
  where
    go : (b : Bool) → cond b (d - 2 ^ i) d < 2 ^ n
    go true = omega arith
    go false = h

-- it does not list that node, and no other than were listed
pub unlisting-drops : (d i : ℕ) → listed (unlisting d i) i ≡ false
unlisting-drops d i = listed-unlisting d i i ∙ rw (eq-eqb i i refl)

pub unlisting-only : (d i k : ℕ) → listed (unlisting d i) k ≡ true → (i ≢ k) × (listed d k ≡ true)
unlisting-only d i k h = go (ℕ_discrete i k) (sym (listed-unlisting d i k) ∙ h)
  where
    go : Dec (i ≡ k) → (not (eqb i k) && listed d k) ≡ true → (i ≢ k) × (listed d k ≡ true)
    go (yes q) e = absurd (true≢false (sym (rw (eq-eqb i k q) at e)))
    go (no q) e = (q, rw (ne_eqb i k q) at e)

pub unlisting-less : (d i k : ℕ) → listed d k ≡ false → listed (unlisting d i) k ≡ false
unlisting-less d i k h = listed-unlisting d i k ∙ go (eqb i k)
  where
    go : (b : Bool) → (not b && listed d k) ≡ false
    go true = refl
    go false = h

-- and all others
pub unlisting-keeps : (d i k : ℕ) → i ≢ k → listed d k ≡ true → listed (unlisting d i) k ≡ true
unlisting-keeps d i k ne h = listed-unlisting d i k ∙ rw (ne_eqb i k ne) h

-- a list without a node, by the machine's complement of one bit
pub unlisting-mask : (w d i : ℕ) → d < 2 ^ w → i < w → bit_and d (2 ^ w - 1 - 2 ^ i) ≡ unlisting d i
unfolding unlisting listed
unlisting-mask w d i h l = go (d / 2 ^ i % 2) refl
  where
    rest : bit_and d (2 ^ w - 1 - 2 ^ i) + bit_and d (2 ^ i) ≡ d
    rest = rw (and_comm d (2 ^ w - 1 - 2 ^ i), and_comm d (2 ^ i)) (and-not w (2 ^ i) d (pow-lt l) h)

    bit : bit_and d (2 ^ i) ≡ d / 2 ^ i % 2 * 2 ^ i
    bit =
        let next : 1 + i ≡ suc i = omega arith in
        let two : 2 ^ (1 + i) ≡ 2 ^ i * 2 = ap (λ (k : ℕ). 2 ^ k) next ∙ pow-suc 2 i in
        let one : 2 ^ (1 + i) - 2 ^ i ≡ 2 ^ i = omega arith in
        rw one at (and_high d 1 i)

    go : (b : ℕ) → d / 2 ^ i % 2 ≡ b → bit_and d (2 ^ w - 1 - 2 ^ i) ≡ cond (eqb b 1) (d - 2 ^ i) d
    go zero e = let z : bit_and d (2 ^ i) ≡ 0 * 2 ^ i = rw e at bit in omega (arith, rest, z)
    go (suc zero) e = let z : bit_and d (2 ^ i) ≡ 1 * 2 ^ i = rw e at bit in omega (arith, rest, z)
    go (suc (suc b)) e = absurd (omega arith)

-- ---- a list that is part of another

pub part-le : (m d : ℕ) → part_of m d ≡ true → m ≤ d
unfolding part_of
part-le m d h = omega (arith, eqb-true (bit_or m d) d h, or_add_and m d, and_le_r m d)

pub part-lists : (m d k : ℕ) → part_of m d ≡ true → listed m k ≡ true → listed d k ≡ true
unfolding part_of merging
part-lists m d k h l = ap (λ (x : ℕ). listed x k) (sym (eqb-true (bit_or m d) d h)) ∙ merging-keeps m d k l

pub is-part : (n m d : ℕ) → m < 2 ^ n → d < 2 ^ n → ((k : ℕ) → listed m k ≡ true → listed d k ≡ true) → part_of m d ≡ true
unfolding part_of merging
is-part n m d h g f = eq-eqb (bit_or m d) d (listed-ext n (bit_or m d) d (merging-lt n m d h g) g same)
  where
    go : (k : ℕ) (a b : Bool) → (a ≡ true → b ≡ true) → (b || a) ≡ b
    go k true true i = refl
    go k false true i = refl
    go k false false i = refl
    go k true false i = sym (i refl)

    same : (k : ℕ) → listed (bit_or m d) k ≡ listed d k
    same k = listed-merging m d k ∙ go k (listed m k) (listed d k) (f k)

pub part_none : (d : ℕ) → part_of 0 d ≡ true
unfolding part_of
part_none d = eq-eqb (bit_or 0 d) d (or_zero_l d)

-- a part stays one where its list has more nodes, and where both have one node more
pub part-more : (n m d d' : ℕ) → d < 2 ^ n → d' < 2 ^ n → ((k : ℕ) → listed d k ≡ true → listed d' k ≡ true)
    → part_of m d ≡ true → part_of m d' ≡ true
part-more n m d d' h g f part =
    is-part n m d' (omega (arith, part-le m d part)) g (λ k l. f k (part-lists m d k part l))

pub part-listing : (n m d i : ℕ) → d < 2 ^ n → i < n → part_of m d ≡ true → part_of (listing m i) (listing d i) ≡ true
part-listing n m d i h i< part =
    is-part n (listing m i) (listing d i) (listing-lt n m i (omega (arith, part-le m d part)) i<) (listing-lt n d i h i<)
    (λ k l. go k (listing-only m i k l))
  where
    go : (k : ℕ) → (listed m k ≡ true) ⊎ (k ≡ i) → listed (listing d i) k ≡ true
    go k (inl l) = listing-keeps d i k (part-lists m d k part l)
    go k (inr e) = rw e (listing-lists d i)

-- ---- places

pub place-numbers : (n j i : ℕ) → i < n → place (numbers j n) (j + i) ≡ i
unfolding place numbers
place-numbers zero j i h = absurd (omega arith)
place-numbers (suc n) j zero h = rw (add-zero, eq-eqb j j refl)
place-numbers (suc n) j (suc i) h =
    let e : j + suc i ≡ suc j + i = omega arith in
    rw (ne_eqb j (j + suc i) (omega arith), e, place-numbers n (suc j) i (omega arith))
