-- Laws of decimal numbers: reading by the tests of the code, digits written one by one, how many there are. Assumes nothing.
use Prim.Native.Nat.{ℕ, zero, suc, ◌+◌, ◌-◌, ◌*◌, ◌/◌, ◌%◌, ◌^◌, ◌≤◌, ◌<◌, min}
use native.Mathlib.Omega.{arith}
use native.Mathlib.Decide.{dec_lt}
use native.Mathlib.Nat.{div-lt_iff_lt-mul, pow-suc}
use mathlib.Core.Path.{◌≡◌, sym, ap, ◌∙◌}
use mathlib.Core.Bool.{true, false, cond, and-eq-true_iff}
use mathlib.Core.List.{List, [], ◌∷◌, ◌++◌}
use lib.ListN.{length, drop, get_or, drop_of_length-le, length-append}
use lib.Dec.{leb, ltb}
use borrow.Author.Tests.{leb-true, lt-ltb, le-ltb}
use Rattle.text.specs.Number.{digit, ceiling, digits_from, shown, decimal}
use Rattle.text.specs.Put.{Put}
use Rattle.text.proofs.PutLaws.{drop-next, put-kept, put_then}

-- a digit's byte is from 48 to 57
pub digit-range : (b : ℕ) → digit b ≡ true → (48 ≤ b) × (b ≤ 57)
unfolding digit
digit-range b e =
    let p = (and-eq-true_iff (leb 48 b) (leb b 57)).0 e in
    (leb-true 48 b p.0, leb-true b 57 p.1)

-- digits after a value told up to the ceiling are read as after the value
pub capped : (a i : ℕ) (s : List ℕ) → digits_from (min a ceiling) i s ≡ digits_from a i s
capped a i [] = ap (λ (k : ℕ). (k, i)) (omega arith)
capped a i (b ∷ s) =
    ap (λ (d : ℕ × ℕ). cond (digit b) d (min (min a ceiling) ceiling, i))
    (sym (capped (min a ceiling * 10 + (b - 48)) (i + 1) s)
    ∙ ap (λ (n : ℕ). digits_from n (i + 1) s) (omega arith)
    ∙ capped (a * 10 + (b - 48)) (i + 1) s)
    ∙ ap (λ (k : ℕ). cond (digit b) (digits_from (a * 10 + (b - 48)) (i + 1) s) (k, i)) (omega arith)

module _ (s : List ℕ) (n i : ℕ) where
  -- a digit at i
  pub digit-more : (m : ℕ) → i < length s → digit (get_or s i 0) ≡ true → m ≡ min (n * 10 + (get_or s i 0 - 48)) ceiling
      → digits_from n i (drop i s) ≡ digits_from m (i + 1) (drop (i + 1) s)
  digit-more m h e f = rw (drop-next s i h, e, f) (sym (capped (n * 10 + (get_or s i 0 - 48)) (i + 1) (drop (i + 1) s)))

  -- no digit at i
  pub digit-stop : i < length s → n ≤ ceiling → digit (get_or s i 0) ≡ false → digits_from n i (drop i s) ≡ (n, i)
  digit-stop h m e = rw (drop-next s i h, e) (ap (λ (k : ℕ). (k, i)) (omega arith))

  -- nothing at i
  pub digit-end : length s ≤ i → n ≤ ceiling → digits_from n i (drop i s) ≡ (n, i)
  digit-end h m = rw (drop_of_length-le s h) (ap (λ (k : ℕ). (k, i)) (omega arith))

-- for digits that are read one by one
pub ruleset digits_read = (digit-more, digit-stop, digit-end)

tenth : (f n : ℕ) → n < 10 ^ suc f → n / 10 < 10 ^ f
tenth f n h = let p : 0 < 10 = omega arith in (div-lt_iff_lt-mul p).1 (rw (pow-suc 10 f) at h)

-- room for one digit more changes nothing
shown-one : (f n : ℕ) → n < 10 ^ suc f → shown (suc f) n ≡ shown (suc (suc f)) n
shown-one zero n h = let p : n < 10 = omega arith in rw (lt-ltb n 10 p)
shown-one (suc f) n h =
    ap (λ (l : List ℕ). cond (ltb n 10) ((48 + n) ∷ []) (l ++ ((48 + n % 10) ∷ []))) (shown-one f (n / 10) (tenth (suc f) n h))

pub decimal-small : (n : ℕ) → n < 10 → decimal n ≡ (48 + n) ∷ []
unfolding decimal
decimal-small n h = rw (lt-ltb n 10 h)

pub decimal-more : (n : ℕ) → 10 ≤ n → n < 10 ^ 20 → decimal n ≡ decimal (n / 10) ++ ((48 + n % 10) ∷ [])
unfolding decimal
decimal-more n h k =
    let t : n / 10 < 10 ^ 19 = tenth 19 n k in
    rw (le-ltb n 10 h) (ap (λ (l : List ℕ). l ++ ((48 + n % 10) ∷ [])) (shown-one 18 (n / 10) t))

pub decimal-length-more : (n : ℕ) → 10 ≤ n → n < 10 ^ 20 → length (decimal n) ≡ length (decimal (n / 10)) + 1
decimal-length-more n h k = rw (decimal-more n h k, length-append)

shown-length : (f k n : ℕ) → n < 10 ^ suc k → length (shown f n) ≤ suc k
shown-length zero k n h = omega arith
shown-length (suc f) zero n h = rw (lt-ltb n 10 (omega arith)) (omega arith)
shown-length (suc f) (suc k) n h = elim (dec_lt n 10) [
  | yes p ↦ rw (lt-ltb n 10 p) (omega arith)
  | no p ↦ rw (le-ltb n 10 (omega arith), length-append) (omega (arith, shown-length f k (n / 10) (tenth (suc k) n h)))
]

-- a number below 10 ^ (k + 1) has at most k + 1 digits
pub decimal-length : (k n : ℕ) → n < 10 ^ suc k → length (decimal n) ≤ suc k
unfolding decimal
decimal-length k n h = shown-length 20 k n h

-- a number has a digit
pub decimal-some : (n : ℕ) → 1 ≤ length (decimal n)
unfolding decimal
decimal-some n = elim (dec_lt n 10) [
  | yes p ↦ rw (lt-ltb n 10 p) (omega arith)
  | no p ↦ rw (le-ltb n 10 (omega arith), length-append) (omega arith)
]

-- ---- digits put one by one, by the tests of the code

pub first-room : (l : List ℕ) (at n : ℕ) → at + length (decimal n) ≤ length l → at < length l
first-room l at n h = omega (arith, decimal-some n)

module _ (l : List ℕ) (at n : ℕ) (room : at + length (decimal n) ≤ length l) (h : 10 ≤ n) (fits : n < 2 ^ 64) where
  one_fewer : length (decimal n) ≡ length (decimal (n / 10)) + 1
  one_fewer = decimal-length-more n h (omega arith)

  pub tenth-room : at + length (decimal (n / 10)) ≤ length l
  tenth-room = omega (arith, one_fewer)

  pub last-room : {m : List ℕ} {r : ℕ} → Put l at (decimal (n / 10)) r m → r < length m
  last-room p = omega (arith, one_fewer, p.next, put-kept tenth-room p)

  pub put-last-digit : {m k : List ℕ} {r q b : ℕ} → b ≡ 48 + n % 10 → Put l at (decimal (n / 10)) r m → Put m r (b ∷ []) q k
      → Put l at (decimal n) q k
  put-last-digit e p s = rw (decimal-more n h (omega arith), ← e) (put_then tenth-room p s)

pub put-only-digit : {l m : List ℕ} {at q : ℕ} (n b : ℕ) → n < 10 → b ≡ 48 + n % 10 → Put l at (b ∷ []) q m → Put l at (decimal n) q m
put-only-digit n b h e p = let d : 48 + n ≡ b = omega arith in rw (decimal-small n h, d) p
