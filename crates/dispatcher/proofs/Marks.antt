-- Marks of eight stores: the first marked index of a range and of a round, marks that the code keeps, and marks as bits. Assumes nothing.
use mathlib.Core.Path.{◌≡◌, refl, sym, ap, ◌∙◌}
use mathlib.Core.Bool.{Bool, true, false, cond}
use mathlib.Core.List.{List, [], ◌∷◌, ◌++◌, map, map-append, append_assoc, append-nil}
use Prim.Native.Nat.{ℕ, zero, suc, ◌+◌, ◌*◌, ◌-◌, ◌/◌, ◌%◌, ◌^◌, ◌≤◌, ◌<◌}
use native.Mathlib.Nat.{add-zero, zero-add, pow-suc, pow-le-pow_right}
use native.Mathlib.Omega.{arith}
use mir.Val.{bool_byte}
use lib.Dec.{eqb, lit<}
use lib.ListN.{length, get_or, set, take, drop, replicate, length-append, length-map, length-replicate, length-set, get_or-map}
use lib.Seq.{append_snoc, set-append_seam, set-append_left, drop-cons}
use Rattle.std.specs.Prelude.{Option, Some, None, option_map}
use Rattle.std.specs.List.{position_from}
use Rattle.std.proofs.lemmas.Grind.{same_number_lists}
use Rattle.limits.specs.Limits.{most_stores}
use Rattle.ring.specs.Ring.{numbers, round, listed}
use Rattle.ring.proofs.Rows.{take-numbers}
use Rattle.ring.proofs.Lists.{listed-none, listed-half, listed-last}
use Rattle.dispatcher.specs.declared.tally.Tally.{Tally}
use Rattle.dispatcher.specs.Dispatch.{first_marked, for_eight, bits}
use Rattle.dispatcher.specs.Tally.{new_tally, able_marks, stopped_marks}

-- ---- the first store that can go on, as the code finds it

-- the first element that passes, from index i on
module _ {A : Type 0} (test : A → Bool) where
  shifted : (k i : ℕ) (l : List A) → position_from test (k + i) l ≡ option_map (λ j. k + j) (position_from test i l)
  shifted k i [] = refl
  shifted k i (x ∷ l) = let next : (k + i) + 1 ≡ k + (i + 1) = omega arith in rw next (go (test x) (shifted k (i + 1) l))
    where
      go : (b : Bool) → position_from test (k + (i + 1)) l ≡ option_map (λ j. k + j) (position_from test (i + 1) l)
          → cond b (Some (k + i)) (position_from test (k + (i + 1)) l) ≡ option_map (λ j. k + j) (cond b (Some i) (position_from test (i + 1) l))
      go true e = refl
      go false e = e

module _ (ts : List Tally) where
  -- of the stores from index i on, n in a row
  abbrev pub row : ℕ → ℕ → List Tally
  row i n = take n (drop i ts)

  row-marked : (i n : ℕ) → i + n ≤ length ts → position_from (λ (t : Tally). t.able) i (row i n) ≡ first_marked (able_marks ts) (numbers i n)
  unfolding first_marked numbers
  row-marked i zero h = refl
  row-marked i (suc n) h =
      let mark : get_or (able_marks ts) i false ≡ (get_or ts i (new_tally false)).able = get_or-map (λ (t : Tally). t.able) ts i (new_tally false) in
      let rest = row-marked (suc i) n (omega arith) in
      let next : suc i ≡ i + 1 = omega arith in
      rw (drop-cons ts i (new_tally false) (omega arith), mark, ← next) (ap (cond (get_or ts i (new_tally false)).able (Some i)) rest)

  -- as the code finds it, counted from the row's first store
  row-found : (i n : ℕ) → i + n ≤ length ts
      → option_map (λ k. i + k) (position_from (λ (t : Tally). t.able) 0 (row i n)) ≡ first_marked (able_marks ts) (numbers i n)
  row-found i n h =
      sym (shifted (λ (t : Tally). t.able) i 0 (row i n)) ∙ ap (λ (k : ℕ). position_from (λ (t : Tally). t.able) k (row i n)) (add-zero i)
      ∙ row-marked i n h

-- the first, or else the second
abbrev or_else : Option ℕ → Option ℕ → Option ℕ
or_else None o = o
or_else (Some i) o = Some i

-- of two lists of indexes, one after the other
first-append : (marks : List Bool) (is js : List ℕ) → first_marked marks (is ++ js) ≡ or_else (first_marked marks is) (first_marked marks js)
unfolding first_marked
first-append marks [] js = refl
first-append marks (i ∷ is) js = ap (cond (get_or marks i false) (Some i)) (first-append marks is js) ∙ go (get_or marks i false)
  where
    go : (b : Bool) → cond b (Some i) (or_else (first_marked marks is) (first_marked marks js))
        ≡ or_else (cond b (Some i) (first_marked marks is)) (first_marked marks js)
    go true = refl
    go false = refl

drop-numbers : (k n i : ℕ) → drop k (numbers i n) ≡ numbers (i + k) (n - k)
unfolding numbers
drop-numbers zero n i = let same : n - 0 ≡ n = omega arith in rw (add-zero i, same) refl
drop-numbers (suc k) zero i = let nothing : 0 - suc k ≡ 0 = omega arith in rw nothing refl
drop-numbers (suc k) (suc n) i =
    let next : suc i + k ≡ i + suc k = omega arith in
    let rest : n - k ≡ suc n - suc k = omega arith in
    drop-numbers k n (suc i) ∙ rw (next, rest) refl

-- a round from an index on: on to the last, then from 0
round-numbers : (n at : ℕ) → at ≤ n → round (numbers 0 n) at ≡ numbers at (n - at) ++ numbers 0 (at - 0)
unfolding round
round-numbers n at h =
    let all : at - 0 ≡ at = omega arith in
    rw (drop-numbers at n 0, zero-add at, take-numbers at n 0 h, all) refl

-- what a search from an index on, and then from 0, finds
module _ (ts : List Tally) (eight : length ts ≡ most_stores) (n at : ℕ) (h : at ≤ n) (most : n ≤ most_stores) where
  abbrev able : Tally → Bool
  able t = t.able

  round-first : first_marked (able_marks ts) (round (numbers 0 n) at)
      ≡ or_else (first_marked (able_marks ts) (numbers at (n - at))) (first_marked (able_marks ts) (numbers 0 (at - 0)))
  round-first = rw (round-numbers n at h) (first-append (able_marks ts) (numbers at (n - at)) (numbers 0 (at - 0)))

  later : {r : Option ℕ} → r ≡ position_from able 0 (row ts at (n - at)) → option_map (λ k. at + k) r ≡ first_marked (able_marks ts) (numbers at (n - at))
  later e = ap (option_map (λ k. at + k)) e ∙ row-found ts at (n - at) (rw eight (omega arith))

  pub found-later : {r : Option ℕ} {k : ℕ} → r ≡ position_from able 0 (row ts at (n - at)) → r ≡ Some k
      → Some (at + k) ≡ first_marked (able_marks ts) (round (numbers 0 n) at)
  found-later e f =
      let here = ap (option_map (λ k. at + k)) (sym f) ∙ later e in
      sym (round-first ∙ ap (λ (o : Option ℕ). or_else o (first_marked (able_marks ts) (numbers 0 (at - 0)))) (sym here))

  pub found-earlier : {r q : Option ℕ} → r ≡ position_from able 0 (row ts at (n - at)) → r ≡ None → q ≡ position_from able 0 (row ts 0 at)
      → q ≡ first_marked (able_marks ts) (round (numbers 0 n) at)
  found-earlier {r} {q} e f g =
      let nowhere = ap (option_map (λ k. at + k)) (sym f) ∙ later e in
      let all : at - 0 ≡ at = omega arith in
      g ∙ row-marked ts 0 at (rw eight (omega arith)) ∙ ap (λ (k : ℕ). first_marked (able_marks ts) (numbers 0 k)) (sym all)
      ∙ sym (round-first ∙ ap (λ (o : Option ℕ). or_else o (first_marked (able_marks ts) (numbers 0 (at - 0)))) (sym nowhere))

-- ---- for each of eight stores

module _ {A : Type 0} (z : A) where
  padded : (l : List A) (k i : ℕ) → get_or (l ++ replicate k z) i z ≡ get_or l i z
  padded [] zero i = refl
  padded [] (suc k) zero = refl
  padded [] (suc k) (suc i) = padded [] k i
  padded (x ∷ l) k zero = refl
  padded (x ∷ l) k (suc i) = padded l k i

  pub eight-at : (l : List A) (i : ℕ) → get_or (for_eight z l) i z ≡ get_or l i z
  unfolding for_eight
  eight-at l i = padded l (most_stores - length l) i

  pub eight-length : (l : List A) → length l ≤ most_stores → length (for_eight z l) ≡ most_stores
  unfolding for_eight
  eight-length l h = length-append l (replicate (most_stores - length l) z) ∙ rw (length-replicate (most_stores - length l) z) (omega arith)

  pub eight-set : (l : List A) (i : ℕ) (x : A) → i < length l → for_eight z (set l i x) ≡ set (for_eight z l) i x
  unfolding for_eight
  eight-set l i x h = rw (length-set l i x) (sym (set-append_left l (replicate (most_stores - length l) z) i x h))

  -- one store more
  pub eight-next : (l : List A) (x : A) → length l < most_stores → set (for_eight z l) (length l) x ≡ for_eight z (l ++ (x ∷ []))
  unfolding for_eight
  eight-next l x h =
      let k : ℕ = most_stores - length (l ++ (x ∷ [])) in
      let one : most_stores - length l ≡ suc k = rw (length-append l (x ∷ [])) (omega arith) in
      ap (λ (m : ℕ). set (l ++ replicate m z) (length l) x) one ∙ set-append_seam l z (replicate k z) x ∙ sym (append_snoc l x (replicate k z))

-- what each of eight tells
map-same : {A B : Type 0} (f : A → B) (z : A) (k : ℕ) → map f (replicate k z) ≡ replicate k (f z)
map-same f z zero = refl
map-same f z (suc k) = ap (λ l. f z ∷ l) (map-same f z k)

pub eight-map : {A B : Type 0} (f : A → B) (z : A) (l : List A) → map f (for_eight z l) ≡ for_eight (f z) (map f l)
unfolding for_eight
eight-map f z l =
    map-append f l (replicate (most_stores - length l) z)
    ∙ ap (λ m. map f l ++ m) (map-same f z (most_stores - length l) ∙ ap (λ k. replicate (most_stores - k) (f z)) (sym (length-map l f)))

-- marks of eight stores mark what those of the stores mark
pub eight-marked : (marks : List Bool) (is : List ℕ) → first_marked (for_eight false marks) is ≡ first_marked marks is
unfolding first_marked
eight-marked marks [] = refl
eight-marked marks (i ∷ is) = rw (eight-at false marks i, eight-marked marks is)

-- ---- bits

no_bits : (k : ℕ) → bits (replicate k false) ≡ 0
unfolding bits
no_bits zero = refl
no_bits (suc k) = rw (no_bits k) refl

bits-padded : (l : List Bool) (k : ℕ) → bits (l ++ replicate k false) ≡ bits l
unfolding bits
bits-padded [] k = no_bits k
bits-padded (b ∷ l) k = rw (bits-padded l k)

pub eight-bits : (l : List Bool) → bits (for_eight false l) ≡ bits l
unfolding for_eight
eight-bits l = bits-padded l (most_stores - length l)

-- the bit at an index is its mark
pub bit_at : (l : List Bool) (i : ℕ) → listed (bits l) i ≡ get_or l i false
unfolding bits
bit_at [] i = listed-none i
bit_at (b ∷ l) zero = listed-last (cond b 1 0 + 2 * bits l) ∙ go b
  where
    go : (b : Bool) → eqb ((cond b 1 0 + 2 * bits l) % 2) 1 ≡ b
    go true = let odd : (1 + 2 * bits l) % 2 ≡ 1 = omega arith in rw odd refl
    go false = let even : (0 + 2 * bits l) % 2 ≡ 0 = omega arith in rw even refl
bit_at (b ∷ l) (suc i) = listed-half (cond b 1 0 + 2 * bits l) i ∙ ap (λ (d : ℕ). listed d i) (go b) ∙ bit_at l i
  where
    go : (b : Bool) → (cond b 1 0 + 2 * bits l) / 2 ≡ bits l
    go true = omega arith
    go false = omega arith

-- ---- bits of the last marks, from the last on

bits-few : (l : List Bool) → bits l < 2 ^ length l
unfolding bits
bits-few [] = omega arith
bits-few (b ∷ l) = go b (bits-few l)
  where
    go : (b : Bool) → bits l < 2 ^ length l → cond b 1 0 + 2 * bits l < 2 ^ suc (length l)
    go true h = omega (arith, pow-suc 2 (length l))
    go false h = omega (arith, pow-suc 2 (length l))

-- so far: those of the last stores, and the others are left
pub record BitsFrom (ts left : List Tally) (sum : ℕ) : Type 0 where
  pub past : List Tally
  pub whole : ts ≡ left ++ past
  pub eight : length ts ≡ most_stores
  pub sums : sum ≡ bits (stopped_marks past)

pub bits_none : (ts : List Tally) → length ts ≡ most_stores → BitsFrom ts ts 0
unfolding bits
bits_none ts size = record { past = []; whole = sym (append-nil ts); eight = size; sums = refl }

pub bits-all : (ts left : List Tally) (sum : ℕ) → length left ≡ 0 → BitsFrom ts left sum → sum ≡ bits (stopped_marks ts)
bits-all ts [] sum e w = w.sums ∙ ap (λ (l : List Tally). bits (stopped_marks l)) (sym w.whole)
bits-all ts (t ∷ left) sum e w = absurd (omega (arith, e))

-- a mark as a number
byte-is : (b : Bool) → bool_byte b ≡ cond b 1 0
byte-is true = refl
byte-is false = refl

pub byte-small : {one : ℕ} (b : Bool) → one ≡ bool_byte b → one ≤ 1
byte-small true e = omega (arith, e)
byte-small false e = omega (arith, e)

module _ (ts left : List Tally) (t : Tally) (sum : ℕ) (w : BitsFrom ts (left ++ (t ∷ [])) sum) where
  -- there is room for one more
  pub bits_fit : sum < 2 ^ 8
  bits_fit =
      let few : length (stopped_marks w.past) ≤ 8 = rw length-map (omega (arith, w.eight, ap length w.whole, length-append (left ++ (t ∷ [])) w.past)) in
      omega (arith, w.sums, bits-few (stopped_marks w.past), pow-le-pow_right {n = 2} (lit< tt) few)

  pub bits-next : {one : ℕ} → one ≡ bool_byte t.stopped → BitsFrom ts left (2 * sum + one)
  unfolding bits
  bits-next {one} e = record {
    past = t ∷ w.past;
    whole = w.whole ∙ append_assoc left (t ∷ []) w.past;
    eight = w.eight;
    sums = omega (arith, e, byte-is t.stopped, w.sums);
  }

-- ---- the events of each

pub events-all : (ts : List Tally) (l : List ℕ) → length l ≡ length ts
    → ((i : ℕ) → i < length l → get_or l i 0 ≡ (get_or ts i (new_tally false)).events) → l ≡ map (λ (t : Tally). t.events) ts
events-all ts l size each =
    same_number_lists l (map (λ (t : Tally). t.events) ts) (size ∙ sym (length-map ts (λ (t : Tally). t.events)))
    (λ i h. each i h ∙ sym (get_or-map (λ (t : Tally). t.events) ts i (new_tally false)))
