-- Fields in a list: what is put is got, and all else is left. Assumes nothing.
use mathlib.Core.Path.{◌≡◌, refl, sym, ap, ◌∙◌}
use mathlib.Core.List.{List, [], ◌∷◌, ◌++◌, append_assoc, reverse}
use Prim.Native.Nat.{ℕ, suc, ◌+◌, ◌-◌, ◌*◌, ◌/◌, ◌%◌, ◌^◌, ◌≤◌, ◌<◌}
use native.Mathlib.Nat.{add-zero, pow-le-pow_right, le_trans}
use native.Mathlib.Omega.{arith}
use lib.Dec.{lit<}
use lib.ListN.{length, take, drop, get_or, set, length-take, length-drop}
use lib.Seq.{drop-cons, sets, sets-eq, length-sets, take_at, drop_at, length-take-le, get_or-drop, get_or-take, get_or-set_other, ext_get_or}
use Rattle.std.proofs.lemmas.List.{reverse-append, reverse-reverse, length-reverse}
use Rattle.fields.specs.Fields.{value, bytes, field_at, put_at}
use Rattle.fields.proofs.Bytes.{length-bytes, value-bytes, bytes-value, value-lt, take-bytes}

-- ---- a run of stores

pub sets-before : (vs l : List ℕ) (i k : ℕ) → k < i → get_or (sets l i vs) k 0 ≡ get_or l k 0
sets-before [] l i k h = refl
sets-before (a ∷ vs) l i k h =
    sets-before vs (set l i a) (suc i) k (omega arith) ∙ get_or-set_other l i k a 0 (λ e. omega arith)

pub sets-after : (vs l : List ℕ) (i k : ℕ) → i + length vs ≤ k → get_or (sets l i vs) k 0 ≡ get_or l k 0
sets-after [] l i k h = refl
sets-after (a ∷ vs) l i k h =
    sets-after vs (set l i a) (suc i) k (omega arith) ∙ get_or-set_other l i k a 0 (λ e. omega arith)

pub sets-append : (a b l : List ℕ) (i : ℕ) → sets l i (a ++ b) ≡ sets (sets l i a) (i + length a) b
sets-append [] b l i = rw add-zero
sets-append (x ∷ a) b l i =
    let e : i + suc (length a) ≡ suc i + length a = omega arith in
    sets-append a b (set l i x) (suc i) ∙ rw e

-- ---- fields

-- two lists of one length that agree in a field's bytes have the same number there
pub field-same : (a b : List ℕ) (at width : ℕ) → length a ≡ length b → ((i : ℕ) → i < width → get_or a (at + i) 0 ≡ get_or b (at + i) 0)
    → field_at a at width ≡ field_at b at width
unfolding field_at
field-same a b at width e h =
    ap value
    (ext_get_or 0 (take width (drop at a)) (take width (drop at b))
    (simp (length-take, length-drop, e))
    (λ i hi.
    let hv : i < width = omega (arith, simp length-take at hi) in
    rw (get_or-take width (drop at a) i 0 hv, get_or-take width (drop at b) i 0 hv, get_or-drop at a i 0, get_or-drop at b i 0) (h i hv)))

module _ (s : List ℕ) (at : ℕ) where
  pub field-none : field_at s at 0 ≡ 0
  unfolding field_at value
  field-none = refl

  pub field-more : (width : ℕ) → at < length s → field_at s at (suc width) ≡ field_at s (suc at) width * 256 + get_or s at 0
  unfolding field_at value
  field-more width h = rw (drop-cons s at 0 h)

  pub field_lt : (width : ℕ) → ((i : ℕ) → get_or s i 0 < 256) → field_at s at width < 256 ^ width
  unfolding field_at
  field_lt width h = value-lt width (drop at s) (λ i. rw (get_or-drop at s i 0) (h (at + i)))

  -- the bytes of a field's number are those that stand there
  pub bytes-field : (width : ℕ) → ((i : ℕ) → get_or s i 0 < 256) → at + width ≤ length s
      → bytes width (field_at s at width) ≡ take width (drop at s)
  unfolding field_at
  bytes-field width h l =
      let n : length (take width (drop at s)) ≡ width = length-take-le width (drop at s) (rw (length-drop at s) (omega arith)) in
      ap (λ (k : ℕ). bytes k (value (take width (drop at s)))) (sym n)
      ∙ bytes-value (take width (drop at s)) (λ i. take-bytes width (drop at s) (λ j. rw (get_or-drop at s j 0) (h (at + j))) i)

  pub put-eq : (width x : ℕ) → at + width ≤ length s → put_at s at width x ≡ take at s ++ bytes width x ++ drop (at + width) s
  unfolding put_at
  put-eq width x h =
      let e : at + length (bytes width x) ≤ length s = rw (length-bytes width x) h in
      sets-eq (bytes width x) s at e ∙ rw (length-bytes width x)

  pub length-put : (width x : ℕ) → length (put_at s at width x) ≡ length s
  unfolding put_at
  length-put width x = length-sets s at (bytes width x)

  -- bytes outside the field are left
  pub put-leaves-before : (width x k : ℕ) → k < at → get_or (put_at s at width x) k 0 ≡ get_or s k 0
  unfolding put_at
  put-leaves-before width x k h = sets-before (bytes width x) s at k h

  pub put-leaves-after : (width x k : ℕ) → at + width ≤ k → get_or (put_at s at width x) k 0 ≡ get_or s k 0
  unfolding put_at
  put-leaves-after width x k h = sets-after (bytes width x) s at k (rw (length-bytes width x) h)

  -- what was put is got
  pub get-put : (width x : ℕ) → at + width ≤ length s → x < 256 ^ width → field_at (put_at s at width x) at width ≡ x
  unfolding field_at
  get-put width x h hx =
      let e : length (take at s) ≡ at = length-take-le at s (omega arith) in
      rw (
        put-eq width x h,
        append_assoc (take at s) (bytes width x) (drop (at + width) s),
        drop_at (take at s) (bytes width x ++ drop (at + width) s) at e,
        take_at (bytes width x) (drop (at + width) s) width (length-bytes width x),
      ) (value-bytes width x hx)

  -- a field before or after is left
  pub get-put-before : (width x p v : ℕ) → p + v ≤ at → field_at (put_at s at width x) p v ≡ field_at s p v
  get-put-before width x p v h =
      field-same (put_at s at width x) s p v (length-put width x) (λ i hi. put-leaves-before width x (p + i) (omega arith))

  pub get-put-after : (width x p v : ℕ) → at + width ≤ p → field_at (put_at s at width x) p v ≡ field_at s p v
  get-put-after width x p v h =
      field-same (put_at s at width x) s p v (length-put width x) (λ i hi. put-leaves-after width x (p + i) (omega arith))

  -- a field is put, and the rest after it
  pub put_then : (width x next : ℕ) (rest : List ℕ) → at + width ≡ next → sets s at (bytes width x ++ rest) ≡ sets (put_at s at width x) next rest
  unfolding put_at
  put_then width x next rest e = sets-append (bytes width x) rest s at ∙ rw (length-bytes width x, e)

-- a field between two parts
pub field-part : (a b : List ℕ) (at width x : ℕ) → length a ≡ at → x < 256 ^ width → field_at (a ++ (bytes width x ++ b)) at width ≡ x
unfolding field_at
field-part a b at width x e h =
    rw (drop_at a (bytes width x ++ b) at e, take_at (bytes width x) b width (length-bytes width x)) (value-bytes width x h)

-- ---- the loop of `get`, from the highest byte down

-- what has been read leaves room for another byte
pub got-room : (x n width : ℕ) → x < 256 ^ n → n < width → width ≤ 8 → x < 72057594037927936
got-room x n width h k w = le_trans h (pow-le-pow_right {n = 256} (lit< tt) {j = 7} (omega arith))

pub part-bound : (s : List ℕ) (at width n : ℕ) → n < length (reverse (take (at + width - at) (drop at s))) → n < width
part-bound s at width n h =
    let l = drop at s in
    omega (arith, h, length-reverse (take (at + width - at) l), length-take (at + width - at) l)

pub got-more : (l : List ℕ) (b : ℕ) → value (reverse l) * 256 + b ≡ value (reverse (l ++ b ∷ []))
unfolding value
got-more l b = rw reverse-append

pub got-all : (s l : List ℕ) (at width x n : ℕ) → at + width ≤ length s → x ≡ value (reverse l) → x < 256 ^ n
    → l ≡ reverse (take (at + width - at) (drop at s)) → n ≡ length (reverse (take (at + width - at) (drop at s)))
    → (x ≡ field_at s at width) × (x < 256 ^ width)
unfolding field_at
got-all s l at width x n h e b f g =
    let w : at + width - at ≡ width = omega arith in
    let k : n ≡ width = g ∙ rw (length-reverse, w) (length-take-le width (drop at s) (rw (length-drop at s) (omega arith))) in
    (e ∙ rw (f, reverse-reverse, w), rw k at b)

-- ---- the loop of `put`, from the lowest byte up

module _ (s : List ℕ) (i end x : ℕ) where
  pub put-turn : i < end → put_at s i (end - i) x ≡ put_at (set s i (x % 256)) (i + 1) (end - (i + 1)) (x / 256)
  unfolding put_at bytes
  put-turn h =
      let e : end - i ≡ suc (end - (i + 1)) = omega arith in
      let f : i + 1 ≡ suc i = omega arith in
      rw (e, f)

  pub put-end : end ≤ i → put_at s i (end - i) x ≡ s
  unfolding put_at bytes
  put-end k = let e : end - i ≡ 0 = omega arith in rw e
