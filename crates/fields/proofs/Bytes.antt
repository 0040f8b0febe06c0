-- Numbers and the bytes that stand for them, at every width. Assumes nothing.
use mathlib.Core.Path.{◌≡◌, refl, ap}
use mathlib.Core.List.{List, [], ◌∷◌}
use Prim.Native.Nat.{ℕ, zero, suc, ◌*◌, ◌/◌, ◌^◌, ◌<◌}
use native.Mathlib.Nat.{pow-zero, pow-suc, div-add-mod', div-lt_iff_lt-mul, one-le-pow}
use native.Mathlib.Omega.{arith}
use lib.Arith.{digits_lt, digits_div, digits_mod}
use lib.Dec.{lit<}
use lib.ListN.{length, take, get_or}
use Rattle.fields.specs.Fields.{value, bytes}

pub length-bytes : (width x : ℕ) → length (bytes width x) ≡ width
unfolding bytes
length-bytes zero x = refl
length-bytes (suc width) x = ap suc (length-bytes width (x / 256))

-- the bytes of a number that fits stand for it
pub value-bytes : (width x : ℕ) → x < 256 ^ width → value (bytes width x) ≡ x
unfolding bytes value
value-bytes zero x h = let e : x < 1 = rw pow-zero at h in omega arith
value-bytes (suc width) x h =
    let e : x < 256 ^ width * 256 = rw pow-suc at h in
    rw (value-bytes width (x / 256) ((div-lt_iff_lt-mul {k = 256} (lit< tt)).1 e)) (div-add-mod' x 256)

-- bytes are those of their number
pub bytes-value : (bs : List ℕ) → ((i : ℕ) → get_or bs i 0 < 256) → bytes (length bs) (value bs) ≡ bs
unfolding bytes value
bytes-value [] h = refl
bytes-value (b ∷ bs) h =
    let e : b < 256 = h 0 in
    rw (digits_mod (value bs) e, digits_div (value bs) e, bytes-value bs (λ i. h (suc i)))

pub value-lt : (width : ℕ) (l : List ℕ) → ((i : ℕ) → get_or l i 0 < 256) → value (take width l) < 256 ^ width
unfolding value
value-lt zero l h = rw pow-zero (lit< tt)
value-lt (suc width) [] h = one-le-pow (suc width) 256 (lit< tt)
value-lt (suc width) (b ∷ l) h = rw pow-suc (digits_lt (value-lt width l (λ i. h (suc i))) (h 0))

-- the first of a list of bytes are bytes
pub take-bytes : (width : ℕ) (l : List ℕ) → ((i : ℕ) → get_or l i 0 < 256) → (i : ℕ) → get_or (take width l) i 0 < 256
take-bytes zero l h i = lit< tt
take-bytes (suc width) [] h i = lit< tt
take-bytes (suc width) (x ∷ l) h zero = h 0
take-bytes (suc width) (x ∷ l) h (suc i) = take-bytes width l (λ j. h (suc j)) i
