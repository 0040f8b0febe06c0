-- Laws of a text put into a lent part, and of the rest of a list from a place on. Assumes nothing.
use Prim.Native.Nat.{ℕ, ◌+◌, ◌≤◌, ◌<◌}
use native.Mathlib.Omega.{arith}
use native.Mathlib.Numerals.{add-one}
use native.Mathlib.Nat.{add_assoc}
use mathlib.Core.Path.{◌≡◌, refl, sym, ap, ◌∙◌, subst}
use mathlib.Core.List.{List, [], ◌∷◌, ◌++◌, append_assoc, append-nil}
use lib.ListN.{length, take, drop, set, get_or, drop_of_length-le, length-append, length-take, length-drop, take-append-drop}
use lib.Seq.{drop-cons, take_at, drop_at, drop-drop, set_split}
use Rattle.text.specs.Put.{put, Put, Writes}
use Rattle.text.specs.declared.Writer.{Writer}

-- the rest of a list from i on, where it has a byte there
pub drop-next : (s : List ℕ) (i : ℕ) → i < length s → drop i s ≡ get_or s i 0 ∷ drop (i + 1) s
drop-next s i h = drop-cons s i 0 h ∙ ap (λ (k : ℕ). get_or s i 0 ∷ drop k s) (sym (add-one i))

-- a byte stored at a place
pub set-put : (l : List ℕ) (at b : ℕ) → at < length l → set l at b ≡ put l at (b ∷ [])
unfolding put
set-put l at b h = set_split l at b h ∙ simp (append_assoc, add-one)

module _ (l : List ℕ) (at : ℕ) (t : List ℕ) where
  head-length : at ≤ length l → length (take at l ++ t) ≡ at + length t
  head-length h = simp (length-append, length-take) (omega arith)

  pub put-length : at + length t ≤ length l → length (put l at t) ≡ length l
  unfolding put
  put-length h = simp (length-append, length-take, length-drop) (omega arith)

  -- one text after another is the text of both
  pub put-put : (u : List ℕ) → at + length t ≤ length l → put (put l at t) (at + length t) u ≡ put l at (t ++ u)
  unfolding put
  put-put u h =
      let seam : length (take at l ++ t) ≡ at + length t = head-length (omega arith) in
      rw (take_at _ _ _ seam, ← drop-drop (length u) (at + length t), drop_at _ _ _ seam, drop-drop, append_assoc (take at l) t u, length-append, add_assoc)

-- one text put after another
pub put_then : {l m k : List ℕ} {at r q : ℕ} {t u : List ℕ} → at + length t ≤ length l → Put l at t r m → Put m r u q k → Put l at (t ++ u) q k
put_then {l} {m} {k} {at} {r} {q} {t} {u} h p s = record {
  next = s.next ∙ (rw (p.next, length-append) (omega arith));
  bytes = s.bytes ∙ (rw (p.next, p.bytes) (put-put l at t u h));
}

-- a put keeps the length
pub put-kept : {l m : List ℕ} {at r : ℕ} {t : List ℕ} → at + length t ≤ length l → Put l at t r m → length m ≡ length l
put-kept {l} {m} {at} {r} {t} h p = ap length p.bytes ∙ put-length l at t h

-- what was put is known by any name of its text
pub put-text : {l m : List ℕ} {at r : ℕ} {t u : List ℕ} → t ≡ u → Put l at t r m → Put l at u r m
put-text {l} {m} {at} {r} e p = subst (λ (v : List ℕ). Put l at v r m) e p

-- a writer of one text and then of another is one of both
pub writes_then : {w v u : Writer} {t s : List ℕ} → w.at + length t ≤ length w.out.now → Writes w v t → Writes v u s → Writes w u (t ++ s)
writes_then h a b = record { same = b.same ∙ a.same; size = b.size ∙ a.size; put = put_then h a.put b.put }

-- what was written is known by any name of its text
pub writes-text : {w v : Writer} {t u : List ℕ} → t ≡ u → Writes w v t → Writes w v u
writes-text e a = record { same = a.same; size = a.size; put = put-text e a.put }

-- a text in two parts that has room has room for the first
pub first-part : (w : Writer) (whole t s : List ℕ) → whole ≡ t ++ s → w.at + length whole ≤ length w.out.now → w.at + length t ≤ length w.out.now
first-part w whole t s e h = omega (arith, ap length e, length-append t s, h)

-- for the second, once the first is written
pub second-part : {w v : Writer} (whole : List ℕ) {t : List ℕ} (s : List ℕ) → whole ≡ t ++ s → w.at + length whole ≤ length w.out.now → Writes w v t
    → v.at + length s ≤ length v.out.now
second-part {w} whole {t} s e h a =
    omega (arith, ap length e, length-append t s, h, a.put.next, a.size)

-- and with both it is written
pub both-parts : {w v u : Writer} (whole : List ℕ) {t s : List ℕ} → whole ≡ t ++ s → w.at + length whole ≤ length w.out.now → Writes w v t
    → Writes v u s → Writes w u whole
both-parts {w} whole {t} {s} e h a b = writes-text (sym e) (writes_then (first-part w whole t s e h) a b)

-- nothing put changes nothing
pub put-none : (l : List ℕ) (at : ℕ) → Put l at [] at l
unfolding put
put-none l at = record { next = omega arith; bytes = sym (rw (append-nil, zero_more) (take-append-drop at l)) }
  where
    zero_more : at + 0 ≡ at
    zero_more = omega arith

-- nothing written changes nothing
pub writes-none : (w : Writer) → Writes w w []
writes-none w = record { same = refl; size = refl; put = put-none w.out.now w.at }

-- for what is read from a place on
pub ruleset rest = (drop-next, drop_of_length-le)
