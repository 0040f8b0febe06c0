-- Laws of bytes that stand between other bytes: a number put there, a gap closed there, zeros in their place. Assumes nothing.
use Prim.Native.Nat.{ℕ, suc, ◌+◌, ◌-◌, ◌*◌, ◌≤◌, ◌<◌, ◌^◌}
use mathlib.Core.Path.{◌≡◌, refl, sym, ap, ◌∙◌}
use mathlib.Core.List.{List, [], ◌∷◌, ◌++◌, append_assoc, append-nil}
use native.Mathlib.Nat.{mul-zero, mul-suc, mul-add}
use native.Mathlib.Omega.{arith}
use lib.ListN.{length, take, drop, get_or, set, replicate, length-append, length-drop}
use lib.Seq.{split_at, set_split, take_at, drop_at, drop-append-add, drop-drop, length-take-le}
use Rattle.fields.specs.Fields.{bytes, field_at, put_at, cleared}
use Rattle.fields.proofs.Bytes.{length-bytes}
use Rattle.fields.proofs.Fields.{put-eq, field-part}
use Rattle.model.specs.Platform.{without}
use Rattle.store.specs.Gap.{moved_down, closed}
use Rattle.store.specs.Columns.{packs}

-- a number of w bytes is put over b
pub put-part : (a b c : List ℕ) (o w x : ℕ) → length a ≡ o → length b ≡ w → put_at (a ++ (b ++ c)) o w x ≡ a ++ (bytes w x ++ c)
put-part a b c o w x ha hb =
    let l : length (a ++ (b ++ c)) ≡ o + (w + length c) = rw (length-append a (b ++ c), length-append b c, ha, hb) in
    let d : drop (o + w) (a ++ (b ++ c)) ≡ c =
    ap (drop (o + w)) (sym (append_assoc a b c)) ∙ drop_at (a ++ b) c (o + w) (length-append a b ∙ rw (ha, hb)) in
    put-eq (a ++ (b ++ c)) o w x (omega arith) ∙ rw (d, take_at a (b ++ c) o ha) (append_assoc a (bytes w x) c)

-- of four lists in a row, the second is taken out
pub closed_parts : (p q r t : List ℕ) (a by e : ℕ) → length p ≡ a → length q ≡ by → a + by + length r ≡ e
    → closed (p ++ (q ++ (r ++ t))) a by e ≡ p ++ (r ++ (replicate by 0 ++ t))
unfolding closed cleared moved_down
closed_parts p q r t a by e hp hq he =
    let l : List ℕ = p ++ (q ++ (r ++ t)) in
    let n : e - (a + by) ≡ length r = omega arith in
    let lpq : length (p ++ q) ≡ a + by = length-append p q ∙ rw (hp, hq) in
    let lpr : length (p ++ r) ≡ e - by = length-append p r ∙ omega arith in
    let tp : take a l ≡ p = take_at p (q ++ (r ++ t)) a hp in
    let dq : drop (a + by) l ≡ r ++ t = ap (drop (a + by)) (sym (append_assoc p q (r ++ t))) ∙ drop_at (p ++ q) (r ++ t) (a + by) lpq in
    let mv : moved_down l a by e ≡ (p ++ r) ++ drop (a + length r) l =
    rw (n, tp, dq, take_at r t (length r) refl) in
    let rest : drop e l ≡ t =
    ap (drop e) (simp append_assoc) ∙ drop_at ((p ++ q) ++ r) t e (length-append (p ++ q) r ∙ omega arith) in
    let e1 : e ≡ length (p ++ r) + by = omega arith in
    let e2 : a + length r + by ≡ e = omega arith in
    let dm : drop e ((p ++ r) ++ drop (a + length r) l) ≡ t =
    ap (λ (k : ℕ). drop k ((p ++ r) ++ drop (a + length r) l)) e1
    ∙ drop-append-add (p ++ r) (drop (a + length r) l) by
    ∙ drop-drop by (a + length r) l
    ∙ ap (λ (k : ℕ). drop k l) e2
    ∙ rest in
    let k : e - (e - by) ≡ by = omega arith in
    ap (λ (m : List ℕ). take (e - by) m ++ replicate (e - (e - by)) 0 ++ drop e m) mv
    ∙ rw (dm, take_at (p ++ r) (drop (a + length r) l) (e - by) lpr, k) (simp append_assoc)

-- zeros in place of b
pub cleared-part : (a b c : List ℕ) (o n : ℕ) → length a ≡ o → length b ≡ n → cleared (a ++ (b ++ c)) o (o + n) ≡ a ++ (replicate n 0 ++ c)
unfolding cleared
cleared-part a b c o n ha hb =
    let m : o + n - o ≡ n = omega arith in
    let t : take o (a ++ (b ++ c)) ≡ a = take_at a (b ++ c) o ha in
    let d : drop (o + n) (a ++ (b ++ c)) ≡ c =
    ap (drop (o + n)) (sym (append_assoc a b c)) ∙ drop_at (a ++ b) c (o + n) (length-append a b ∙ rw (ha, hb)) in
    rw (m, t, d) (append_assoc a (replicate n 0) c)

-- ---- numbers of w bytes, one after another

module _ (w : ℕ) where
  pub packs-append : (xs ys : List ℕ) → packs w (xs ++ ys) ≡ packs w xs ++ packs w ys
  unfolding packs
  packs-append [] ys = refl
  packs-append (x ∷ xs) ys = rw (packs-append xs ys) (sym (append_assoc (bytes w x) (packs w xs) (packs w ys)))

  pub length-packs : (xs : List ℕ) → length (packs w xs) ≡ w * length xs
  unfolding packs
  length-packs [] = rw mul-zero
  length-packs (x ∷ xs) =
      rw (length-append (bytes w x) (packs w xs), length-bytes w x, length-packs xs, mul-suc w (length xs)) (omega arith)

  -- numbers that stand after a, which ends at o, and before b
  module _ (a b xs : List ℕ) (o i : ℕ) (starts : length a ≡ o) where
    abbrev front : List ℕ
    front = a ++ packs w (take i xs)

    front_ends : i ≤ length xs → length front ≡ o + w * i
    front_ends h = length-append a (packs w (take i xs)) ∙ rw (length-packs (take i xs), length-take-le i xs h, starts)

    module _ (h : i < length xs) where
      abbrev back : List ℕ
      back = packs w (drop (suc i) xs) ++ b

      around : a ++ (packs w xs ++ b) ≡ front ++ (bytes w (get_or xs i 0) ++ back)
      unfolding packs
      around =
          ap (λ (z : List ℕ). a ++ (packs w z ++ b)) (split_at xs i 0 h)
          ∙ rw (packs-append (take i xs) (get_or xs i 0 ∷ drop (suc i) xs)) (simp append_assoc)

      -- the number at place i is got
      pub get-packs : get_or xs i 0 < 256 ^ w → field_at (a ++ (packs w xs ++ b)) (o + w * i) w ≡ get_or xs i 0
      get-packs fits = rw around (field-part front back (o + w * i) w (get_or xs i 0) (front_ends (omega arith)) fits)

      -- a number is put at place i
      pub put-packs : (x : ℕ) → put_at (a ++ (packs w xs ++ b)) (o + w * i) w x ≡ a ++ (packs w (set xs i x) ++ b)
      unfolding packs
      put-packs x =
          let after : a ++ (packs w (set xs i x) ++ b) ≡ front ++ (bytes w x ++ back) =
          ap (λ (z : List ℕ). a ++ (packs w z ++ b)) (set_split xs i x h)
          ∙ rw (packs-append (take i xs) (x ∷ drop (suc i) xs)) (simp append_assoc) in
          ap (λ (z : List ℕ). put_at z (o + w * i) w x) around
          ∙ put-part front (bytes w (get_or xs i 0)) back (o + w * i) w x (front_ends (omega arith)) (length-bytes w (get_or xs i 0))
          ∙ sym after

      -- the number at place i is taken out
      pub closed-packs : closed (a ++ (packs w xs ++ b)) (o + w * i) w (o + w * length xs) ≡ a ++ (packs w (without i xs) ++ (replicate w 0 ++ b))
      unfolding without
      closed-packs =
          let r : List ℕ = drop (suc i) xs in
          let n : length xs ≡ i + suc (length r) = rw (length-drop (suc i) xs) (omega arith) in
          let ends : o + w * i + w + length (packs w r) ≡ o + w * length xs =
          rw (length-packs r, n, mul-add w i (suc (length r)), mul-suc w (length r)) (omega arith) in
          ap (λ (z : List ℕ). closed z (o + w * i) w (o + w * length xs)) around
          ∙ closed_parts front (bytes w (get_or xs i 0)) (packs w r) b (o + w * i) w (o + w * length xs) (front_ends (omega arith))
          (length-bytes w (get_or xs i 0)) ends
          ∙ rw (packs-append (take i xs) r) (simp append_assoc)

  -- a number is put after the last
  pub add-packs : (a b z xs : List ℕ) (o x : ℕ) → length a ≡ o → length z ≡ w
      → put_at (a ++ (packs w xs ++ (z ++ b))) (o + w * length xs) w x ≡ a ++ (packs w (xs ++ (x ∷ [])) ++ b)
  unfolding packs
  add-packs a b z xs o x e lz =
      let la : length (a ++ packs w xs) ≡ o + w * length xs = length-append a (packs w xs) ∙ rw (length-packs xs, e) in
      ap (λ (l : List ℕ). put_at l (o + w * length xs) w x) (sym (append_assoc a (packs w xs) (z ++ b)))
      ∙ put-part (a ++ packs w xs) z b (o + w * length xs) w x la lz
      ∙ rw (packs-append xs (x ∷ []), append-nil (bytes w x)) (simp append_assoc)
