-- A list cut into pieces of one size, and put together again. Assumes nothing.
use mathlib.Core.Path.{◌≡◌, refl, sym, ap, ◌∙◌}
use mathlib.Core.List.{List, [], ◌∷◌, ◌++◌, append_assoc}
use Prim.Native.Nat.{ℕ, zero, suc, ◌+◌, ◌*◌, ◌≤◌, ◌<◌}
use native.Mathlib.Nat.{zero-mul, mul-le-mul_right}
use native.Mathlib.Omega.{arith}
use lib.ListN.{length, get_or, take, drop, set, length-append, length-drop, take-append-drop}
use lib.Seq.{length-take-le, take_at, drop_at, drop-drop, take-add}
use Rattle.dispatcher.specs.Dispatch.{pieces, joined}

module _ {A : Type 0} (size : ℕ) where
  pub length-pieces : (n : ℕ) (l : List A) → length (pieces size n l) ≡ n
  unfolding pieces
  length-pieces zero l = refl
  length-pieces (suc n) l = ap suc (length-pieces n (drop size l))

  -- the piece at an index
  pub piece-at : (n i : ℕ) (l : List A) → i < n → get_or (pieces size n l) i [] ≡ take size (drop (i * size) l)
  unfolding pieces
  piece-at zero i l h = absurd (omega arith)
  piece-at (suc n) zero l h = rw (zero-mul size) refl
  piece-at (suc n) (suc i) l h =
      let on : size + i * size ≡ suc i * size = omega arith in
      piece-at n i (drop size l) (omega arith) ∙ ap (take size) (drop-drop (i * size) size l ∙ ap (λ (k : ℕ). drop k l) on)

  -- what is left of a list of so many pieces, after the first
  rest-size : (n : ℕ) (l : List A) → length l ≡ suc n * size → length (drop size l) ≡ n * size
  rest-size n l h = length-drop size l ∙ rw h (omega arith)

  -- together they are the list
  pub pieces-joined : (n : ℕ) (l : List A) → length l ≡ n * size → joined (pieces size n l) ≡ l
  unfolding pieces joined
  pieces-joined zero [] h = refl
  pieces-joined zero (x ∷ l) h = absurd (omega arith)
  pieces-joined (suc n) l h = ap (λ (r : List A). take size l ++ r) (pieces-joined n (drop size l) (rest-size n l h)) ∙ take-append-drop size l

  -- each of these lists is a piece's size
  abbrev pub AllSized : List (List A) → Type 0
  AllSized ls = (i : ℕ) → i < length ls → length (get_or ls i []) ≡ size

  rest-sized : (a : List A) (ls : List (List A)) → AllSized (a ∷ ls) → AllSized ls
  rest-sized a ls all i h = all (suc i) (omega arith)

  -- they are cut out of the lists put together
  pub length-joined : (ls : List (List A)) → AllSized ls → length (joined ls) ≡ length ls * size
  unfolding joined
  length-joined [] all = sym (zero-mul size)
  length-joined (a ∷ ls) all =
      let one : length a ≡ size = all 0 (omega arith) in
      length-append a (joined ls) ∙ rw (one, length-joined ls (rest-sized a ls all)) (omega arith)

  pub joined-pieces : (ls : List (List A)) → AllSized ls → pieces size (length ls) (joined ls) ≡ ls
  unfolding pieces joined
  joined-pieces [] all = refl
  joined-pieces (a ∷ ls) all =
      let one : length a ≡ size = all 0 (omega arith) in
      rw (take_at a (joined ls) size one, drop_at a (joined ls) size one)
      (ap (λ (r : List (List A)). a ∷ r) (joined-pieces ls (rest-sized a ls all)))

  -- one piece anew: what a loan of the part of the piece at index i leaves
  abbrev pub replaced : ℕ → List A → List A → List A
  replaced i b l = take (i * size) l ++ (b ++ drop size (drop (i * size) l))

  module _ (b : List A) (fits : length b ≡ size) where
    first-replaced : (l : List A) → replaced 0 b l ≡ b ++ drop size l
    first-replaced l = rw (zero-mul size) refl

    -- the first piece stays, and the rest is as with one piece less
    later-replaced : (i : ℕ) (l : List A) → replaced (suc i) b l ≡ take size l ++ replaced i b (drop size l)
    later-replaced i l =
        let on : suc i * size ≡ size + i * size = omega arith in
        rw (on, take-add size (i * size) l, sym (drop-drop (i * size) size l))
        (append_assoc (take size l) (take (i * size) (drop size l)) (b ++ drop size (drop (i * size) (drop size l))))

    -- the same of the pieces
    pub replaced-pieces : (n i : ℕ) (l : List A) → length l ≡ n * size → i < n → pieces size n (replaced i b l) ≡ set (pieces size n l) i b
    unfolding pieces
    replaced-pieces zero i l h k = absurd (omega arith)
    replaced-pieces (suc n) zero l h k =
        rw (first-replaced l, take_at b (drop size l) size fits, drop_at b (drop size l) size fits) refl
    replaced-pieces (suc n) (suc i) l h k =
        let front : length (take size l) ≡ size = length-take-le size l (rw h (omega arith)) in
        let rest : List A = replaced i b (drop size l) in
        rw (later-replaced i l, take_at (take size l) rest size front, drop_at (take size l) rest size front)
        (ap (λ (ls : List (List A)). take size l ∷ ls) (replaced-pieces n i (drop size l) (rest-size n l h) (omega arith)))

    pub length-replaced : (n i : ℕ) (l : List A) → length l ≡ n * size → i < n → length (replaced i b l) ≡ length l
    length-replaced n i l h k =
        let up : suc i * size ≤ n * size = mul-le-mul_right size k in
        let inside : i * size + size ≤ length l = rw h (omega arith) in
        simp (length-append, length-drop, length-take-le (i * size) l (omega arith), fits) (omega arith)
