-- A whole part and its stores, one by one: number 7's test of each, and which have an event left. Assumes nothing.
use mathlib.Core.Path.{◌≡◌, refl, sym, ap, ◌∙◌, subst}
use mathlib.Core.Logic.{◌⊎◌, inr, ⊎_elim}
use mathlib.Core.Bool.{Bool, true, false, and-eq-true_iff}
use mathlib.Core.List.{List, [], ◌∷◌, ◌++◌, map, map-append}
use Prim.Native.Nat.{ℕ, zero, suc, ◌+◌, ◌*◌, ◌-◌, ◌/◌, ◌^◌, ◌≤◌, ◌<◌}
use native.Mathlib.Omega.{arith}
use native.Mathlib.Decide.{dec_lt}
use lib.ListN.{length, get_or, set, take, drop, replicate, length-map, length-take, length-drop, length-append, get_or-eq_default}
use lib.Seq.{get_or-take, get_or-drop, length-take-le, take_all, take-suc, take_at, drop_at, drop-drop}
use Rattle.limits.specs.Limits.{store_size, most_stores}
use Rattle.store.specs.Store.{store_in_range}
use Rattle.event.specs.Ready.{Ready}
use Rattle.event.proofs.Readiness.{tested-ready}
use Rattle.dispatcher.specs.Dispatch.{pieces, stores_in, event_left, all_in_range, for_eight}
use Rattle.dispatcher.specs.declared.tally.Tally.{Tally}
use Rattle.dispatcher.specs.Tally.{new_tally, Whole, AllReady}
use Rattle.dispatcher.proofs.Pieces.{length-pieces, piece-at}
use Rattle.dispatcher.proofs.Marks.{eight-next}

module _ (n : ℕ) (part : List ℕ) (w : Whole n part) where
  pub cut : stores_in part ≡ pieces store_size n part
  unfolding stores_in
  cut = let count : length part / store_size ≡ n = omega (arith, w.size) in rw count refl

  pub stores-count : length (stores_in part) ≡ n
  stores-count = ap length cut ∙ length-pieces store_size n part

-- the bytes of the store at an index, as they are lent
abbrev pub piece : List ℕ → ℕ → List ℕ
piece part i = take store_size (drop (i * store_size) part)

-- as the code has their end
pub lent-piece : (part : List ℕ) (i : ℕ) → take ((i * store_size + store_size) - i * store_size) (drop (i * store_size) part) ≡ piece part i
lent-piece part i =
    let size : (i * store_size + store_size) - i * store_size ≡ store_size = omega arith in
    ap (λ (k : ℕ). take k (drop (i * store_size) part)) size

module _ (n : ℕ) (part : List ℕ) (w : Whole n part) (i : ℕ) (h : i < n) where
  -- its bytes are in the part
  pub start_fits : i * store_size < 2 ^ 64
  start_fits = omega (arith, w.most)

  pub end_fits : i * store_size + store_size ≤ length part
  end_fits = rw w.size (omega arith)

  pub piece_is : piece part i ≡ get_or (stores_in part) i []
  piece_is = sym (ap (λ (bs : List (List ℕ)). get_or bs i []) (cut n part w) ∙ piece-at store_size n i part h)

-- ---- stores that pass it are ready for events

-- each store of a part in range is in range
pub each-in-range : (bs : List (List ℕ)) → all_in_range bs ≡ true → (i : ℕ) → i < length bs → store_in_range (get_or bs i []) ≡ true
unfolding all_in_range
each-in-range [] e i h = absurd (omega arith)
each-in-range (b ∷ bs) e zero h = ((and-eq-true_iff (store_in_range b) (all_in_range bs)).0 e).0
each-in-range (b ∷ bs) e (suc i) h = each-in-range bs ((and-eq-true_iff (store_in_range b) (all_in_range bs)).0 e).1 i (omega arith)

-- the store at an index is of bytes
abbrev pub OfBytes : List ℕ → ℕ → Type 0
OfBytes part i = (j : ℕ) → j < store_size → get_or part (i * store_size + j) 0 < 256

piece_bytes : (part : List ℕ) (i : ℕ) → OfBytes part i → (j : ℕ) → get_or (piece part i) j 0 < 256
piece_bytes part i byte j = go (dec_lt j store_size)
  where
    go : Dec (j < store_size) → get_or (piece part i) j 0 < 256
    go (yes k) = rw (get_or-take store_size (drop (i * store_size) part) j 0 k, get_or-drop (i * store_size) part j 0) (byte j k)
    go (no k) = rw (get_or-eq_default (piece part i) 0 {n = j} (rw length-take (omega arith))) (omega arith)

-- where each is of bytes, or known to be ready
pub all-ready : (n : ℕ) (part : List ℕ) → Whole n part → ((i : ℕ) → Ready (piece part i) ⊎ OfBytes part i)
    → all_in_range (stores_in part) ≡ true
    → AllReady (stores_in part)
all-ready n part w each e i h =
    let inside : i < n = rw (stores-count n part w) at h in
    let here : piece part i ≡ get_or (stores_in part) i [] = piece_is n part w i inside in
    ⊎_elim (λ r. subst Ready here r)
    (λ byte. tested-ready (get_or (stores_in part) i []) (λ j. rw (sym here) (piece_bytes part i byte j)) (each-in-range (stores_in part) e i h)) (each i)

-- all of a part of bytes
pub lent-ready : (n : ℕ) (part : List ℕ) → Whole n part → ((i : ℕ) → get_or part i 0 < 256) → all_in_range (stores_in part) ≡ true
    → AllReady (stores_in part)
lent-ready n part w byte e = all-ready n part w (λ i. inr (λ j h. byte (i * store_size + j))) e

-- ---- how they stand before the first turn

-- so far: those below index i were looked at, and `rest` is left of the part
pub record Looking (part : List ℕ) (i : ℕ) (rest : List ℕ) (ts : List Tally) : Type 0 where
  pub whole : Whole (length part / store_size) part
  pub ready : AllReady (stores_in part)
  pub within : i ≤ length part / store_size
  pub left : rest ≡ drop (i * store_size) part
  pub tells : ts ≡ for_eight (new_tally false) (map (λ (b : List ℕ). new_tally (event_left b)) (take i (stores_in part)))

module _ (part : List ℕ) where
  abbrev n : ℕ
  n = length part / store_size

  abbrev first : List ℕ → Tally
  first b = new_tally (event_left b)

  pub look-first : Whole n part → AllReady (stores_in part) → Looking part 0 part (replicate most_stores (new_tally false))
  unfolding for_eight
  look-first w r = record { whole = w; ready = r; within = omega arith; left = refl; tells = refl }

  module _ {i : ℕ} {rest : List ℕ} {ts : List Tally} (w : Looking part i rest ts) where
    abbrev bs : List (List ℕ)
    bs = stores_in part

    module _ (b more : List ℕ) (cut_off : rest ≡ b ++ more) (size : length b ≡ store_size) where
      room : i * store_size + store_size ≤ length part
      room = omega (arith, size, ap length (sym w.left ∙ cut_off), length-drop (i * store_size) part, length-append b more, w.within)

      pub look-inside : i < n
      look-inside = omega (arith, room)

      look-piece : b ≡ piece part i
      look-piece = sym (ap (take store_size) (sym w.left ∙ cut_off) ∙ take_at b more store_size size)

      pub look-ready : Ready b
      look-ready =
          subst Ready (sym (look-piece ∙ piece_is n part w.whole i look-inside)) (w.ready i (rw (stores-count n part w.whole) look-inside))

      look-rest : more ≡ drop ((i + 1) * store_size) part
      look-rest =
          let on : i * store_size + store_size ≡ (i + 1) * store_size = omega arith in
          sym (drop_at b more store_size size) ∙ ap (drop store_size) (sym cut_off ∙ w.left)
          ∙ drop-drop store_size (i * store_size) part ∙ ap (λ (k : ℕ). drop k part) on

      pub look-next : {r : Bool} → r ≡ event_left b → {t : Tally} → t ≡ new_tally r → Looking part (i + 1) more (set ts i t)
      look-next {r} e {t} f =
          let inside : i < length bs = rw (stores-count n part w.whole) look-inside in
          let l : List Tally = map first (take i bs) in
          let below : length l ≡ i = length-map (take i bs) first ∙ length-take-le i bs (omega arith) in
          let next : suc i ≡ i + 1 = omega arith in
          let one : take (i + 1) bs ≡ take i bs ++ (b ∷ []) =
          ap (λ (k : ℕ). take k bs) (sym next) ∙ take-suc bs i [] inside
          ∙ ap (λ (c : List ℕ). take i bs ++ (c ∷ [])) (sym (look-piece ∙ piece_is n part w.whole i look-inside)) in
          record {
            whole = w.whole;
            ready = w.ready;
            within = omega (arith, look-inside);
            left = look-rest;
            tells =
                ap (λ (m : List Tally). set m i t) w.tells ∙ ap (λ (k : ℕ). set (for_eight (new_tally false) l) k t) (sym below)
                ∙ eight-next (new_tally false) l t (rw below (omega (arith, w.whole.most, look-inside)))
                ∙ ap (λ (x : Tally). for_eight (new_tally false) (l ++ (x ∷ []))) (f ∙ ap new_tally e)
                ∙ ap (for_eight (new_tally false)) (sym (map-append first (take i bs) (b ∷ [])) ∙ ap (map first) (sym one));
          }

    -- no whole store is left
    pub look-all : length rest < store_size → ts ≡ for_eight (new_tally false) (map (λ (b : List ℕ). new_tally (event_left b)) (stores_in part))
    look-all h =
        let none_left : n ≤ i = omega (arith, ap length w.left, length-drop (i * store_size) part, w.within) in
        w.tells ∙ ap (λ (l : List (List ℕ)). for_eight (new_tally false) (map first l)) (take_all i bs (rw (stores-count n part w.whole) none_left))
