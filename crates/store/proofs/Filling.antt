-- What each part that is put makes of the encoding of a plan with fewer numbers or rows. Assumes nothing.
use mathlib.Core.Path.{◌≡◌, refl, sym, ap, ◌∙◌}
use mathlib.Core.Bool.{Bool, true, ◌&&◌, and-eq-true_iff}
use mathlib.Core.List.{List, [], ◌∷◌, ◌++◌, map, append-nil}
use Prim.Native.Nat.{ℕ, zero, suc, ◌+◌, ◌-◌, ◌*◌, ◌≤◌, ◌<◌, zero-le}
use native.Mathlib.Nat.{mul-suc, mul-zero, mul-le-mul_left}
use native.Mathlib.Numerals.{add-one}
use native.Mathlib.Omega.{arith}
use borrow.Author.Tests.{eqb-true, leb-true}
use lib.Dec.{eqb, leb}
use lib.ListN.{length, take, get_or, replicate, length-map, length-append, length-replicate, replicate-append-replicate, drop_of_length-le}
use lib.Seq.{take-suc, take-length, length-take-le}
use Rattle.ring.specs.Ring.{numbers}
use Rattle.ring.proofs.Rows.{length-numbers}
use Rattle.fields.specs.Fields.{bytes, cleared, zeros}
use Rattle.fields.proofs.Zeros.{zeros-replicate}
use Rattle.node.specs.Node.{opening}
use Rattle.plans.specs.Plan.{Plan, Crash, Delay, order_of, with_ring, with_crash, with_delay, start_plan}
use Rattle.model.specs.Platform.{State, start}
use Rattle.store.specs.Columns.{Column, Part, size, used, packs, column_bytes, bytes_of, joined, room_test, columns_of, numbers_of, places_test}
use Rattle.limits.specs.Limits.{store_size}
use Rattle.store.specs.Store.{node_count, longest_delay, period, time_out, end_tick, crash_count, delay_count, ring_size, columns, encode}
use Rattle.store.specs.Store.{head_parts, ring_parts, node_parts, crash_parts, delay_parts, time_parts, route_parts}
use Rattle.store.specs.Filling.{put_start, put_ring, put_crash, put_delay, zero_node, unopened, ring_up_to, begun, rows_up_to, filled}
use Rattle.store.proofs.Columns.{Laid, bytes-append, with_number, has_number, with_numbers, has_numbers, numbers-put}
use Rattle.store.proofs.Groups.{row-counted}
use Rattle.store.proofs.Store.{placed, ring-places, node-places, crash-places, delay-places, at-nodes, room-laid}
use Rattle.store.proofs.Store.{before_ring, before_nodes, before_crashes, before_delays, after_ring, after_nodes, after_crashes, after_delays}

-- ---- zeros

map-replicate : {A : Type 0} (f : A → ℕ) (z : A) (n : ℕ) → map f (replicate n z) ≡ replicate n (f z)
map-replicate f z zero = refl
map-replicate f z (suc n) = ap (λ (l : List ℕ). f z ∷ l) (map-replicate f z n)

bytes-zero : (w : ℕ) → bytes w 0 ≡ replicate w 0
unfolding bytes
bytes-zero zero = refl
bytes-zero (suc w) = ap (λ (l : List ℕ). 0 ∷ l) (bytes-zero w)

packs-zero : (w : ℕ) (xs : List ℕ) → zeros xs ≡ true → packs w xs ≡ replicate (w * length xs) 0
unfolding packs zeros
packs-zero w [] h = rw (mul-zero w)
packs-zero w (zero ∷ xs) h =
    let e : w * suc (length xs) ≡ w + w * length xs = rw (mul-suc w (length xs)) (omega arith) in
    rw (e, ← replicate-append-replicate {A = ℕ} w (w * length xs) 0, bytes-zero w, packs-zero w xs h)
packs-zero w (suc x ∷ xs) h = let z : suc x ≡ 0 = eqb-true (suc x) 0 ((and-eq-true_iff (eqb (suc x) 0) (zeros xs)).0 h).0 in absurd (omega arith)

-- the numbers of every column are 0
unfoldable zero_test : List Column → Bool
zero_test [] = true
zero_test (c ∷ cs) = zeros c.values && zero_test cs

zero-bytes : (cs : List Column) (o e : ℕ) → joined o e cs ≡ true → room_test cs ≡ true → zero_test cs ≡ true
    → (o ≤ e) × (bytes_of cs ≡ replicate (e - o) 0)
unfolding joined room_test zero_test bytes_of column_bytes
zero-bytes [] o e j r z = let same : o ≡ e = eqb-true o e j in let none : e - o ≡ 0 = omega arith in (omega arith, rw none)
zero-bytes (c ∷ cs) o e j r z =
    let w : ℕ = c.field.width in
    let j' = (and-eq-true_iff (eqb c.field.at o) (joined (o + size c.field) e cs)).0 j in
    let r' = (and-eq-true_iff (leb (length c.values) c.field.places) (room_test cs)).0 r in
    let z' = (and-eq-true_iff (zeros c.values) (zero_test cs)).0 z in
    let rest = zero-bytes cs (o + size c.field) e j'.1 r'.1 z'.1 in
    let le : used c ≤ size c.field = mul-le-mul_left w (leb-true (length c.values) c.field.places r'.0) in
    let whole : used c + (size c.field - used c) ≡ size c.field = omega arith in
    let all : size c.field + (e - (o + size c.field)) ≡ e - o = omega (arith, rest.0) in
    let column : packs w c.values ++ replicate (size c.field - used c) 0 ≡ replicate (size c.field) 0 =
    rw (packs-zero w c.values z'.0, replicate-append-replicate {A = ℕ} (used c) (size c.field - used c) 0, whole) in
    (omega (arith, rest.0), rw (column, rest.1, replicate-append-replicate {A = ℕ} (size c.field) (e - (o + size c.field)) 0, all))

-- nothing planned, and nothing held
abbrev nothing : Plan
nothing = start_plan 0 0 0 0 0

abbrev blank : State
blank = record { done = 0; last = 0; next = 0; nodes = []; flight = [] }

zero-encode : encode nothing blank ≡ replicate store_size 0
unfolding encode columns columns_of head_parts ring_parts node_parts crash_parts delay_parts time_parts route_parts start_plan room_test zero_test zeros
zero-encode = (zero-bytes (columns nothing blank) 0 store_size (placed nothing blank) refl refl).1

cleared-encode : (s : List ℕ) → length s ≡ store_size → cleared s 0 store_size ≡ encode nothing blank
unfolding cleared
cleared-encode s h =
    let past : length s ≤ store_size = omega arith in
    rw (drop_of_length-le s past, zero-encode) (append-nil (replicate store_size 0))

-- ---- the P line

start-encode : (n h w d end : ℕ) → put_start (encode nothing blank) n h w d end ≡ encode (start_plan n h w d end) blank
unfolding put_start start_plan encode columns columns_of head_parts has_number with_number has_numbers with_numbers
start-encode n h w d end =
    numbers-put (columns nothing blank) ((node_count, n) ∷ (longest_delay, d) ∷ (period, h) ∷ (time_out, w) ∷ (end_tick, end) ∷ [])
    refl (room-laid nothing blank zero-le zero-le zero-le zero-le zero-le)

-- rows whose numbers are all 0 take the bytes of no rows
zero-rows : {A : Type 0} (k : ℕ) (gs : List (Part A)) (z : A) (n : ℕ) → places_test k gs ≡ true → zeros (numbers_of gs z) ≡ true → n ≤ k
    → bytes_of (columns_of gs (replicate n z)) ≡ bytes_of (columns_of gs [])
unfolding bytes_of columns_of column_bytes numbers_of places_test zeros packs
zero-rows k [] z n h q l = refl
zero-rows k (g ∷ gs) z n h q l =
    let w : ℕ = g.field.width in
    let all : ℕ = size g.field in
    let h' = (and-eq-true_iff (eqb g.field.places k) (places_test k gs)).0 h in
    let q' = (and-eq-true_iff (eqb (g.get z) 0) (zeros (map (λ (f : Part _). f.get z) gs))).0 q in
    let places : g.field.places ≡ k = eqb-true g.field.places k h'.0 in
    let same : map g.get (replicate n z) ≡ replicate n 0 = map-replicate g.get z n ∙ rw (eqb-true (g.get z) 0 q'.0) in
    let le : w * n ≤ all = mul-le-mul_left w (omega arith) in
    let whole : w * n + (all - w * n) ≡ all = omega arith in
    let none : all - w * 0 ≡ all = rw (mul-zero w) (omega arith) in
    let column : packs w (map g.get (replicate n z)) ++ replicate (all - w * length (map g.get (replicate n z))) 0 ≡ replicate (all - w * 0) 0 =
    rw (same, length-replicate {A = ℕ} n 0, packs-zero w (replicate n 0) (zeros-replicate n), length-replicate {A = ℕ} n 0, none)
    (replicate-append-replicate {A = ℕ} (w * n) (all - w * n) 0 ∙ rw whole) in
    rw (column, zero-rows k gs z n h'.1 q'.1 l)

-- nodes that are not opened are zeros
zero-nodes : (p : Plan) → p.n ≤ 64 → encode p blank ≡ encode p (unopened p)
unfolding encode unopened zero_node columns_of head_parts ring_parts numbers_of node_parts zeros
zero-nodes p few =
    let front : List ℕ = bytes_of (before_nodes p blank) in
    let back : List ℕ = bytes_of (after_nodes p blank) in
    let nodes = zero-rows 64 node_parts zero_node p.n node-places refl few in
    rw (at-nodes p blank, at-nodes p (unopened p))
    (bytes-append (before_nodes p blank) (columns_of node_parts [] ++ after_nodes p blank)
    ∙ ap (λ (l : List ℕ). front ++ l) (bytes-append (columns_of node_parts []) (after_nodes p blank) ∙ ap (λ (l : List ℕ). l ++ back) (sym nodes)
    ∙ sym (bytes-append (columns_of node_parts (replicate p.n zero_node)) (after_nodes p blank)))
    ∙ sym (bytes-append (before_nodes p blank) (columns_of node_parts (replicate p.n zero_node) ++ after_nodes p blank)))

-- zeros and a P line
pub start-begun : (n h w d end : ℕ) (s : List ℕ) {t u : List ℕ} → n ≤ 64 → length s ≡ store_size
    → t ≡ cleared s 0 store_size → u ≡ put_start t n h w d end
    → u ≡ encode (start_plan n h w d end) (unopened (start_plan n h w d end))
unfolding start_plan
start-begun n h w d end s few size clear put =
    put ∙ rw (clear, cleared-encode s size, start-encode n h w d end) (zero-nodes (start_plan n h w d end) few)

-- ---- one number of the Q line, C row or L row more

module _ (p : Plan) (s : State) (laid : Laid 0 (columns p s)) where
  ring-added : (i k : ℕ) → i ≡ length p.ring → i < 64 → put_ring (encode p s) i k ≡ encode (with_ring p (p.ring ++ (k ∷ []))) s
  unfolding put_ring encode with_ring columns columns_of head_parts has_number with_number
  ring-added i k e h =
      rw (e)
      (row-counted 64 ring_parts ring-places (before_ring p s) (after_ring p s) p.ring laid k ring_size (rw (← e) h) refl
      ∙ rw (length-append p.ring (k ∷ [])))

  crash-added : (i : ℕ) (c : Crash) → i ≡ length p.crashes → i < 64 → put_crash (encode p s) i c.tick c.node ≡ encode (with_crash p c) s
  unfolding put_crash encode with_crash columns columns_of head_parts ring_parts node_parts has_number with_number
  crash-added i c e h =
      rw (e)
      (row-counted 64 crash_parts crash-places (before_crashes p s) (after_crashes p s) p.crashes laid c crash_count (rw (← e) h) refl
      ∙ rw (length-append p.crashes (c ∷ [])))

  delay-added : (i : ℕ) (c : Delay) → i ≡ length p.delays → i < 2048 → put_delay (encode p s) i c.number c.delay ≡ encode (with_delay p c) s
  unfolding put_delay encode with_delay columns columns_of head_parts ring_parts node_parts crash_parts has_number with_number
  delay-added i c e h =
      rw (e)
      (row-counted 2048 delay_parts delay-places (before_delays p s) (after_delays p s) p.delays laid c delay_count (rw (← e) h) refl
      ∙ rw (length-append p.delays (c ∷ [])))

-- ---- a store that is begun, with its Q line

module _ (p : Plan) (few : p.n ≤ 64) (few_ring : length p.ring ≤ 64) where
  pub ring-begun : (i : ℕ) → i < length p.ring → put_ring (begun p i) i (get_or p.ring i 0) ≡ begun p (i + 1)
  unfolding begun ring_up_to with_ring start_plan unopened
  ring-begun i h =
      let q : Plan = ring_up_to p i in
      let size : length (take i p.ring) ≡ i = length-take-le i p.ring (omega arith) in
      let laid : Laid 0 (columns q (unopened p)) =
      room-laid q (unopened p) (rw size (omega arith)) (rw (length-replicate p.n zero_node) few) zero-le zero-le zero-le in
      let e : take (i + 1) p.ring ≡ take i p.ring ++ (get_or p.ring i 0 ∷ []) = rw (add-one i) (take-suc p.ring i 0 h) in
      ring-added q (unopened p) laid i (get_or p.ring i 0) (sym size) (omega arith) ∙ rw e

-- the P line alone; and all numbers of the Q line, which is a store without rows
pub none-begun : (p : Plan) → encode (start_plan p.n p.h p.w p.d p.end) (unopened (start_plan p.n p.h p.w p.d p.end))
    ≡ begun p 0
unfolding begun ring_up_to with_ring start_plan unopened
none-begun p = refl

pub all-begun : (p : Plan) → begun p (length p.ring) ≡ encode (rows_up_to p 0 0) (unopened (rows_up_to p 0 0))
unfolding begun ring_up_to with_ring start_plan unopened rows_up_to
all-begun p = rw (take-length p.ring)

-- ---- a store that is filled so far, filled further

module _ (p : Plan) (few : p.n ≤ 64) (few_ring : length p.ring ≤ 64) (few_crashes : length p.crashes ≤ 64)
    (few_delays : length p.delays ≤ 2048) where
  laid-upto : (i j : ℕ) → i ≤ length p.crashes → j ≤ length p.delays → Laid 0 (columns (rows_up_to p i j) (start p))
  unfolding rows_up_to start
  laid-upto i j hi hj =
      let nodes : length (map (opening (order_of p) p.h p.w) (numbers 0 p.n)) ≡ p.n =
      length-map (numbers 0 p.n) (opening (order_of p) p.h p.w) ∙ length-numbers p.n 0 in
      room-laid (rows_up_to p i j) (start p) few_ring (rw nodes few)
      (rw (length-take-le i p.crashes hi) (omega arith)) (rw (length-take-le j p.delays hj) (omega arith)) zero-le

  pub crash-filled : (i : ℕ) (z : Crash) → i < length p.crashes
      → put_crash (filled p i 0) i (get_or p.crashes i z).tick (get_or p.crashes i z).node ≡ filled p (i + 1) 0
  unfolding filled rows_up_to with_crash
  crash-filled i z h =
      let e : take (i + 1) p.crashes ≡ take i p.crashes ++ (get_or p.crashes i z ∷ []) = rw (add-one i) (take-suc p.crashes i z h) in
      crash-added (rows_up_to p i 0) (start p) (laid-upto i 0 (omega arith) zero-le) i (get_or p.crashes i z)
      (sym (length-take-le i p.crashes (omega arith))) (omega arith)
      ∙ rw e

  pub delay-filled : (j : ℕ) (z : Delay) → j < length p.delays
      → put_delay (filled p (length p.crashes) j) j (get_or p.delays j z).number (get_or p.delays j z).delay
      ≡ filled p (length p.crashes) (j + 1)
  unfolding filled rows_up_to with_delay
  delay-filled j z h =
      let e : take (j + 1) p.delays ≡ take j p.delays ++ (get_or p.delays j z ∷ []) = rw (add-one j) (take-suc p.delays j z h) in
      delay-added (rows_up_to p (length p.crashes) j) (start p) (laid-upto (length p.crashes) j (omega arith) (omega arith)) j
      (get_or p.delays j z) (sym (length-take-le j p.delays (omega arith))) (omega arith)
      ∙ rw e

-- the nodes of a store without rows, and all of it
pub none_filled : (p : Plan) → encode (rows_up_to p 0 0) (start (rows_up_to p 0 0)) ≡ filled p 0 0
unfolding filled rows_up_to start order_of
none_filled p = refl

pub all-filled : (p : Plan) → filled p (length p.crashes) (length p.delays) ≡ encode p (start p)
unfolding filled rows_up_to
all-filled p = rw (take-length p.crashes, take-length p.delays)
