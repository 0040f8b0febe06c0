-- What a queue holds after each of its functions. Assumes nothing.
use Prim.Native.Nat.{ℕ, suc, ◌+◌, ◌-◌, ◌≤◌, ◌<◌}
use mathlib.Core.Path.{◌≡◌, refl, sym, ap, ◌∙◌}
use mathlib.Core.Bool.{Bool, true, false, cond}
use mathlib.Core.List.{List, [], ◌∷◌, ◌++◌, map}
use native.Mathlib.Omega.{arith}
use native.Mathlib.Numerals.{add-one}
use lib.Dec.{leb, ltb}
use lib.ListN.{length, get_or, take, drop}
use Rattle.std.specs.List.{between, copy_within}
use Rattle.std.proofs.lemmas.List.{length-map, length-drop, take-take, drop_more}
use Rattle.std.proofs.lemmas.List.Edits.{length-between, length-paste, take-paste}
use Rattle.std.proofs.lemmas.Slice.{between-put_mid}
use borrow.Rule.Slice.PartMut.{put_mid, same_len_mid}
use Rattle.store.specs.declared.Flight.{Flight}
use Rattle.store.specs.Inside.{message_of}
use Rattle.queue.specs.Order.{insert_before, insert_after, ordered, Every, From, Climbing, Rising}
use Rattle.queue.specs.Rows.{places, nothing, key_of}
use Rattle.queue.specs.declared.Key.TheVariants.{Due, Number}
use Rattle.model.specs.Platform.{InFlight}
use Rattle.queue.specs.Holds.{due, number, Holds, Earliest, Head}
use Rattle.queue.proofs.Orders.{ordered-join, rising-ordered, ordered-back, length-ordered, length-after}
use Rattle.queue.proofs.First.{earliest}

-- ---- what stands in a queue is ordered as its messages are

module _ {A B : Type 0} (f : A → B) (low : A → ℕ) (key : B → ℕ) (same : (m : A) → low m ≡ key (f m)) where
  map-cond : (b : Bool) (l k : List A) → cond b (map f l) (map f k) ≡ map f (cond b l k)
  map-cond true l k = refl
  map-cond false l k = refl

  map-before : (m : A) (l : List A) → map f (insert_before low m l) ≡ insert_before key (f m) (map f l)
  unfolding insert_before
  map-before m [] = refl
  map-before m (x ∷ xs) = sym (rw (← map-before m xs, ← same m, ← same x) (map-cond (leb (low m) (low x)) _ _))

  map-after : (m : A) (l : List A) → map f (insert_after low m l) ≡ insert_after key (f m) (map f l)
  unfolding insert_after
  map-after m [] = refl
  map-after m (x ∷ xs) = sym (rw (← map-after m xs, ← same m, ← same x) (map-cond (ltb (low m) (low x)) _ _))

  map-ordered : (l : List A) → map f (ordered low l) ≡ ordered key (map f l)
  unfolding ordered
  map-ordered [] = refl
  map-ordered (m ∷ ms) = map-before m (ordered low ms) ∙ ap (insert_before key (f m)) (map-ordered ms)

by-due : (m : Flight) → key_of Due m ≡ due (message_of m)
unfolding key_of
by-due m = refl

by_number : (m : Flight) → key_of Number m ≡ number (message_of m)
unfolding key_of
by_number m = refl

rising-map : {A B : Type 0} (f : A → B) (low : A → ℕ) (key : B → ℕ) → ((m : A) → low m ≡ key (f m)) → (l : List A) → Rising key (map f l)
    → Rising low l
unfolding Rising Every
rising-map f low key same [] r = tt
rising-map {A} f low key same (x ∷ xs) r = (from xs r.0, rising-map f low key same xs r.1)
  where
    from : (l : List A) → From key (key (f x)) (map f l) → From low (low x) l
    from [] e = tt
    from (y ∷ l) e = (omega (arith, same x, same y, e.0), from l e.1)

-- ---- what a part of a queue is

pub between_next : (q : List Flight) (start end : ℕ) → start < end → end ≤ length q → between start end q ≡ get_or q start nothing ∷ between (suc start) end q
between_next q start end h l =
    let z : end - start ≡ suc (end - suc start) = omega arith in
    let e : drop start q ≡ get_or q start nothing ∷ drop (suc start) q = rw (← add-one) (drop_more q start nothing (omega arith)) in
    ap (λ (k : ℕ). take k (drop start q)) z ∙ rw e

-- the places of a queue and the one after
module _ (q : List Flight) (start end : ℕ) (flight : List InFlight) (h : Holds q start end flight) (l : end < places) where
  abbrev part : List Flight
  part = take (end + 1 - start) (drop start q)

  part-length : length part ≡ suc (end - start)
  part-length = length-between q start (end + 1) (omega (arith, h.size)) ∙ omega (arith, h.order)

  part-front : take (length part - 1) part ≡ between start end q
  part-front =
      let e : length part - 1 ≡ end - start = omega (arith, part-length) in
      rw e (take-take (end - start) (end + 1 - start) (drop start q) (omega arith))

  pub holds-free : 0 < length part
  holds-free = omega (arith, part-length)

  pub holds-rising : Rising (key_of Due) (take (length part - 1) part)
  holds-rising =
      rw part-front
      (rising-map message_of (key_of Due) due by-due (between start end q) (rw h.is (rising-ordered due flight)))

  pub holds-push : (m : Flight) (r : List Flight) → r ≡ put_mid start (end + 1 - start) q (insert_after (key_of Due) m (take (length part - 1) part))
      → Holds r start (suc end) (flight ++ (message_of m ∷ []))
  holds-push m r e =
      let new : List Flight = insert_after (key_of Due) m (between start end q) in
      let f : r ≡ put_mid start (end + 1 - start) q new = e ∙ rw part-front in
      let n : length new ≡ suc end - start =
      length-after (key_of Due) m (between start end q) ∙ (ap suc (length-between q start end (omega (arith, h.size))) ∙ omega (arith, h.order)) in
      record {
        size = ap length f ∙ (same_len_mid start (end + 1 - start) q new (omega (arith, n, part-length, h.order)) ∙ h.size);
        order = omega (arith, h.order);
        room = l;
        is =
            ap (λ (x : List Flight). map message_of (between start (suc end) x)) f
            ∙ (ap (map message_of) (between-put_mid start (end + 1 - start) q new (suc end) (omega (arith, h.size, h.order)) n)
            ∙ (map-after message_of (key_of Due) due by-due m (between start end q)
            ∙ (ap (insert_after due (message_of m)) h.is ∙ sym (ordered-join due flight (message_of m)))));
      }

-- ---- sorted by due tick, moved down, sorted by number

pub holds-fill : (q r : List Flight) (n : ℕ) (flight : List InFlight) → length r ≡ places → n ≤ places → map message_of (take n q) ≡ flight
    → take n r ≡ ordered (key_of Due) (take n q) → Holds r 0 n flight
holds-fill q r n flight s h e o = record {
  size = s;
  order = omega arith;
  room = h;
  is =
      let z : n - 0 ≡ n = omega arith in
      rw (z, o) (map-ordered message_of (key_of Due) due by-due (take n q) ∙ ap (ordered due) e);
}

pub holds-moved : (q r : List Flight) (start end : ℕ) (flight : List InFlight) → Holds q start end flight → r ≡ copy_within q start end 0
    → Holds r 0 (end - start) flight
holds-moved q r start end flight h e =
    let n : end - start ≤ length (drop start q) = omega (arith, length-drop start q, h.size, h.room) in
    let z : (end - start) - 0 ≡ 0 + (end - start) = omega arith in
    record {
      size = ap length e ∙ (length-paste q 0 (drop start q) (end - start) (omega (arith, h.size, h.room)) n ∙ h.size);
      order = omega arith;
      room = omega (arith, h.room);
      is = rw (z, e, take-paste q 0 (drop start q) (end - start) (omega arith) n) h.is;
    }

pub holds-back : (q : List Flight) (start end : ℕ) (flight : List InFlight) → Holds q start end flight → Climbing number flight
    → map message_of (ordered (key_of Number) (between start end q)) ≡ flight
holds-back q start end flight h c =
    map-ordered message_of (key_of Number) number by_number (between start end q)
    ∙ (ap (ordered number) h.is ∙ ordered-back due number flight c)

-- ---- how many, none, and the first

pub holds-count : (q : List Flight) (start end : ℕ) (flight : List InFlight) → Holds q start end flight → length flight ≡ end - start
holds-count q start end flight h =
    sym (length-ordered due flight)
    ∙ (sym (ap length h.is) ∙ (length-map (between start end q) message_of ∙ length-between q start end (omega (arith, h.size, h.room))))

pub holds-none : (q : List Flight) (start end : ℕ) (flight : List InFlight) → Holds q start end flight → end ≤ start → flight ≡ []
holds-none q start end flight h l = go flight (omega (arith, holds-count q start end flight h, h.order))
  where
    go : (f : List InFlight) → length f ≡ 0 → f ≡ []
    go [] e = refl
    go (m ∷ ms) e = absurd (omega arith)

pub holds-head : (q : List Flight) (start end : ℕ) (flight : List InFlight) → Holds q start end flight → start < end → Head q start end flight
holds-head q start end flight h l =
    go (ordered due flight) refl (ap (map message_of) (sym (between_next q start end l (omega (arith, h.size, h.room)))) ∙ h.is)
  where
    go : (o : List InFlight) → ordered due flight ≡ o
        → message_of (get_or q start nothing) ∷ map message_of (between (suc start) end q) ≡ o → Head q start end flight
    go [] e f = absurd (let w : ◌≡◌ {A = ℕ} 0 1 = cc in omega arith)
    go (m ∷ rest) e f =
        let r : Earliest 0 flight m rest = earliest 0 flight m rest e in
        let g : map message_of (between (suc start) end q) ≡ rest = cc f in
        record {
          m = m;
          rest = rest;
          order = e;
          earliest = r;
          row = cc f;
          taken = record { size = h.size; order = l; room = h.room; is = g ∙ sym r.left };
        }
