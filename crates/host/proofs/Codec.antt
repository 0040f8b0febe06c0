-- What is read from the bytes of a record in range is that record. Assumes nothing.
use mathlib.Core.Path.{◌≡◌, refl, sym, ap, ◌∙◌}
use mathlib.Core.Bool.{true}
use mathlib.Core.List.{List, [], ◌++◌, append_assoc}
use Prim.Native.Nat.{ℕ, ◌+◌, ◌-◌, ◌^◌, ◌<◌}
use native.Mathlib.Nat.{lt_of_lt_of_le, pow-le-pow_right}
use native.Mathlib.Omega.{arith}
use borrow.Author.Tests.{eq-eqb}
use lib.Dec.{lit<}
use lib.ListN.{length, drop, replicate, length-append}
use lib.Seq.{slice, drop-append-add, drop_at, take_at, take_all}
use Rattle.fields.specs.Fields.{bytes, field_at, zeros}
use Rattle.fields.proofs.Bytes.{length-bytes}
use Rattle.fields.proofs.Fields.{field-part}
use Rattle.fields.proofs.Zeros.{zeros-replicate}
use Rattle.ring.proofs.Lists.{part-le}
use Rattle.host.specs.declared.Record.{Record}
use Rattle.limits.specs.Limits.{record_size}
use Rattle.host.specs.Record.{gap_from, mark_at, spare_from, numbers_bytes, neighbours_bytes, ticks_bytes, mark_bytes, encode, decode, sound}
use Rattle.host.proofs.Bytes.{length-numbers, length-neighbours, length-ticks, length-mark, length-encode}
use Rattle.host.proofs.Facts.{InRange, facts-in-range}

-- ---- a field after others

past : (a rest : List ℕ) (n k at width : ℕ) → length a ≡ n → at ≡ n + k → field_at (a ++ rest) at width ≡ field_at rest k width
unfolding field_at
past a rest n k at width l e = rw (e, ← l, drop-append-add a rest k)

after : (w x : ℕ) (rest : List ℕ) (k at width : ℕ) → at ≡ w + k → field_at (bytes w x ++ rest) at width ≡ field_at rest k width
after w x rest k at width e = past (bytes w x) rest w k at width (length-bytes w x) e

here : (w x : ℕ) (rest : List ℕ) → x < 256 ^ w → field_at (bytes w x ++ rest) 0 w ≡ x
here w x rest h = field-part [] rest 0 w x refl h

-- ---- a part between others

slice-part : (a b rest : List ℕ) (from to : ℕ) → length a ≡ from → from + length b ≡ to → slice from to (a ++ (b ++ rest)) ≡ b
slice-part a b rest from to l e =
    ap (λ (x : List ℕ). slice from to x) (sym (append_assoc a b rest))
    ∙ ap (drop from) (take_at (a ++ b) rest to (length-append a b ∙ rw l e)) ∙ drop_at a b from l

-- ---- the parts of a record

module _ (r : Record) (f : InRange r) (rest : List ℕ) where
  numbers-flat : numbers_bytes r ++ rest ≡ bytes 1 r.number ++ (bytes 1 r.nodes ++ (bytes 2 r.h ++ (bytes 2 r.w ++ rest)))
  unfolding numbers_bytes
  numbers-flat = simp append_assoc

  number-here : field_at (numbers_bytes r ++ rest) 0 1 ≡ r.number
  number-here = rw numbers-flat (here 1 r.number _ (omega (arith, f.openable.below, f.openable.most)))

  nodes-here : field_at (numbers_bytes r ++ rest) 1 1 ≡ r.nodes
  nodes-here = rw numbers-flat (after 1 r.number _ 0 1 1 refl ∙ here 1 r.nodes _ (omega (arith, f.openable.most)))

  h-here : field_at (numbers_bytes r ++ rest) 2 2 ≡ r.h
  h-here =
      rw numbers-flat
      (after 1 r.number _ 1 2 2 refl ∙ after 1 r.nodes _ 0 1 2 refl ∙ here 2 r.h _ (omega (arith, f.openable.h-most)))

  w-here : field_at (numbers_bytes r ++ rest) 4 2 ≡ r.w
  w-here =
      rw numbers-flat
      (after 1 r.number _ 3 4 2 refl ∙ after 1 r.nodes _ 2 3 2 refl ∙ after 2 r.h _ 0 2 2 refl
      ∙ here 2 r.w _ (omega (arith, f.openable.w-most)))

  neighbours-flat : neighbours_bytes r.node ++ rest ≡ bytes 1 r.node.emitter ++ (bytes 1 r.node.observer ++ (bytes 8 r.node.list ++ rest))
  unfolding neighbours_bytes
  neighbours-flat = simp append_assoc

  emitter-here : field_at (neighbours_bytes r.node ++ rest) 0 1 ≡ r.node.emitter
  emitter-here = rw neighbours-flat (here 1 r.node.emitter _ (omega (arith, f.fields.emitter, f.openable.most)))

  observer-here : field_at (neighbours_bytes r.node ++ rest) 1 1 ≡ r.node.observer
  observer-here =
      rw neighbours-flat
      (after 1 r.node.emitter _ 0 1 1 refl ∙ here 1 r.node.observer _ (omega (arith, f.fields.observer, f.openable.most)))

  list-fits : r.node.list < 2 ^ 64
  list-fits = lt_of_lt_of_le f.fields.list (pow-le-pow_right {n = 2} (lit< tt) f.openable.most)

  list-here : field_at (neighbours_bytes r.node ++ rest) 2 8 ≡ r.node.list
  list-here =
      rw neighbours-flat
      (after 1 r.node.emitter _ 1 2 8 refl ∙ after 1 r.node.observer _ 0 1 8 refl ∙ here 8 r.node.list _ list-fits)

  ticks-flat : ticks_bytes r.last r.node ++ rest ≡ bytes 4 r.last ++ (bytes 4 r.node.watch ++ (bytes 4 r.node.heartbeat ++ rest))
  unfolding ticks_bytes
  ticks-flat = simp append_assoc

  last-here : field_at (ticks_bytes r.last r.node ++ rest) 0 4 ≡ r.last
  last-here = rw ticks-flat (here 4 r.last _ (omega (arith, f.last)))

  watch-here : field_at (ticks_bytes r.last r.node ++ rest) 4 4 ≡ r.node.watch
  watch-here =
      rw ticks-flat
      (after 4 r.last _ 0 4 4 refl ∙ here 4 r.node.watch _ (omega (arith, f.fields.watch, f.last, f.openable.w-most)))

  heartbeat-here : field_at (ticks_bytes r.last r.node ++ rest) 8 4 ≡ r.node.heartbeat
  heartbeat-here =
      rw ticks-flat
      (after 4 r.last _ 4 8 4 refl ∙ after 4 r.node.watch _ 0 4 4 refl
      ∙ here 4 r.node.heartbeat _ (omega (arith, f.fields.heartbeat, f.last, f.openable.h-most)))

  mark-flat : mark_bytes r.node ++ rest ≡ bytes 4 0 ++ (bytes 8 r.node.mark ++ rest)
  unfolding mark_bytes
  mark-flat = append_assoc (bytes 4 0) (bytes 8 r.node.mark) rest

  mark-here : field_at (mark_bytes r.node ++ rest) 4 8 ≡ r.node.mark
  mark-here =
      let h : r.node.mark < 2 ^ 64 = omega (arith, list-fits, part-le r.node.mark r.node.list f.fields.mark) in
      rw mark-flat (after 4 0 _ 0 4 8 refl ∙ here 8 r.node.mark _ h)

-- ---- the whole

module _ (r : Record) where
  abbrev spare : List ℕ
  spare = replicate (record_size - spare_from) 0

  -- what follows the timers
  abbrev tail : List ℕ
  tail = mark_bytes r.node ++ spare

  in-neighbours : (k at width : ℕ) → at ≡ 6 + k
      → field_at (encode r) at width ≡ field_at (neighbours_bytes r.node ++ (ticks_bytes r.last r.node ++ tail)) k width
  unfolding encode
  in-neighbours k at width e = past (numbers_bytes r) _ 6 k at width (length-numbers r) e

  in-ticks : (k at width : ℕ) → at ≡ 16 + k → field_at (encode r) at width ≡ field_at (ticks_bytes r.last r.node ++ tail) k width
  in-ticks k at width e =
      in-neighbours (10 + k) at width (omega arith) ∙ past (neighbours_bytes r.node) _ 10 k (10 + k) width (length-neighbours r.node) refl

  in-mark : (k at width : ℕ) → at ≡ 28 + k → field_at (encode r) at width ≡ field_at tail k width
  in-mark k at width e =
      in-ticks (12 + k) at width (omega arith) ∙ past (ticks_bytes r.last r.node) _ 12 k (12 + k) width (length-ticks r.last r.node) refl

  pub decode-encode : InRange r → decode (encode r) ≡ r
  unfolding decode encode
  decode-encode f =
      let ticks : List ℕ = ticks_bytes r.last r.node ++ tail in
      rw (
        number-here r f (neighbours_bytes r.node ++ ticks),
        nodes-here r f (neighbours_bytes r.node ++ ticks),
        h-here r f (neighbours_bytes r.node ++ ticks),
        w-here r f (neighbours_bytes r.node ++ ticks),
        in-neighbours 0 6 1 refl,
        emitter-here r f ticks,
        in-neighbours 1 7 1 refl,
        observer-here r f ticks,
        in-neighbours 2 8 8 refl,
        list-here r f ticks,
        in-ticks 0 16 4 refl,
        last-here r f tail,
        in-ticks 4 20 4 refl,
        watch-here r f tail,
        in-ticks 8 24 4 refl,
        heartbeat-here r f tail,
        in-mark 4 32 8 refl,
        mark-here r f spare,
      )

  -- the bytes before the mark's part
  abbrev front : List ℕ
  front = numbers_bytes r ++ (neighbours_bytes r.node ++ ticks_bytes r.last r.node)

  length_front : length front ≡ gap_from
  length_front = simp (length-append, length-numbers r, length-neighbours r.node, length-ticks r.last r.node)

  encode-front : encode r ≡ front ++ tail
  unfolding encode
  encode-front =
      sym (append_assoc (numbers_bytes r) _ tail
      ∙ ap (λ (l : List ℕ). numbers_bytes r ++ l) (append_assoc (neighbours_bytes r.node) (ticks_bytes r.last r.node) tail))

  encode-gap : zeros (slice gap_from mark_at (encode r)) ≡ true
  unfolding mark_bytes zeros bytes
  encode-gap =
      let m : List ℕ = bytes 8 r.node.mark ++ spare in
      let e : encode r ≡ front ++ (bytes 4 0 ++ m) =
      encode-front ∙ ap (λ (l : List ℕ). front ++ l) (append_assoc (bytes 4 0) (bytes 8 r.node.mark) spare) in
      rw (e, slice-part front (bytes 4 0) m gap_from mark_at length_front refl) refl

  encode-spare : zeros (slice spare_from record_size (encode r)) ≡ true
  encode-spare =
      let l : length (front ++ mark_bytes r.node) ≡ spare_from =
      length-append front (mark_bytes r.node) ∙ rw (length_front, length-mark r.node) in
      let e : encode r ≡ (front ++ mark_bytes r.node) ++ spare = encode-front ∙ sym (append_assoc front (mark_bytes r.node) spare) in
      let d : slice spare_from record_size (encode r) ≡ spare =
      ap (drop spare_from) (take_all record_size (encode r) (omega (arith, length-encode r)) ∙ e)
      ∙ drop_at (front ++ mark_bytes r.node) spare spare_from l in
      rw d (zeros-replicate (record_size - spare_from))

  -- the bytes of a record in range are those of a record that a call takes
  pub encode-sound : InRange r → sound (encode r) ≡ true
  unfolding sound
  encode-sound f =
      rw (eq-eqb (length (encode r)) record_size (length-encode r), encode-gap, encode-spare, decode-encode f) (facts-in-range r f)
