-- The unused bytes of a store: what was encoded has zeros there, and a test of them, kind by kind of rows. Assumes nothing.
use Prim.Native.Nat.{ℕ, ◌+◌, ◌-◌, ◌*◌, ◌≤◌}
use mathlib.Core.Path.{◌≡◌, refl, sym, ◌∙◌}
use mathlib.Core.Bool.{true, ◌&&◌, and-eq-true_iff, and-true}
use mathlib.Core.List.{List, [], ◌∷◌, ◌++◌, append_assoc}
use native.Mathlib.Nat.{mul-le-mul_left}
use native.Mathlib.Omega.{arith}
use borrow.Author.Tests.{eqb-true}
use lib.Dec.{eqb}
use lib.ListN.{length, replicate, length-append, length-replicate}
use lib.Seq.{slice, slice_empty, take_at, drop_at}
use Rattle.fields.proofs.Zeros.{zeros-replicate}
use Rattle.fields.specs.Fields.{zeros}
use Rattle.plans.specs.Plan.{Plan}
use Rattle.model.specs.Platform.{State}
use Rattle.store.specs.Columns.{Column, Part, size, used, packs, column_bytes, bytes_of, rest_zero, unused_test, columns_of, places_test, rest_test}
use Rattle.store.specs.Store.{spare_head, spare_tail}
use Rattle.store.specs.Store.{head_parts, ring_parts, node_parts, crash_parts, delay_parts, message_parts, contents, columns, encode}
use Rattle.store.specs.Inside.{Fits}
use Rattle.store.proofs.Parts.{length-packs}
use Rattle.store.proofs.Columns.{Laid, length-column}
use Rattle.store.proofs.Groups.{unused-append, rests-test}
use Rattle.store.proofs.Store.{laid, head-places}

-- ---- what was encoded

-- the unused bytes of a column that stands after a and before z
unused-column : (a z : List ℕ) (c : Column) → length a ≡ c.field.at → length c.values ≤ c.field.places
    → zeros (slice (c.field.at + used c) (c.field.at + size c.field) (a ++ (column_bytes c ++ z))) ≡ true
unfolding column_bytes
unused-column a z c starts room =
    let w : ℕ = c.field.width in
    let k : ℕ = size c.field - used c in
    let front : List ℕ = a ++ packs w c.values in
    let blank : List ℕ = replicate k 0 in
    let le : used c ≤ size c.field = mul-le-mul_left w room in
    let split : a ++ ((packs w c.values ++ blank) ++ z) ≡ (front ++ blank) ++ z = simp append_assoc in
    let before : length front ≡ c.field.at + used c = length-append a (packs w c.values) ∙ rw (starts, length-packs w c.values) in
    let whole : length (front ++ blank) ≡ c.field.at + size c.field =
    length-append front blank ∙ rw (before, length-replicate {A = ℕ} k 0) (omega arith) in
    rw (split, take_at (front ++ blank) z (c.field.at + size c.field) whole, drop_at front blank (c.field.at + used c) before) (zeros-replicate k)

-- columns one after another, after bytes that end at o
unused-from : (a : List ℕ) (cs : List Column) (o : ℕ) → length a ≡ o → Laid o cs → unused_test (a ++ bytes_of cs) cs ≡ true
unfolding Laid bytes_of unused_test
unused-from a [] o starts l = refl
unused-from a (c ∷ cs) o starts l =
    let ends : length (a ++ column_bytes c) ≡ o + size c.field = length-append a (column_bytes c) ∙ rw (starts, length-column c l.1) in
    let rest : unused_test (a ++ (column_bytes c ++ bytes_of cs)) cs ≡ true =
    rw (← append_assoc a (column_bytes c) (bytes_of cs)) (unused-from (a ++ column_bytes c) cs (o + size c.field) ends l.2) in
    rw (unused-column a (bytes_of cs) c (starts ∙ sym l.0) l.1, rest)

pub unused-encode : (p : Plan) (s : State) → Fits p s → unused_test (encode p s) (columns p s) ≡ true
unfolding encode
unused-encode p s f = unused-from [] (columns p s) 0 refl (laid p s f)

-- ---- the test, kind by kind

-- where all places are in use, none is left
rest-full : {A : Type 0} (k : ℕ) (gs : List (Part A)) (b : List ℕ) → places_test k gs ≡ true → rest_test gs b k ≡ true
unfolding places_test rest_test zeros
rest-full k [] b h = refl
rest-full k (g ∷ gs) b h =
    let h' = (and-eq-true_iff (eqb g.field.places k) (places_test k gs)).0 h in
    let places : g.field.places ≡ k = eqb-true g.field.places k h'.0 in
    rw (places, slice_empty (g.field.at + g.field.width * k) b, rest-full k gs b h'.1)

pub unused-parts : (b : List ℕ) (p : Plan) (s : State) → unused_test b (columns p s)
    ≡ (rest_zero b spare_head 0 && (rest_test ring_parts b (length p.ring) && (rest_test node_parts b (length s.nodes)
    && (rest_test crash_parts b (length p.crashes) && (rest_test delay_parts b (length p.delays)
    && (rest_test message_parts b (length s.flight) && rest_zero b spare_tail 0))))))
unfolding unused_test columns
unused-parts b p s =
    rw (
      unused-append b (columns_of head_parts (contents p s ∷ [])),
      unused-append b (columns_of ring_parts p.ring),
      unused-append b (columns_of node_parts s.nodes),
      unused-append b (columns_of crash_parts p.crashes),
      unused-append b (columns_of delay_parts p.delays),
      unused-append b (columns_of message_parts s.flight),
      rests-test (contents p s ∷ []) b head_parts,
      rest-full 1 head_parts b head-places,
      rests-test p.ring b ring_parts,
      rests-test s.nodes b node_parts,
      rests-test p.crashes b crash_parts,
      rests-test p.delays b delay_parts,
      rests-test s.flight b message_parts,
      and-true (rest_zero b spare_tail 0),
    )
