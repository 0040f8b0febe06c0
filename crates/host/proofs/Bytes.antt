-- A record's bytes: what writing puts there is what the definition says, and what is read is what was written. Assumes nothing.
use mathlib.Core.Path.{◌≡◌, refl, sym, ◌∙◌}
use mathlib.Core.List.{List, [], ◌++◌, append_assoc, append-nil}
use Prim.Native.Nat.{ℕ}
use native.Mathlib.Omega.{arith}
use lib.ListN.{length, drop, length-append, length-replicate, drop_of_length-le}
use lib.Seq.{sets, sets-eq, length-sets, take_at}
use Rattle.fields.specs.Fields.{put_at, cleared}
use Rattle.fields.proofs.Bytes.{length-bytes}
use Rattle.fields.proofs.Fields.{put_then, sets-append}
use Rattle.node.specs.declared.Node.{Node}
use Rattle.host.specs.declared.Record.{Record}
use Rattle.limits.specs.Limits.{record_size}
use Rattle.host.specs.Record.{spare_from, numbers_bytes, neighbours_bytes, ticks_bytes, mark_bytes, encode}

-- ---- lengths

pub length-numbers : (r : Record) → length (numbers_bytes r) ≡ 6
unfolding numbers_bytes
length-numbers r = simp (length-append, length-bytes)

pub length-neighbours : (n : Node) → length (neighbours_bytes n) ≡ 10
unfolding neighbours_bytes
length-neighbours n = simp (length-append, length-bytes)

pub length-ticks : (last : ℕ) (n : Node) → length (ticks_bytes last n) ≡ 12
unfolding ticks_bytes
length-ticks last n = simp (length-append, length-bytes)

pub length-mark : (n : Node) → length (mark_bytes n) ≡ 12
unfolding mark_bytes
length-mark n = simp (length-append, length-bytes)

pub length-encode : (r : Record) → length (encode r) ≡ record_size
unfolding encode
length-encode r =
    simp (length-append, length-numbers r, length-neighbours r.node, length-ticks r.last r.node, length-mark r.node, length-replicate)

-- ---- writing

pub put-numbers : (s : List ℕ) (r : Record)
    → sets s 0 (numbers_bytes r) ≡ put_at (put_at (put_at (put_at s 0 1 r.number) 1 1 r.nodes) 2 2 r.h) 4 2 r.w
unfolding numbers_bytes put_at
put-numbers s r = put_then s 0 1 r.number 1 _ refl ∙ put_then _ 1 1 r.nodes 2 _ refl ∙ put_then _ 2 2 r.h 4 _ refl

pub put-neighbours : (s : List ℕ) (n : Node)
    → sets s 6 (neighbours_bytes n) ≡ put_at (put_at (put_at s 6 1 n.emitter) 7 1 n.observer) 8 8 n.list
unfolding neighbours_bytes put_at
put-neighbours s n = put_then s 6 1 n.emitter 7 _ refl ∙ put_then _ 7 1 n.observer 8 _ refl

pub put-ticks : (s : List ℕ) (last : ℕ) (n : Node)
    → sets s 16 (ticks_bytes last n) ≡ put_at (put_at (put_at s 16 4 last) 20 4 n.watch) 24 4 n.heartbeat
unfolding ticks_bytes put_at
put-ticks s last n = put_then s 16 4 last 20 _ refl ∙ put_then _ 20 4 n.watch 24 _ refl

pub put-mark : (s : List ℕ) (n : Node) → sets s 28 (mark_bytes n) ≡ put_at (put_at s 28 4 0) 32 8 n.mark
unfolding mark_bytes put_at
put-mark s n = put_then s 28 4 0 32 _ refl

-- the parts put one after another, and zeros in the rest
pub put_record : (s : List ℕ) (r : Record) → length s ≡ record_size
    → cleared (sets (sets (sets (sets s 0 (numbers_bytes r)) 6 (neighbours_bytes r.node)) 16 (ticks_bytes r.last r.node)) 28
    (mark_bytes r.node)) spare_from record_size ≡ encode r
unfolding cleared encode
put_record s r l =
    let a : List ℕ = numbers_bytes r in
    let b : List ℕ = neighbours_bytes r.node in
    let c : List ℕ = ticks_bytes r.last r.node in
    let d : List ℕ = mark_bytes r.node in
    let all : List ℕ = a ++ (b ++ (c ++ d)) in
    let size : length all ≡ spare_from =
    simp (length-append, length-numbers r, length-neighbours r.node, length-ticks r.last r.node, length-mark r.node) in
    let e : sets (sets (sets (sets s 0 a) 6 b) 16 c) 28 d ≡ sets s 0 all =
    sym (sets-append a (b ++ (c ++ d)) s 0 ∙ rw (length-numbers r) (sets-append b (c ++ d) (sets s 0 a) 6
    ∙ rw (length-neighbours r.node) (sets-append c d (sets (sets s 0 a) 6 b) 16 ∙ rw (length-ticks r.last r.node)))) in
    let f : sets s 0 all ≡ all ++ drop spare_from s = sets-eq all s 0 (omega arith) ∙ rw size in
    let z : drop record_size (sets s 0 all) ≡ [] = drop_of_length-le (sets s 0 all) {i = record_size} (rw (length-sets s 0 all) (omega arith)) in
    rw (e, z, append-nil, f, take_at all (drop spare_from s) spare_from size) (simp append_assoc)
