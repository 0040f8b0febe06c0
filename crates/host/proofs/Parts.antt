-- The message part: the messages that the code puts there are those of the definition. Assumes nothing.
use mathlib.Core.Path.{◌≡◌, refl, sym, ap, ◌∙◌}
use mathlib.Core.List.{List, [], ◌∷◌, ◌++◌, append_assoc}
use Prim.Native.Nat.{ℕ, suc, ◌+◌, ◌-◌, ◌*◌, ◌≤◌, ◌<◌}
use native.Mathlib.Numerals.{add-one}
use native.Mathlib.Nat.{zero-add}
use native.Mathlib.Omega.{arith}
use lib.ListN.{length, get_or, drop, replicate, length-append, length-replicate, drop_of_length-le, replicate-append-replicate}
use lib.Seq.{sets, sets-eq, drop-cons, drop_at}
use Rattle.fields.specs.Fields.{put_at, cleared}
use Rattle.fields.proofs.Bytes.{length-bytes}
use Rattle.fields.proofs.Fields.{put_then, sets-append}
use Rattle.node.specs.declared.Message.{Message}
use Rattle.limits.specs.Limits.{most_sent, message_size, part_size}
use Rattle.host.specs.Call.{message_bytes, sent_bytes, put_messages}

pub length-message : (sender : ℕ) (m : Message) → length (message_bytes sender m) ≡ message_size
unfolding message_bytes
length-message sender m = simp (length-append, length-bytes)

pub length-sent : (sender : ℕ) (ms : List Message) → length (sent_bytes sender ms) ≡ length ms * message_size
unfolding sent_bytes
length-sent sender [] = refl
length-sent sender (m ∷ ms) =
    length-append (message_bytes sender m) (sent_bytes sender ms) ∙ rw (length-message sender m, length-sent sender ms) (omega arith)

pub put-message : (part : List ℕ) (at sender : ℕ) (m : Message)
    → sets part at (message_bytes sender m)
    ≡ put_at (put_at (put_at (put_at (put_at (put_at part at 1 m.kind) (at + 1) 1 m.to) (at + 2) 1 sender) (at + 3) 1 m.subject) (at + 4) 4 0)
    (at + 8) 8 m.list
unfolding message_bytes put_at
put-message part at sender m =
    put_then part at 1 m.kind (at + 1) _ refl ∙ put_then _ (at + 1) 1 m.to (at + 2) _ (omega arith)
    ∙ put_then _ (at + 2) 1 sender (at + 3) _ (omega arith) ∙ put_then _ (at + 3) 1 m.subject (at + 4) _ (omega arith)
    ∙ put_then _ (at + 4) 4 0 (at + 8) _ (omega arith)

-- ---- the loop that puts them

module _ (sender : ℕ) (sent : List Message) where
  -- what is still to be put once i of the messages stand
  unfoldable pub rest : List ℕ → ℕ → List ℕ
  rest part i = sets part (i * message_size) (sent_bytes sender (drop i sent))

  pub rest-turn : (part : List ℕ) (i : ℕ) → i < length sent → (z : Message)
      → rest part i ≡ rest (sets part (i * message_size) (message_bytes sender (get_or sent i z))) (i + 1)
  unfolding rest sent_bytes
  rest-turn part i h z =
      let e : i * message_size + message_size ≡ suc i * message_size = omega arith in
      rw (add-one, drop-cons sent i z h)
      (sets-append (message_bytes sender (get_or sent i z)) (sent_bytes sender (drop (suc i) sent)) part (i * message_size)
      ∙ rw (length-message sender (get_or sent i z), e))

  pub rest_end : (part : List ℕ) (i : ℕ) → length sent ≤ i → rest part i ≡ part
  unfolding rest sent_bytes
  rest_end part i h = rw (drop_of_length-le sent {i = i} h)

-- messages put over a part that has been cleared
pub put-over-zeros : (part : List ℕ) (sender : ℕ) (ms : List Message) → part_size ≤ length part → length ms ≤ most_sent
    → sets (cleared part 0 part_size) 0 (sent_bytes sender ms) ≡ put_messages part sender ms
unfolding cleared put_messages
put-over-zeros part sender ms h l =
    let bs : List ℕ = sent_bytes sender ms in
    let k : ℕ = length ms * message_size in
    let e : length bs ≡ k = length-sent sender ms in
    let tail : List ℕ = drop part_size part in
    let f : part_size ≡ k + (part_size - k) = omega arith in
    let n : length (replicate part_size 0 ++ tail) ≡ part_size + length tail = rw (length-append, length-replicate) in
    let d : drop k (replicate part_size 0 ++ tail) ≡ replicate (part_size - k) 0 ++ tail =
    ap (λ (m : ℕ). drop k (replicate m 0 ++ tail)) f
    ∙ ap (λ (x : List ℕ). drop k (x ++ tail)) (sym (replicate-append-replicate k (part_size - k) 0))
    ∙ ap (drop k) (append_assoc (replicate k 0) (replicate (part_size - k) 0) tail)
    ∙ drop_at (replicate k 0) (replicate (part_size - k) 0 ++ tail) k (length-replicate k 0) in
    sets-eq bs (replicate part_size 0 ++ tail) 0 (omega arith) ∙ ap (λ (x : List ℕ). bs ++ x) (rw (e, zero-add) d)

-- after the last turn of the loop, from a part that was cleared
pub put_all : (sender : ℕ) (sent : List Message) (part cleared-part now : List ℕ) (i : ℕ) → cleared-part ≡ cleared part 0 part_size
    → rest sender sent cleared-part 0 ≡ rest sender sent now i → length sent ≤ i → length sent ≤ most_sent → part_size ≤ length part
    → now ≡ put_messages part sender sent
unfolding rest
put_all sender sent part cleared-part now i cq e h k p =
    sym (e ∙ rest_end sender sent now i h)
    ∙ ap (λ (x : List ℕ). sets x 0 (sent_bytes sender sent)) cq
    ∙ put-over-zeros part sender sent p k
