-- The head of the messages by due tick is the first entry of the model. Assumes nothing.
use Prim.Native.Nat.{ℕ, zero, suc, ◌+◌, ◌≤◌, ◌<◌}
use mathlib.Core.Path.{◌≡◌, refl, sym, ap, subst, ◌∙◌}
use mathlib.Core.Bool.{Bool, true, false, cond}
use mathlib.Core.List.{List, [], ◌∷◌}
use native.Mathlib.Omega.{arith}
use native.Mathlib.Decide.{dec_le}
use borrow.Author.Tests.{le-leb, lt-leb}
use lib.Dec.{leb}
use lib.ListN.{get_or}
use Rattle.queue.specs.Order.{insert_before, ordered}
use Rattle.model.specs.Platform.{InFlight, message_entries, earlier, first, without, no_message}
use Rattle.queue.specs.Holds.{due, Earliest}
use Rattle.queue.proofs.Orders.{before_here, before_on}

-- an insertion leaves something
not_none : (m : InFlight) (l : List InFlight) → insert_before due m l ≡ [] → ⊥
unfolding insert_before
not_none m [] e = let z : ◌≡◌ {A = ℕ} 0 1 = cc in omega arith
not_none m (x ∷ xs) e = go (leb (due m) (due x)) e
  where
    go : (b : Bool) → cond b (m ∷ (x ∷ xs)) (x ∷ insert_before due m xs) ≡ [] → ⊥
    go true e = let z : ◌≡◌ {A = ℕ} 0 1 = cc in omega arith
    go false e = let z : ◌≡◌ {A = ℕ} 0 1 = cc in omega arith

-- no message by due tick: none in flight
none-ordered : (flight : List InFlight) → ordered due flight ≡ [] → flight ≡ []
unfolding ordered
none-ordered [] e = refl
none-ordered (m ∷ ms) e = absurd (not_none m (ordered due ms) e)

-- one alone
alone : (i : ℕ) (a : InFlight) (flight : List InFlight) → flight ≡ [] → Earliest i (a ∷ flight) a []
unfolding first earlier message_entries ordered without
alone i a flight e =
    let z : i + 0 ≡ i = omega arith in
    rw e (record { place = 0; inside = omega arith; is = refl; sooner = λ k h. absurd (omega arith); first = rw z; left = refl })

-- in front of a first that is not earlier
in-front : (i : ℕ) (a : InFlight) (flight : List InFlight) (x : InFlight) (rest : List InFlight) → ordered due flight ≡ x ∷ rest
    → Earliest (suc i) flight x rest → a.due ≤ x.due → Earliest i (a ∷ flight) a (x ∷ rest)
unfolding first earlier message_entries without
in-front i a flight x rest e r h =
    let z : i + 0 ≡ i = omega arith in
    record {
      place = 0;
      inside = omega arith;
      is = refl;
      sooner = λ k h. absurd (omega arith);
      first = rw (z, r.first, le-leb a.due x.due h);
      left = e;
    }

later-before : (a : InFlight) (flight : List InFlight) (x : InFlight) (n : ℕ) → x.due < a.due
    → ((k : ℕ) → k < n → x.due < (get_or flight k no_message).due) → (k : ℕ) → k < suc n → x.due < (get_or (a ∷ flight) k no_message).due
later-before a flight x n h f zero l = h
later-before a flight x n h f (suc k) l = f k (omega arith)

-- in front of a first that is earlier
behind : (i : ℕ) (a : InFlight) (flight : List InFlight) (x : InFlight) (rest : List InFlight) → Earliest (suc i) flight x rest
    → x.due < a.due → Earliest i (a ∷ flight) x (insert_before due a rest)
unfolding first earlier message_entries ordered without
behind i a flight x rest r h =
    let z : i + suc r.place ≡ suc i + r.place = omega arith in
    record {
      place = suc r.place;
      inside = omega (arith, r.inside);
      is = r.is;
      sooner = later-before a flight x r.place h r.sooner;
      first = rw (z, r.first, lt-leb a.due x.due h);
      left = ap (insert_before due a) r.left;
    }

named : {i : ℕ} {flight : List InFlight} {m n : InFlight} {l r : List InFlight} → m ≡ n → l ≡ r → Earliest i flight m l → Earliest i flight n r
named {i} {flight} {m} {n} {l} {r} p q e =
    subst (λ (x : InFlight). Earliest i flight x r) p (subst (λ (z : List InFlight). Earliest i flight m z) q e)

-- one in front of messages whose order is l
pair : (i : ℕ) (a : InFlight) (flight l : List InFlight) (m : InFlight) (rest : List InFlight) → ordered due flight ≡ l
    → ((x : InFlight) (xs : List InFlight) → l ≡ x ∷ xs → Earliest (suc i) flight x xs)
    → insert_before due a l ≡ m ∷ rest → Earliest i (a ∷ flight) m rest
unfolding insert_before
pair i a flight [] m rest o ih e =
    let p : a ≡ m = cc in
    let q : [] ≡ rest = cc in
    named p q (alone i a flight (none-ordered flight o))
pair i a flight (x ∷ xs) m rest o ih e = go (dec_le a.due x.due)
  where
    go : Dec (a.due ≤ x.due) → Earliest i (a ∷ flight) m rest
    go (yes h) =
        let f : a ∷ (x ∷ xs) ≡ m ∷ rest = sym (before_here due a x xs h) ∙ e in
        let p : a ≡ m = cc f in
        let q : x ∷ xs ≡ rest = cc f in
        named p q (in-front i a flight x xs o (ih x xs refl) h)
    go (no h) =
        let f : x ∷ insert_before due a xs ≡ m ∷ rest = sym (before_on due a x xs (omega arith)) ∙ e in
        let p : x ≡ m = cc f in
        let q : insert_before due a xs ≡ rest = cc f in
        named p q (behind i a flight x xs (ih x xs refl) (omega arith))

pub earliest : (i : ℕ) (flight : List InFlight) (m : InFlight) (rest : List InFlight) → ordered due flight ≡ m ∷ rest → Earliest i flight m rest
unfolding ordered
earliest i [] m rest e = absurd (let z : ◌≡◌ {A = ℕ} 0 1 = cc in omega arith)
earliest i (a ∷ flight) m rest e = pair i a flight (ordered due flight) m rest refl (earliest (suc i) flight) e
