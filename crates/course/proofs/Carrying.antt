-- The messages taken out of a store into a queue, and put back. Assumes nothing.
use Prim.Native.Nat.{ℕ, suc, ◌+◌, ◌-◌, ◌≤◌, ◌<◌}
use mathlib.Core.Path.{◌≡◌, refl, sym, ap, ap₂, subst, ◌∙◌}
use mathlib.Core.List.{List, [], ◌∷◌, ◌++◌, map, map-append}
use native.Mathlib.Numerals.{add-one}
use native.Mathlib.Omega.{arith}
use lib.ListN.{length, get_or, set, take, drop, length-take, length-map}
use lib.Seq.{take-suc, take_all}
use Rattle.std.proofs.lemmas.List.{length-set, length-take-le, length-append, length-drop, take_at, take_more, take_more_set, get_or-map}
use Rattle.limits.specs.Limits.{most_in_flight}
use Rattle.plans.specs.Plan.{Plan}
use Rattle.model.specs.Platform.{InFlight, State, message_at, no_message}
use Rattle.model.specs.Range.{Rises}
use Rattle.store.specs.Store.{encode, plan_in, state_in}
use Rattle.store.specs.Inside.{Fits, Held, flying, message_of, with_flight}
use Rattle.store.specs.declared.Flight.{Flight}
use Rattle.store.proofs.Store.{plan-encode, state-encode, held-encode}
use Rattle.event.specs.Ready.{Ready}
use Rattle.event.proofs.Readiness.{ready-sound}
use Rattle.queue.specs.Order.{Every, From, Climbing, ordered}
use Rattle.queue.specs.Rows.{places, key_of, nothing}
use Rattle.queue.specs.Holds.{number}
use Rattle.queue.proofs.Orders.{length-ordered}
use Rattle.queue.proofs.Queues.{holds-fill, holds-back}
use Rattle.queue.specs.declared.Key.TheVariants.{Due, Number}
use Rattle.std.specs.List.{between}
use Rattle.course.specs.Apart.{bare, Apart}
use Rattle.course.specs.Carry.{Listed, Emptied}
use Rattle.course.proofs.Flights.{flight-again, flight-of, one_more, first_fits}

-- ---- a store's messages put into a queue

module _ (b : List ℕ) (q : List Flight) where
  abbrev ms : List InFlight
  ms = (state_in b).flight

  pub listed-none : length q ≡ places → Listed q 0 (take 0 ms)
  listed-none h = record { size = h; room = omega arith; is = refl }

  pub listed-all : (n : ℕ) → n ≡ length ms → Listed q n (take n ms) → Listed q n ms
  listed-all n l h = subst (Listed q n) (take_all n ms (omega arith)) h

  -- the message at place i is put there
  pub listed_more : (i : ℕ) → i < length ms → i < places → Listed q i (take i ms) → (m : Flight) → m ≡ flying (message_at (state_in b) i)
      → Listed (set q i m) (i + 1) (take (i + 1) ms)
  listed_more i less few h m e = record {
    size = length-set q i m ∙ h.size;
    room = omega arith;
    is =
        ap (map message_of) (take_more_set q i m (omega (arith, h.size)))
        ∙ (map-append message_of (take i q) (m ∷ [])
        ∙ (ap₂ (λ (l : List InFlight) (x : InFlight). l ++ (x ∷ [])) h.is (ap message_of e) ∙ sym (take_more ms i no_message less)));
  }

-- put in order of due tick, they stand for the store that they are taken out of
pub listed-apart : (b : List ℕ) (q r : List Flight) (n : ℕ) → Held b → Listed q n (state_in b).flight
    → r ≡ ordered (key_of Due) (take n q) → (b' : List ℕ) → b' ≡ bare b → Apart b' (r ++ drop n q) 0 n b
listed-apart b q r n h l o b' e =
    let m : length r ≡ n =
    ap length o ∙ (length-ordered (key_of Due) (take n q) ∙ length-take-le n q (omega (arith, l.size, l.room))) in
    let size : length (r ++ drop n q) ≡ places = omega (arith, length-append r (drop n q), length-drop n q, m, l.size, l.room) in
    record { held = h; is = e; holds = holds-fill q (r ++ drop n q) n (state_in b).flight size l.room l.is (take_at r (drop n q) n m ∙ o) }

-- ---- a store with the first of its messages only

-- b is `whole` with its first k messages
pub record Prefix (whole : List ℕ) (k : ℕ) (b : List ℕ) : Type 0 where
  pub within : k ≤ length (state_in whole).flight
  pub is : b ≡ encode (plan_in whole) (with_flight (state_in whole) (take k (state_in whole).flight))

module _ (whole : List ℕ) (held : Held whole) where
  abbrev p : Plan
  p = plan_in whole

  abbrev s : State
  s = state_in whole

  prefix-all : (k : ℕ) (b : List ℕ) → Prefix whole k b → k ≡ length s.flight → b ≡ whole
  prefix-all k b h e =
      h.is ∙ (ap (encode p) (ap (with_flight s) (take_all k s.flight (omega arith)) ∙ flight-again s) ∙ sym held.canonical)

  pub prefix-none : (b : List ℕ) → b ≡ bare whole → Prefix whole 0 b
  unfolding bare
  prefix-none b e = record { within = omega arith; is = e }

  module _ (k : ℕ) (b : List ℕ) (h : Prefix whole k b) where
    abbrev part : State
    part = with_flight s (take k s.flight)

    fits : Fits p part
    fits = first_fits p s held.fits (length s.flight - k) k (omega (arith, h.within))

    prefix-held : Held b
    prefix-held = rw h.is (held-encode p part fits)

    plan-is : plan_in b ≡ p
    plan-is = ap plan_in h.is ∙ plan-encode p part fits

    state-is : state_in b ≡ part
    state-is = ap state_in h.is ∙ state-encode p part fits

    prefix-length : length (state_in b).flight ≡ k
    prefix-length =
        ap (λ (z : State). length z.flight) state-is
        ∙ (ap length (flight-of s (take k s.flight)) ∙ omega (arith, length-take k s.flight, h.within))

    -- one message more
    prefix-more : (b' : List ℕ) (m : Flight) → k < length s.flight → message_of m ≡ get_or s.flight k no_message
        → b' ≡ encode (plan_in b) (with_flight (state_in b) ((state_in b).flight ++ (message_of m ∷ []))) → Prefix whole (suc k) b'
    prefix-more b' m l me e =
        let next : part.flight ++ (message_of m ∷ []) ≡ take (suc k) s.flight =
        ap₂ (λ (ms : List InFlight) (x : InFlight). ms ++ (x ∷ [])) (flight-of s (take k s.flight)) me
        ∙ sym (take-suc s.flight k no_message l) in
        record {
          within = l;
          is =
              e
              ∙ (ap₂ (λ (r : Plan) (z : State). encode r (with_flight z (z.flight ++ (message_of m ∷ [])))) plan-is state-is
              ∙ ap (encode p) (one_more s (take k s.flight) (part.flight ++ (message_of m ∷ [])) ∙ ap (with_flight s) next));
        }

-- ---- out of the queue

rising-from : (k lo hi : ℕ) (ms : List InFlight) → k ≤ lo → Rises lo hi ms → From number k ms
unfolding Rises Every
rising-from k lo hi [] h r = tt
rising-from k lo hi (m ∷ ms) h r = (omega (arith, r.0), rising-from k (suc m.number) hi ms (omega (arith, r.0)) r.1)

climbing : (lo hi : ℕ) (ms : List InFlight) → Rises lo hi ms → Climbing number ms
unfolding Rises Climbing
climbing lo hi [] r = tt
climbing lo hi (m ∷ ms) r =
    (rising-from (suc m.number) (suc m.number) hi ms (omega arith) r.1, climbing (suc m.number) hi ms r.1)

-- a ready store's messages stand in order of number
pub apart-emptied : (b : List ℕ) (q : List Flight) (start end : ℕ) (whole : List ℕ) → Ready whole → Apart b q start end whole
    → Emptied b (ordered (key_of Number) (between start end q)) whole
apart-emptied b q start end whole r s = record {
  ready = r;
  is = s.is;
  listed =
      holds-back q start end (state_in whole).flight s.holds
      (climbing 0 (state_in whole).next (state_in whole).flight (ready-sound whole r).rises);
}

-- ---- back into the store

-- the message at place i
module _ (b : List ℕ) (l : List Flight) (whole : List ℕ) (g : Emptied b l whole) (i : ℕ) (less : i < length l) where
  count : length (state_in whole).flight ≡ length l
  count = sym (ap length g.listed) ∙ length-map l message_of

  module _ (b₁ : List ℕ) (h : Prefix whole i b₁) where
    pub append-room : Held b₁ × (length (state_in b₁).flight < most_in_flight)
    append-room = (
      prefix-held whole g.ready.held i b₁ h,
      omega (arith, less, count, prefix-length whole g.ready.held i b₁ h, g.ready.held.fits.counts.messages),
    )

    pub append-turn : (m : Flight) → m ≡ get_or l i nothing → (b₂ : List ℕ)
        → b₂ ≡ encode (plan_in b₁) (with_flight (state_in b₁) ((state_in b₁).flight ++ (message_of m ∷ []))) → Prefix whole (i + 1) b₂
    append-turn m e b₂ k =
        let in_whole : message_of m ≡ get_or (state_in whole).flight i no_message =
        ap message_of e ∙ (sym (get_or-map message_of l i nothing no_message less) ∙ ap (λ (z : List InFlight). get_or z i no_message) g.listed) in
        rw (add-one i) (prefix-more whole g.ready.held i b₁ h b₂ m (omega (arith, less, count)) in_whole k)

pub append-end : (b : List ℕ) (l : List Flight) (whole : List ℕ) → Emptied b l whole → (b' : List ℕ) → Prefix whole (length l) b' → b' ≡ whole
append-end b l whole g b' h =
    prefix-all whole g.ready.held (length l) b' h (sym (length-map l message_of) ∙ ap length g.listed)
