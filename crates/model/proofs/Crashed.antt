-- The nodes that `alive` calls dead after some events are exactly those whose C line's event is among these. Assumes nothing.
use mathlib.Core.Path.{◌≡◌, refl, sym, ap, ◌∙◌}
use mathlib.Core.Logic.{◌⊎◌, inl, inr}
use mathlib.Core.Bool.{Bool, true, false, not}
use mathlib.Core.List.Memᴰ
use mathlib.Core.List.{List, [], ◌∷◌, Memᴰ}
use Prim.Native.Nat.{ℕ, zero, suc, ◌≤◌, ◌<◌}
use native.Mathlib.Omega.{arith}
use native.Mathlib.Decide.{ℕ_discrete}
use lib.ListN.{length, get_or, take, length-take}
use lib.Seq.{get_or-take}
use Rattle.plans.specs.Plan.{Crash, Plan, hits}
use Rattle.model.specs.Platform.{State, Event, Entry, crash, message, watch, heartbeat, alive, start, taken, apply, Outcome, did}
use Rattle.model.specs.Platform.{entry, crash_entry, ended, refused, try, left, steps, events_from, first_events, after}
use Rattle.plans.specs.Plain.{no_crash, row_at, Plain}
use Rattle.model.specs.Range.{Sound}
use Rattle.model.specs.Claims.{CrashedAre}
use Rattle.model.proofs.NextEvent.{Chosen}
use Rattle.plans.proofs.Rows.{hit-of, hit-where}
use Rattle.model.proofs.Calls.{stuck}
use Rattle.model.proofs.RangesKept.{at_in, start-range, Tried, happened, none_left, too-many, try_ok, left-range, after-range}

same-node : {j k : ℕ} → crash j ≡ crash k → j ≡ k
same-node e = cc e

module _ (p : Plan) (pl : Plain p) where
  -- an event e leads from s to s': the next C line's, or one that is no crash
  abbrev Counts : State → Entry → State → Type 0
  Counts s e s' =
      ((s.done < length p.crashes) × (s'.done ≡ suc s.done) × (e ≡ crash_entry (row_at p s.done)))
      ⊎ ((s'.done ≡ s.done) × ((r : Crash) → crash_entry r ≡ e → ⊥))

  counts : (s : State) (t : ℕ) (e : Event) → Chosen p pl s t e → Counts s (entry t e) (apply p s t e)
  unfolding Chosen apply taken
  counts s t (crash k) ch = inl (ch.0, refl, rw (ch.1, ch.2))
  counts s t (message i) ch = inr (refl, λ r q. let e = ap (λ (a : Entry). a.event) q in let z : ◌≡◌ {A = ℕ} 0 1 = cc e in omega arith)
  counts s t (watch x) ch = inr (refl, λ r q. let e = ap (λ (a : Entry). a.event) q in let z : ◌≡◌ {A = ℕ} 0 1 = cc e in omega arith)
  counts s t (heartbeat x) ch = inr (refl, λ r q. let e = ap (λ (a : Entry). a.event) q in let z : ◌≡◌ {A = ℕ} 0 1 = cc e in omega arith)

  -- a try keeps or raises the count of C lines done
  one_more : (s : State) (o : Outcome) → Tried p pl s o → s.done ≤ (left s o).done
  unfolding left
  one_more s o (happened e b a ch f) = go (counts s e.tick e.event ch)
    where
      go : Counts s e (apply p s e.tick e.event) → s.done ≤ (apply p s e.tick e.event).done
      go (inl c) = omega (arith, c.1)
      go (inr c) = omega (arith, c.0)
  one_more s o (none_left h) = omega arith
  one_more s o (too-many e ch h) = omega arith

  more : (k : ℕ) (s : State) → Sound p s → s.done ≤ (steps p k s).done
  unfolding steps
  more zero s r = omega arith
  more (suc k) s r =
      let t : Tried p pl s (try p s) = try_ok p pl s r in
      omega (arith, one_more s (try p s) t, more k (left s (try p s)) (left-range p pl s r (try p s) t))

  abbrev rest : ℕ → State → Outcome → List Entry
  rest k s o = elim o [ did e s' ↦ e ∷ events_from p k s' | ended ↦ [] | refused ↦ [] ]

  -- the C lines that k tries do are among their events
  row-among : (k : ℕ) (s : State) → Sound p s → (i : ℕ) → s.done ≤ i → i < (steps p k s).done
      → Memᴰ (crash_entry (row_at p i)) (events_from p k s)
  unfolding steps events_from left
  row-among zero s r i a b = absurd (omega arith)
  row-among (suc k) s r i a b = go (try p s) refl (try_ok p pl s r) (row-among k) b
    where
      go : (o : Outcome) → try p s ≡ o → Tried p pl s o
          → ((s' : State) → Sound p s' → (j : ℕ) → s'.done ≤ j → j < (steps p k s').done
          → Memᴰ (crash_entry (row_at p j)) (events_from p k s'))
          → i < (steps p k (left s o)).done → Memᴰ (crash_entry (row_at p i)) (rest k s o)
      go o q (happened e b a' ch f) ih l = at (counts s e.tick e.event ch)
        where
          s' : State
          s' = apply p s e.tick e.event

          later : s'.done ≤ i → Memᴰ (crash_entry (row_at p i)) (events_from p k s')
          later h = ih s' (left-range p pl s r (did e s') (happened e b a' ch f)) i h l

          first : (e ≡ crash_entry (row_at p s.done)) → Dec (i ≡ s.done) → s'.done ≡ suc s.done
              → Memᴰ (crash_entry (row_at p i)) (e ∷ events_from p k s')
          first q (yes h) d = Memᴰ.head (ap (λ (j : ℕ). crash_entry (row_at p j)) h ∙ sym q)
          first q (no h) d = Memᴰ.tail (later (omega arith))

          at : Counts s e s' → Memᴰ (crash_entry (row_at p i)) (e ∷ events_from p k s')
          at (inl c) = first c.2 (ℕ_discrete i s.done) c.1
          at (inr c) = Memᴰ.tail (later (omega (arith, c.0)))
      go o q (none_left h) ih l = absurd (omega (arith, ap (λ (s' : State). s'.done) (stuck p k s (ap (left s) q))))
      go o q (too-many e ch h) ih l = absurd (omega (arith, ap (λ (s' : State). s'.done) (stuck p k s (ap (left s) q))))

  -- a C line's event among those of k tries is one of the C lines that they do
  among-row : (k : ℕ) (s : State) → Sound p s → (r : Crash) → Memᴰ (crash_entry r) (events_from p k s)
      → (i : ℕ) × (i < (steps p k s).done) × ((row_at p i).node ≡ r.node)
  unfolding steps events_from left
  among-row zero s v r m = absurd (Memᴰ.not-nil m)
  among-row (suc k) s v r m = go (try p s) (try_ok p pl s v) (among-row k) m
    where
      go : (o : Outcome) → Tried p pl s o
          → ((s' : State) → Sound p s' → (r : Crash) → Memᴰ (crash_entry r) (events_from p k s')
          → (i : ℕ) × (i < (steps p k s').done) × ((row_at p i).node ≡ r.node))
          → Memᴰ (crash_entry r) (rest k s o) → (i : ℕ) × (i < (steps p k (left s o)).done) × ((row_at p i).node ≡ r.node)
      go o (happened e b a ch f) ih m = at (Memᴰ.cases_cons m)
        where
          s' : State
          s' = apply p s e.tick e.event

          v' : Sound p s'
          v' = left-range p pl s v (did e s') (happened e b a ch f)

          first : crash_entry r ≡ e → Counts s e s' → (i : ℕ) × (i < (steps p k s').done) × ((row_at p i).node ≡ r.node)
          first q (inl c) = (s.done, omega (arith, c.1, more k s' v'), sym (same-node (ap (λ (a : Entry). a.event) (q ∙ c.2))))
          first q (inr c) = absurd (c.1 r q)

          at : (crash_entry r ≡ e) ⊎ Memᴰ (crash_entry r) (events_from p k s')
              → (i : ℕ) × (i < (steps p k s').done) × ((row_at p i).node ≡ r.node)
          at (inl q) = first q (counts s e.tick e.event ch)
          at (inr q) = ih s' v' r q
      go o (none_left h) ih m = absurd (Memᴰ.not-nil m)
      go o (too-many e ch h) ih m = absurd (Memᴰ.not-nil m)

  -- ---- who is dead, by the first lines

  dead-by : (done i k : ℕ) → i < done → i < length p.crashes → (row_at p i).node ≡ k → alive p done k ≡ false
  unfolding alive
  dead-by done i k l m q =
      let row : (get_or (take done p.crashes) i no_crash).node ≡ k = ap (λ (r : Crash). r.node) (get_or-take done p.crashes i no_crash l) ∙ q in
      ap not (hit-of (take done p.crashes) no_crash i k (rw length-take (omega arith)) row)

  by_row : (done k : ℕ) → done ≤ length p.crashes → alive p done k ≡ false → (i : ℕ) × (i < done) × ((row_at p i).node ≡ k)
  unfolding alive
  by_row done k m h = go (hits (take done p.crashes) k) refl h
    where
      go : (b : Bool) → hits (take done p.crashes) k ≡ b → not b ≡ false → (i : ℕ) × (i < done) × ((row_at p i).node ≡ k)
      go true q h =
          let w = hit-where (take done p.crashes) no_crash k q in
          let l : w.0 < done = omega (arith, w.1, length-take done p.crashes) in
          (w.0, l, sym (ap (λ (r : Crash). r.node) (get_or-take done p.crashes w.0 no_crash l)) ∙ w.2)
      go false q h = let z : ◌≡◌ {A = ℕ} 0 1 = cc h in absurd (omega arith)

  pub crashed-are : (e : ℕ) → CrashedAre p (first_events p e) (after p e)
  unfolding first_events after start
  crashed-are e = record {
    dead = λ k c.
        let w = among-row e (start p) (start-range p pl) c.row c.among in
        dead-by (after p e).done w.0 k w.1 (omega (arith, w.1, (after-range p pl e).done)) (w.2 ∙ c.node);
    only = λ k h.
        let w = by_row (after p e).done k (after-range p pl e).done h in
        record {
          row = row_at p w.0;
          planned = at_in no_crash p.crashes w.0 (omega (arith, w.1, (after-range p pl e).done));
          node = w.2;
          among = row-among e (start p) (start-range p pl) w.0 (omega arith) w.1;
        };
  }
