-- What the invariant says of one state: who can have sent an O, whose messages are gone, who can be alone, whose heartbeat is on.
-- Assumes nothing.
use mathlib.Core.Path.{◌≡◌, refl, sym, ◌∙◌}
use mathlib.Core.Logic.{◌⊎◌, inl, inr, ◌≢◌}
use mathlib.Core.Bool.{true}
use Prim.Native.Nat.{ℕ, ◌+◌, ◌<◌}
use native.Mathlib.Omega.{arith}
use native.Mathlib.Decide.{ℕ_discrete}
use Rattle.node.specs.Node.{O}
use Rattle.model.specs.Platform.{InFlight}
use Rattle.model.proofs.Events.{View, Live, Lists, ◌∈◌, Params}
use Rattle.model.proofs.Invariant.{Inv, Tied, Gone, Base}
use Rattle.model.proofs.EveryEvent.{live-not-dead}

module _ (p : Params) (s : View) (b : Base p s) where
  pub live-unlisted : (j k : ℕ) → Lists s j k → Live s k → ⊥
  live-unlisted j k l a = live-not-dead a (b.listed j k l).dead

  pub gone-silent : (k : ℕ) → Gone p s k → (m : InFlight) → m ∈ s.flight → m.from ≡ k → ⊥
  gone-silent k g m h e =
      let pl : p.planned m.from ≡ true = rw e (b.dead k g.dead).0 in
      let early : m.due < p.c k + p.D = rw e at (b.m-from m h pl) in
      omega (arith, g.long, b.m-due m h)

  -- two nodes that observe i: the nearer one is listed by the other
  pub one-lists-other : (j a i : ℕ) → j < p.N → a < p.N → j ≢ a → (s.node j).emitter ≡ i → (s.node a).emitter ≡ i
      → Lists s a j ⊎ Lists s j a
  one-lists-other j a i j_n a_n ne ej ea = go (p.gap-cyc j a i j_n a_n ne)
    where
      go : (p.gap a j < p.gap a i) ⊎ (p.gap j a < p.gap j i) → Lists s a j ⊎ Lists s j a
      go (inl h) = inl (b.between a j (rw ea h))
      go (inr h) = inr (b.between j a (rw ej h))

  pub one-observes : (j i : ℕ) → Live s j → (s.node j).emitter ≡ i → i ≢ j → Live s i → (m : InFlight) → m ∈ s.flight → m.kind ≡ O
      → m.to ≡ i → m.from ≡ j
  one-observes j i lj ej ne li m h k to = go (ℕ_discrete m.from j) (rw to at (b.m-O m h k))
    where
      j_n : j < p.N
      j_n = (b.in_n j (λ e. ne (sym ej ∙ e))).0

      go : Dec (m.from ≡ j) → Tied p s m.from i → m.from ≡ j
      go (yes e) r = e
      go (no n) (inr l) = absurd (live-unlisted m.from i l li)
      go (no n) (inl ea) =
          last (one-lists-other j m.from i j_n (b.in_n m.from (λ e. b.m-self m h (sym e ∙ ea ∙ sym to))).0 (λ e. n (sym e)) ej ea)
        where
          last : Lists s m.from j ⊎ Lists s j m.from → m.from ≡ j
          last (inl l) = absurd (live-unlisted m.from j l lj)
          last (inr l) = absurd (gone-silent m.from (b.listed j m.from l) m h refl)

  -- no O is on its way to a live node that is alone
  pub none-asks : (m : InFlight) → m ∈ s.flight → m.kind ≡ O → Live s m.to → (s.node m.to).emitter ≢ m.to
  none-asks m h k lt alone = go (b.m-O m h k)
    where
      other : m.from ≢ m.to
      other = b.m-self m h

      go : Tied p s m.from m.to → ⊥
      go (inr l) = live-unlisted m.from m.to l lt
      go (inl e) = by (p.gap-cyc m.from m.to m.to ring.0 (rw e at ring.1) other)
        where
          ring : (m.from < p.N) × ((s.node m.from).emitter < p.N)
          ring = b.in_n m.from (λ q. other (sym q ∙ e))

          by : (p.gap m.to m.from < p.gap m.to m.to) ⊎ (p.gap m.from m.to < p.gap m.from m.to) → ⊥
          by (inl near) = gone-silent m.from (b.listed m.to m.from (b.between m.to m.from (rw alone near))) m h refl
          by (inr far) = omega arith

  pub not-alone : (j i : ℕ) → Live s j → i ≢ j → j < p.N → i < p.N → (s.node i).emitter ≢ i
  not-alone j i lj ne j_n i_n e = go (p.gap-cyc j i i j_n i_n (λ q. ne (sym q)))
    where
      go : (p.gap i j < p.gap i i) ⊎ (p.gap j i < p.gap j i) → ⊥
      go (inl h) = live-unlisted i j (b.between i j (rw e h)) lj
      go (inr h) = omega arith

  -- one live node observes i
  pub one-watcher : (j k i : ℕ) → Live s j → Live s k → (s.node j).emitter ≡ i → (s.node k).emitter ≡ i → j ≢ i → k ≢ i → j ≡ k
  one-watcher j k i lj lk ej ek nj nk = go (ℕ_discrete j k)
    where
      last : Lists s k j ⊎ Lists s j k → j ≡ k
      last (inl h) = absurd (live-unlisted k j h lj)
      last (inr h) = absurd (live-unlisted j k h lk)

      go : Dec (j ≡ k) → j ≡ k
      go (yes e) = e
      go (no n) = last (one-lists-other j k i (b.in_n j (λ q. nj (sym q ∙ ej))).0 (b.in_n k (λ q. nk (sym q ∙ ek))).0 n ej ek)

-- with the timers
module _ (p : Params) (s : View) (i : Inv p s) where
  -- the heartbeat of a live emitter is on
  pub emitter-beats : (j a : ℕ) → Live s j → (s.node j).emitter ≡ a → a ≢ j → Live s a → (s.node a).heartbeat_on ≡ true
  emitter-beats j a lj ej ne la =
      let b = i.base.in_n j (λ e. ne (sym ej ∙ e)) in
      ((i.timers a la).on (not-alone p s i.base j a lj ne b.0 (rw ej at b.1))).1
