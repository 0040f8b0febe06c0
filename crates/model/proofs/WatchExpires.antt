-- The watch on the crashed node expires: its report begins to spread, or the one survivor is alone and calm. Assumes nothing.
use mathlib.Core.Path.{◌≡◌, refl, ap, sym, ◌∙◌, fun_ext}
use mathlib.Core.Logic.{◌⊎◌, inl, inr, ◌≢◌}
use mathlib.Core.List.Memᴰ
use mathlib.Core.List.{List, [], ◌∷◌}
use mathlib.Core.Bool.{Bool, true, false, true≢false, not}
use Prim.Native.Nat.{ℕ, ◌+◌, ◌*◌, ◌^◌, ◌≤◌, ◌<◌}
use native.Mathlib.Omega.{arith}
use native.Mathlib.Decide.{ℕ_discrete, dec_lt}
use Rattle.node.specs.Node.{O, R}
use Rattle.model.specs.Platform.{InFlight}
use Rattle.ring.proofs.GoingBack.{iter, First}
use Rattle.model.proofs.Events.{View, Live, Dead, Lists, Marks, ◌∈◌, Params, Cause, by_expiry, by_report, Leaves, Moves, Alone}
use Rattle.model.proofs.Invariant.{Base, Inv}
use Rattle.model.proofs.EveryEvent.{live-not-dead, not-true, Alike, GoneBy}
use Rattle.model.proofs.OneState.{live-unlisted}
use Rattle.model.proofs.WatchKept.{came0}
use Rattle.model.proofs.EmitterLeft.{leaves-late, leaves-list', leaves-dead, leaves-between, moves-alike, moves-sames, alone-alike, alone-N}
use Rattle.model.proofs.Phases.{crashed_in, Up, Coming, Calm, Unnoticed, Spreading, by_observer}

pub X-live : (s : View) (k : ℕ) → crashed_in s k ≡ false → Live s k
X-live s k h = go (s.node k).alive h
  where
    go : (b : Bool) → not b ≡ false → b ≡ true
    go true h = refl
    go false h = absurd (true≢false h)

-- a list that holds the crashed nodes and no live one
pub exact : (s : View) (l : ℕ → Bool) → ((k : ℕ) → l k ≡ true → Dead s k) → ((k : ℕ) → Dead s k → l k ≡ true) → l ≡ crashed_in s
exact s l sound full = fun_ext (λ k. go k (s.node k).alive refl)
  where
    go : (k : ℕ) (b : Bool) → (s.node k).alive ≡ b → l k ≡ not (s.node k).alive
    go k false q = rw q (full k q)
    go k true q = rw q (not-true (l k) (λ h. live-not-dead q (sound k h)))

-- where every live node observes a live one, the emitter is the live node before
pub first : (p : Params) (s : View) → Base p s → ((j : ℕ) → Up p s j → Up p s (s.node j).emitter)
    → First p.gap p.N (crashed_in s) (λ j. (s.node j).emitter)
first p s b up = record {
  in_n = λ y y_n h. (up y (y_n, X-live s y h)).0;
  unlisted = λ y y_n h. ap not (up y (y_n, X-live s y h)).1;
  passed = λ y y_n h k g. ap not (b.listed y k (b.between y k g)).dead;
}

module _ (p : Params) (s s' : View) (i : Inv p s) (i' : Inv p s') (z c q : ℕ) (a : Unnoticed p z c q s) where
  module _ (t x : ℕ) (gone : List InFlight) (list' : ℕ → Bool) (y : ℕ) (e : Leaves p s t x gone list' y) where
    x_n : x < p.N
    x_n = (i.base.in_n x e.apart).0

    pub x-q : x ≡ q
    x-q = go (ℕ_discrete x q)
      where
        go : Dec (x ≡ q) → x ≡ q
        go (yes r) = r
        go (no n) = absurd (live-not-dead (a.emitter x (x_n, e.live) n).1 (leaves-late p s s' i t x gone list' y e).dead)

    x-em : (s.node x).emitter ≡ z
    x-em = rw x-q a.of

    full : (k : ℕ) → Dead s k → list' k ≡ true
    full k d = go (ℕ_discrete k z)
      where
        go : Dec (k ≡ z) → list' k ≡ true
        go (yes r) = rw (r ∙ sym x-em) e.adds.is
        go (no n) = e.adds.kept k (rw x-q (a.lists q k a.up d n))

    pub x-early : t + 1 ≤ c + p.W + p.D
    x-early = go gone e.cause
      where
        go : (gone : List InFlight) → Cause p s t x gone → t + 1 ≤ c + p.W + p.D
        go _ (by_expiry on due none) = omega (arith, a.wq, ap (λ j. (s.node j).watch) x-q)
        go _ (by_report m h to k about due) = absurd ((a.kinds m h).1 k)

    y-up : Up p s y
    y-up = (e.back.in_n, go (s.node y).alive refl)
      where
        go : (b : Bool) → (s.node y).alive ≡ b → (s.node y).alive ≡ true
        go true r = r
        go false r = absurd (live-not-dead (full y r) e.back.unlisted)

    -- the node before the crashed one
    y-is : y ≡ (s.node z).emitter
    y-is = go (dec_lt (p.gap z y) (p.gap z r)) (dec_lt (p.gap z r) (p.gap z y))
      where
        r : ℕ
        r = (s.node z).emitter

        far : Dec (p.gap x z < p.gap x r) → Dec (p.gap x r < p.gap x z) → p.gap x z < p.gap x r
        far (yes h) d = h
        far (no n) (yes h) = absurd (live-unlisted p s i.base x r (i.base.between x r (rw x-em h)) a.prev.1)
        far (no n) (no m) = absurd (live-not-dead a.prev.1 (rw (sym (p.gap-inj x z r x_n (omega arith))) a.dead))

        far' : p.gap x z < p.gap x r
        far' = far (dec_lt (p.gap x z) (p.gap x r)) (dec_lt (p.gap x r) (p.gap x z))

        gr : p.gap x r ≡ p.gap x z + p.gap z r
        gr = p.gap-add x z r x_n a.z_n a.prev.0 far'

        past : p.gap x z < p.gap x y
        past = rw x-em at e.back.past

        gy : p.gap x y ≡ p.gap x z + p.gap z y
        gy = p.gap-add x z y x_n a.z_n y-up.0 past

        go : Dec (p.gap z y < p.gap z r) → Dec (p.gap z r < p.gap z y) → y ≡ r
        go (yes h) d = absurd (live-unlisted p s i.base z y (i.base.between z y h) y-up.1)
        go (no n) (yes h) = absurd (leaves-dead p s s' i t x gone list' y e r (e.back.passed r (rw x-em far') (omega (arith, gr, gy))) a.prev.1)
        go (no n) (no m) = p.gap-inj z y r a.z_n (omega arith)

  module _ (t x : ℕ) (gone : List InFlight) (list' mark' : ℕ → Bool) (y : ℕ) (o : InFlight) (out : List InFlight)
      (e : Moves p s s' t x gone list' mark' y o out) where
    sf : Alike p s s' t
    sf = moves-alike p s s' i t x gone list' mark' y o out e

    em-x : (s'.node x).emitter ≡ y
    em-x = rw e.frame.here

    up' : (j : ℕ) → Up p s' j → Up p s j
    up' j u = (u.0, sf.alive j u.1)

    up : (j : ℕ) → Up p s j → Up p s' j
    up j u = (u.0, (moves-sames p s s' i t x gone list' mark' y o out e j).alive ∙ u.1)

    dead' : (k : ℕ) → Dead s' k → Dead s k
    dead' k d = sym (moves-sames p s s' i t x gone list' mark' y o out e k).alive ∙ d

    dead : (k : ℕ) → Dead s k → Dead s' k
    dead k d = (moves-sames p s s' i t x gone list' mark' y o out e k).alive ∙ d

    fx : Up p s x
    fx = (x_n t x gone list' y e.leaves, e.leaves.live)

    em-up : (j : ℕ) → Up p s' j → Up p s' (s'.node j).emitter
    em-up j u = go (ℕ_discrete j x)
      where
        go : Dec (j ≡ x) → Up p s' (s'.node j).emitter
        go (yes r) = rw (r, em-x) (up y (y-up t x gone list' y e.leaves))
        go (no n) = rw (e.frame.other j n) (up _ (a.emitter j (up' j u) (λ r. n (r ∙ sym (x-q t x gone list' y e.leaves)))))

    list-is : list' ≡ crashed_in s'
    list-is =
        exact s' list' (λ k h. dead k (go k (leaves-list' p s s' i t x gone list' y e.leaves k h)))
        (λ k d. full t x gone list' y e.leaves k (dead' k d))
      where
        go : (k : ℕ) → Lists s x k ⊎ GoneBy p s t k → Dead s k
        go k (inl h) = (i.base.listed x k h).dead
        go k (inr h) = h.dead

    sent : (g : InFlight) → g ∈ s'.flight → (g.kind ≡ O) ⊎ (g.kind ≡ R) → (g ≡ o) ⊎ (g ∈ out)
    sent g h k = go k (e.frame.came g h)
      where
        go : (g.kind ≡ O) ⊎ (g.kind ≡ R) → (g ∈ s.flight) ⊎ (g ∈ (o ∷ out)) → (g ≡ o) ⊎ (g ∈ out)
        go (inl k) (inl h) = absurd ((a.kinds g h).0 k)
        go (inr k) (inl h) = absurd ((a.kinds g h).1 k)
        go (inl k) (inr h) = Memᴰ.cases_cons h
        go (inr k) (inr h) = Memᴰ.cases_cons h

    m : ℕ
    m = p.cnt (crashed_in s')

    obs : (j : ℕ) → Up p s' j → (Up p s (s.node j).observer × ((s.node (s.node j).observer).emitter ≡ j)) ⊎ ((s.node z).emitter ≡ j)
        → (Up p s' (s.node j).observer × ((s'.node (s.node j).observer).emitter ≡ j))
        ⊎ (((s'.node x).emitter ≡ j) × Coming p s' O j (t + p.D))
    obs j u (inr r) =
        let yj : y ≡ j = y-is t x gone list' y e.leaves ∙ r in
        inr (em-x ∙ yj, record { m = o; has = e.frame.add o (Memᴰ.head refl); kind = e.o-kind; to = e.o-to ∙ yj; due = e.o-within })
    obs j u (inl h) = inl (up _ h.0, go (ℕ_discrete (s.node j).observer x))
      where
        go : Dec ((s.node j).observer ≡ x) → (s'.node (s.node j).observer).emitter ≡ j
        go (no n) = rw (e.frame.other (s.node j).observer n) h.1
        go (yes r) =
            let ezj : z ≡ j = sym (x-em t x gone list' y e.leaves) ∙ (rw r at h.1) in
            absurd (live-not-dead (up' j u).1 (rw (sym ezj) a.dead))

    relay : (g w d j b : ℕ) → Up p s' g → Marks s' g z → d < 2 ^ j → Up p s' w → iter (λ j. (s'.node j).emitter) (2 ^ b) w ≡ g
        → 2 ^ b < p.cnt (crashed_in s') → Coming p s' R w (t + (j + 1) * p.D)
    relay g w d j b ug lg dj uw hw bm =
        record {
          m = r.0;
          has = e.frame.add r.0 (Memᴰ.tail r.1);
          kind = e.rs.kinds r.0 r.1;
          to = r.2 ∙ tgt;
          due = omega (arith, (e.rs.each r.0 r.1).within);
        }
      where
        gx : Dec (g ≡ x) → g ≡ x
        gx (yes q) = q
        gx (no n) = absurd (a.unknown g (i.base.marked g z (rw (e.frame.other g n) at lg)))

        r : (m : InFlight) × (m ∈ out) × (m.to ≡ p.ahead list' x (2 ^ b))
        r = let below : 2 ^ b < p.cnt list' = rw list-is bm in e.rs.complete b (omega arith)

        tgt : p.ahead list' x (2 ^ b) ≡ w
        tgt =
            rw (list-is, sym (gx (ℕ_discrete g x)), sym hw)
            (p.ahead-is (crashed_in s') _ (first p s' i'.base em-up) w (2 ^ b) uw.0 (ap not uw.1) bm)

    pub moves-spreading : Spreading p z c t x (p.cnt (crashed_in s')) (λ j. (s'.node j).emitter) s'
    moves-spreading = record {
      up = up x fx;
      dead = dead z a.dead;
      knows = rw e.frame.here (rw (x-em t x gone list' y e.leaves) at e.marks.is);
      early = x-early t x gone list' y e.leaves;
      count = refl;
      em-is = λ j. refl;
      two = λ r. e.other (sym em-x ∙ r);
      lists = λ j k u d n. sf.list j k (a.lists j k (up' j u) (dead' k d) n);
      emitter = em-up;
      observer = λ j u. rw (moves-sames p s s' i t x gone list' mark' y o out e j).observer (obs j u (a.observer j (up' j u)));
      observers = λ g h k. fo g k (sent g h (inl k));
      reports = λ g h k. fr g k (sent g h (inr k));
      relay = λ g w d j b ug lg hd dj uw hw bm. inr (relay g w d j b ug lg dj uw hw bm);
      watch = λ j u n ne. ws j u n ne;
      wq = by_observer record { m = o; has = e.frame.add o (Memᴰ.head refl); kind = e.o-kind; to = e.o-to ∙ sym em-x; due = e.o-within };
    }
      where
        fo : (g : InFlight) → g.kind ≡ O → (g ≡ o) ⊎ (g ∈ out) → (g.from ≡ x) × (g.to ≡ (s'.node x).emitter) × (g.due ≤ t + p.D)
        fo g k (inl r) = rw r (e.o-by, e.o-to ∙ sym em-x, e.o-within)
        fo g k (inr h) = absurd (omega (arith, e.rs.kinds g h))

        fr : (g : InFlight) → g.kind ≡ R → (g ≡ o) ⊎ (g ∈ out)
            → (g.subject ≡ z) × (g.due ≤ t + (p.log (p.cnt (crashed_in s')) + 1) * p.D)
        fr g k (inl r) = absurd (omega (arith, e.o-kind, ap (λ m. m.kind) r))
        fr g k (inr h) = (e.rs.subject g h ∙ x-em t x gone list' y e.leaves, omega (arith, (e.rs.each g h).within))

        ws : (j : ℕ) → Up p s' j → j ≢ x → (s'.node j).emitter ≢ j → (s'.node j).watch ≤ s'.last + p.W
        ws j u n =
            rw (e.frame.other j n, e.frame.last')
            (λ ne. omega (arith, a.watch j (up' j u) (λ r. n (r ∙ sym (x-q t x gone list' y e.leaves))) ne, sf.t≥))

  module _ (t x : ℕ) (list' mark' : ℕ → Bool) (e : Alone p s s' t x list' mark') where
    only : (j : ℕ) → Up p s' j → j ≡ x
    only j u = go (ℕ_discrete j x)
      where
        lj : Live s j
        lj = (alone-alike p s s' i t x list' mark' e).alive j u.1

        cyc : (p.gap x j < p.gap x x) ⊎ (p.gap j x < p.gap j x) → ⊥
        cyc (inl h) = leaves-dead p s s' i t x [] list' x e.leaves j (leaves-between p s s' i t x [] list' x e.leaves j h) lj
        cyc (inr h) = omega arith

        go : Dec (j ≡ x) → j ≡ x
        go (yes r) = r
        go (no n) = absurd (cyc (p.gap-cyc j x x u.0 (alone-N p s s' i t x list' mark' e) n))

    ux : Up p s' x
    ux = (alone-N p s s' i t x list' mark' e, rw e.frame.here)

    alone-dead : (k : ℕ) → Dead s' k → Dead s k
    alone-dead k d = go (ℕ_discrete k x)
      where
        go : Dec (k ≡ x) → Dead s k
        go (yes r) = absurd (live-not-dead ux.1 (rw r at d))
        go (no n) = rw (e.frame.other k n) at d

    pub alone-calm : Calm p s'
    alone-calm = record {
      lists = λ j k u d. rw (only j u, e.frame.here) (full t x [] list' x e.leaves k (alone-dead k d));
      emitter = λ j u. rw (only j u, e.frame.here) ux;
      observer = λ j u. rw (only j u, e.frame.here) (ux, rw e.frame.here);
      kinds = λ g h. a.kinds g (came0 s.flight g (e.frame.came g h));
      watch = λ j u ne. absurd (ne (rw (only j u, e.frame.here)));
    }
