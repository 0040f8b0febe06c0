-- How far a run is after a turn, and what its timers are then. Assumes nothing.
use Prim.Native.Nat.{ℕ, suc, ◌+◌, ◌-◌, ◌≤◌, ◌<◌}
use mathlib.Core.Path.{◌≡◌, refl, sym, ap, subst, ◌∙◌}
use mathlib.Core.Logic.{◌≢◌}
use mathlib.Core.Bool.{true}
use mathlib.Core.List.{List}
use native.Mathlib.Omega.{arith}
use native.Mathlib.Decide.{dec_lt, ℕ_discrete}
use lib.ListN.{length, set}
use lib.Seq.{get_or-set_same, get_or-set_other}
use Rattle.node.specs.declared.Node.{Node}
use Rattle.node.specs.Node.{alone}
use Rattle.plans.specs.Plan.{Plan}
use Rattle.model.specs.Platform.{State, alive, node_of}
use Rattle.store.specs.declared.Flight.{Flight}
use Rattle.store.specs.Store.{state_in}
use Rattle.event.specs.Search.{timer_tick}
use Rattle.queue.proofs.Queues.{holds-count}
use Rattle.course.specs.declared.Progress.{Progress}
use Rattle.course.specs.Apart.{Apart}
use Rattle.course.specs.Look.{Timers}
use Rattle.course.specs.Progress.{Later}
use Rattle.course.proofs.Looking.{timer-le, timer-under}

-- ---- how far the run is after a turn

module _ (c : Progress) (count : ℕ) (a : Node) (w b : ℕ) (we : w ≡ timer_tick c.bound a.watch) (be : b ≡ timer_tick w a.heartbeat) where
  low : b ≤ c.bound
  low = omega (arith, we, be, timer-le c.bound a.watch, timer-le w a.heartbeat)

  under-watch : a.watch ≢ 0 → b < a.watch
  under-watch n = omega (arith, we, be, timer-under c.bound a.watch n, timer-le w a.heartbeat)

  under-beat : a.heartbeat ≢ 0 → b < a.heartbeat
  under-beat n = omega (arith, be, timer-under w a.heartbeat n)

  abbrev later : ℕ → Progress
  later x = record { start = c.start; end = c.end + count; dead = c.dead; bound = b; x = x }

  later-at : (x : ℕ) → x ≤ c.x → (b < c.bound → x ≡ 0) → Later c (later x) count a
  later-at x h g = record {
    start = refl;
    end = refl;
    dead = refl;
    bound = low;
    watch = under-watch;
    heartbeat = under-beat;
    x = h;
    again = g;
  }

  pub later-sooner : b < c.bound → Later c (later 0) count a
  later-sooner h = later-at 0 (omega arith) (λ k. refl)

  pub later_same : c.bound ≤ b → Later c (later c.x) count a
  later_same h = later-at c.x (omega arith) (λ k. absurd (omega arith))

-- what a turn leaves, in the places of the queue after it
pub later-apart : (b : List ℕ) (q : List Flight) (c d : Progress) (count : ℕ) (a : Node) (whole : List ℕ) → Later c d count a
    → Apart b q c.start (c.end + count) whole → Apart b q d.start d.end whole
later-apart b q c d count a whole l s =
    subst (λ (k : ℕ). Apart b q k d.end whole) (sym l.start) (subst (λ (k : ℕ). Apart b q c.start k whole) (sym l.end) s)

pub apart-count : (b : List ℕ) (q : List Flight) (start end : ℕ) (whole : List ℕ) → Apart b q start end whole → length (state_in whole).flight ≡ end - start
apart-count b q start end whole s = holds-count q start end (state_in whole).flight s.holds

-- ---- timers after a turn of node y

module _
    (p : Plan)
    (s s' : State)
    (y : ℕ)
    (a : Node)
    (done : s'.done ≡ s.done)
    (nodes : s'.nodes ≡ set s.nodes y a)
    (inside : y < length s.nodes) where
  node-mine : node_of s' y ≡ a
  node-mine = rw nodes (get_or-set_same s.nodes y a (alone y 0 0) inside)

  node-other : (j : ℕ) → j ≢ y → node_of s' j ≡ node_of s j
  node-other j h = rw nodes (get_or-set_other s.nodes y j a (alone j 0 0) h)

  pub timers-turn : (c d : Progress) (count : ℕ) → c.x ≤ y → Timers p s c.bound c.x → Later c d count a → Timers p s' d.bound d.x
  timers-turn c d count h t l = record {
    watch = λ j v n. go-watch j (rw done at v) n (ℕ_discrete j y);
    heartbeat = λ j v n. go-beat j (rw done at v) n (ℕ_discrete j y);
    passed = λ j k v. go-passed j k (rw done at v) (dec_lt d.bound c.bound);
  }
    where
      go-watch : (j : ℕ) → alive p s.done j ≡ true → (node_of s' j).watch ≢ 0 → Dec (j ≡ y) → d.bound < (node_of s' j).watch
      go-watch j v n (yes e) =
          let f : node_of s' j ≡ a = ap (node_of s') e ∙ node-mine in
          subst (λ (m : Node). d.bound < m.watch) (sym f) (l.watch (subst (λ (m : Node). m.watch ≢ 0) f n))
      go-watch j v n (no e) =
          let f : node_of s' j ≡ node_of s j = node-other j e in
          let g : c.bound < (node_of s j).watch = t.watch j v (subst (λ (m : Node). m.watch ≢ 0) f n) in
          subst (λ (m : Node). d.bound < m.watch) (sym f) (omega (arith, g, l.bound))

      go-beat : (j : ℕ) → alive p s.done j ≡ true → (node_of s' j).heartbeat ≢ 0 → Dec (j ≡ y) → d.bound < (node_of s' j).heartbeat
      go-beat j v n (yes e) =
          let f : node_of s' j ≡ a = ap (node_of s') e ∙ node-mine in
          subst (λ (m : Node). d.bound < m.heartbeat) (sym f) (l.heartbeat (subst (λ (m : Node). m.heartbeat ≢ 0) f n))
      go-beat j v n (no e) =
          let f : node_of s' j ≡ node_of s j = node-other j e in
          let g : c.bound < (node_of s j).heartbeat = t.heartbeat j v (subst (λ (m : Node). m.heartbeat ≢ 0) f n) in
          subst (λ (m : Node). d.bound < m.heartbeat) (sym f) (omega (arith, g, l.bound))

      go-passed : (j : ℕ) → j < d.x → alive p s.done j ≡ true → Dec (d.bound < c.bound)
          → ((node_of s' j).watch ≢ suc d.bound) × ((node_of s' j).heartbeat ≢ suc d.bound)
      go-passed j k v (yes q) = absurd (omega (arith, k, l.again q))
      go-passed j k v (no q) =
          let e : d.bound ≡ c.bound = omega (arith, l.bound) in
          let f : node_of s' j ≡ node_of s j = node-other j (λ z. omega (arith, k, l.x)) in
          subst (λ (m : Node). (m.watch ≢ suc d.bound) × (m.heartbeat ≢ suc d.bound)) (sym f)
          (subst (λ (z : ℕ). ((node_of s j).watch ≢ suc z) × ((node_of s j).heartbeat ≢ suc z)) (sym e) (t.passed j (omega (arith, k, l.x)) v))
