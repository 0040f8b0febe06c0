-- What a look for the next event finds. Assumes nothing.
use Prim.Native.Nat.{ℕ, suc, ◌+◌, ◌≤◌, ◌<◌}
use mathlib.Core.Path.{◌≡◌, refl, sym, ap, ap₂, subst, ◌∙◌}
use mathlib.Core.Logic.{◌≢◌, ◌⊎◌, inl, inr}
use mathlib.Core.Bool.{Bool, true, false, cond}
use mathlib.Core.List.Memᴰ
use mathlib.Core.List.{List, [], ◌∷◌, Memᴰ}
use native.Mathlib.Omega.{arith}
use native.Mathlib.Decide.{dec_lt, ℕ_discrete}
use borrow.Author.Tests.{eq-eqb, ne_eqb}
use lib.Dec.{leb, eqb}
use lib.ListN.{length, get_or, get_or-eq_default}
use Rattle.std.specs.List.{between}
use Rattle.std.specs.Prelude.{Option as Maybe, slice_get}
use Rattle.std.specs.Option.{option_map}
use Rattle.std.proofs.lemmas.List.{nil_from_length}
use Rattle.std.proofs.lemmas.List.Edits.{length-between}
use Rattle.node.specs.Node.{alone}
use Rattle.node.specs.declared.Node.{Node}
use Rattle.ring.specs.Ring.{listed}
use Rattle.plans.specs.Plan.{Plan}
use Rattle.model.specs.Platform.{InFlight, State, alive, node_of, crashed_list}
use Rattle.plans.specs.Plain.{row_at, Plain}
use Rattle.store.specs.declared.Flight.{Flight}
use Rattle.store.specs.Store.{plan_in, state_in}
use Rattle.store.specs.Inside.{with_flight}
use Rattle.event.specs.Search.{crash_tick, timer_tick}
use Rattle.event.proofs.Searching.{crashes-over, crash-first, live_of, dead-of, timer-none, timer-min}
use Rattle.queue.specs.Rows.{nothing}
use Rattle.queue.specs.Order.{insert_before, ordered, Every, From, Rising}
use Rattle.queue.specs.Holds.{Holds, Head, due}
use Rattle.queue.proofs.Orders.{rising-ordered}
use Rattle.queue.proofs.Queues.{between_next, holds-none, holds-head}
use Rattle.course.specs.Apart.{Apart}
use Rattle.course.specs.Look.{CrashAt, DueAt, FirstDue, Timers, DueNow, TimerAt, Before, SoonerOf, Under}
use Rattle.course.proofs.Parting.{apart-plan, apart-state, apart-done}

-- ---- crashes

-- what the search for the first one that is not done finds
pub crash-at : (p : Plan) → Plain p → (s : State) (r : ℕ) → r ≡ crash_tick p s.done → CrashAt p s r
crash-at p pl s r e = go (dec_lt s.done (length p.crashes))
  where
    go : Dec (s.done < length p.crashes) → CrashAt p s r
    go (no h) =
        let over : r ≡ suc p.end = e ∙ crashes-over p s (omega arith) in
        record { within = omega arith; all = λ i g k. absurd (omega arith); here = λ g. absurd (omega arith) }
    go (yes h) =
        let first : r ≡ (row_at p s.done).tick = e ∙ crash-first p pl s h in
        record {
          within = omega (arith, first, pl.tick s.done h);
          all = λ i g k. all first i g k (ℕ_discrete i s.done);
          here = λ g. (h, sym first);
        }
      where
        all : r ≡ (row_at p s.done).tick → (i : ℕ) → s.done ≤ i → i < length p.crashes → Dec (i ≡ s.done) → r ≤ (row_at p i).tick
        all f i g k (yes q) = omega (arith, f, ap (λ (z : ℕ). (row_at p z).tick) q)
        all f i g k (no q) = omega (arith, f, pl.rising s.done i (omega arith) k)

-- ---- what is found in a run's store holds of the whole one

module _ (p : Plan) (s : State) (ms : List InFlight) where
  timers-any : (t x : ℕ) → Timers p (with_flight s ms) t x → Timers p s t x
  unfolding with_flight
  timers-any t x h = record { watch = h.watch; heartbeat = h.heartbeat; passed = h.passed }

  timers-none : (t x : ℕ) → Timers p s t x → Timers p (with_flight s ms) t x
  unfolding with_flight
  timers-none t x h = record { watch = h.watch; heartbeat = h.heartbeat; passed = h.passed }

  timer-any : (t x : ℕ) → TimerAt p (with_flight s ms) t x → TimerAt p s t x
  unfolding with_flight
  timer-any t x h = record { timers = timers-any t x h.timers; inside = h.inside; live = h.live; due = h.due }

module _ {b whole : List ℕ} {q : List Flight} {start end : ℕ} (s : Apart b q start end whole) where
  pub whole-crash : Plain (plan_in whole) → (r : ℕ) → r ≡ crash_tick (plan_in b) (state_in b).done → CrashAt (plan_in whole) (state_in whole) r
  whole-crash pl r e = crash-at (plan_in whole) pl (state_in whole) r (e ∙ ap₂ crash_tick (apart-plan s) (apart-done s))

  pub whole-timers : (t x : ℕ) → Timers (plan_in b) (state_in b) t x → Timers (plan_in whole) (state_in whole) t x
  whole-timers t x h = timers-any (plan_in whole) (state_in whole) [] t x (rw (apart-plan s, apart-state s) at h)

  pub whole-timer : (t r : ℕ) → TimerAt (plan_in b) (state_in b) t r → TimerAt (plan_in whole) (state_in whole) t r
  whole-timer t r h = timer-any (plan_in whole) (state_in whole) [] t r (rw (apart-plan s, apart-state s) at h)

  -- and a run's store has what a look asks for
  pub apart-dead : (dead : ℕ) → dead ≡ crashed_list (plan_in whole) (state_in whole).done → dead ≡ crashed_list (plan_in b) (state_in b).done
  apart-dead dead e = e ∙ sym (ap₂ crashed_list (apart-plan s) (apart-done s))

  pub apart-timers : (t x : ℕ) → Timers (plan_in whole) (state_in whole) t x → Timers (plan_in b) (state_in b) t x
  apart-timers t x h = rw (apart-plan s, apart-state s) (timers-none (plan_in whole) (state_in whole) [] t x h)

-- ---- messages

from-inserted : (k : ℕ) (m : InFlight) (l : List InFlight) → From due k (insert_before due m l) → (k ≤ m.due) × From due k l
unfolding Every insert_before
from-inserted k m [] f = (f.0, tt)
from-inserted k m (x ∷ xs) f = go (leb (due m) (due x)) f (from-inserted k m xs)
  where
    go : (b : Bool) → From due k (cond b (m ∷ (x ∷ xs)) (x ∷ insert_before due m xs))
        → (From due k (insert_before due m xs) → (k ≤ m.due) × From due k xs) → (k ≤ m.due) × From due k (x ∷ xs)
    go true g ih = (g.0, g.1)
    go false g ih = let r = ih g.1 in (r.0, (g.0, r.1))

from-ordered : (k : ℕ) (l : List InFlight) → From due k (ordered due l) → From due k l
unfolding Every ordered
from-ordered k [] f = tt
from-ordered k (m ∷ ms) f = let r = from-inserted k m (ordered due ms) f in (r.0, from-ordered k ms r.1)

from_member : (k : ℕ) (l : List InFlight) → From due k l → (g : InFlight) → Memᴰ g l → k ≤ g.due
unfolding Every
from_member k [] f g m = absurd (Memᴰ.not-nil m)
from_member k (x ∷ xs) f g m = go (Memᴰ.cases_cons m) (from_member k xs f.1 g)
  where
    go : (g ≡ x) ⊎ Memᴰ g xs → (Memᴰ g xs → k ≤ g.due) → k ≤ g.due
    go (inl q) ih = subst (λ (z : InFlight). k ≤ z.due) (sym q) f.0
    go (inr q) ih = ih q

least_first : (flight : List InFlight) (m : InFlight) (rest : List InFlight) → ordered due flight ≡ m ∷ rest
    → (g : InFlight) → Memᴰ g flight → m.due ≤ g.due
unfolding Every Rising
least_first flight m rest e g h =
    let r : Rising due (m ∷ rest) = subst (Rising due) e (rising-ordered due flight) in
    from_member m.due flight (from-ordered m.due flight (subst (From due m.due) (sym e) (omega arith, r.0))) g h

module _ (q : List Flight) (start end : ℕ) (flight : List InFlight) (h : Holds q start end flight) where
  due-first : start < end → DueAt q start end flight (get_or q start nothing).due
  due-first l = record {
    all = λ g m.
        let d : Head q start end flight = holds-head q start end flight h l in
        let e : (get_or q start nothing).due ≡ d.m.due = ap (λ (z : InFlight). z.due) d.row in
        omega (arith, e, least_first flight d.m d.rest d.order g m);
    less = l;
    here = refl;
  }

  -- as the first of what stands in the queue has it
  pub first-due : (r : Maybe ℕ) → r ≡ option_map (λ (m : Flight). m.due) (slice_get (between start end q) 0) → FirstDue q start end flight r
  unfolding FirstDue
  first-due r e = go (dec_lt start end)
    where
      of : (l : List Flight) → between start end q ≡ l → r ≡ option_map (λ (m : Flight). m.due) (slice_get l 0)
      of l f = e ∙ ap (λ (p : List Flight). option_map (λ (m : Flight). m.due) (slice_get p 0)) f

      go : Dec (start < end) → FirstDue q start end flight r
      go (yes l) = rw (of _ (between_next q start end l (omega (arith, h.size, h.room)))) (due-first l)
      go (no n) =
          let size = length-between q start end (omega (arith, h.size, h.room)) in
          let none : between start end q ≡ [] = nil_from_length (between start end q) (omega (arith, size)) in
          rw (of [] none) (holds-none q start end flight h (omega arith))

-- ---- timers

module _ (p : Plan) (s : State) (t : ℕ) where
  pub passed-more : (i : ℕ) → Timers p s t i → DueNow p s t i false → Timers p s t (i + 1)
  passed-more i h d = record { watch = h.watch; heartbeat = h.heartbeat; passed = λ j k v. go j k v (ℕ_discrete j i) }
    where
      go : (j : ℕ) → j < i + 1 → alive p s.done j ≡ true → Dec (j ≡ i) → ((node_of s j).watch ≢ suc t) × ((node_of s j).heartbeat ≢ suc t)
      go j k v (yes e) =
          subst (λ (z : ℕ). ((node_of s z).watch ≢ suc t) × ((node_of s z).heartbeat ≢ suc t)) (sym e)
          (d.no refl (subst (λ (z : ℕ). alive p s.done z ≡ true) e v))
      go j k v (no e) = h.passed j (omega arith) v

  pub passed-less : (i n : ℕ) → Timers p s t i → n ≤ i → Timers p s t n
  passed-less i n h l = record { watch = h.watch; heartbeat = h.heartbeat; passed = λ j k v. h.passed j (omega arith) v }

  pub timer-here : (i : ℕ) → Timers p s t i → i < p.n → DueNow p s t i true → TimerAt p s t i
  timer-here i h l d = record { timers = h; inside = l; live = (d.yes refl).0; due = (d.yes refl).1 }

-- node i as the code looks at it: l is whether it is listed among the dead
module _ (p : Plan) (pl : Plain p) (s : State) (dead : ℕ) (de : dead ≡ crashed_list p s.done) (i : ℕ) (l : Bool) (le : l ≡ listed dead i) where
  is-dead : l ≡ true → alive p s.done i ≡ false
  is-dead h = dead-of p pl s.done i (ap (λ (d : ℕ). listed d i) (sym de) ∙ (sym le ∙ h))

  is_live : l ≡ false → alive p s.done i ≡ true
  is_live h = live_of p pl s.done i (ap (λ (d : ℕ). listed d i) (sym de) ∙ (sym le ∙ h))

  never_both : {A : Type 0} → l ≡ true → alive p s.done i ≡ true → A
  never_both h v = absurd (let f : alive p s.done i ≡ false = is-dead h in let z : ◌≡◌ {A = ℕ} 0 1 = cc in omega arith)

  -- whether a timer of it is due
  module _ (t : ℕ) where
    pub due-dead : l ≡ true → DueNow p s t i false
    due-dead h = record { yes = λ z. absurd (let w : ◌≡◌ {A = ℕ} 0 1 = cc in omega arith); no = λ z v. never_both h v }

    module _ (h : l ≡ false) (a : Node) (ae : a ≡ node_of s i) where
      watch-is : a.watch ≡ (node_of s i).watch
      watch-is = ap (λ (m : Node). m.watch) ae

      beat-is : a.heartbeat ≡ (node_of s i).heartbeat
      beat-is = ap (λ (m : Node). m.heartbeat) ae

      pub due-watch : a.watch ≡ t + 1 → DueNow p s t i true
      due-watch k = record {
        yes = λ z. (is_live h, inl (omega (arith, k, watch-is)));
        no = λ z. absurd (let w : ◌≡◌ {A = ℕ} 0 1 = cc in omega arith);
      }

      pub due-beat : a.watch ≢ t + 1 → DueNow p s t i (eqb a.heartbeat (t + 1))
      due-beat k = go (ℕ_discrete a.heartbeat (t + 1))
        where
          go : Dec (a.heartbeat ≡ t + 1) → DueNow p s t i (eqb a.heartbeat (t + 1))
          go (yes e) =
              rw (eq-eqb a.heartbeat (t + 1) e)
              (record {
                yes = λ z. (is_live h, inr (omega (arith, e, beat-is)));
                no = λ z. absurd (let w : ◌≡◌ {A = ℕ} 0 1 = cc in omega arith);
              })
          go (no j) =
              rw (ne_eqb a.heartbeat (t + 1) j)
              (record {
                yes = λ z. absurd (let w : ◌≡◌ {A = ℕ} 0 1 = cc in omega arith);
                no = λ z v. (λ q. k (omega (arith, q, watch-is)), λ q. j (omega (arith, q, beat-is)));
              })

-- ---- the earliest timer

pub timer-le : (t v : ℕ) → timer_tick t v ≤ t
timer-le t v = go (ℕ_discrete v 0)
  where
    go : Dec (v ≡ 0) → timer_tick t v ≤ t
    go (yes e) = omega (arith, timer-none t v e)
    go (no n) = omega (arith, timer-min t v n)

pub timer-under : (t v : ℕ) → v ≢ 0 → timer_tick t v < v
timer-under t v n = go (ℕ_discrete v 0)
  where
    go : Dec (v ≡ 0) → timer_tick t v < v
    go (yes e) = absurd (n e)
    go (no z) = omega (arith, timer-min t v n)

timer-above : (t l v : ℕ) → t < l → (v ≢ 0 → suc t < v) → t < timer_tick l v
timer-above t l v h f = go (ℕ_discrete v 0)
  where
    go : Dec (v ≡ 0) → t < timer_tick l v
    go (yes e) = omega (arith, timer-none l v e)
    go (no n) = omega (arith, timer-min l v n, f n)

module _
    (p : Plan)
    (pl : Plain p)
    (s : State)
    (dead : ℕ)
    (de : dead ≡ crashed_list p s.done)
    (i : ℕ)
    (l : Bool)
    (le : l ≡ listed dead i)
    (least : ℕ) where
  pub sooner-dead : l ≡ true → SoonerOf p s i least least
  sooner-dead h = record {
    low = omega arith;
    watch = λ v n. never_both p pl s dead de i l le h v;
    heartbeat = λ v n. never_both p pl s dead de i l le h v;
    above = λ t k f. k;
  }

  module _ (h : l ≡ false) (a : Node) (ae : a ≡ node_of s i) (w z : ℕ) (we : w ≡ timer_tick least a.watch)
      (ze : z ≡ timer_tick w a.heartbeat) where
    abbrev x : ℕ
    x = (node_of s i).watch

    abbrev y : ℕ
    y = (node_of s i).heartbeat

    live : alive p s.done i ≡ true
    live = is_live p pl s dead de i l le h

    xe : w ≡ timer_tick least x
    xe = we ∙ ap (λ (m : Node). timer_tick least m.watch) ae

    ye : z ≡ timer_tick w y
    ye = ze ∙ ap (λ (m : Node). timer_tick w m.heartbeat) ae

    pub sooner-live : SoonerOf p s i least z
    sooner-live = record {
      low = omega (arith, xe, ye, timer-le least x, timer-le w y);
      watch = λ v n. omega (arith, xe, ye, timer-under least x n, timer-le w y);
      heartbeat = λ v n. omega (arith, ye, timer-under w y n);
      above = λ t k f. omega (arith, ye, timer-above t w y (omega (arith, xe, timer-above t least x k (f.watch live))) (f.heartbeat live));
    }

module _ (p : Plan) (s : State) (t : ℕ) where
  pub under-starts : (least : ℕ) → t < least → Under p s 0 t least
  under-starts least h = record { above = h; watch = λ j k. absurd (omega arith); heartbeat = λ j k. absurd (omega arith) }

  pub under-turn : (n i least z : ℕ) → i < n → Timers p s t n → Under p s i t least → SoonerOf p s i least z → Under p s (i + 1) t z
  under-turn n i least z h ts u so = record {
    above = so.above t u.above before;
    watch = λ j k v m. watch j k v m (ℕ_discrete j i);
    heartbeat = λ j k v m. beat j k v m (ℕ_discrete j i);
  }
    where
      past : (v : ℕ) → t < v → v ≢ suc t → suc t < v
      past v a c = omega arith

      before : Before p s i t
      before = record {
        watch = λ v k. past (node_of s i).watch (ts.watch i v k) (ts.passed i h v).0;
        heartbeat = λ v k. past (node_of s i).heartbeat (ts.heartbeat i v k) (ts.passed i h v).1;
      }

      live : (j : ℕ) → j ≡ i → alive p s.done j ≡ true → alive p s.done i ≡ true
      live j e v = subst (λ (x : ℕ). alive p s.done x ≡ true) e v

      watch : (j : ℕ) → j < i + 1 → alive p s.done j ≡ true → (node_of s j).watch ≢ 0 → Dec (j ≡ i) → z < (node_of s j).watch
      watch j k v m (yes e) =
          subst (λ (x : ℕ). z < (node_of s x).watch) (sym e) (so.watch (live j e v) (subst (λ (x : ℕ). (node_of s x).watch ≢ 0) e m))
      watch j k v m (no e) = omega (arith, so.low, u.watch j (omega arith) v m)

      beat : (j : ℕ) → j < i + 1 → alive p s.done j ≡ true → (node_of s j).heartbeat ≢ 0 → Dec (j ≡ i) → z < (node_of s j).heartbeat
      beat j k v m (yes e) =
          subst (λ (x : ℕ). z < (node_of s x).heartbeat) (sym e) (so.heartbeat (live j e v) (subst (λ (x : ℕ). (node_of s x).heartbeat ≢ 0) e m))
      beat j k v m (no e) = omega (arith, so.low, u.heartbeat j (omega arith) v m)

  -- a node that is not there has no timers
  pub under_all : (i least : ℕ) → length s.nodes ≤ i → Under p s i t least → (t < least) × Timers p s least 0
  under_all i least h u = (
    u.above,
    record {
      watch = λ j v n. watch j v n (dec_lt j i);
      heartbeat = λ j v n. beat j v n (dec_lt j i);
      passed = λ j k. absurd (omega arith);
    },
  )
    where
      none : (j : ℕ) → i ≤ j → node_of s j ≡ alone j 0 0
      none j k = get_or-eq_default s.nodes (alone j 0 0) (omega arith)

      watch : (j : ℕ) → alive p s.done j ≡ true → (node_of s j).watch ≢ 0 → Dec (j < i) → least < (node_of s j).watch
      watch j v n (yes k) = u.watch j k v n
      watch j v n (no k) = absurd (n (ap (λ (m : Node). m.watch) (none j (omega arith))))

      beat : (j : ℕ) → alive p s.done j ≡ true → (node_of s j).heartbeat ≢ 0 → Dec (j < i) → least < (node_of s j).heartbeat
      beat j v n (yes k) = u.heartbeat j k v n
      beat j v n (no k) = absurd (n (ap (λ (m : Node). m.heartbeat) (none j (omega arith))))
