-- A search for the next event finds it: the earliest tick, the first event at that tick, and the turns of the loops that look for them.
-- Assumes nothing.
use Prim.Native.Nat.{ℕ, zero, suc, ◌+◌, ◌-◌, ◌≤◌, ◌<◌, min}
use mathlib.Core.Path.{◌≡◌, refl, sym, ap, ◌∙◌}
use mathlib.Core.Logic.{◌⊎◌, inl, inr, ◌≢◌}
use mathlib.Core.Bool.{Bool, true, false, cond, not}
use mathlib.Core.List.Memᴰ
use mathlib.Core.List.{List, [], ◌∷◌, ◌++◌, append_assoc, Memᴰ}
use mathlib.Core.Option.{Option as Optional, none, some}
use native.Mathlib.Numerals.{add-one}
use native.Mathlib.Omega.{arith}
use native.Mathlib.Decide.{dec_lt}
use borrow.Author.Tests.{lt-ltb, le-ltb, le-leb, lt-leb, eq-eqb, ne_eqb, eqb-true, eqb-false}
use lib.Dec.{eqb}
use lib.ListN.{length, get_or, drop, length-drop, drop_of_length-le}
use lib.Seq.{drop-cons, get_or-drop}
use Rattle.ring.specs.Ring.{listed, unlisted, count, numbers}
use Rattle.node.specs.declared.Node.{Node}
use Rattle.node.specs.Node.{alone}
use Rattle.plans.specs.Plan.{Crash, Plan}
use Rattle.model.specs.Platform.{InFlight, State, Event, Entry, crash, message, watch, heartbeat, alive, survivors, crashed_list, crash_entries}
use Rattle.model.specs.Platform.{message_entries, timer_entry, timer_entries, pending, earlier, first, up_to, next_event, no_message}
use Rattle.plans.specs.Plain.{no_crash, row_at, Plain}
use Rattle.model.proofs.NextEvent.{Under, crashes-in}
use Rattle.model.proofs.Search.{under_first}
use Rattle.ring.proofs.Laws.{keep-ext}
use Rattle.model.proofs.SettledNode.{crashed-listed}
use Rattle.std.specs.Prelude.{None}
use Rattle.event.specs.Event.{next_of, entry}
use Rattle.event.specs.Search.{sooner, least_tick, crash_tick, timer_tick, first_at}

-- ---- the earliest tick

sooner-taken : (t u : ℕ) → u < t → sooner t u ≡ u
unfolding sooner
sooner-taken t u h = rw (lt-ltb u t h)

sooner-kept : (t u : ℕ) → t ≤ u → sooner t u ≡ t
unfolding sooner
sooner-kept t u h = rw (le-ltb u t h)

sooner-le : (t u : ℕ) → (sooner t u ≤ t) × (sooner t u ≤ u)
sooner-le t u = go (dec_lt u t)
  where
    go : Dec (u < t) → (sooner t u ≤ t) × (sooner t u ≤ u)
    go (yes h) = rw (sooner-taken t u h) (omega arith, omega arith)
    go (no h) = rw (sooner-kept t u (omega arith)) (omega arith, omega arith)

pub sooner-min : (t u : ℕ) → sooner t u ≡ min t u
sooner-min t u = go (dec_lt u t)
  where
    go : Dec (u < t) → sooner t u ≡ min t u
    go (yes h) = sooner-taken t u h ∙ omega arith
    go (no h) = sooner-kept t u (omega arith) ∙ omega arith

pub least-le : (t : ℕ) (xs : List Entry) → least_tick t xs ≤ t
unfolding least_tick
least-le t [] = omega arith
least-le t (e ∷ es) = omega (arith, least-le (sooner t e.tick) es, (sooner-le t e.tick).0)

pub least-append : (t : ℕ) (xs ys : List Entry) → least_tick t (xs ++ ys) ≡ least_tick (least_tick t xs) ys
unfolding least_tick
least-append t [] ys = refl
least-append t (e ∷ es) ys = least-append (sooner t e.tick) es ys

-- ticks that are not before t
pub least-late : (t : ℕ) (xs : List Entry) → ((e : Entry) → Memᴰ e xs → t ≤ e.tick) → least_tick t xs ≡ t
unfolding least_tick
least-late t [] h = refl
least-late t (e ∷ es) h = rw (sooner-kept t e.tick (h e (Memᴰ.head refl))) (least-late t es (λ f m. h f (Memᴰ.tail m)))

least-all : (t : ℕ) (xs : List Entry) (e : Entry) → Memᴰ e xs → least_tick t xs ≤ e.tick
unfolding least_tick
least-all t [] e m = absurd (Memᴰ.not-nil m)
least-all t (x ∷ xs) e m = go (Memᴰ.cases_cons m) (least-all (sooner t x.tick) xs e)
  where
    go : (e ≡ x) ⊎ Memᴰ e xs → (Memᴰ e xs → least_tick (sooner t x.tick) xs ≤ e.tick)
        → least_tick (sooner t x.tick) xs ≤ e.tick
    go (inl q) ih = rw q (omega (arith, least-le (sooner t x.tick) xs, (sooner-le t x.tick).1))
    go (inr q) ih = ih q

-- ---- the first event at the earliest tick

-- an earliest tick below t is that of an entry
found_at : (t : ℕ) (xs : List Entry) → least_tick t xs < t → (f : Entry) × (first_at (least_tick t xs) xs ≡ some f)
unfolding least_tick first_at
found_at t [] h = absurd (omega arith)
found_at t (e ∷ es) h = go (dec_lt (least_tick (sooner t e.tick) es) (sooner t e.tick)) (found_at (sooner t e.tick) es)
  where
    either : (b : Bool) (f : Entry) → first_at (least_tick (sooner t e.tick) es) es ≡ some f → (g : Entry)
        × (cond b (some e) (first_at (least_tick (sooner t e.tick) es) es) ≡ some g)
    either true f q = (e, refl)
    either false f q = (f, q)

    here : Dec (e.tick < t) → sooner t e.tick ≤ least_tick (sooner t e.tick) es → e.tick ≡ least_tick (sooner t e.tick) es
    here (yes k) l = omega (arith, sooner-taken t e.tick k, least-le (sooner t e.tick) es)
    here (no k) l = absurd (omega (arith, sooner-kept t e.tick (omega arith), h))

    go : Dec (least_tick (sooner t e.tick) es < sooner t e.tick) →
        (least_tick (sooner t e.tick) es < sooner t e.tick → (f : Entry) × (first_at (least_tick (sooner t e.tick) es) es ≡ some f))
        → (f : Entry) × (cond (eqb e.tick (least_tick (sooner t e.tick) es)) (some e) (first_at (least_tick (sooner t e.tick) es) es) ≡ some f)
    go (yes k) ih =
        let r : (f : Entry) × (first_at (least_tick (sooner t e.tick) es) es ≡ some f) = ih k in either (eqb e.tick (least_tick (sooner t e.tick) es))
        r.0 r.1
    go (no k) ih = (e, rw (eq-eqb e.tick (least_tick (sooner t e.tick) es) (here (dec_lt e.tick t) (omega arith))))

at_tick : (t : ℕ) (es : List Entry) (f : Entry) → first_at t es ≡ some f → f.tick ≡ t
unfolding first_at
at_tick t [] f h = let z : ◌≡◌ {A = ℕ} 0 1 = cc in absurd (omega arith)
at_tick t (e ∷ es) f h = go (eqb e.tick t) refl h (at_tick t es f)
  where
    go : (b : Bool) → eqb e.tick t ≡ b → cond b (some e) (first_at t es) ≡ some f → (first_at t es ≡ some f → f.tick ≡ t) → f.tick ≡ t
    go true q h ih = let z : e ≡ f = cc in rw (← z) (eqb-true e.tick t q)
    go false q h ih = ih h

first-tick : (t : ℕ) (es : List Entry) (f : Entry) → ((e : Entry) → Memᴰ e es → t ≤ e.tick) → first_at t es ≡ some f
    → first es ≡ some f
unfolding first_at first earlier Under
first-tick t [] f g h = h
first-tick t (e ∷ es) f g h = go (eqb e.tick t) refl h (λ q. first-tick t es f (λ x m. g x (Memᴰ.tail m)) q) (at_tick t es f)
  where
    stays : (r : Optional Entry) → Under e.tick r → some (earlier e r) ≡ some e
    stays none u = refl
    stays (some x) u = rw (le-leb e.tick x.tick u)

    go : (b : Bool) → eqb e.tick t ≡ b → cond b (some e) (first_at t es) ≡ some f → (first_at t es ≡ some f → first es ≡ some f)
        → (first_at t es ≡ some f → f.tick ≡ t) → some (earlier e (first es)) ≡ some f
    go true q h ih tk =
        let a : e.tick ≡ t = eqb-true e.tick t q in
        stays (first es) (under_first e.tick es (λ x m. rw a (g x (Memᴰ.tail m)))) ∙ h
    go false q h ih tk =
        let ne : e.tick ≢ t = eqb-false e.tick t q in
        let ge : t ≤ e.tick = g e (Memᴰ.head refl) in
        let ft : f.tick ≡ t = tk h in
        ap (λ (r : Optional Entry). some (earlier e r)) (ih h) ∙ ap (λ (b : Bool). some (cond b e f)) (lt-leb e.tick f.tick (omega arith))

-- the earliest tick is not after the end: the first event at it is the next
pub at_least : (p : Plan) (s : State) (t : ℕ) → least_tick (suc p.end) (pending p s) ≡ t → t ≤ p.end → next_event p s ≡ first_at t (pending p s)
unfolding next_event up_to
at_least p s t e h =
    let r : (f : Entry) × (first_at t (pending p s) ≡ some f) =
    there (least_tick (suc p.end) (pending p s)) e (found_at (suc p.end) (pending p s) (omega arith)) in
    let q : first (pending p s) ≡ some r.0 =
    first-tick t (pending p s) r.0 (λ f m. omega (arith, e, least-all (suc p.end) (pending p s) f m)) r.1 in
    let k : r.0.tick ≡ t = at_tick t (pending p s) r.0 r.1 in
    rw (q, r.1) (ap (λ (b : Bool). cond b (some r.0) none) (le-leb r.0.tick p.end (omega arith)))
  where
    there : (m : ℕ) → m ≡ t → (f : Entry) × (first_at m (pending p s) ≡ some f) → (f : Entry) × (first_at t (pending p s) ≡ some f)
    there m q r = (r.0, ap (λ (k : ℕ). first_at k (pending p s)) (sym q) ∙ r.1)

-- it is after the end: none is left
pub none_left : (p : Plan) (s : State) (t : ℕ) → least_tick (suc p.end) (pending p s) ≡ t → p.end < t → next_event p s ≡ none
unfolding next_event up_to Under
none_left p s t e h = go (first (pending p s)) (under_first t (pending p s) (λ f m. omega (arith, e, least-all (suc p.end) (pending p s) f m)))
  where
    go : (r : Optional Entry) → Under t r → up_to p.end r ≡ none
    go none u = refl
    go (some f) u = rw (lt-leb f.tick p.end (omega arith))

-- ---- the crashed nodes

-- how many survive, by the crashed list
pub survivors-count : (p : Plan) → Plain p → (done : ℕ) → survivors p done ≡ count p.n (crashed_list p done)
unfolding survivors count unlisted
survivors-count p pl done =
    ap length (keep-ext (alive p done) (λ k. not (listed (crashed_list p done) k)) (numbers 0 p.n)
    (λ k. go (alive p done k) (listed (crashed_list p done) k) (crashed-listed p pl done k)))
  where
    go : (a d : Bool) → d ≡ not a → a ≡ not d
    go true d e = rw e
    go false d e = rw e

-- a node is live unless it is listed
pub live_of : (p : Plan) → Plain p → (done k : ℕ) → listed (crashed_list p done) k ≡ false → alive p done k ≡ true
live_of p pl done k h = go (alive p done k) (sym (crashed-listed p pl done k) ∙ h)
  where
    go : (a : Bool) → not a ≡ false → a ≡ true
    go true e = refl
    go false e = sym e

pub dead-of : (p : Plan) → Plain p → (done k : ℕ) → listed (crashed_list p done) k ≡ true → alive p done k ≡ false
dead-of p pl done k h = go (alive p done k) (sym (crashed-listed p pl done k) ∙ h)
  where
    go : (a : Bool) → not a ≡ true → a ≡ false
    go true e = sym e
    go false e = refl

-- ---- the earliest tick of crashes

-- all are done
pub crashes-over : (p : Plan) (s : State) → length p.crashes ≤ s.done → crash_tick p s.done ≡ suc p.end
unfolding crash_tick crash_entries least_tick
crashes-over p s h = rw (drop_of_length-le p.crashes h)

-- the first undone row is the earliest
pub crash-first : (p : Plan) → Plain p → (s : State) → s.done < length p.crashes → crash_tick p s.done ≡ (row_at p s.done).tick
unfolding crash_tick crash_entries least_tick
crash-first p pl s h =
    rw (drop-cons p.crashes s.done no_crash h)
    (ap (λ (u : ℕ). least_tick u (crash_entries (drop (suc s.done) p.crashes)))
    (sooner-taken (suc p.end) (row_at p s.done).tick (omega (arith, pl.tick s.done h)))
    ∙ least-late (row_at p s.done).tick (crash_entries (drop (suc s.done) p.crashes)) later)
  where
    later : (e : Entry) → Memᴰ e (crash_entries (drop (suc s.done) p.crashes)) → (row_at p s.done).tick ≤ e.tick
    later e m =
        let w : (i : ℕ) × (i < length (drop (suc s.done) p.crashes)) × (e.tick ≡ (get_or (drop (suc s.done) p.crashes) i no_crash).tick) =
        crashes-in (drop (suc s.done) p.crashes) no_crash e m in
        let q : e.tick ≡ (row_at p (suc s.done + w.0)).tick =
        w.2 ∙ ap (λ (r : Crash). r.tick) (get_or-drop (suc s.done) p.crashes w.0 no_crash) in
        rw q (pl.rising s.done (suc s.done + w.0) (omega arith) (omega (arith, w.1, length-drop (suc s.done) p.crashes)))

-- ---- the earliest tick of messages, one after another

module _ (ms : List InFlight) (i l : ℕ) where
  message-next : i < length ms → least_tick l (message_entries i (drop i ms)) ≡ least_tick (sooner l (get_or ms i no_message).due)
      (message_entries (i + 1) (drop (i + 1) ms))
  unfolding message_entries least_tick
  message-next h = rw (add-one i, drop-cons ms i no_message h)

  pub message-least : {d u : ℕ} → i < length ms → d ≡ (get_or ms i no_message).due → u ≡ min l d
      → least_tick l (message_entries i (drop i ms)) ≡ least_tick u (message_entries (i + 1) (drop (i + 1) ms))
  message-least {d} h e q =
      message-next h ∙ ap (λ (u : ℕ). least_tick u (message_entries (i + 1) (drop (i + 1) ms))) (ap (sooner l) (sym e) ∙ sooner-min l d ∙ sym q)

  pub messages-over : length ms ≤ i → least_tick l (message_entries i (drop i ms)) ≡ l
  unfolding message_entries least_tick
  messages-over h = rw (drop_of_length-le ms h)

-- ---- the earliest tick of timers, node by node

pub timer-none : (t v : ℕ) → v ≡ 0 → timer_tick t v ≡ t
unfolding timer_tick
timer-none t v e = rw e

pub timer-min : (t v : ℕ) → v ≢ 0 → timer_tick t v ≡ min t (v - 1)
unfolding timer_tick
timer-min t zero h = absurd (h refl)
timer-min t (suc v) h = let q : suc v - 1 ≡ v = omega arith in rw q (sooner-min t v)

timer-least : (t v : ℕ) (e : Event) → least_tick t (timer_entry v e) ≡ timer_tick t v
unfolding least_tick timer_entry timer_tick
timer-least t zero e = refl
timer-least t (suc v) e = refl

module _ (p : Plan) (pl : Plain p) (d : ℕ) (ns : List Node) (x l : ℕ) where
  node-next : (live : Bool) → alive p d x ≡ live → x < length ns
      → least_tick l (timer_entries p d x (drop x ns)) ≡ least_tick (least_tick l
      (cond live (timer_entry (get_or ns x (alone x 0 0)).watch (watch x) ++ timer_entry (get_or ns x (alone x 0 0)).heartbeat (heartbeat x)) []))
      (timer_entries p d (x + 1) (drop (x + 1) ns))
  unfolding timer_entries
  node-next live e h = rw (add-one x, drop-cons ns x (alone x 0 0) h, e) (least-append l _ _)

  pub live-next : (a : Node) → x < length ns → a ≡ get_or ns x (alone x 0 0) → listed (crashed_list p d) x ≡ false
      → least_tick l (timer_entries p d x (drop x ns)) ≡ least_tick (timer_tick (timer_tick l a.watch) a.heartbeat)
      (timer_entries p d (x + 1) (drop (x + 1) ns))
  live-next a h e un =
      node-next true (live_of p pl d x un) h
      ∙ ap (λ (u : ℕ). least_tick u (timer_entries p d (x + 1) (drop (x + 1) ns)))
      (ap (λ (b : Node). least_tick l (timer_entry b.watch (watch x) ++ timer_entry b.heartbeat (heartbeat x))) (sym e)
      ∙ least-append l (timer_entry a.watch (watch x)) (timer_entry a.heartbeat (heartbeat x))
      ∙ timer-least (least_tick l (timer_entry a.watch (watch x))) a.heartbeat (heartbeat x)
      ∙ ap (λ (u : ℕ). timer_tick u a.heartbeat) (timer-least l a.watch (watch x)))

  pub dead-next : x < length ns → listed (crashed_list p d) x ≡ true → least_tick l (timer_entries p d x (drop x ns)) ≡ least_tick l
      (timer_entries p d (x + 1) (drop (x + 1) ns))
  unfolding least_tick
  dead-next h un = node-next false (dead-of p pl d x un) h

  pub nodes-over : length ns ≤ x → least_tick l (timer_entries p d x (drop x ns)) ≡ l
  unfolding timer_entries least_tick
  nodes-over h = rw (drop_of_length-le ns h)

-- ---- the first event at a tick

module _ (t : ℕ) (rest : List Entry) where
  module _ (rows : List Crash) (i : ℕ) where
    pub crash-hit : i < length rows → (get_or rows i no_crash).tick ≡ t → first_at t (crash_entries (drop i rows) ++ rest) ≡ some
        (entry t (crash (get_or rows i no_crash).node))
    unfolding crash_entries first_at
    crash-hit h e =
        rw (drop-cons rows i no_crash h, eq-eqb (get_or rows i no_crash).tick t e) (ap (λ (u : ℕ). some (entry u (crash (get_or rows i no_crash).node))) e)

    pub crash-skip : i < length rows → (get_or rows i no_crash).tick ≢ t
        → first_at t (crash_entries (drop i rows) ++ rest) ≡ first_at t (crash_entries (drop (i + 1) rows) ++ rest)
    unfolding crash_entries first_at
    crash-skip h e = rw (add-one i, drop-cons rows i no_crash h, ne_eqb (get_or rows i no_crash).tick t e)

    pub crash-end : length rows ≤ i → first_at t (crash_entries (drop i rows) ++ rest) ≡ first_at t rest
    unfolding crash_entries
    crash-end h = rw (drop_of_length-le rows h)

  module _ (ms : List InFlight) (i : ℕ) where
    pub message-hit : i < length ms → (get_or ms i no_message).due ≡ t → first_at t (message_entries i (drop i ms) ++ rest) ≡ some (entry t (message i))
    unfolding message_entries first_at
    message-hit h e = rw (drop-cons ms i no_message h, eq-eqb (get_or ms i no_message).due t e) (ap (λ (u : ℕ). some (entry u (message i))) e)

    pub message-skip : i < length ms → (get_or ms i no_message).due ≢ t → first_at t (message_entries i (drop i ms) ++ rest) ≡ first_at t
        (message_entries (i + 1) (drop (i + 1) ms) ++ rest)
    unfolding message_entries first_at
    message-skip h e = rw (add-one i, drop-cons ms i no_message h, ne_eqb (get_or ms i no_message).due t e)

    pub message-end : length ms ≤ i → first_at t (message_entries i (drop i ms) ++ rest) ≡ first_at t rest
    unfolding message_entries
    message-end h = rw (drop_of_length-le ms h)

  timer-hit : (v : ℕ) (e : Event) → v ≡ t + 1 → first_at t (timer_entry v e ++ rest) ≡ some (entry t e)
  unfolding timer_entry first_at
  timer-hit zero e h = absurd (omega arith)
  timer-hit (suc u) e h = let q : u ≡ t = omega arith in rw (eq-eqb u t q) (ap (λ (k : ℕ). some (entry k e)) q)

  timer-skip : (v : ℕ) (e : Event) → v ≢ t + 1 → first_at t (timer_entry v e ++ rest) ≡ first_at t rest
  unfolding timer_entry first_at
  timer-skip zero e h = refl
  timer-skip (suc u) e h = rw (ne_eqb u t (λ q. h (omega arith)))

module _ (p : Plan) (pl : Plain p) (d : ℕ) (ns : List Node) (t x : ℕ) (a : Node) (h : x < length ns) (is : a ≡ get_or ns x (alone x 0 0)) where
  abbrev Others : List Entry
  Others = timer_entries p d (x + 1) (drop (x + 1) ns)

  mine : listed (crashed_list p d) x ≡ false → timer_entries p d x (drop x ns) ≡ timer_entry a.watch (watch x) ++
      (timer_entry a.heartbeat (heartbeat x) ++ Others)
  unfolding timer_entries
  mine un =
      rw (add-one x, drop-cons ns x (alone x 0 0) h, live_of p pl d x un, is)
      (append_assoc (timer_entry (get_or ns x (alone x 0 0)).watch (watch x)) (timer_entry (get_or ns x (alone x 0 0)).heartbeat (heartbeat x)) _)

  pub watch-hit : listed (crashed_list p d) x ≡ false → a.watch ≡ t + 1 → first_at t (timer_entries p d x (drop x ns)) ≡ some (entry t (watch x))
  watch-hit un e = ap (first_at t) (mine un) ∙ timer-hit t _ a.watch (watch x) e

  pub beat-hit : listed (crashed_list p d) x ≡ false → a.watch ≢ t + 1 → a.heartbeat ≡ t + 1
      → first_at t (timer_entries p d x (drop x ns)) ≡ some (entry t (heartbeat x))
  beat-hit un n e = ap (first_at t) (mine un) ∙ timer-skip t _ a.watch (watch x) n ∙ timer-hit t _ a.heartbeat (heartbeat x) e

  pub live-skip : listed (crashed_list p d) x ≡ false → a.watch ≢ t + 1 → a.heartbeat ≢ t + 1
      → first_at t (timer_entries p d x (drop x ns)) ≡ first_at t Others
  live-skip un n e = ap (first_at t) (mine un) ∙ timer-skip t _ a.watch (watch x) n ∙ timer-skip t _ a.heartbeat (heartbeat x) e

module _ (p : Plan) (pl : Plain p) (d : ℕ) (ns : List Node) (t x : ℕ) where
  pub dead-skip : x < length ns → listed (crashed_list p d) x ≡ true → first_at t (timer_entries p d x (drop x ns)) ≡ first_at t
      (timer_entries p d (x + 1) (drop (x + 1) ns))
  unfolding timer_entries
  dead-skip h un = rw (add-one x, drop-cons ns x (alone x 0 0) h, dead-of p pl d x un)

  pub nodes-end : length ns ≤ x → first_at t (timer_entries p d x (drop x ns)) ≡ none
  unfolding timer_entries first_at
  nodes-end h = rw (drop_of_length-le ns h)

-- ---- a node, as the code tests whether it is listed

pub listed-as : (p : Plan) (d dead x : ℕ) {r b : Bool} → r ≡ listed dead x → dead ≡ crashed_list p d → r ≡ b → listed (crashed_list p d) x ≡ b
listed-as p d dead x is e h = rw (← e, ← is) h

-- ---- the whole search

module _ (p : Plan) (s : State) (c m t : ℕ) (crashes : c ≡ crash_tick p s.done)
    (messages : m ≡ least_tick c (message_entries 0 s.flight)) (timers : t ≡ least_tick m (timer_entries p s.done 0 s.nodes)) where
  earliest : least_tick (suc p.end) (pending p s) ≡ t
  unfolding pending crash_tick
  earliest =
      least-append (suc p.end) (crash_entries (drop s.done p.crashes)) _
      ∙ least-append (crash_tick p s.done) (message_entries 0 s.flight) _
      ∙ rw (← crashes, ← messages) (sym timers)

  pub search-none : p.end < t → next_of (next_event p s) ≡ None
  unfolding next_of
  search-none h = ap next_of (none_left p s t earliest h)

  pub search-found : t ≤ p.end → next_of (next_event p s) ≡ next_of (first_at t (pending p s))
  search-found h = ap next_of (at_least p s t earliest h)

-- for a search that finds no event up to the end tick
pub ruleset none_found = (search-none)
