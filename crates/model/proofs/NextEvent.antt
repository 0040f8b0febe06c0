-- What the next event is, and that nothing is left before it. Assumes nothing.
use mathlib.Core.Path.{◌≡◌, refl, sym, ap, ◌∙◌}
use mathlib.Core.Logic.{◌⊎◌, inl, inr, ◌≢◌}
use mathlib.Core.Bool.{Bool, true, false, cond, not, ◌||◌, true≢false}
use mathlib.Core.List.Memᴰ
use mathlib.Core.List.{List, [], ◌∷◌, ◌++◌, append-nil, Memᴰ}
use mathlib.Core.Option.{Option, none, some}
use Prim.Native.Nat.{ℕ, zero, suc, ◌+◌, ◌≤◌, ◌<◌}
use native.Mathlib.Nat.{add-zero}
use native.Mathlib.Omega.{arith}
use native.Mathlib.Decide.{ℕ_discrete, dec_lt}
use borrow.Author.Tests.{eq-eqb, ne_eqb, leb-true, leb-false, le-leb}
use lib.Dec.{eqb, leb}
use lib.ListN.{length, get_or, take, drop, length-drop, length-take, drop_of_length-le, get_or-eq_default}
use lib.Seq.{drop-cons, take-suc, get_or-take, get_or-drop}
use Rattle.node.specs.declared.Node.{Node}
use Rattle.node.specs.Node.{alone}
use Rattle.model.specs.Platform.{InFlight, State, Event, Entry, entry, crash_entry, crash, message, watch, heartbeat, alive, crash_entries}
use Rattle.model.specs.Platform.{message_entries, timer_entry, timer_entries, pending, earlier, first, up_to, next_event, node_of, no_message, message_at}
use Rattle.plans.specs.Plain.{no_crash, row_at, Plain}
use Rattle.plans.proofs.Rows.{hit-of, hit-where, hits-snoc}
use Rattle.model.specs.Range.{NotBefore}
use Rattle.plans.specs.Plan.{Crash, Plan, hits}
use Rattle.model.specs.Claims.{NoneLeftBefore}

-- ---- the first with the least tick

unfoldable pub Under : ℕ → Option Entry → Type 0
Under t none = Unit {0}
Under t (some g) = t ≤ g.tick

-- f is the first of xs and of others, whose first is r
unfoldable pub FirstOf : List Entry → Option Entry → Option Entry → Type 0
FirstOf xs r none = ((e : Entry) → Memᴰ e xs → ⊥) × (r ≡ none)
FirstOf xs r (some f) =
    (Memᴰ f xs × ((e : Entry) → Memᴰ e xs → f.tick ≤ e.tick) × Under f.tick r)
    ⊎ (((e : Entry) → Memᴰ e xs → f.tick < e.tick) × (r ≡ some f))

pub under : (f g : ℕ) (q : Option Entry) → f ≤ g → Under g q → Under f q
unfolding Under
under f g none h u = tt
under f g (some e) h u = omega arith

pub under-is : (f : ℕ) (g : Entry) (q : Option Entry) → f ≤ g.tick → q ≡ some g → Under f q
unfolding Under
under-is f g q h e = rw e h

pub under_some : (f : ℕ) (g : Entry) → f ≤ g.tick → Under f (some g)
unfolding Under
under_some f g h = h

pub under_none : (f : ℕ) (q : Option Entry) → q ≡ none → Under f q
unfolding Under
under_none f q e = rw e tt

pub first_of : (xs ys : List Entry) → FirstOf xs (first ys) (first (xs ++ ys))
unfolding FirstOf first earlier
first_of [] ys = go (first ys)
  where
    go : (r : Option Entry) → FirstOf [] r r
    go none = (λ e m. Memᴰ.not-nil m, refl)
    go (some f) = inr (λ e m. absurd (Memᴰ.not-nil m), refl)
first_of (x ∷ xs) ys = go (first (xs ++ ys)) (first_of xs ys)
  where
    two : (P : Entry → Type 0) → P x → ((e : Entry) → Memᴰ e xs → P e) → (e : Entry) → Memᴰ e (x ∷ xs) → P e
    two P a b e m = at (Memᴰ.cases_cons m)
      where
        at : (e ≡ x) ⊎ Memᴰ e xs → P e
        at (inl q) = rw q a
        at (inr q) = b e q

    pick : (g : Entry) (b : Bool) → leb x.tick g.tick ≡ b → FirstOf xs (first ys) (some g) → FirstOf (x ∷ xs) (first ys) (some (cond b x g))
    pick g true q (inl h) =
        let le : x.tick ≤ g.tick =
        leb-true x.tick g.tick q in
        inl (
          Memᴰ.head refl,
          two (λ e. x.tick ≤ e.tick) (omega arith) (λ e m. omega (arith, h.1 e m)),
          under x.tick g.tick (first ys) le h.2,
        )
    pick g true q (inr h) =
        let le : x.tick ≤ g.tick =
        leb-true x.tick g.tick q in
        inl (
          Memᴰ.head refl,
          two (λ e. x.tick ≤ e.tick) (omega arith) (λ e m. omega (arith, h.0 e m)),
          under-is x.tick g (first ys) le h.1,
        )
    pick g false q (inl h) =
        let lt : g.tick < x.tick =
        leb-false x.tick g.tick q in
        inl (Memᴰ.tail h.0, two (λ e. g.tick ≤ e.tick) (omega arith) h.1, h.2)
    pick g false q (inr h) = let lt : g.tick < x.tick = leb-false x.tick g.tick q in inr (two (λ e. g.tick < e.tick) lt h.0, h.1)

    go : (q : Option Entry) → FirstOf xs (first ys) q → FirstOf (x ∷ xs) (first ys) (some (earlier x q))
    go none h = inl (Memᴰ.head refl, two (λ e. x.tick ≤ e.tick) (omega arith) (λ e m. absurd (h.0 e m)), under_none x.tick (first ys) h.1)
    go (some g) h = pick g (leb x.tick g.tick) refl h

-- ---- of the crashes to come, only the next counts

earlier-stays : (x : Entry) (r : Option Entry) → Under x.tick r → earlier x r ≡ x
unfolding Under earlier
earlier-stays x none u = refl
earlier-stays x (some f) u = rw (le-leb x.tick f.tick u)

-- entries that are not before x, and after it in order, are never first
first-leads : (x : Entry) (xs ys : List Entry) → ((e : Entry) → Memᴰ e xs → x.tick ≤ e.tick) → first (x ∷ (xs ++ ys)) ≡ first (x ∷ ys)
unfolding first FirstOf
first-leads x xs ys h = go (first (xs ++ ys)) (first ys) (first_of xs ys)
  where
    go : (q r : Option Entry) → FirstOf xs r q → some (earlier x q) ≡ some (earlier x r)
    go none r a = rw a.1
    go (some f) r (inr a) = rw a.1
    go (some f) r (inl a) =
        let le : x.tick ≤ f.tick = h f a.0 in
        ap some (earlier-stays x (some f) (under_some x.tick f le) ∙ sym (earlier-stays x r (under x.tick f.tick r le a.2)))

-- the C lines that are not done, the messages in flight and the timers of live nodes, as entries
abbrev pub rows_left : Plan → State → List Crash
rows_left p s = drop s.done p.crashes

abbrev pub deliveries : State → List Entry
deliveries s = message_entries 0 s.flight

abbrev pub timers_of : Plan → State → List Entry
timers_of p s = timer_entries p s.done 0 s.nodes

unfoldable pub next_crash : List Crash → List Entry
next_crash [] = []
next_crash (r ∷ rs) = crash_entry r ∷ []

-- what is pending, with the next crash alone
unfoldable pub soon : Plan → State → List Entry
soon p s = next_crash (rows_left p s) ++ (deliveries s ++ timers_of p s)

pub crashes-in : (rows : List Crash) (z : Crash) (e : Entry) → Memᴰ e (crash_entries rows)
    → (i : ℕ) × (i < length rows) × (e.tick ≡ (get_or rows i z).tick)
unfolding crash_entries
crashes-in [] z e m = absurd (Memᴰ.not-nil m)
crashes-in (r ∷ rs) z e m = go (Memᴰ.cases_cons m) (crashes-in rs z e)
  where
    go : (e ≡ crash_entry r) ⊎ Memᴰ e (crash_entries rs)
        → (Memᴰ e (crash_entries rs) → (i : ℕ) × (i < length rs) × (e.tick ≡ (get_or rs i z).tick))
        → (i : ℕ) × (i < length (r ∷ rs)) × (e.tick ≡ (get_or (r ∷ rs) i z).tick)
    go (inl q) ih = (0, omega arith, ap (λ (a : Entry). a.tick) q)
    go (inr q) ih = let w : (i : ℕ) × (i < length rs) × (e.tick ≡ (get_or rs i z).tick) = ih q in (suc w.0, omega (arith, w.1), w.2)

next-among : (rows : List Crash) (e : Entry) → Memᴰ e (next_crash rows) → Memᴰ e (crash_entries rows)
unfolding next_crash crash_entries
next-among [] e m = m
next-among (r ∷ rs) e m = Memᴰ.head (Memᴰ.eq_of_singleton m)

-- ---- rows

module _ (p : Plan) (pl : Plain p) where
  -- a live node's row is not done
  pub undone : (done i : ℕ) → i < length p.crashes → alive p done (row_at p i).node ≡ true → done ≤ i
  unfolding alive
  undone done i h a = go (dec_lt i done)
    where
      go : Dec (i < done) → done ≤ i
      go (no c) = omega arith
      go (yes c) =
          absurd (true≢false (sym a
          ∙ ap not (hit-of (take done p.crashes) no_crash i (row_at p i).node (rw length-take (omega arith))
          (ap (λ (r : Crash). r.node) (get_or-take done p.crashes i no_crash c)))))

  -- the node of the next row is live
  pub next-alive : (done : ℕ) → done < length p.crashes → alive p done (row_at p done).node ≡ true
  unfolding alive
  next-alive done h = go (hits (take done p.crashes) (row_at p done).node) refl
    where
      go : (b : Bool) → hits (take done p.crashes) (row_at p done).node ≡ b → not b ≡ true
      go false e = refl
      go true e =
          let w : (i : ℕ) × (i < length (take done p.crashes)) × ((get_or (take done p.crashes) i no_crash).node ≡ (row_at p done).node) =
          hit-where (take done p.crashes) no_crash (row_at p done).node e in
          let i< : w.0 < done = omega (arith, w.1, length-take done p.crashes) in
          absurd (pl.once w.0 done i< h (sym (ap (λ (r : Crash). r.node) (get_or-take done p.crashes w.0 no_crash i<)) ∙ w.2))

  -- one row more
  alive-suc : (done k : ℕ) → done < length p.crashes → alive p (suc done) k ≡ not (hits (take done p.crashes) k || eqb (row_at p done).node k)
  unfolding alive
  alive-suc done k h =
      ap not (ap (λ (l : List Crash). hits l k) (take-suc p.crashes done no_crash h) ∙ hits-snoc (take done p.crashes) (row_at p done) k)

  pub alive-hit : (done : ℕ) → done < length p.crashes → alive p (suc done) (row_at p done).node ≡ false
  alive-hit done h =
      alive-suc done (row_at p done).node h
      ∙ rw (eq-eqb (row_at p done).node (row_at p done).node refl) (go (hits (take done p.crashes) (row_at p done).node))
    where
      go : (a : Bool) → not (a || true) ≡ false
      go true = refl
      go false = refl

  pub alive-other : (done k : ℕ) → done < length p.crashes → k ≢ (row_at p done).node → alive p (suc done) k ≡ alive p done k
  unfolding alive
  alive-other done k h ne = alive-suc done k h ∙ rw (ne_eqb (row_at p done).node k (λ e. ne (sym e))) (go (hits (take done p.crashes) k))
    where
      go : (a : Bool) → not (a || false) ≡ not a
      go true = refl
      go false = refl

  -- ---- the entries

  pub crash-in : (s : State) (e : Entry) → Memᴰ e (next_crash (rows_left p s))
      → (s.done < length p.crashes) × (e ≡ crash_entry (row_at p s.done))
  unfolding next_crash
  crash-in s e m = go (dec_lt s.done (length p.crashes))
    where
      go : Dec (s.done < length p.crashes) → (s.done < length p.crashes) × (e ≡ crash_entry (row_at p s.done))
      go (yes h) = (h, Memᴰ.eq_of_singleton (rw (drop-cons p.crashes s.done no_crash h) at m))
      go (no h) = absurd (Memᴰ.not-nil (rw (drop_of_length-le p.crashes {i = s.done} (omega arith)) at m))

  pub crash-has : (s : State) → s.done < length p.crashes → Memᴰ (crash_entry (row_at p s.done)) (next_crash (rows_left p s))
  unfolding next_crash
  crash-has s h = rw (drop-cons p.crashes s.done no_crash h) (Memᴰ.head refl)

  -- if the next row is at c or later, all that are not done are
  pub crash-all : (s : State) (c : ℕ) → ((e : Entry) → Memᴰ e (next_crash (rows_left p s)) → c ≤ e.tick) → (i : ℕ) → s.done ≤ i
      → i < length p.crashes
      → c ≤ (row_at p i).tick
  crash-all s c f i a b = go (ℕ_discrete i s.done)
    where
      base : c ≤ (row_at p s.done).tick
      base = f _ (crash-has s (omega arith))

      go : Dec (i ≡ s.done) → c ≤ (row_at p i).tick
      go (yes e) = rw e base
      go (no e) = omega (arith, base, pl.rising s.done i (omega arith) b)

  -- of what is pending, the first is the first of what is soon
  pub first-soon : (s : State) → first (pending p s) ≡ first (soon p s)
  unfolding pending soon crash_entries next_crash
  first-soon s = go (dec_lt s.done (length p.crashes))
    where
      ys : List Entry
      ys = deliveries s ++ timers_of p s

      later : (e : Entry) → s.done < length p.crashes → Memᴰ e (crash_entries (drop (suc s.done) p.crashes))
          → (row_at p s.done).tick ≤ e.tick
      later e h m =
          let w : (i : ℕ) × (i < length (drop (suc s.done) p.crashes)) × (e.tick ≡ (get_or (drop (suc s.done) p.crashes) i no_crash).tick) =
          crashes-in (drop (suc s.done) p.crashes) no_crash e m in
          let q : e.tick ≡ (row_at p (suc s.done + w.0)).tick =
          w.2 ∙ ap (λ (r : Crash). r.tick) (get_or-drop (suc s.done) p.crashes w.0 no_crash) in
          let l : suc s.done + w.0 < length p.crashes = omega (arith, w.1, length-drop (suc s.done) p.crashes) in
          rw q (pl.rising s.done (suc s.done + w.0) (omega arith) l)

      go : Dec (s.done < length p.crashes)
          → first (crash_entries (rows_left p s) ++ (deliveries s ++ timers_of p s)) ≡ first (next_crash (rows_left p s) ++ (deliveries s ++ timers_of p s))
      go (yes h) =
          rw (drop-cons p.crashes s.done no_crash h)
          (first-leads (crash_entry (row_at p s.done)) (crash_entries (drop (suc s.done) p.crashes)) ys (λ e m. later e h m))
      go (no h) = rw (drop_of_length-le p.crashes {i = s.done} (omega arith))

  pub next-soon : (s : State) → next_event p s ≡ up_to p.end (first (soon p s))
  unfolding next_event
  next-soon s = ap (up_to p.end) (first-soon s)

pub msg-in : (ms : List InFlight) (j : ℕ) (e : Entry) → Memᴰ e (message_entries j ms)
    → (i : ℕ) × (i < length ms) × (e ≡ entry (get_or ms i no_message).due (message (j + i)))
unfolding message_entries
msg-in [] j e h = absurd (Memᴰ.not-nil h)
msg-in (m ∷ ms) j e h = go (Memᴰ.cases_cons h) (msg-in ms (suc j) e)
  where
    go : (e ≡ entry m.due (message j)) ⊎ Memᴰ e (message_entries (suc j) ms)
        → (Memᴰ e (message_entries (suc j) ms) → (i : ℕ) × (i < length ms) × (e ≡ entry (get_or ms i no_message).due (message (suc j + i))))
        → (i : ℕ) × (i < length (m ∷ ms)) × (e ≡ entry (get_or (m ∷ ms) i no_message).due (message (j + i)))
    go (inl q) ih = (0, omega arith, rw add-zero q)
    go (inr q) ih =
        let r : (i : ℕ) × (i < length ms) × (e ≡ entry (get_or ms i no_message).due (message (suc j + i))) = ih q in
        let g : suc j + r.0 ≡ j + suc r.0 = omega arith in
        (suc r.0, omega (arith, r.1), rw g at r.2)

pub msg-has : (ms : List InFlight) (j : ℕ) (g : InFlight) → Memᴰ g ms
    → (e : Entry) × Memᴰ e (message_entries j ms) × (e.tick ≡ g.due)
unfolding message_entries
msg-has [] j g h = absurd (Memᴰ.not-nil h)
msg-has (m ∷ ms) j g h = go (Memᴰ.cases_cons h) (msg-has ms (suc j) g)
  where
    go : (g ≡ m) ⊎ Memᴰ g ms → (Memᴰ g ms → (e : Entry) × Memᴰ e (message_entries (suc j) ms) × (e.tick ≡ g.due))
        → (e : Entry) × Memᴰ e (entry m.due (message j) ∷ message_entries (suc j) ms) × (e.tick ≡ g.due)
    go (inl q) ih = (entry m.due (message j), Memᴰ.head refl, ap (λ (a : InFlight). a.due) (sym q))
    go (inr q) ih = let r : (e : Entry) × Memᴰ e (message_entries (suc j) ms) × (e.tick ≡ g.due) = ih q in (r.0, Memᴰ.tail r.1, r.2)

-- ---- timers

pub record Ticks (p : Plan) (done j : ℕ) (ns : List Node) (e : Entry) : Type 0 where
  pub i : ℕ
  pub less : i < length ns
  pub live : alive p done (j + i) ≡ true
  pub which : (z : Node)
      → ((e.event ≡ watch (j + i)) × ((get_or ns i z).watch ≡ suc e.tick))
      ⊎ ((e.event ≡ heartbeat (j + i)) × ((get_or ns i z).heartbeat ≡ suc e.tick))

pub one_in : (v : ℕ) (ev : Event) (e : Entry) → Memᴰ e (timer_entry v ev) → (e.event ≡ ev) × (v ≡ suc e.tick)
unfolding timer_entry
one_in zero ev e m = absurd (Memᴰ.not-nil m)
one_in (suc t) ev e m = rw (Memᴰ.eq_of_singleton m) (refl, refl)

pub one_has : (v : ℕ) (ev : Event) → v ≢ 0 → (e : Entry) × Memᴰ e (timer_entry v ev) × (v ≡ suc e.tick)
unfolding timer_entry
one_has zero ev h = absurd (h refl)
one_has (suc t) ev h = (entry t ev, Memᴰ.head refl, refl)

module _ (p : Plan) (done : ℕ) where
  pub timer-in : (ns : List Node) (j : ℕ) (e : Entry) → Memᴰ e (timer_entries p done j ns) → Ticks p done j ns e
  unfolding timer_entries
  timer-in [] j e m = absurd (Memᴰ.not-nil m)
  timer-in (n ∷ ns) j e m = go (alive p done j) refl m (timer-in ns (suc j) e)
    where
      two : alive p done j ≡ true → Memᴰ e (timer_entry n.watch (watch j)) ⊎ Memᴰ e (timer_entry n.heartbeat (heartbeat j))
          → Ticks p done j (n ∷ ns) e
      two a (inl m) =
          let r : (e.event ≡ watch j) × (n.watch ≡ suc e.tick) =
          one_in n.watch (watch j) e m in
          record { i = 0; less = omega arith; live = rw add-zero a; which = λ z. inl (rw add-zero r.0, r.1) }
      two a (inr m) =
          let r : (e.event ≡ heartbeat j) × (n.heartbeat ≡ suc e.tick) =
          one_in n.heartbeat (heartbeat j) e m in
          record { i = 0; less = omega arith; live = rw add-zero a; which = λ z. inr (rw add-zero r.0, r.1) }

      later : Ticks p done (suc j) ns e → Ticks p done j (n ∷ ns) e
      later r =
          let g : suc j + r.i ≡ j + suc r.i = omega arith in
          record { i = suc r.i; less = omega (arith, r.less); live = rw (← g) r.live; which = λ z. rw (← g) (r.which z) }

      split : Memᴰ e (timer_entry n.watch (watch j) ++ timer_entry n.heartbeat (heartbeat j)) ⊎ Memᴰ e (timer_entries p done (suc j) ns)
          → alive p done j ≡ true → (Memᴰ e (timer_entries p done (suc j) ns) → Ticks p done (suc j) ns e) → Ticks p done j (n ∷ ns) e
      split (inl m) a ih = two a (Memᴰ.append_cases (timer_entry n.watch (watch j)) m)
      split (inr m) a ih = later (ih m)

      go : (b : Bool) → alive p done j ≡ b
          → Memᴰ e (cond b (timer_entry n.watch (watch j) ++ timer_entry n.heartbeat (heartbeat j)) [] ++ timer_entries p done (suc j) ns)
          → (Memᴰ e (timer_entries p done (suc j) ns) → Ticks p done (suc j) ns e) → Ticks p done j (n ∷ ns) e
      go true a m ih = split (Memᴰ.append_cases (timer_entry n.watch (watch j) ++ timer_entry n.heartbeat (heartbeat j)) m) a ih
      go false a m ih = later (ih m)

  -- a live node's timer that is on is an entry
  module _ (z : Node) (f : Node → ℕ) (is : (n : Node) → (f n ≡ n.watch) ⊎ (f n ≡ n.heartbeat)) where
    pub timer-has : (ns : List Node) (j i : ℕ) → i < length ns → alive p done (j + i) ≡ true → f (get_or ns i z) ≢ 0
        → (e : Entry) × Memᴰ e (timer_entries p done j ns) × (f (get_or ns i z) ≡ suc e.tick)
    unfolding timer_entries
    timer-has [] j i h a o = absurd (omega arith)
    timer-has (n ∷ ns) j zero h a o = rw (rw add-zero at a) (go (is n))
      where
        go : (f n ≡ n.watch) ⊎ (f n ≡ n.heartbeat)
            → (e : Entry) × Memᴰ e ((timer_entry n.watch (watch j) ++ timer_entry n.heartbeat (heartbeat j)) ++ timer_entries p done (suc j) ns)
            × (f n ≡ suc e.tick)
        go (inl q) =
            let r : (e : Entry) × Memᴰ e (timer_entry n.watch (watch j)) × (n.watch ≡ suc e.tick) =
            one_has n.watch (watch j) (rw q at o) in
            (r.0, Memᴰ.append_left (timer_entries p done (suc j) ns) (Memᴰ.append_left (timer_entry n.heartbeat (heartbeat j)) r.1), q ∙ r.2)
        go (inr q) =
            let r : (e : Entry) × Memᴰ e (timer_entry n.heartbeat (heartbeat j)) × (n.heartbeat ≡ suc e.tick) =
            one_has n.heartbeat (heartbeat j) (rw q at o) in
            (r.0, Memᴰ.append_left (timer_entries p done (suc j) ns) (Memᴰ.append_right (timer_entry n.watch (watch j)) r.1), q ∙ r.2)
    timer-has (n ∷ ns) j (suc i) h a o =
        let g : j + suc i ≡ suc j + i = omega arith in
        let r : (e : Entry) × Memᴰ e (timer_entries p done (suc j) ns) × (f (get_or ns i z) ≡ suc e.tick) =
        timer-has ns (suc j) i (omega arith) (rw g at a) o in
        (r.0, Memᴰ.append_right (cond (alive p done j) (timer_entry n.watch (watch j) ++ timer_entry n.heartbeat (heartbeat j)) []) r.1, r.2)

-- ---- the choice

module _ (p : Plan) (pl : Plain p) (s : State) where
  abbrev pub A : List Entry
  A = next_crash (rows_left p s)

  abbrev pub B : List Entry
  B = deliveries s

  abbrev pub C : List Entry
  C = timers_of p s

  pub node-on : (f : Node → ℕ) → ((x : ℕ) → f (alone x 0 0) ≡ 0) → (j : ℕ) → f (node_of s j) ≢ 0 → j < length s.nodes
  node-on f z j h = go (dec_lt j (length s.nodes))
    where
      go : Dec (j < length s.nodes) → j < length s.nodes
      go (yes a) = a
      go (no a) = absurd (h (ap f (get_or-eq_default s.nodes (alone j 0 0) {n = j} (omega arith)) ∙ z j))

  not-before : (c m t : ℕ) → ((e : Entry) → Memᴰ e A → c ≤ e.tick) → ((e : Entry) → Memᴰ e B → m ≤ e.tick)
      → ((e : Entry) → Memᴰ e C → t ≤ e.tick) → NotBefore p s c m t
  not-before c m t ha hb hc = record {
    crash = crash-all p pl s c ha;
    message = λ g h. let r : (e : Entry) × Memᴰ e B × (e.tick ≡ g.due) = msg-has s.flight 0 g h in omega (arith, hb r.0 r.1, r.2);
    watch = λ j a o. timed (λ n. n.watch) (λ n. inl refl) (λ x. refl) j a o;
    heartbeat = λ j a o. timed (λ n. n.heartbeat) (λ n. inr refl) (λ x. refl) j a o;
  }
    where
      timed : (f : Node → ℕ) → ((n : Node) → (f n ≡ n.watch) ⊎ (f n ≡ n.heartbeat)) → ((x : ℕ) → f (alone x 0 0) ≡ 0) → (j : ℕ)
          → alive p s.done j ≡ true
          → f (node_of s j) ≢ 0 → t < f (node_of s j)
      timed f is z j a o =
          let zj : 0 + j ≡ j = omega arith in
          let r : (e : Entry) × Memᴰ e C × (f (node_of s j) ≡ suc e.tick) =
          timer-has p s.done (alone j 0 0) f is s.nodes 0 j (node-on f z j o) (rw zj a) o in
          omega (arith, hc r.0 r.1, r.2)

  unfoldable pub Chosen : ℕ → Event → Type 0
  Chosen t (crash k) = (s.done < length p.crashes) × ((row_at p s.done).tick ≡ t) × ((row_at p s.done).node ≡ k) × NotBefore p s t t t
  Chosen t (message i) = (i < length s.flight) × ((message_at s i).due ≡ t) × NotBefore p s (suc t) t t
  Chosen t (watch x) = (x < length s.nodes) × (alive p s.done x ≡ true) × ((node_of s x).watch ≡ suc t) × NotBefore p s (suc t) (suc t) t
  Chosen t (heartbeat x) = (x < length s.nodes) × (alive p s.done x ≡ true) × ((node_of s x).heartbeat ≡ suc t) × NotBefore p s (suc t) (suc t) t

  all_under : (xs : List Entry) (q r : Option Entry) (t : ℕ) → Under t r → FirstOf xs q r
      → ((e : Entry) → Memᴰ e xs → t ≤ e.tick) × Under t q
  unfolding FirstOf Under
  all_under xs q none t u h = (λ e m. absurd (h.0 e m), under_none t q h.1)
  all_under xs q (some g) t u (inl h) = (λ e m. omega (arith, h.1 e m), under t g.tick q u h.2)
  all_under xs q (some g) t u (inr h) = (λ e m. omega (arith, h.0 e m), under-is t g q u h.1)

  unfoldable pub Best : Option Entry → Type 0
  Best none = NotBefore p s (suc p.end) (suc p.end) (suc p.end)
  Best (some e) = (e.tick ≤ p.end) × Chosen e.tick e.event

  crash-chosen : (f : Entry) → Memᴰ f A → NotBefore p s f.tick f.tick f.tick → Chosen f.tick f.event
  unfolding Chosen
  crash-chosen f m nb = let r : (s.done < length p.crashes) × (f ≡ crash_entry (row_at p s.done)) = crash-in p pl s f m in
      rw r.1 (r.0, refl, refl, rw r.1 at nb)

  message-chosen : (f : Entry) → Memᴰ f B → NotBefore p s (suc f.tick) f.tick f.tick → Chosen f.tick f.event
  unfolding Chosen
  message-chosen f m nb =
      let r : (i : ℕ) × (i < length s.flight) × (f ≡ entry (get_or s.flight i no_message).due (message (0 + i))) = msg-in s.flight 0 f m in
      let z : 0 + r.0 ≡ r.0 = omega arith in
      let q : f ≡ entry (get_or s.flight r.0 no_message).due (message r.0) = rw z at r.2 in
      rw q (r.1, refl, rw q at nb)

  timer-chosen : (f : Entry) → Memᴰ f C → NotBefore p s (suc f.tick) (suc f.tick) f.tick → Chosen f.tick f.event
  unfolding Chosen
  timer-chosen f m nb = let r : Ticks p s.done 0 s.nodes f = timer-in p s.done s.nodes 0 f m in go r (r.which (alone r.i 0 0))
    where
      go : (r : Ticks p s.done 0 s.nodes f)
          → ((f.event ≡ watch (0 + r.i)) × ((get_or s.nodes r.i (alone r.i 0 0)).watch ≡ suc f.tick))
          ⊎ ((f.event ≡ heartbeat (0 + r.i)) × ((get_or s.nodes r.i (alone r.i 0 0)).heartbeat ≡ suc f.tick))
          → Chosen f.tick f.event
      go r (inl q) = let z : 0 + r.i ≡ r.i = omega arith in rw (q.0, z) (r.less, rw z at r.live, q.1, nb)
      go r (inr q) = let z : 0 + r.i ≡ r.i = omega arith in rw (q.0, z) (r.less, rw z at r.live, q.1, nb)

  found : (f : Entry) (rb rc : Option Entry) → FirstOf A rb (some f) → FirstOf B rc rb → FirstOf C none rc → Chosen f.tick f.event
  unfolding FirstOf
  found f rb rc (inl a) b c =
      let u : ((e : Entry) → Memᴰ e B → f.tick ≤ e.tick) × Under f.tick rc = all_under B rc rb f.tick a.2 b in
      let v : ((e : Entry) → Memᴰ e C → f.tick ≤ e.tick) × Under f.tick none = all_under C none rc f.tick u.1 c in
      crash-chosen f a.0 (not-before f.tick f.tick f.tick a.1 u.0 v.0)
  found f rb rc (inr a) b c = two (rw a.1 at b)
    where
      three : ((e : Entry) → Memᴰ e B → f.tick < e.tick) → FirstOf C none (some f) → Chosen f.tick f.event
      three hb (inl h) = timer-chosen f h.0 (not-before (suc f.tick) (suc f.tick) f.tick a.0 hb h.1)
      three hb (inr h) = let z : ◌≡◌ {A = ℕ} 0 1 = cc h.1 in absurd (omega arith)

      two : FirstOf B rc (some f) → Chosen f.tick f.event
      two (inl h) =
          let v : ((e : Entry) → Memᴰ e C → f.tick ≤ e.tick) × Under f.tick none = all_under C none rc f.tick h.2 c in
          message-chosen f h.0 (not-before (suc f.tick) f.tick f.tick a.0 h.1 v.0)
      two (inr h) = three h.0 (rw h.1 at c)

  first-a : FirstOf A (first (B ++ C)) (first (soon p s))
  unfolding soon
  first-a = first_of A (B ++ C)

  first-c : FirstOf C none (first C)
  unfolding first
  first-c = rw append-nil at (first_of C [])

  beyond : (t : ℕ) → Under t (first (soon p s)) → NotBefore p s t t t
  beyond t u =
      let a : ((e : Entry) → Memᴰ e A → t ≤ e.tick) × Under t (first (B ++ C)) = all_under A (first (B ++ C)) (first (soon p s)) t u first-a in
      let b : ((e : Entry) → Memᴰ e B → t ≤ e.tick) × Under t (first C) = all_under B (first C) (first (B ++ C)) t a.1 (first_of B C) in
      let c : ((e : Entry) → Memᴰ e C → t ≤ e.tick) × Under t none = all_under C none (first C) t b.1 first-c in
      not-before t t t a.0 b.0 c.0

  pub best : Best (next_event p s)
  unfolding Best up_to Under
  best = rw (next-soon p pl s) (go (first (soon p s)) (λ t u. beyond t u) (λ f a. found f (first (B ++ C)) (first C) a (first_of B C) first-c) first-a)
    where
      go : (r : Option Entry) → ((t : ℕ) → Under t r → NotBefore p s t t t)
          → ((f : Entry) → FirstOf A (first (B ++ C)) (some f) → Chosen f.tick f.event) → FirstOf A (first (B ++ C)) r → Best (up_to p.end r)
      go none by fd a = by (suc p.end) tt
      go (some f) by fd a = at (leb f.tick p.end) refl
        where
          at : (b : Bool) → leb f.tick p.end ≡ b → Best (cond b (some f) none)
          at true e = (leb-true f.tick p.end e, fd f a)
          at false e = by (suc p.end) (leb-false f.tick p.end e)

  -- nothing pending before u, in the words of Claims and by parts
  pub by_parts : (u : ℕ) → NoneLeftBefore p s u → NotBefore p s u u u
  unfolding NoneLeftBefore pending
  by_parts u h = not-before u u u
      (λ e m. h e (Memᴰ.append_left (B ++ C) (next-among (rows_left p s) e m)))
      (λ e m. h e (Memᴰ.append_right (crash_entries (rows_left p s)) (Memᴰ.append_left C m)))
      (λ e m. h e (Memᴰ.append_right (crash_entries (rows_left p s)) (Memᴰ.append_right B m)))
