-- What a search of the next event has to show, for each kind of event and for none. Assumes nothing.
use mathlib.Core.Path.{◌≡◌, refl, sym, ap, ap₂, ◌∙◌}
use mathlib.Core.Logic.{◌⊎◌, inl, inr, ◌≢◌}
use mathlib.Core.Bool.{Bool, true, false, cond}
use mathlib.Core.List.Memᴰ
use mathlib.Core.List.{List, [], ◌∷◌, ◌++◌, append_assoc, Memᴰ}
use mathlib.Core.Option.{Option, none, some}
use Prim.Native.Nat.{ℕ, zero, suc, ◌+◌, ◌≤◌, ◌<◌}
use native.Mathlib.Nat.{add-zero, zero-add}
use native.Mathlib.Omega.{arith}
use borrow.Author.Tests.{le-leb, lt-leb}
use lib.Dec.{leb}
use lib.ListN.{length, get_or, take, drop, length-take, length-drop}
use lib.Seq.{drop-cons, get_or-take, get_or-drop}
use Rattle.node.specs.declared.Node.{Node}
use Rattle.node.specs.Node.{alone}
use Rattle.model.specs.Platform.{InFlight, State, Entry, entry, crash_entry, crash, message, watch, heartbeat, alive, crash_entries, message_entries}
use Rattle.model.specs.Platform.{timer_entry, timer_entries, pending, earlier, first, up_to, next_event, node_of, no_message, message_at}
use Rattle.plans.specs.Plain.{no_crash, row_at, Plain}
use Rattle.model.specs.Range.{NotBefore}
use Rattle.plans.specs.Plan.{Crash, Plan}
use Rattle.model.specs.Claims.{NoneLeftBefore}
use Rattle.model.proofs.NextEvent.{Under, rows_left, deliveries, timers_of, next_crash, soon, next-soon, crashes-in, crash-in, msg-in, Ticks, timer-in}
use Rattle.model.proofs.NextEvent.{one_in}
use Rattle.model.proofs.RangesKept.{at_mem}

-- ---- the first with the least tick, by its place

pub under_first : (t : ℕ) (ys : List Entry) → ((f : Entry) → Memᴰ f ys → t ≤ f.tick) → Under t (first ys)
unfolding Under first earlier
under_first t [] h = tt
under_first t (y ∷ ys) h = go (first ys) (under_first t ys (λ f m. h f (Memᴰ.tail m)))
  where
    two : (g : Entry) (b : Bool) → t ≤ g.tick → t ≤ (cond b y g).tick
    two g true u = h y (Memᴰ.head refl)
    two g false u = u

    go : (r : Option Entry) → Under t r → Under t (some (earlier y r))
    go none u = h y (Memᴰ.head refl)
    go (some g) u = two g (leb y.tick g.tick) u

first-at : (xs ys : List Entry) (e : Entry) → ((f : Entry) → Memᴰ f xs → e.tick < f.tick)
    → ((f : Entry) → Memᴰ f ys → e.tick ≤ f.tick)
    → first (xs ++ (e ∷ ys)) ≡ some e
unfolding first earlier Under
first-at [] ys e h g = go (first ys) (under_first e.tick ys g)
  where
    go : (r : Option Entry) → Under e.tick r → some (earlier e r) ≡ some e
    go none u = refl
    go (some f) u = rw (le-leb e.tick f.tick u)
first-at (x ∷ xs) ys e h g =
    ap (λ (r : Option Entry). some (earlier x r)) (first-at xs ys e (λ f m. h f (Memᴰ.tail m)) g)
    ∙ ap (λ (b : Bool). some (cond b x e)) (lt-leb x.tick e.tick (h x (Memᴰ.head refl)))

module _ (p : Plan) (pl : Plain p) (s : State) where
  -- an entry at some place of what is to come
  chosen : (xs ys : List Entry) (e : Entry) → soon p s ≡ xs ++ (e ∷ ys) → ((f : Entry) → Memᴰ f xs → e.tick < f.tick)
      → ((f : Entry) → Memᴰ f ys → e.tick ≤ f.tick) → e.tick ≤ p.end → next_event p s ≡ some e
  unfolding up_to
  chosen xs ys e q h g l = next-soon p pl s ∙ ap (up_to p.end) (ap first q ∙ first-at xs ys e h g) ∙ rw (le-leb e.tick p.end l)

  module _ (c m t : ℕ) (nb : NotBefore p s c m t) where
    late-crash : (f : Entry) → Memᴰ f (next_crash (rows_left p s)) → c ≤ f.tick
    late-crash f h = let r : (s.done < length p.crashes) × (f ≡ crash_entry (row_at p s.done)) = crash-in p pl s f h in
        rw r.1 (nb.crash s.done (omega arith) r.0)

    late-msg : (f : Entry) → Memᴰ f (deliveries s) → m ≤ f.tick
    late-msg f h =
        let r : (i : ℕ) × (i < length s.flight) × (f ≡ entry (get_or s.flight i no_message).due (message (0 + i))) = msg-in s.flight 0 f h in
        rw r.2 (nb.message (message_at s r.0) (at_mem s.flight r.0 r.1))

    on : (v u : ℕ) → v ≡ suc u → (v ≢ 0 → t < v) → t ≤ u
    on v u e f = omega (arith, f (λ z. not-zero z))
      where
        not-zero : v ≡ 0 → ⊥
        not-zero z = omega arith

    late-timer : (f : Entry) → Memᴰ f (timers_of p s) → t ≤ f.tick
    late-timer f h = let r : Ticks p s.done 0 s.nodes f = timer-in p s.done s.nodes 0 f h in
        let z : 0 + r.i ≡ r.i = omega arith in go r (rw z at r.live) (r.which (alone r.i 0 0))
      where
        go : (r : Ticks p s.done 0 s.nodes f) → alive p s.done r.i ≡ true
            → ((f.event ≡ watch (0 + r.i)) × ((get_or s.nodes r.i (alone r.i 0 0)).watch ≡ suc f.tick))
            ⊎ ((f.event ≡ heartbeat (0 + r.i)) × ((get_or s.nodes r.i (alone r.i 0 0)).heartbeat ≡ suc f.tick))
            → t ≤ f.tick
        go r l (inl q) = on _ f.tick q.1 (nb.watch r.i l)
        go r l (inr q) = on _ f.tick q.1 (nb.heartbeat r.i l)

  -- nothing pending before u, by parts and in the words of Claims
  pub none-left-before : (u : ℕ) → NotBefore p s u u u → NoneLeftBefore p s u
  unfolding NoneLeftBefore pending
  none-left-before u nb e m = go (Memᴰ.append_cases (crash_entries (rows_left p s)) m)
    where
      two : Memᴰ e (deliveries s) ⊎ Memᴰ e (timers_of p s) → u ≤ e.tick
      two (inl m) = late-msg u u u nb e m
      two (inr m) = late-timer u u u nb e m

      go : Memᴰ e (crash_entries (rows_left p s)) ⊎ Memᴰ e (deliveries s ++ timers_of p s) → u ≤ e.tick
      go (inr m) = two (Memᴰ.append_cases (deliveries s) m)
      go (inl m) =
          let w : (i : ℕ) × (i < length (rows_left p s))
          × (e.tick ≡ (get_or (rows_left p s) i no_crash).tick) = crashes-in (rows_left p s) no_crash e m in
          let q : e.tick ≡ (row_at p (s.done + w.0)).tick = w.2 ∙ ap (λ (r : Crash). r.tick) (get_or-drop s.done p.crashes w.0 no_crash) in
          rw q (nb.crash (s.done + w.0) (omega arith) (omega (arith, w.1, length-drop s.done p.crashes)))

  -- a crash
  pub found-crash : (t : ℕ) → NotBefore p s t t t → s.done < length p.crashes → (row_at p s.done).tick ≡ t → t ≤ p.end
      → next_event p s ≡ some (entry t (crash (row_at p s.done).node))
  unfolding soon next_crash
  found-crash t nb h e l = chosen [] (deliveries s ++ timers_of p s) (entry t (crash (row_at p s.done).node))
      (rw (drop-cons p.crashes s.done no_crash h) (ap (λ (u : ℕ). (entry u (crash (row_at p s.done).node)) ∷ (deliveries s ++ timers_of p s)) e))
      (λ f m. absurd (Memᴰ.not-nil m))
      (λ f m. rest f (Memᴰ.append_cases (deliveries s) m))
      l
    where
      rest : (f : Entry) → Memᴰ f (deliveries s) ⊎ Memᴰ f (timers_of p s) → t ≤ f.tick
      rest f (inl m) = late-msg t t t nb f m
      rest f (inr m) = late-timer t t t nb f m

-- ---- a message

msg-split : (ms : List InFlight) (j i : ℕ) → i < length ms
    → message_entries j ms
    ≡ message_entries j (take i ms) ++ (entry (get_or ms i no_message).due (message (j + i)) ∷ message_entries (suc (j + i)) (drop (suc i) ms))
unfolding message_entries
msg-split [] j i h = absurd (omega arith)
msg-split (m ∷ ms) j zero h = rw add-zero
msg-split (m ∷ ms) j (suc i) h =
    let e : suc j + i ≡ j + suc i =
    omega arith in
    ap (λ (l : List Entry). (entry m.due (message j)) ∷ l) (rw e at (msg-split ms (suc j) i (omega arith)))

module _ (p : Plan) (pl : Plain p) (s : State) where
  pub found-message : (t i : ℕ) → NotBefore p s (suc t) t t → i < length s.flight → (message_at s i).due ≡ t
      → ((k : ℕ) → k < i → (message_at s k).due ≢ t)
      → t ≤ p.end → next_event p s ≡ some (entry t (message i))
  unfolding soon
  found-message t i nb h e f l =
      chosen p pl s (next_crash (rows_left p s) ++ message_entries 0 (take i s.flight)) (message_entries (suc i) (drop (suc i) s.flight) ++ timers_of p s)
      (entry t (message i))
      split (λ g m. before g (Memᴰ.append_cases (next_crash (rows_left p s)) m))
      (λ g m. later g (Memᴰ.append_cases (message_entries (suc i) (drop (suc i) s.flight)) m)) l
    where
      at : ◌≡◌ {A = Entry} (entry (get_or s.flight i no_message).due (message (0 + i))) (entry t (message i))
      at = ap₂ (λ (u k : ℕ). (entry u (message k))) e (zero-add i)

      C : List Entry
      C = timers_of p s

      whole : deliveries s ≡ message_entries 0 (take i s.flight) ++ (entry t (message i) ∷ message_entries (suc i) (drop (suc i) s.flight))
      whole =
          msg-split s.flight 0 i h
          ∙ ap₂ (λ (a : Entry) (k : ℕ). message_entries 0 (take i s.flight) ++ (a ∷ message_entries (suc k) (drop (suc i) s.flight))) at
          (zero-add i)

      split : next_crash (rows_left p s) ++ (deliveries s ++ timers_of p s)
          ≡ (next_crash (rows_left p s) ++ message_entries 0 (take i s.flight))
          ++ (entry t (message i) ∷ (message_entries (suc i) (drop (suc i) s.flight) ++ timers_of p s))
      split = ap (λ (b : List Entry). next_crash (rows_left p s) ++ (b ++ timers_of p s)) whole ∙ simp append_assoc

      early : (g : Entry) → Memᴰ g (message_entries 0 (take i s.flight)) → t < g.tick
      early g m =
          let r : (k : ℕ) × (k < length (take i s.flight)) × (g ≡ entry (get_or (take i s.flight) k no_message).due (message (0 + k))) =
          msg-in (take i s.flight) 0 g m in
          let a : r.0 < i = omega (arith, r.1, length-take i s.flight) in
          let d : g.tick ≡ (message_at s r.0).due =
          ap (λ (x : Entry). x.tick) r.2 ∙ ap (λ (x : InFlight). x.due) (get_or-take i s.flight r.0 no_message a) in
          let ne : (message_at s r.0).due ≢ t = f r.0 a in
          let ge : t ≤ (message_at s r.0).due = nb.message (message_at s r.0) (at_mem s.flight r.0 (omega arith)) in
          omega arith

      before : (g : Entry) → Memᴰ g (next_crash (rows_left p s)) ⊎ Memᴰ g (message_entries 0 (take i s.flight)) → t < g.tick
      before g (inl m) = late-crash p pl s (suc t) t t nb g m
      before g (inr m) = early g m

      later : (g : Entry) → Memᴰ g (message_entries (suc i) (drop (suc i) s.flight)) ⊎ Memᴰ g (timers_of p s) → t ≤ g.tick
      later g (inr m) = late-timer p pl s (suc t) t t nb g m
      later g (inl m) =
          let r : (k : ℕ) × (k < length (drop (suc i) s.flight))
          × (g ≡ entry (get_or (drop (suc i) s.flight) k no_message).due (message (suc i + k))) =
          msg-in (drop (suc i) s.flight) (suc i) g m in
          let d : g.tick ≡ (message_at s (suc i + r.0)).due =
          ap (λ (x : Entry). x.tick) r.2 ∙ ap (λ (x : InFlight). x.due) (get_or-drop (suc i) s.flight r.0 no_message) in
          rw d (nb.message (message_at s (suc i + r.0)) (at_mem s.flight (suc i + r.0) (omega (arith, r.1, length-drop (suc i) s.flight))))

  -- nothing is left up to the end tick
  pub found_none : NotBefore p s (suc p.end) (suc p.end) (suc p.end) → next_event p s ≡ none
  unfolding up_to Under soon
  found_none nb =
      next-soon p pl s
      ∙ go (first (soon p s)) (under_first (suc p.end) (soon p s) (λ f m. three f (Memᴰ.append_cases (next_crash (rows_left p s)) m)))
    where
      u : ℕ
      u = suc p.end

      two : (f : Entry) → Memᴰ f (deliveries s) ⊎ Memᴰ f (timers_of p s) → suc p.end ≤ f.tick
      two f (inl m) = late-msg p pl s u u u nb f m
      two f (inr m) = late-timer p pl s u u u nb f m

      three : (f : Entry) → Memᴰ f (next_crash (rows_left p s)) ⊎ Memᴰ f (deliveries s ++ timers_of p s) → suc p.end ≤ f.tick
      three f (inl m) = late-crash p pl s u u u nb f m
      three f (inr m) = two f (Memᴰ.append_cases (deliveries s) m)

      go : (r : Option Entry) → Under (suc p.end) r → up_to p.end r ≡ none
      go none h = refl
      go (some e) h = rw (lt-leb e.tick p.end h)

-- ---- a timer

module _ (p : Plan) (d : ℕ) (z : Node) where
  pub timer-split : (ns : List Node) (j x : ℕ) → x < length ns → timer_entries p d j ns
      ≡ timer_entries p d j (take x ns)
      ++ (cond (alive p d (j + x)) (timer_entry (get_or ns x z).watch (watch (j + x)) ++ timer_entry (get_or ns x z).heartbeat (heartbeat (j + x))) []
      ++ timer_entries p d (suc (j + x)) (drop (suc x) ns))
  unfolding timer_entries
  timer-split [] j x h = absurd (omega arith)
  timer-split (n ∷ ns) j zero h = rw add-zero
  timer-split (n ∷ ns) j (suc x) h =
      let e : suc j + x ≡ j + suc x = omega arith in
      ap (λ (l : List Entry). cond (alive p d j) (timer_entry n.watch (watch j) ++ timer_entry n.heartbeat (heartbeat j)) [] ++ l)
      (rw e at (timer-split ns (suc j) x (omega arith)))
      ∙ sym (append_assoc (cond (alive p d j) (timer_entry n.watch (watch j) ++ timer_entry n.heartbeat (heartbeat j)) [])
      (timer_entries p d (suc j) (take x ns)) _)

module _ (p : Plan) (pl : Plain p) (s : State) (t x : ℕ) (nb : NotBefore p s (suc t) (suc t) t) (h : x < length s.nodes) (l : alive p s.done x ≡ true)
    (f : (j : ℕ) → j < x → alive p s.done j ≡ true → ((node_of s j).watch ≢ suc t) × ((node_of s j).heartbeat ≢ suc t)) (end : t ≤ p.end)
  where
    abbrev Before : List Entry
    Before = timer_entries p s.done 0 (take x s.nodes)

    abbrev Rest : List Entry
    Rest = timer_entries p s.done (suc x) (drop (suc x) s.nodes)

    abbrev AB : List Entry
    AB = next_crash (rows_left p s) ++ deliveries s

    abbrev Mine : List Entry
    Mine = timer_entry (node_of s x).watch (watch x) ++ timer_entry (node_of s x).heartbeat (heartbeat x)

    all : soon p s ≡ (AB ++ Before) ++ (Mine ++ Rest)
    unfolding soon
    all = ap (λ (c : List Entry). next_crash (rows_left p s) ++ (deliveries s ++ c)) mine ∙ simp append_assoc
      where
        mine : timers_of p s ≡ Before ++ (Mine ++ Rest)
        mine = rw (zero-add x, l) at (timer-split p s.done (alone x 0 0) s.nodes 0 x h)

    early-timer : (g : Entry) → Memᴰ g Before → t < g.tick
    early-timer g m =
        let r : Ticks p s.done 0 (take x s.nodes) g = timer-in p s.done (take x s.nodes) 0 g m in
        let z : 0 + r.i ≡ r.i = omega arith in
        let a : r.i < x = omega (arith, r.less, length-take x s.nodes) in
        go r a (rw z at r.live) (rw (get_or-take x s.nodes r.i (alone r.i 0 0) a) at (r.which (alone r.i 0 0)))
      where
        off : (v u : ℕ) → v ≡ suc u → (v ≢ 0 → t < v) → v ≢ suc t → t < u
        off v u e k ne = omega (arith, k (λ z. not-zero z))
          where
            not-zero : v ≡ 0 → ⊥
            not-zero z = omega arith

        go : (r : Ticks p s.done 0 (take x s.nodes) g) → r.i < x → alive p s.done r.i ≡ true
            → ((g.event ≡ watch (0 + r.i)) × ((node_of s r.i).watch ≡ suc g.tick))
            ⊎ ((g.event ≡ heartbeat (0 + r.i)) × ((node_of s r.i).heartbeat ≡ suc g.tick))
            → t < g.tick
        go r a b (inl q) = off _ g.tick q.1 (nb.watch r.i b) (f r.i a b).0
        go r a b (inr q) = off _ g.tick q.1 (nb.heartbeat r.i b) (f r.i a b).1

    before : (g : Entry) → Memᴰ g (AB ++ Before) → t < g.tick
    before g m = go (Memᴰ.append_cases AB m)
      where
        two : Memᴰ g (next_crash (rows_left p s)) ⊎ Memᴰ g (deliveries s) → t < g.tick
        two (inl m) = late-crash p pl s (suc t) (suc t) t nb g m
        two (inr m) = late-msg p pl s (suc t) (suc t) t nb g m

        go : Memᴰ g AB ⊎ Memᴰ g Before → t < g.tick
        go (inl m) = two (Memᴰ.append_cases (next_crash (rows_left p s)) m)
        go (inr m) = early-timer g m

    later-timer : (g : Entry) → Memᴰ g Rest → t ≤ g.tick
    later-timer g m = late-timer p pl s (suc t) (suc t) t nb g (rw (sym mine) at (Memᴰ.append_right Before (Memᴰ.append_right Mine m)))
      where
        mine : timers_of p s ≡ Before ++ (Mine ++ Rest)
        mine = rw (zero-add x, l) at (timer-split p s.done (alone x 0 0) s.nodes 0 x h)

    late-beat : (g : Entry) → Memᴰ g (timer_entry (node_of s x).heartbeat (heartbeat x)) → t ≤ g.tick
    late-beat g m = on p pl s (suc t) (suc t) t nb _ g.tick (one_in (node_of s x).heartbeat (heartbeat x) g m).1 (nb.heartbeat x l)

    pub found-watch : (node_of s x).watch ≡ suc t → next_event p s ≡ some (entry t (watch x))
    unfolding timer_entry
    found-watch e = chosen p pl s (AB ++ Before) (timer_entry (node_of s x).heartbeat (heartbeat x) ++ Rest) (entry t (watch x))
        (all ∙ ap (λ (v : ℕ). (AB ++ Before) ++ ((timer_entry v (watch x) ++ timer_entry (node_of s x).heartbeat (heartbeat x)) ++ Rest)) e)
        before (λ g m. after g (Memᴰ.append_cases (timer_entry (node_of s x).heartbeat (heartbeat x)) m)) end
      where
        after : (g : Entry) → Memᴰ g (timer_entry (node_of s x).heartbeat (heartbeat x)) ⊎ Memᴰ g Rest → t ≤ g.tick
        after g (inl m) = late-beat g m
        after g (inr m) = later-timer g m

    pub found-beat : (node_of s x).watch ≢ suc t → (node_of s x).heartbeat ≡ suc t → next_event p s ≡ some (entry t (heartbeat x))
    unfolding timer_entry
    found-beat ne e = chosen p pl s ((AB ++ Before) ++ timer_entry (node_of s x).watch (watch x)) Rest (entry t (heartbeat x))
        (all ∙ ap (λ (v : ℕ). (AB ++ Before) ++ ((timer_entry (node_of s x).watch (watch x) ++ timer_entry v (heartbeat x)) ++ Rest)) e
        ∙ simp append_assoc)
        (λ g m. both g (Memᴰ.append_cases (AB ++ Before) m)) later-timer end
      where
        both : (g : Entry) → Memᴰ g (AB ++ Before) ⊎ Memᴰ g (timer_entry (node_of s x).watch (watch x)) → t < g.tick
        both g (inl m) = before g m
        both g (inr m) =
            let q : (node_of s x).watch ≡ suc g.tick = (one_in (node_of s x).watch (watch x) g m).1 in
            let ge : t ≤ g.tick = on p pl s (suc t) (suc t) t nb _ g.tick q (nb.watch x l) in
            omega arith
