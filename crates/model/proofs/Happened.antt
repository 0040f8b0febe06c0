-- An event that is done was the next one and led to what it does; and a node's watch goes before its heartbeat. Assumes nothing.
use mathlib.Core.Path.{◌≡◌, refl, sym, ap, ◌∙◌}
use mathlib.Core.Logic.{◌⊎◌, inl, inr, ◌≢◌}
use mathlib.Core.Bool.{Bool, true, false, cond}
use mathlib.Core.List.Memᴰ
use mathlib.Core.List.{List, ◌∷◌, ◌++◌, append_assoc, Memᴰ}
use mathlib.Core.Option.{Option, none, some}
use Prim.Native.Nat.{ℕ, suc, ◌+◌, ◌≤◌, ◌<◌}
use native.Mathlib.Nat.{zero-add}
use native.Mathlib.Omega.{arith}
use borrow.Author.Tests.{leb-false}
use lib.Dec.{leb}
use lib.ListN.{length, get_or, take, drop, length-take}
use Rattle.node.specs.Node.{alone}
use Rattle.model.specs.Platform.{State, Entry, entry, watch, heartbeat, did, refused, alive, message_entries, timer_entry, timer_entries}
use Rattle.plans.specs.Plan.{Plan}
use Rattle.model.specs.Platform.{earlier, first, up_to, next_event, node_of, apply, fits, tried, try, left, start, steps, after}
use Rattle.plans.specs.Plain.{Plain}
use Rattle.model.specs.Range.{Sound}
use Rattle.model.proofs.NextEvent.{FirstOf, first_of, soon, next-soon, next_crash, crash-in, msg-in, Ticks, timer-in, Chosen, Best, best}
use Rattle.model.proofs.RangesKept.{not-early}
use Rattle.model.proofs.Calls.{steps-add}
use Rattle.model.proofs.Search.{timer-split}

-- ---- an event that is done

pub record Happened (p : Plan) (pl : Plain p) (s : State) (e : Entry) (s' : State) : Type 0 where
  pub next : next_event p s ≡ some e
  pub chosen : Chosen p pl s e.tick e.event
  pub late : s.last ≤ e.tick
  pub end : e.tick ≤ p.end
  pub leads : s' ≡ apply p s e.tick e.event

pub did-happened : (p : Plan) (pl : Plain p) (s : State) → Sound p s → (e : Entry) (s' : State) → try p s ≡ did e s' → Happened p pl s e s'
unfolding try tried Best
did-happened p pl s r e s' h = go (next_event p s) refl (best p pl s) h
  where
    go : (o : Option Entry) → next_event p s ≡ o → Best p pl s o → tried p s o ≡ did e s' → Happened p pl s e s'
    go none n b q = let z : ◌≡◌ {A = ℕ} 0 1 = cc in absurd (omega arith)
    go (some f) n b q = at (fits (apply p s f.tick f.event)) q
      where
        was : e ≡ f → s' ≡ apply p s f.tick f.event → Happened p pl s e s'
        was a z = rw (a, z) (record { next = n; chosen = b.1; late = not-early p pl s r f.tick f.event b.1; end = b.0; leads = refl })

        at : (c : Bool) → cond c (did f (apply p s f.tick f.event)) refused ≡ did e s' → Happened p pl s e s'
        at true q = was (cc) (cc)
        at false q = let z : ◌≡◌ {A = ℕ} 0 1 = cc in absurd (omega arith)

-- one event more
pub after-suc : (p : Plan) (k : ℕ) → after p (suc k) ≡ left (after p k) (try p (after p k))
unfolding after steps
after-suc p k = let e : suc k ≡ k + 1 = omega arith in ap (λ (n : ℕ). steps p n (start p)) e ∙ steps-add p k 1 (start p)

-- ---- the watch before the heartbeat

-- what is first is not after an entry of its own tick
first-not-after : (xs ys : List Entry) (w f : Entry) → first (xs ++ (w ∷ ys)) ≡ some f → f.tick ≡ w.tick → Memᴰ f xs ⊎ (f ≡ w)
unfolding FirstOf first earlier
first-not-after xs ys w f h t = go (first (xs ++ (w ∷ ys))) h (first_of xs (w ∷ ys))
  where
    least : (r : Option Entry) → some (earlier w r) ≡ some f → f ≡ w
    least none q = cc
    least (some g) q = at (leb w.tick g.tick) refl q
      where
        at : (b : Bool) → leb w.tick g.tick ≡ b → some (cond b w g) ≡ some f → f ≡ w
        at true l q = cc
        at false l q = let z : g ≡ f = cc in absurd (omega (arith, leb-false w.tick g.tick l, ap (λ (a : Entry). a.tick) z))

    go : (o : Option Entry) → o ≡ some f → FirstOf xs (some (earlier w (first ys))) o → Memᴰ f xs ⊎ (f ≡ w)
    go none q a = let z : ◌≡◌ {A = ℕ} 0 1 = cc in absurd (omega arith)
    go (some g) q (inl a) = let z : g ≡ f = cc in inl (rw z at a.0)
    go (some g) q (inr a) = inr (least (first ys) (a.1 ∙ q))

module _ (p : Plan) (pl : Plain p) (s : State) (t x : ℕ) (h : x < length s.nodes) (l : alive p s.done x ≡ true) where
  abbrev beat : Entry
  beat = entry t (heartbeat x)

  abbrev Others : List Entry
  Others = next_crash (drop s.done p.crashes) ++ message_entries 0 s.flight

  abbrev Before : List Entry
  Before = timer_entries p s.done 0 (take x s.nodes)

  abbrev Rest : List Entry
  Rest = timer_entry (node_of s x).heartbeat (heartbeat x) ++ timer_entries p s.done (suc x) (drop (suc x) s.nodes)

  abbrev Mine : List Entry
  Mine = timer_entry (suc t) (watch x) ++ timer_entry (node_of s x).heartbeat (heartbeat x)

  watch-there : (node_of s x).watch ≡ suc t → soon p s ≡ (Others ++ Before) ++ (entry t (watch x) ∷ Rest)
  unfolding soon timer_entry
  watch-there q = ap (λ (c : List Entry). next_crash (drop s.done p.crashes) ++ (message_entries 0 s.flight ++ c)) mine ∙ simp append_assoc
    where
      mine : timer_entries p s.done 0 s.nodes ≡ Before ++ (Mine ++ timer_entries p s.done (suc x) (drop (suc x) s.nodes))
      mine = rw (zero-add x, l, q) at (timer-split p s.done (alone x 0 0) s.nodes 0 x h)

  not-among : Memᴰ beat (Others ++ Before) → ⊥
  not-among m = three (Memᴰ.append_cases Others m)
    where
      two : Memᴰ beat (next_crash (drop s.done p.crashes)) ⊎ Memᴰ beat (message_entries 0 s.flight) → ⊥
      two (inl m) = let r = crash-in p pl s beat m in let z : ◌≡◌ {A = ℕ} 0 1 = cc (ap (λ (a : Entry). a.event) r.1) in omega arith
      two (inr m) = let r = msg-in s.flight 0 beat m in let z : ◌≡◌ {A = ℕ} 0 1 = cc (ap (λ (a : Entry). a.event) r.2) in omega arith

      timer : (r : Ticks p s.done 0 (take x s.nodes) beat)
          → ((heartbeat x ≡ watch (0 + r.i)) × ((get_or (take x s.nodes) r.i (alone 0 0 0)).watch ≡ suc t))
          ⊎ ((heartbeat x ≡ heartbeat (0 + r.i)) × ((get_or (take x s.nodes) r.i (alone 0 0 0)).heartbeat ≡ suc t)) → ⊥
      timer r (inl q) = let z : ◌≡◌ {A = ℕ} 0 1 = cc q.0 in omega arith
      timer r (inr q) = let z : x ≡ 0 + r.i = cc q.0 in omega (arith, r.less, length-take x s.nodes)

      three : Memᴰ beat Others ⊎ Memᴰ beat Before → ⊥
      three (inl m) = two (Memᴰ.append_cases (next_crash (drop s.done p.crashes)) m)
      three (inr m) = let r = timer-in p s.done (take x s.nodes) 0 beat m in timer r (r.which (alone 0 0 0))

  -- where a node's heartbeat is the next event, its watch is not due at that tick
  pub watch-first : next_event p s ≡ some (entry t (heartbeat x)) → (node_of s x).watch ≢ suc t
  unfolding up_to
  watch-first n q = go (first (soon p s)) refl (sym (next-soon p pl s) ∙ n)
    where
      never : Memᴰ beat (Others ++ Before) ⊎ (beat ≡ entry t (watch x)) → ⊥
      never (inl m) = not-among m
      never (inr z) = let y : ◌≡◌ {A = ℕ} 0 1 = cc (ap (λ (a : Entry). a.event) z) in omega arith

      go : (o : Option Entry) → first (soon p s) ≡ o → up_to p.end o ≡ some beat → ⊥
      go none f u = let z : ◌≡◌ {A = ℕ} 0 1 = cc in omega arith
      go (some g) f u = at (leb g.tick p.end) u
        where
          at : (b : Bool) → cond b (some g) none ≡ some beat → ⊥
          at true u =
              let z : g ≡ beat = cc in
              never (first-not-after (Others ++ Before) Rest (entry t (watch x)) beat (ap first (sym (watch-there q)) ∙ f ∙ ap some z) refl)
          at false u = let z : ◌≡◌ {A = ℕ} 0 1 = cc in omega arith
