-- A store's turns come to one run of it by itself, with the length of all its turns as budget. Assumes nothing.
use mathlib.Core.Path.{◌≡◌, refl, sym, ap, ◌∙◌}
use mathlib.Core.Bool.{Bool, false, cond, not, ◌&&◌}
use mathlib.Core.List.{List, [], ◌∷◌}
use mathlib.Core.Option.{Option, none, some}
use Prim.Native.Nat.{ℕ, ◌+◌, ◌*◌, ◌^◌, ◌<◌}
use native.Mathlib.Omega.{arith}
use native.Mathlib.Decide.{ℕ_discrete}
use borrow.Author.Tests.{eq-eqb, ne_eqb}
use lib.Dec.{eqb}
use lib.ListN.{length}
use lib.Seq.{get_or-set_same}
use Rattle.limits.specs.declared.Refusal.TheVariants.{TooMany}
use Rattle.limits.specs.Refusals.{number_of}
use Rattle.plans.specs.Plan.{Plan}
use Rattle.plans.proofs.Facts.{plan-plain}
use Rattle.plans.proofs.Few.{crashes-few}
use Rattle.model.specs.Platform.{State, Entry, Ending, spent, finished, overfull, next_event, steps, event_count, run_answer}
use Rattle.model.proofs.Calls.{steps-add, count_add, answer-add, finished-none, spent-full}
use Rattle.model.proofs.NextNumber.{events-bound}
use Rattle.store.specs.Store.{encode, plan_in, state_in}
use Rattle.store.proofs.Store.{plan-encode, state-encode}
use Rattle.std.specs.Prelude.{is_some}
use Rattle.event.specs.Event.{next_of}
use Rattle.event.specs.Ready.{Ready}
use Rattle.event.proofs.Readiness.{steps-fit, steps-ready, ready-sound}
use Rattle.platform.specs.Calls.{ran, AfterRun, run_state, run_next, run_refusal, events_done}
use Rattle.platform.proofs.Stores.{ran-done, ran-number}
use Rattle.dispatcher.specs.Dispatch.{Standing, fresh, is_left, event_left, can_go, after_turn, standing_at, turn_of, after_turns}
use Rattle.dispatcher.specs.Claims.{turns_at}
use Rattle.dispatcher.specs.Tally.{goes_on, is_stopped}
use Rattle.dispatcher.proofs.Round.{turn-length, turn-other}

-- ---- whether an event is left, as the search says

pub some-left : (o : Option Entry) → is_some (next_of o) ≡ is_left o
unfolding next_of is_left
some-left none = refl
some-left (some e) = refl

-- how a store stands after a run of it by itself
abbrev pub alone : List ℕ → ℕ → Standing
alone b k =
    let r : AfterRun = run_next b k in
    record { store = r.store; events = events_done r.answer; stopped = eqb (run_refusal r.answer) (number_of TooMany) }

standing : {b c : List ℕ} {m n : ℕ} {x y : Bool} → b ≡ c → m ≡ n → x ≡ y
    → ◌≡◌ {A = Standing} (record { store = b; events = m; stopped = x }) (record { store = c; events = n; stopped = y })
standing e f g = rw (e, f, g)

module _ (b : List ℕ) (r : Ready b) where
  abbrev p : Plan
  p = plan_in b

  abbrev s : State
  s = state_in b

  -- after k tries
  abbrev reached : ℕ → List ℕ
  reached k = encode p (steps p k s)

  from-range : (k : ℕ) → steps p k s ≡ steps p (r.tries + k) r.from
  from-range k = ap (steps p k) r.is ∙ sym (steps-add p r.tries k r.from)

  reached-ready : (k : ℕ) → Ready (reached k)
  reached-ready k = rw (from-range k) (steps-ready p r.plan r.from r.in_range (r.tries + k))

  reached-plan : (k : ℕ) → plan_in (reached k) ≡ p
  reached-plan k = rw (from-range k) (plan-encode p _ (steps-fit p r.plan r.from r.in_range (r.tries + k)))

  reached-state : (k : ℕ) → state_in (reached k) ≡ steps p k s
  reached-state k = rw (from-range k) (state-encode p _ (steps-fit p r.plan r.from r.in_range (r.tries + k)))

  -- it is ready for more, and its events are few
  pub alone-ready : (k : ℕ) → Ready (alone b k).store
  unfolding run_state
  alone-ready k = reached-ready k

  pub alone-few : (k : ℕ) → (alone b k).events < 2 ^ 64
  unfolding run_state
  alone-few k =
      let pl = plan-plain p r.plan in
      rw (ran-done (run_answer p k s) (event_count p k s))
      (omega (arith, events-bound p pl s (ready-sound b r) k, crashes-few p r.plan, pl.n≤, pl.end≤))

  -- before its first turn
  pub at_first : fresh b ≡ alone b 0
  unfolding fresh run_state steps event_count run_answer ran run_refusal
  at_first = standing r.held.canonical (sym (ran-done (run_answer p 0 s) 0)) (not_yet (next_event p s))
    where
      not_yet : (o : Option Entry) → false ≡ eqb (run_refusal (ran (elim o [ none ↦ finished | some e ↦ spent ]) 0)) (number_of TooMany)
      not_yet none = refl
      not_yet (some e) = refl

  -- a run from there on
  on : (k l : ℕ) → run_next (reached k) l ≡ run_state p (steps p k s) l
  on k l = rw (reached-plan k, reached-state k)

  -- one turn more
  pub goes-on : (k l : ℕ) → 0 < l → after_turn l (alone b k) ≡ alone b (k + l)
  unfolding after_turn run_state
  goes-on k l more =
      let t : State = steps p k s in
      let rest : events_done (run_next (reached k) l).answer ≡ event_count p l t =
      ap (λ (a : AfterRun). events_done a.answer) (on k l) ∙ ran-done (run_answer p l t) (event_count p l t) in
      let number : run_refusal (run_next (reached k) l).answer ≡ run_refusal (ran (run_answer p (k + l) s) (event_count p (k + l) s)) =
      ap (λ (a : AfterRun). run_refusal a.answer) (on k l)
      ∙ ap (λ (a : Ending). run_refusal (ran a (event_count p l t))) (sym (answer-add p k l s more))
      ∙ ran-number (run_answer p (k + l) s) (event_count p l t) (event_count p (k + l) s) in
      standing (ap (λ (a : AfterRun). a.store) (on k l) ∙ ap (encode p) (sym (steps-add p k l s)))
      (omega (
        arith,
        rest,
        ran-done (run_answer p k s) (event_count p k s),
        ran-done (run_answer p (k + l) s) (event_count p (k + l) s),
        count_add p k l s,
      ))
      (ap (λ (k : ℕ). eqb k (number_of TooMany)) number)

-- ---- what a turn does, by its run's answer

module _ (l : ℕ) (x : Standing) (r : Ready x.store) where
  abbrev q : Plan
  q = plan_in x.store

  abbrev u : State
  u = state_in x.store

  abbrev n : ℕ
  n = event_count q l u

  -- it is stopped where that is refused
  pub turn_stopped : (after_turn l x).stopped ≡ is_stopped (run_next x.store l).answer
  unfolding after_turn run_state is_stopped ran run_refusal
  turn_stopped = go (run_answer q l u)
    where
      go : (e : Ending) → eqb (run_refusal (ran e n)) (number_of TooMany) ≡ is_stopped (ran e n)
      go spent = refl
      go finished = refl
      go overfull = refl

  -- it can go on where the turn is spent
  pub turn-able : can_go (after_turn l x) ≡ goes_on (run_next x.store l).answer
  unfolding can_go event_left after_turn run_state is_left goes_on ran run_refusal
  turn-able =
      rw (reached-plan x.store r l, reached-state x.store r l) (go (run_answer q l u) refl (next_event q (steps q l u)) refl)
    where
      go : (e : Ending) → run_answer q l u ≡ e → (o : Option Entry) → next_event q (steps q l u) ≡ o
          → (is_left o && not (eqb (run_refusal (ran e n)) (number_of TooMany))) ≡ goes_on (ran e n)
      go spent h none k = absurd ((spent-full q l u h).1 k)
      go spent h (some e) k = refl
      go finished h none k = refl
      go finished h (some e) k = let z : ◌≡◌ {A = ℕ} 0 1 = cc (sym (finished-none q l u h) ∙ k) in absurd (omega arith)
      go overfull h none k = refl
      go overfull h (some e) k = refl

-- ---- all turns of a store

-- a turn of a store is its own
pub turn-own : (l i : ℕ) (xs : List Standing) → i < length xs → standing_at (turn_of l i xs) i ≡ after_turn l (standing_at xs i)
unfolding turn_of
turn-own l i xs h = get_or-set_same xs i (after_turn l (standing_at xs i)) (fresh []) h

module _ (l : ℕ) (more : 0 < l) (b : List ℕ) (r : Ready b) (i : ℕ) where
  pub after-turns : (is : List ℕ) (xs : List Standing) (k : ℕ) → i < length xs → standing_at xs i ≡ alone b k
      → standing_at (after_turns l is xs) i ≡ alone b (k + turns_at i is * l)
  unfolding after_turns turns_at
  after-turns [] xs k h e = e ∙ ap (alone b) (none_more k)
    where
      none_more : (k : ℕ) → k ≡ k + 0 * l
      none_more k = omega arith
  after-turns (j ∷ is) xs k h e = go (ℕ_discrete j i) (λ k. after-turns is (turn_of l j xs) k (rw turn-length h))
    where
      go : Dec (j ≡ i)
          → ((k : ℕ) → standing_at (turn_of l j xs) i ≡ alone b k
          → standing_at (after_turns l is (turn_of l j xs)) i ≡ alone b (k + turns_at i is * l))
          → standing_at (after_turns l is (turn_of l j xs)) i ≡ alone b (k + (cond (eqb j i) 1 0 + turns_at i is) * l)
      go (yes same) later = rw (eq-eqb j i same) (later (k + l) own ∙ ap (alone b) sum)
        where
          own : standing_at (turn_of l j xs) i ≡ alone b (k + l)
          own = ap (λ (m : ℕ). standing_at (turn_of l m xs) i) same ∙ turn-own l i xs h ∙ ap (after_turn l) e ∙ goes-on b r k l more

          sum : (k + l) + turns_at i is * l ≡ k + (1 + turns_at i is) * l
          sum = omega arith
      go (no other) later = rw (ne_eqb j i other) (later k (turn-other l i j xs (λ q. other (sym q)) ∙ e) ∙ ap (alone b) sum)
        where
          sum : k + turns_at i is * l ≡ k + (0 + turns_at i is) * l
          sum = omega arith
