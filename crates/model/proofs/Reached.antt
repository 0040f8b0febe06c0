-- Every state that the events of an accepted file lead to has the invariant; where its crashes are spaced it is settled once S ticks
-- have passed since the last; and however close they came, its survivors are joined once what is due by c + 2 × W × f + D is done,
-- and list every crashed node once what is due by (m − 1) × (H + D) after that is done. Assumes nothing.
use mathlib.Core.Path.{◌≡◌, sym, ap, ◌∙◌, subst}
use mathlib.Core.Bool.{true}
use mathlib.Core.List.{List}
use Prim.Native.Nat.{ℕ, zero, suc, ◌+◌, ◌*◌, ◌≤◌, ◌<◌}
use native.Mathlib.Omega.{arith}
use borrow.Author.Tests.{not-false}
use lib.ListN.{take, length-take}
use Rattle.ring.proofs.Unlisted.{count_by}
use Rattle.node.specs.Node.{due}
use Rattle.plans.specs.Plan.{Crash, Plan}
use Rattle.plans.proofs.Rows.{hits-many}
use Rattle.model.specs.Platform.{State, alive, survivors, node_of, start, apply, Outcome, try, left, steps, after}
use Rattle.plans.specs.Plain.{row_at, Plain}
use Rattle.model.specs.Range.{EndsInE, NotBefore, Sound}
use Rattle.model.specs.Claims.{Spaced, S, settled_by, joined_by, complete_by}
use Rattle.model.proofs.Invariant.{Inv}
use Rattle.model.proofs.InvariantKept.{opened-inv, step-inv}
use Rattle.model.proofs.Phases.{span, crashed_in}
use Rattle.model.proofs.SpacedRuns.{at, Run, opened, run-inv, settles, JoinedIn, SettledIn, Passed, next as next_run}
use Rattle.model.proofs.CloseCrashes.{Near, InARow, joined as joins}
use Rattle.model.proofs.ListsSpread.{KeptSince, step_kept, complete}
use Rattle.model.proofs.RangesKept.{start-range, Tried, happened, none_left, too-many, try_ok, left-range, after-range}
use Rattle.model.proofs.Viewed.{P, tick_of, view, least}
use Rattle.model.proofs.EventSteps.{last_of, survivors-cnt, Does, event-does}
use Rattle.model.proofs.Opened.{start-opened}

module _ (p : Plan) (ac : EndsInE p) where
  abbrev pl : Plain p
  pl = ac.plain

  one-inv : (s : State) → Sound p s → Inv (P p ac) (view p s) → (q : Outcome) → Tried p pl s q → Inv (P p ac) (view p (left s q))
  unfolding left
  one-inv s r i q (happened e b a ch f) =
      step-inv (P p ac) (view p s) (view p (apply p s e.tick e.event)) i (event-does p ac s r i e.tick e.event ch a b).step
  one-inv s r i q (none_left h) = i
  one-inv s r i q (too-many e ch h) = i

  steps-inv : (k : ℕ) (s : State) → Sound p s → Inv (P p ac) (view p s) → Inv (P p ac) (view p (steps p k s))
  unfolding steps
  steps-inv zero s r i = i
  steps-inv (suc k) s r i = steps-inv k (left s (try p s)) (left-range p pl s r (try p s) (try_ok p pl s r)) (one-inv s r i (try p s) (try_ok p pl s r))

  pub after-inv : (e : ℕ) → Inv (P p ac) (view p (after p e))
  unfolding after
  after-inv e = steps-inv e (start p) (start-range p pl) (opened-inv (P p ac) (view p (start p)) (start-opened p ac))

  -- ---- spaced crashes

  one-done : (s : State) → Sound p s → Inv (P p ac) (view p s) → (q : Outcome) → Tried p pl s q → s.done ≤ (left s q).done
  unfolding left
  one-done s r i q (happened e b a ch f) = (event-does p ac s r i e.tick e.event ch a b).more
  one-done s r i q (none_left h) = omega arith
  one-done s r i q (too-many e ch h) = omega arith

  steps-done : (k : ℕ) (s : State) → Sound p s → Inv (P p ac) (view p s) → s.done ≤ (steps p k s).done
  unfolding steps
  steps-done zero s r i = omega arith
  steps-done (suc k) s r i =
      omega (
        arith,
        one-done s r i (try p s) (try_ok p pl s r),
        steps-done k (left s (try p s)) (left-range p pl s r (try p s) (try_ok p pl s r)) (one-inv s r i (try p s) (try_ok p pl s r)),
      )

  fewer : (a b : ℕ) → a ≤ b → Spaced p b → Spaced p a
  unfolding Spaced
  fewer a b h f i l = f i (omega arith)

  one-run : (s : State) → Sound p s → Run (P p ac) (view p s) (last_of p s.done) → (q : Outcome) → Tried p pl s q → Spaced p (left s q).done
      → Run (P p ac) (view p (left s q)) (last_of p (left s q).done)
  unfolding left
  one-run s r i q (happened e b a ch f) sp =
      let d : Does p ac s r (run-inv (P p ac) i) (apply p s e.tick e.event) = event-does p ac s r (run-inv (P p ac) i) e.tick e.event ch a b in
      subst (Run (P p ac) (view p (apply p s e.tick e.event))) d.last (next_run i d.step (d.spaced sp))
  one-run s r i q (none_left h) sp = i
  one-run s r i q (too-many e ch h) sp = i

  steps-run : (k : ℕ) (s : State) → Sound p s → Run (P p ac) (view p s) (last_of p s.done) → Spaced p (steps p k s).done
      → Run (P p ac) (view p (steps p k s)) (last_of p (steps p k s).done)
  unfolding steps
  steps-run zero s r i sp = i
  steps-run (suc k) s r i sp =
      let r' : Sound p (left s (try p s)) = left-range p pl s r (try p s) (try_ok p pl s r) in
      let v : Inv (P p ac) (view p (left s (try p s))) = one-inv s r (run-inv (P p ac) i) (try p s) (try_ok p pl s r) in
      steps-run k (left s (try p s)) r' (one-run s r i (try p s) (try_ok p pl s r) (fewer _ _ (steps-done k (left s (try p s)) r' v) sp)) sp

  start-run : Run (P p ac) (view p (start p)) (last_of p (start p).done)
  unfolding start
  start-run = opened (start-opened p ac)

  pub after_run : (e : ℕ) → Spaced p (after p e).done → Run (P p ac) (view p (after p e)) (last_of p (after p e).done)
  unfolding after
  after_run e sp = steps-run e (start p) (start-range p pl) start-run sp

  passed : (s : State) (u : ℕ) → Sound p s → NotBefore p s u u u → Passed (P p ac) (view p s) u
  passed s u r nb =
      record
      { flight = (least p ac s r u u u nb).message≥; watch = (least p ac s r u u u nb).watch≥; heartbeat = (least p ac s r u u u nb).heartbeat≥ }

  -- where i + 1 crashes are done and spaced, and nothing is left before the tick of S after the last, every survivor is settled
  pub settled : (e i : ℕ) → (after p e).done ≡ suc i → Spaced p (suc i) → NotBefore p (after p e) (settled_by p i) (settled_by p i) (settled_by p i)
      → (j : ℕ) → j < p.n → alive p (after p e).done j ≡ true → SettledIn (P p ac) (view p (after p e)) j
  unfolding settled_by S
  settled e i d sp nb j j_n l =
      settles (P p ac) (subst (λ n. Run (P p ac) (view p (after p e)) (last_of p n)) d (after_run e (rw d sp)))
      (subst (λ m. Passed (P p ac) (view p (after p e)) ((row_at p i).tick + span (P p ac) m)) (sym (survivors-cnt p ac (after p e) ∙ ap (survivors p) d))
      (passed (after p e) (settled_by p i) (after-range p pl e) nb)) j (j_n, l)

  -- ---- crashes however close

  near : (s : State) → Sound p s → Inv (P p ac) (view p s) → Near (P p ac) (view p s)
  near s r i = record {
    watch = λ j l ne. at_most (node_of s j).watch (s.last + 2 * p.w) (r.fields j (i.base.in_n j ne).0).watch;
    flight = λ m h. let f = r.flying m h in (f.from, f.to, f.due);
  }
    where
      at_most : (v t : ℕ) → v ≤ due t → tick_of v ≤ t
      at_most zero t h = omega arith
      at_most (suc v) t h = omega arith

  -- crashed nodes in a row are no more than the C lines done
  in_a_row : (s : State) → InARow (P p ac) (view p s) s.done
  unfolding alive
  in_a_row s j g j_n g_n dead =
      let rows : List Crash = take s.done p.crashes in
      omega (arith, hits-many p.n pl.order rows j g j_n g_n (λ k h. not-false _ (dead k h)), length-take s.done p.crashes)

  one_kept : (s : State) → Sound p s → Inv (P p ac) (view p s) → KeptSince (P p ac) (view p s) (last_of p s.done) → (q : Outcome) → Tried p pl s q
      → KeptSince (P p ac) (view p (left s q)) (last_of p (left s q).done)
  unfolding left
  one_kept s r i w q (happened e b a ch f) =
      let s' : State = apply p s e.tick e.event in
      let d : Does p ac s r i s' = event-does p ac s r i e.tick e.event ch a b in
      subst (KeptSince (P p ac) (view p s')) d.last
      (step_kept (P p ac) (view p s) (view p s') i (near s r i) (step-inv (P p ac) (view p s) (view p s') i d.step) (last_of p s.done) d.step w)
  one_kept s r i w q (none_left h) = w
  one_kept s r i w q (too-many e ch h) = w

  steps-kept : (k : ℕ) (s : State) → Sound p s → Inv (P p ac) (view p s) → KeptSince (P p ac) (view p s) (last_of p s.done)
      → KeptSince (P p ac) (view p (steps p k s)) (last_of p (steps p k s).done)
  unfolding steps
  steps-kept zero s r i w = w
  steps-kept (suc k) s r i w =
      let q = try_ok p pl s r in
      steps-kept k (left s (try p s)) (left-range p pl s r (try p s) q) (one-inv s r i (try p s) q) (one_kept s r i w (try p s) q)

  after_kept : (e : ℕ) → KeptSince (P p ac) (view p (after p e)) (last_of p (after p e).done)
  unfolding after start
  after_kept e = steps-kept e (start p) (start-range p pl) (opened-inv (P p ac) (view p (start p)) (start-opened p ac)) (tt, tt)

  -- where i + 1 crashes are done
  kept_at : (e i : ℕ) → (after p e).done ≡ suc i → KeptSince (P p ac) (view p (after p e)) (at (row_at p i).tick)
  kept_at e i d = subst (λ n. KeptSince (P p ac) (view p (after p e)) (last_of p n)) d (after_kept e)

  row-at : (e i : ℕ) → (after p e).done ≡ suc i → InARow (P p ac) (view p (after p e)) (suc i)
  row-at e i d = subst (InARow (P p ac) (view p (after p e))) d (in_a_row (after p e))

  -- where i + 1 crashes are done and nothing is left by c + 2 × W × f + D, every survivor is joined
  pub joined : (e i : ℕ) → (after p e).done ≡ suc i
      → NotBefore p (after p e) (suc (joined_by p i)) (suc (joined_by p i)) (suc (joined_by p i))
      → (j : ℕ) → j < p.n → alive p (after p e).done j ≡ true → JoinedIn (P p ac) (view p (after p e)) j
  unfolding joined_by
  joined e i d nb j j_n l =
      let s : State = after p e in
      joins (P p ac) (view p s) (row_at p i).tick (suc i) (suc (joined_by p i)) (after-inv e) (kept_at e i d).0 (row-at e i d) (omega arith)
      (passed s (suc (joined_by p i)) (after-range p pl e) nb) j (j_n, l)

  -- and where nothing is left by (m - 1) × (H + D) after that, every survivor also lists exactly the crashed nodes
  pub completed : (e i : ℕ) → (after p e).done ≡ suc i
      → NotBefore p (after p e) (suc (complete_by p i)) (suc (complete_by p i)) (suc (complete_by p i))
      → (j : ℕ) → j < p.n → alive p (after p e).done j ≡ true → SettledIn (P p ac) (view p (after p e)) j
  unfolding joined_by complete_by
  completed e i d nb j j_n l =
      let s : State = after p e in
      let m : count_by p.n (crashed_in (view p s)) ≡ survivors p (suc i) = survivors-cnt p ac s ∙ ap (survivors p) d in
      complete (P p ac) (view p s) (row_at p i).tick (suc i) (suc (complete_by p i)) (after-inv e) (kept_at e i d).0 (kept_at e i d).1 (row-at e i d)
      (rw m (omega arith)) (passed s (suc (complete_by p i)) (after-range p pl e) nb) j (j_n, l)
