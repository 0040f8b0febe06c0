-- A report of a node that is not marked yet keeps the invariant. Assumes nothing.
use mathlib.Core.Path.{◌≡◌, refl, ap, sym, ◌∙◌}
use mathlib.Core.Logic.{◌⊎◌, inl, inr, ◌≢◌}
use mathlib.Core.List.{List, [], ◌∷◌}
use mathlib.Core.Bool.{Bool, true, true≢false}
use Prim.Native.Nat.{ℕ, ◌≤◌}
use native.Mathlib.Omega.{arith}
use Rattle.node.specs.Node.{H, O, R}
use Rattle.model.specs.Platform.{InFlight}
use Rattle.model.proofs.Events.{View, Live, Lists, ◌∈◌, Params, Report, listing}
use Rattle.model.proofs.Invariant.{Inv, Covered}
use Rattle.model.proofs.EveryEvent.{GoneBy, Alike, base'}
use Rattle.model.proofs.OneNode.{OnEach, each, alike, timers, adds-lists}
use Rattle.model.proofs.WatchKept.{stays, other-kind, Same, covered-map, answered-map, same-node}

module _ (p : Params) (s s' : View) (i : Inv p s) where
  module _ (m : InFlight) (list' mark' : ℕ → Bool) (out : List InFlight) (e : Report p s s' m list' mark' out) where
    pub report-all : OnEach s s' m.to (listing p (s.node m.to) list' mark')
    report-all = each p s s' m.due m.to _ (m ∷ []) out e.frame

    report-now : s.last ≤ m.due
    report-now = i.base.m-due m e.has

    pub report-late : GoneBy p s m.due m.subject
    report-late =
        record { dead = (i.base.reported m e.has e.kind).dead; long = omega (arith, (i.base.reported m e.has e.kind).long, report-now) }

    pub report-alike : Alike p s s' m.due
    report-alike = alike p s s' m.due m.to _ (m ∷ []) out e.frame e.least (omega arith) (omega arith) report-now record {
      alive = λ h. e.live;
      died = λ h. absurd (true≢false h);
      list = e.adds.kept;
      list' = λ a h. fresh a (e.adds.only a h);
      mark = λ a h. adds-lists p _ _ _ _ _ e.adds e.marks a h;
      emitter = inl refl;
      observer = inl refl;
      new = λ g h. record {
        due = omega (arith, (e.rs.each g h).after);
        from = λ pl. let pl' : p.planned m.to ≡ true =
            rw (sym (e.rs.each g h).by) pl in
            omega (arith, (e.rs.each g h).within, e.least.crash≥ m.to e.live pl', ap p.c (e.rs.each g h).by);
        self = λ q. (e.rs.each g h).self (sym q ∙ (e.rs.each g h).by);
        heartbeat = λ k. absurd (omega (arith, e.rs.kinds g h));
        observer = λ k. absurd (omega (arith, e.rs.kinds g h));
        report = λ k. rw (e.rs.subject g h) report-late;
        N = λ k. (rw (e.rs.each g h).by (i.base.m-N m e.has e.kind).1, (e.rs.each g h).in_n);
        carried = λ q. absurd (omega (arith, e.rs.kinds g h));
      };
    }
      where
        fresh : (a : ℕ) → (Lists s m.to a) ⊎ (a ≡ m.subject) → Lists s m.to a ⊎ GoneBy p s m.due a
        fresh a (inl h) = inl h
        fresh a (inr q) = inr (rw q report-late)

    report-em : (j : ℕ) → (s'.node j).emitter ≡ (s.node j).emitter
    report-em = report-all (λ j n n'. n'.emitter ≡ n.emitter) refl (λ j. refl)

    report-w : (j : ℕ) → (s'.node j).watch ≡ (s.node j).watch
    report-w = report-all (λ j n n'. n'.watch ≡ n.watch) refl (λ j. refl)

    report-sames : (j : ℕ) → Same (s.node j) (s'.node j)
    report-sames = report-all (λ j n n'. Same n n') record { alive = sym e.live; observer = refl; heartbeat = refl } (λ j. same-node _)

    report-covered : (j a : ℕ) → Live s' j → (s'.node j).emitter ≡ a → a ≢ j → Covered p s'.flight j a (s'.node j).watch (s'.node a)
    report-covered j a lj ej ne =
        rw (report-w j)
        (covered-map p s.flight s'.flight j a _ _ _ _ (i.covered j a (report-alike.alive j lj) (sym (report-em j) ∙ ej) ne) (omega arith)
        (report-sames a)
        (λ g h k fr to. stays s'.flight m g (e.frame.keep g h) (other-kind g m H R k e.kind (omega arith)))
        (λ la g h k fr to. stays s'.flight m g (e.frame.keep g h) (other-kind g m O R k e.kind (omega arith))))

    report-old : (g : InFlight) → g.kind ≡ H → (g ∈ s.flight) ⊎ (g ∈ out) → g ∈ s.flight
    report-old g k (inl h) = h
    report-old g k (inr h) = absurd (omega (arith, e.rs.kinds g h))

    pub report-inv : Inv p s'
    report-inv = record {
      base = base' p s s' m.due report-alike i.base;
      timers = timers p s s' m.due m.to _ (m ∷ []) out e.frame e.least report-now i (λ l h. record {
        on = (i.timers m.to l).on;
        off = (i.timers m.to l).off;
        watch≥ = e.least.watch≥ m.to l;
        heartbeat≥ = e.least.heartbeat≥ m.to l;
        heartbeat≤ = λ o. omega (arith, report-now, (i.timers m.to l).heartbeat≤ o);
        to = (i.timers m.to l).to;
        lone = (i.timers m.to l).lone;
      }) (λ h. e.live);
      answered =
          answered-map p s s' i.answered report-alike.alive report-em (λ j. (report-sames j).observer) (λ g h q. report-old g q (e.frame.came g h));
      covered = report-covered;
    }
