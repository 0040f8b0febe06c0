-- THE THEOREM: what is rehearsed is what the nodes do, for every accepted file whose ring is in number order. The
-- statement is `SameAsNodes` in specs/Nodes.antt.
-- Assumes nothing.
use mathlib.Core.Path.{◌≡◌, refl, sym, ap, ◌∙◌, subst}
use mathlib.Core.Bool.{true}
use mathlib.Core.List.{List}
use mathlib.Core.Option.{Option, none, some}
use Prim.Native.Nat.{ℕ, zero, suc, ◌≤◌, ◌<◌}
use native.Mathlib.Omega.{arith}
use lib.ListN.{length}
use Rattle.limits.specs.Limits.{most_tick, record_size, part_size}
use Rattle.node.specs.declared.Node.{Node}
use Rattle.node.specs.Node.{opening}
use Rattle.host.specs.Record.{encode, decode, sound}
use Rattle.limits.specs.Refusals.{accepted as taken}
use Rattle.host.specs.Call.{open_answer, opened_record, open_leaves}
use Rattle.host.proofs.Facts.{Openable, InRange}
use Rattle.node.proofs.Ranges.{later-range}
use Rattle.host.proofs.Codec.{decode-encode, encode-sound}
use Rattle.host.proofs.Turns.{opening-in-range}
use Rattle.host.proofs.Accepted.{open-accepted}
use Rattle.ring.specs.Ring.{numbers}
use Rattle.plans.specs.Plan.{Plan, order_of, plan_test}
use Rattle.runfile.specs.File.{accepted, file_of}
use Rattle.runfile.proofs.RoundTrip.{accepted-plan}
use Rattle.model.specs.Platform.{State, Entry, Outcome, did, ended, refused, alive, start, node_of, try, left, steps, after}
use Rattle.plans.specs.Plain.{Plain}
use Rattle.model.specs.Range.{Sound}
use Rattle.model.proofs.RangesKept.{start-node, after-range}
use Rattle.plans.proofs.Facts.{plan-plain}
use Rattle.plans.proofs.Tests.{ranges}
use Rattle.model.proofs.Happened.{Happened, did-happened, after-suc}
use Rattle.demands.specs.Nodes.{record_of, NodeCall, call_to, SameEvent, lent, followed, record_after, tick_or, ticked, last_tick, Follows, SameAsNodes}
use Rattle.model.proofs.OfOthers.{after-others}
use Rattle.demands.proofs.OneEvent.{called-live, last-now, leaves-others, event-same}

module _ (p : Plan) (good : plan_test p ≡ true) (order : order_of p ≡ numbers 0 p.n) where
  abbrev pl : Plain p
  pl = plan-plain p good

  abbrev range : (k : ℕ) → Sound p (after p k)
  range k = after-range p pl k

  happened : (k : ℕ) (e : Entry) (s' : State) → try p (after p k) ≡ did e s' → Happened p pl (after p k) e s'
  happened k e s' h = did-happened p pl (after p k) (range k) e s' h

  stepped : (k : ℕ) (e : Entry) (s' : State) → try p (after p k) ≡ did e s' → after p (suc k) ≡ s'
  unfolding left
  stepped k e s' h = after-suc p k ∙ ap (left (after p k)) h

  -- ---- ranges

  openable : (x : ℕ) → x < p.n → Openable x p.n p.h p.w
  openable x h =
      let r = ranges p good in
      record { some = pl.n≥; most = pl.n≤; below = h; h-some = pl.h≥; h-most = r.h-high; w-some = pl.w≥; w-most = r.w-high }

  -- a live node's record, with the last event's tick or a later one
  live-in-range : (s : State) → Sound p s → (x : ℕ) → x < p.n → alive p s.done x ≡ true → (last : ℕ) → s.last ≤ last
      → last ≤ most_tick
      → InRange (record_of p x last (node_of s x))
  unfolding record_of
  live-in-range s r x x_n a last from to = record {
    openable = openable x x_n;
    last = to;
    fields = later-range p.n p.h p.w s.last last (node_of s x) from (r.fields x x_n);
    live = r.live x a;
  }

  -- ---- opening

  opened-fields : (x : ℕ) → x < p.n → opened_record x p.n p.h p.w ≡ record_of p x 0 (node_of (start p) x)
  unfolding opened_record record_of
  opened-fields x h = ap (record_of p x 0) (sym (start-node p pl x h ∙ ap (λ (o : List ℕ). opening o p.h p.w x) order))

  opens : (x : ℕ) → x < p.n → (bytes : List ℕ) → length bytes ≡ record_size
      → (open_answer bytes x p.n p.h p.w ≡ taken) × (open_leaves bytes x p.n p.h p.w ≡ encode (record_of p x 0 (node_of (start p) x)))
  opens x h bytes l = let o = open-accepted bytes x p.n p.h p.w l (openable x h) in (o.0, o.1 ∙ ap encode (opened-fields x h))

  -- ---- one event

  same_at : (k : ℕ) (e : Entry) (s' : State) → try p (after p k) ≡ did e s' → (x : ℕ) (c : NodeCall) → call_to p (after p k) x e.event ≡ some c
      → (last : ℕ) → last ≤ e.tick → (b : List ℕ) → sound b ≡ true → decode b ≡ record_of p x last (node_of (after p k) x)
      → (part : List ℕ) → part_size ≤ length part → SameEvent p (after p k) e s' x c b part
  same_at k e s' t x c q last l b ok d part long =
      let h = happened k e s' t in
      subst (λ (z : State). SameEvent p (after p k) e z x c b part) (sym h.leads)
      (event-same p good (after p k) (range k) e.tick h.late h.end order last l b ok part long (after-others p pl k) e.event h.chosen
      h.next x c q d)

  range_at : (k : ℕ) (e : Entry) (s' : State) → try p (after p k) ≡ did e s' → (x : ℕ) (c : NodeCall) → call_to p (after p k) x e.event ≡ some c
      → (last : ℕ) → (after p k).last ≤ last → last ≤ e.tick → InRange (record_of p x last (node_of (after p k) x))
  range_at k e s' t x c q last from to =
      let h = happened k e s' t in
      let a = called-live p good (after p k) (range k) e.tick h.late h.end e.event h.chosen x c q in
      live-in-range (after p k) (range k) x a.0 a.1 last from (omega (arith, h.end, pl.end≤))

  others-at : (k : ℕ) (e : Entry) (s' : State) → try p (after p k) ≡ did e s' → (x : ℕ) → call_to p (after p k) x e.event ≡ none
      → node_of s' x ≡ node_of (after p k) x
  others-at k e s' t x q =
      let h = happened k e s' t in
      ap (λ (z : State). node_of z x) h.leads ∙ leaves-others p good (after p k) (range k) e.tick h.late h.end e.event h.chosen x q

  last-at : (k : ℕ) (e : Entry) (s' : State) → try p (after p k) ≡ did e s' → s'.last ≡ e.tick
  last-at k e s' t =
      let h = happened k e s' t in
      ap (λ (z : State). z.last) h.leads ∙ last-now p good (after p k) (range k) e.tick h.late h.end e.event

  -- ---- a whole run

  -- what is known of x's record after some events
  record Keeps (x last : ℕ) (s : State) (b : List ℕ) : Type 0 where
    bytes : b ≡ encode (record_of p x last (node_of s x))
    range : InRange (record_of p x last (node_of s x))
    early : last ≤ s.last

  module _ (x : ℕ) (x_n : x < p.n) where
    keeps-sound : (last : ℕ) (s : State) (b : List ℕ) → Keeps x last s b → (sound b ≡ true) × (decode b ≡ record_of p x last (node_of s x))
    keeps-sound last s b w = rw w.bytes (encode-sound _ w.range, decode-encode _ w.range)

    keeps-call : (k last : ℕ) (b part : List ℕ) → part_size ≤ length part → Keeps x last (after p k) b → (e : Entry) (s' : State)
        → try p (after p k) ≡ did e s'
        → (o : Option NodeCall) → call_to p (after p k) x e.event ≡ o → Keeps x (tick_or o e.tick last) s' (lent o e.tick b part)
    unfolding tick_or lent
    keeps-call k last b part long w e s' t none q =
        let h = happened k e s' t in
        let same : node_of (after p k) x ≡ node_of s' x = sym (others-at k e s' t x q) in
        record {
          bytes = w.bytes ∙ ap (λ (n : Node). encode (record_of p x last n)) same;
          range = subst (λ (n : Node). InRange (record_of p x last n)) same w.range;
          early = omega (arith, w.early, h.late, last-at k e s' t);
        }
    keeps-call k last b part long w e s' t (some c) q =
        let h = happened k e s' t in
        let a = called-live p good (after p k) (range k) e.tick h.late h.end e.event h.chosen x c q in
        let ok = keeps-sound last (after p k) b w in
        let now : s'.last ≡ e.tick = last-at k e s' t in
        let live : alive p s'.done x ≡ true = ap (λ (d : ℕ). alive p d x) (ap (λ (z : State). z.done) h.leads ∙ a.2) ∙ a.1 in
        let one = same_at k e s' t x c q last (omega (arith, w.early, h.late)) b ok.0 ok.1 part long in
        record {
          bytes = one.holds;
          range = live-in-range s' (subst (Sound p) (stepped k e s' t) (range (suc k))) x x_n live e.tick (omega arith) (omega (arith, h.end, pl.end≤));
          early = omega arith;
        }

    keeps-step : (k last : ℕ) (b part : List ℕ) → part_size ≤ length part → Keeps x last (after p k) b → (o : Outcome) → try p (after p k) ≡ o
        → Keeps x (ticked p (after p k) x o last) (left (after p k) o) (followed p (after p k) x o b part)
    unfolding ticked left followed
    keeps-step k last b part long w ended t = w
    keeps-step k last b part long w refused t = w
    keeps-step k last b part long w (did e s') t = keeps-call k last b part long w e s' t (call_to p (after p k) x e.event) refl

    module _ (bytes : List ℕ) (size : length bytes ≡ record_size) (parts : ℕ → List ℕ) (long : (i : ℕ) → part_size ≤ length (parts i)) where
      keeps : (k : ℕ) → Keeps x (last_tick p x k) (after p k) (record_after p x bytes parts k)
      unfolding record_after last_tick after steps
      keeps zero = record {
        bytes = (opens x x_n bytes size).1;
        range = subst InRange (opened-fields x x_n) (opening-in-range x p.n p.h p.w (openable x x_n));
        early = omega arith;
      }
      keeps (suc k) =
          subst (λ (z : State). Keeps x (last_tick p x (suc k)) z (record_after p x bytes parts (suc k))) (sym (after-suc p k))
          (keeps-step k (last_tick p x k) (record_after p x bytes parts k) (parts k) (long k) (keeps k) (try p (after p k)) refl)

      follows : Follows p x bytes parts
      follows = record {
        opens = (opens x x_n bytes size).0;
        same = λ k e s' t c q.
            let w = keeps k in
            let b : List ℕ = record_after p x bytes parts k in
            let ok = keeps-sound (last_tick p x k) (after p k) b w in
            let from : last_tick p x k ≤ e.tick = omega (arith, w.early, (happened k e s' t).late) in
            same_at k e s' t x c q (last_tick p x k) from b ok.0 ok.1 (parts k) (long k);
        holds = λ k. (keeps k).bytes;
      }

  all_same : SameAsNodes p
  all_same = record {
    opened = opens;
    event = same_at;
    in_range = λ k e s' t x c q last from to. let i = range_at k e s' t x c q last from to in (encode-sound _ i, decode-encode _ i);
    others = others-at;
    run = follows;
  }

-- WHAT IS REHEARSED IS WHAT THE NODES DO
pub rehearsed : (file : List ℕ) (p : Plan) → file_of file ≡ accepted p → order_of p ≡ numbers 0 p.n → SameAsNodes p
rehearsed file p ok order = all_same p (accepted-plan file p ok) order
