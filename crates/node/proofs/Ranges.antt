-- Each rule leaves a live node in range in range, and what it sends is sendable. It holds in any ring order. Assumes nothing.
use mathlib.Core.Path.{◌≡◌, refl, sym, ap, ◌∙◌}
use mathlib.Core.Logic.{◌⊎◌, inl, inr, ◌≢◌}
use mathlib.Core.Bool.{true, false, true≢false}
use mathlib.Core.List.Memᴰ
use mathlib.Core.List.{List, Memᴰ}
use Prim.Native.Nat.{ℕ, ◌^◌, ◌≤◌, ◌<◌}
use native.Mathlib.Omega.{arith}
use borrow.Author.Tests.{eqb-false}
use lib.ListN.{length}
use lib.Pow.{pow_pos}
use Rattle.limits.specs.Limits.{most_nodes, most_sent}
use Rattle.ring.specs.Ring.{listed, part_of, place, targets, InOrder}
use Rattle.ring.proofs.Lists.{listing-lt, listing-lists, listing-other, listed-none, merging-lt, merging-keeps, merging-neither}
use Rattle.ring.proofs.Lists.{part_none, part-more, part-listing}
use Rattle.ring.proofs.Gaps.{gap}
use Rattle.ring.proofs.GoingBack.{Found}
use Rattle.ring.proofs.Neighbours.{open-back-below, open-back-other, open-next-below, open-next-other, count-some, found_back}
use Rattle.ring.proofs.Passed.{from-below}
use Rattle.node.specs.declared.Message.{Message}
use Rattle.node.specs.declared.Node.{Node}
use Rattle.node.specs.Node.{Turn, off, H, O, R, message, reports, silent, left_list, left_mark, new_emitter, passed_over}
use Rattle.node.specs.Node.{opening, on_heartbeat, on_observer, on_report, on_heartbeat_due, on_watch_due, on_message}
use Rattle.node.specs.Range.{NodeRange, LiveRange, NotOverdue, Known}
use Rattle.node.proofs.Moves.{Opened, joins, starts-alone, opened, heard_list, Heard, renews, unheard, heard, observed}
use Rattle.node.proofs.Moves.{Left, stops, moves, left, Reported, known, own, leaves, relays, reported, beaten}
use Rattle.node.proofs.Learning.{learnt-lt, learnt-not-sender, learnt-not-me}
use Rattle.node.proofs.Sends.{Sendable, carries-none, reports-sendable, left-few, told-few}

-- fields in range stay so at a later tick
pub later-range : (n h w t u : ℕ) (a : Node) → t ≤ u → NodeRange n h w t a → NodeRange n h w u a
later-range n h w t u a l f = record {
  emitter = f.emitter;
  observer = f.observer;
  list = f.list;
  unlisted = f.unlisted;
  mark = f.mark;
  watch = omega (arith, f.watch);
  heartbeat = omega (arith, f.heartbeat);
}

-- a turn that node me, which was a and in range at the last tick, takes at tick t: the node after it is in range if t is not before the
-- last tick, no timer of it is overdue where none was, what it sends is sendable and at most seven messages, and fewer than n nodes were passed
pub record Took (n h w last t me : ℕ) (a : Node) (u : Turn) : Type 0 where
  pub fields : last ≤ t → NodeRange n h w t u.node
  pub live : LiveRange me u.node
  pub timers : NotOverdue t a → NotOverdue t u.node
  pub sends : (v : Message) → Memᴰ v u.sends → Sendable n me v
  pub few : length u.sends ≤ most_sent
  pub passed : u.passed < n

module _ (n : ℕ) (order : List ℕ) (io : InOrder n order) (me : ℕ) (below : me < n) where
  -- ---- opening

  pub opening-range : (h w : ℕ) → NodeRange n h w 0 (opening order h w me) × LiveRange me (opening order h w me)
  opening-range h w = go (opening order h w me) (opened order h w me)
    where
      go : (a : Node) → Opened order h w me a → NodeRange n h w 0 a × LiveRange me a
      go a (joins two) =
          let two-n : 1 < n = omega (arith, io.size) in (
            record {
              emitter = open-back-below n order io me below;
              observer = open-next-below n order io me below;
              list = pow_pos n;
              unlisted = listed-none _;
              mark = part_none 0;
              watch = omega arith;
              heartbeat = omega arith;
            },
            record {
              lists = listed-none me;
              observes = λ on. open-back-other n order io me below two-n;
              sends = λ on. open-next-other n order io me below two-n;
            },
          )
      go a (starts-alone one) = (
        record {
          emitter = below;
          observer = below;
          list = pow_pos n;
          unlisted = listed-none me;
          mark = part_none 0;
          watch = omega arith;
          heartbeat = omega arith;
        },
        record { lists = listed-none me; observes = λ on. absurd (on refl); sends = λ on. absurd (on refl) },
      )

  -- ---- a turn

  module _ (few : n ≤ most_nodes) (h w last t : ℕ) (a : Node) (f : NodeRange n h w last a) (l : LiveRange me a) where
    order-few : length order ≤ most_nodes
    order-few = rw io.size few

    pub silent-took : Took n h w last t me a (silent a)
    silent-took =
        record {
          fields = λ late. later-range n h w last t a late f;
          live = l;
          timers = λ o. o;
          sends = λ v m. absurd (Memᴰ.not-nil m);
          few = omega arith;
          passed = omega arith;
        }

    pub heartbeat-took : (from list : ℕ) → from ≢ me → list < 2 ^ n → Took n h w last t me a (on_heartbeat w t me from list a)
    heartbeat-took from list ne l_n = go (on_heartbeat w t me from list a) (heard w t me from list a)
      where
        within : heard_list w t me from list a < 2 ^ n
        within = merging-lt n a.list _ f.list (learnt-lt me from list n l_n)

        go : (u : Turn) → Heard w t me from list a u → Took n h w last t me a u
        go u (unheard e) = silent-took
        go u (renews e) = record {
          fields = λ late.
              record {
                emitter = f.emitter;
                observer = f.observer;
                list = within;
                unlisted = merging-neither a.list _ a.emitter f.unlisted (rw e (learnt-not-sender me from list));
                mark = part-more n a.mark a.list _ f.list within (merging-keeps a.list _) f.mark;
                watch = omega arith;
                heartbeat = omega (arith, f.heartbeat, late);
              };
          live = record {
            lists = merging-neither a.list _ me l.lists (learnt-not-me me from list);
            observes = λ on q. ne (sym e ∙ q);
            sends = l.sends;
          };
          timers = λ o. record { watch = λ on. omega arith; heartbeat = o.heartbeat };
          sends = λ v m. absurd (Memᴰ.not-nil m);
          few = omega arith;
          passed = omega arith;
        }

    pub observer-took : (from : ℕ) → from < n → from ≢ me → Took n h w last t me a (on_observer t from a)
    observer-took from f_n ne = rw (observed t from a) (record {
      fields = λ late. record {
        emitter = f.emitter;
        observer = f_n;
        list = f.list;
        unlisted = f.unlisted;
        mark = f.mark;
        watch = omega (arith, f.watch, late);
        heartbeat = omega arith;
      };
      live = record { lists = l.lists; observes = l.observes; sends = λ on. ne };
      timers = λ o. record { watch = o.watch; heartbeat = λ on. omega arith };
      sends = λ v m. absurd (Memᴰ.not-nil m);
      few = omega arith;
      passed = omega arith;
    })

    -- leaving an emitter that is another node
    module _ (ne : a.emitter ≢ me) where
      left-unlisted : listed (left_list a) me ≡ false
      left-unlisted = listing-other a.list a.emitter me ne l.lists

      new-emitter : Found n io (listed (left_list a)) me (gap n io me a.emitter) (new_emitter order a)
      new-emitter = found_back n (left_list a) order io me below left-unlisted a.emitter f.emitter ne (listing-lists a.list a.emitter)

      few-passed : passed_over order a < n
      few-passed = from-below n (left_list a) order io a.emitter f.emitter (count-some n (left_list a) order io me below left-unlisted)

      within : left_list a < 2 ^ n
      within = listing-lt n a.list a.emitter f.list f.emitter

      left-mark : part_of (left_mark a) (left_list a) ≡ true
      left-mark = part-listing n a.mark a.list a.emitter f.list f.emitter f.mark

      sent : (v : Message) → new_emitter order a ≢ me
          → (v ≡ message O (new_emitter order a) 0) ⊎ Memᴰ v (reports a.emitter (targets order (left_list a) (place order me)))
          → Sendable n me v
      sent v other (inl e) =
          rw e (record {
            kind = inr (inl refl);
            to = new-emitter.in_n;
            apart = other;
            subject = omega arith;
            about = λ q. absurd (eqb-false O R refl q);
            list = carries-none n O;
          })
      sent v other (inr m) =
          reports-sendable n order io me below (left_list a) left-unlisted a.emitter f.emitter (listing-lists a.list a.emitter) v m

      left-took : (u : Turn) → Left order w t me a u → Took n h w last t me a u
      left-took u (stops e) = record {
        fields = λ late. record {
          emitter = below;
          observer = below;
          list = within;
          unlisted = left-unlisted;
          mark = left-mark;
          watch = omega arith;
          heartbeat = omega arith;
        };
        live = record { lists = left-unlisted; observes = λ on. absurd (on refl); sends = λ on. absurd (on refl) };
        timers = λ o. record { watch = λ on. absurd (on refl); heartbeat = λ on. absurd (on refl) };
        sends = λ v m. absurd (Memᴰ.not-nil m);
        few = omega arith;
        passed = few-passed;
      }
      left-took u (moves other) = record {
        fields = λ late. record {
          emitter = new-emitter.in_n;
          observer = f.observer;
          list = within;
          unlisted = new-emitter.unlisted;
          mark = left-mark;
          watch = omega arith;
          heartbeat = omega (arith, f.heartbeat, late);
        };
        live = record { lists = left-unlisted; observes = λ on. other; sends = l.sends };
        timers = λ o. record { watch = λ on. omega arith; heartbeat = o.heartbeat };
        sends = λ v m. sent v other (Memᴰ.cases_cons m);
        few = left-few order order-few w t me a _ (moves other);
        passed = few-passed;
      }

      -- the emitter moves: the one that is left is listed, and no listed node is taken
      pub left-moves : (u : Turn) → Left order w t me a u → a.emitter ≢ u.node.emitter
      left-moves u (stops e) q = ne q
      left-moves u (moves other) q =
          true≢false (sym (listing-lists a.list a.emitter) ∙ (ap (listed (left_list a)) q ∙ new-emitter.unlisted))

    report-took : (subject : ℕ) → subject < n → Took n h w last t me a (on_report order w t me subject a)
    report-took subject s_n = go (on_report order w t me subject a) (reported order w t me subject a)
      where
        go : (u : Turn) → Reported order w t me subject a u → Took n h w last t me a u
        go u (known e) = silent-took
        go u (own e) = silent-took
        go u (leaves e ne of v x) = left-took (λ q. ne (of ∙ q)) v x
        go u (relays e ne other) =
            let un = listing-other a.list subject me ne l.lists in
            record {
              fields = λ late. record {
                emitter = f.emitter;
                observer = f.observer;
                list = listing-lt n a.list subject f.list s_n;
                unlisted = listing-other a.list subject a.emitter other f.unlisted;
                mark = part-listing n a.mark a.list subject f.list s_n f.mark;
                watch = omega (arith, f.watch, late);
                heartbeat = omega (arith, f.heartbeat, late);
              };
              live = record { lists = un; observes = l.observes; sends = l.sends };
              timers = λ o. record { watch = o.watch; heartbeat = o.heartbeat };
              sends = reports-sendable n order io me below _ un subject s_n (listing-lists a.list subject);
              few = told-few order order-few w t me subject a _ (relays e ne other);
              passed = omega arith;
            }

    pub message-took : (kind from subject list : ℕ) → Known kind → from < n → from ≢ me → (kind ≡ R → subject < n) → list < 2 ^ n
        → Took n h w last t me a (on_message order w t me kind from subject list a)
    unfolding on_message
    message-took kind from subject list (inl e) f_n ne s_n l_n = rw e (heartbeat-took from list ne l_n)
    message-took kind from subject list (inr (inl e)) f_n ne s_n l_n = rw e (observer-took from f_n ne)
    message-took kind from subject list (inr (inr e)) f_n ne s_n l_n = rw e (report-took subject (s_n e))

    pub beat-took : a.heartbeat ≢ off → Took n h w last t me a (on_heartbeat_due h t a)
    beat-took on = rw (beaten h t a) (record {
      fields = λ late. record {
        emitter = f.emitter;
        observer = f.observer;
        list = f.list;
        unlisted = f.unlisted;
        mark = f.mark;
        watch = omega (arith, f.watch, late);
        heartbeat = omega arith;
      };
      live = record { lists = l.lists; observes = l.observes; sends = λ z. l.sends on };
      timers = λ o. record { watch = o.watch; heartbeat = λ z. omega arith };
      sends = λ v m. rw (Memᴰ.eq_of_singleton m) (record {
        kind = inl refl;
        to = f.observer;
        apart = l.sends on;
        subject = omega arith;
        about = λ q. absurd (eqb-false H R refl q);
        list = record { below = f.list; empty = λ q. absurd (q refl) };
      });
      few = omega arith;
      passed = omega arith;
    })

    pub watch-took : a.watch ≢ off → Took n h w last t me a (on_watch_due order w t me a)
    watch-took on = left-took (l.observes on) _ (left order w t me a)
