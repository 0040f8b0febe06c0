-- No report in flight is of its receiver, in any state that a plan leads to, whatever W. Assumes nothing.
use mathlib.Core.Path.{◌≡◌, refl, sym, ◌∙◌}
use mathlib.Core.Logic.{◌⊎◌, inl, inr, ◌≢◌}
use mathlib.Core.Bool.{Bool, true, false, cond}
use mathlib.Core.List.Memᴰ
use mathlib.Core.List.{List, Memᴰ}
use Prim.Native.Nat.{ℕ, zero, suc, ◌≤◌}
use Rattle.node.specs.declared.Message.{Message}
use Rattle.node.specs.Node.{Turn, R, silent, on_message, on_watch_due, on_heartbeat_due}
use Rattle.node.proofs.Sends.{Sendable}
use Rattle.plans.specs.Plan.{Plan, order_of}
use Rattle.plans.specs.Plain.{Plain}
use Rattle.model.specs.Platform.{InFlight, State, Event, crash, message, watch, heartbeat, alive, start, numbered, node_of, taken, message_at, without}
use Rattle.model.specs.Platform.{received, apply, Outcome, try, left, steps, after}
use Rattle.model.specs.Range.{FlightRange, Sound}
use Rattle.model.proofs.NextEvent.{Chosen}
use Rattle.model.proofs.RangesKept.{numbered-in, without_in, at_mem, in-n, received-took, watch-taken, beat-taken}
use Rattle.model.proofs.RangesKept.{Tried, happened, none_left, too-many, try_ok, left-range, start-range}

abbrev pub OfOthers : State → Type 0
OfOthers s = (m : InFlight) → Memᴰ m s.flight → m.kind ≡ R → m.subject ≢ m.to

module _ (p : Plan) (pl : Plain p) where
  module _ (s : State) (r : Sound p s) (o : OfOthers s) (t : ℕ) where
    -- a turn sends only what is sendable
    taken-others : (x : ℕ) (rest : List InFlight) (u : Turn) → ((g : InFlight) → Memᴰ g rest → Memᴰ g s.flight)
        → ((v : Message) → Memᴰ v u.sends → Sendable p.n x v) → OfOthers (taken p s t x rest u)
    unfolding taken
    taken-others x rest u sub sd g h = go (Memᴰ.append_cases rest h)
      where
        go : Memᴰ g rest ⊎ Memᴰ g (numbered p t x s.next u.sends) → g.kind ≡ R → g.subject ≢ g.to
        go (inl h) k e = o g (sub g h) k e
        go (inr h) k e =
            let q = numbered-in p t x u.sends s.next g h in
            (sd q.u q.has).about (sym q.kind ∙ k) (sym q.subject ∙ e ∙ q.to)

    module _ (a : s.last ≤ t) (b : t ≤ p.end) where
      message-others : (i : ℕ) → Chosen p pl s t (message i) → OfOthers (apply p s t (message i))
      unfolding Chosen apply received
      message-others i ch = go (alive p s.done m.to) refl
        where
          m : InFlight
          m = message_at s i

          f : FlightRange p s.last m
          f = r.flying m (at_mem s.flight i ch.0)

          turn : Bool → Turn
          turn c = cond c (on_message (order_of p) p.w t m.to m.kind m.from m.subject m.list (node_of s m.to)) (silent (node_of s m.to))

          go : (c : Bool) → alive p s.done m.to ≡ c → OfOthers (taken p s t m.to (without i s.flight) (turn c))
          go true e =
              let k =
              received-took p pl s r t a b m.to f.to e m.kind m.from m.subject m.list f.kind f.from f.apart f.subject
              f.list.below in
              taken-others m.to (without i s.flight) (turn true) (without_in s.flight i) k.sends
          go false e = taken-others m.to (without i s.flight) (turn false) (without_in s.flight i) (λ v h. absurd (Memᴰ.not-nil h))

      event-others : (ev : Event) → Chosen p pl s t ev → OfOthers (apply p s t ev)
      unfolding Chosen apply
      event-others (crash k) ch = o
      event-others (message i) ch = message-others i ch
      event-others (watch x) ch =
          let k = watch-taken p pl s r t a b x (in-n p pl s r x ch.0) ch.1 ch.2 in
          taken-others x s.flight (on_watch_due (order_of p) p.w t x (node_of s x)) (λ g h. h) k.sends
      event-others (heartbeat x) ch =
          let k = beat-taken p pl s r t a b x (in-n p pl s r x ch.0) ch.1 ch.2 in
          taken-others x s.flight (on_heartbeat_due p.h t (node_of s x)) (λ g h. h) k.sends

  one-others : (s : State) → Sound p s → OfOthers s → (q : Outcome) → Tried p pl s q → OfOthers (left s q)
  unfolding left
  one-others s r o q (happened e b a ch f) = event-others s r o e.tick a b e.event ch
  one-others s r o q (none_left h) = o
  one-others s r o q (too-many e ch h) = o

  steps-others : (k : ℕ) (s : State) → Sound p s → OfOthers s → OfOthers (steps p k s)
  unfolding steps
  steps-others zero s r o = o
  steps-others (suc k) s r o =
      let q = try_ok p pl s r in
      steps-others k (left s (try p s)) (left-range p pl s r (try p s) q) (one-others s r o (try p s) q)

  -- so is every state that the plan leads to
  pub after-others : (e : ℕ) → OfOthers (after p e)
  unfolding after start
  after-others e = steps-others e (start p) (start-range p pl) (λ m h. absurd (Memᴰ.not-nil h))
