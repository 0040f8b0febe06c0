-- An event changes one node: from what it does to that node follows what `EveryEvent` and the timers ask of all. Assumes nothing.
use mathlib.Core.Path.{◌≡◌, refl}
use mathlib.Core.Logic.{◌⊎◌, inl, inr}
use mathlib.Core.List.{List}
use mathlib.Core.Bool.{Bool, true, false}
use Prim.Native.Nat.{ℕ, ◌≤◌}
use native.Mathlib.Omega.{arith}
use native.Mathlib.Decide.{ℕ_discrete}
use Rattle.model.specs.Platform.{InFlight}
use Rattle.model.proofs.Events.{Seen, View, Live, Dead, Lists, Marks, ◌∈◌, Params, Frame, Least, Adds}
use Rattle.model.proofs.Invariant.{Tied, Inv, Timers}
use Rattle.model.proofs.EveryEvent.{NewMessage, GoneBy, Moved, Alike}

-- what holds of the node x that became n', and of every node that stays, holds of all
abbrev pub OnEach : View → View → ℕ → Seen → Type 1
OnEach s s' x n' =
    (Q : ℕ → Seen → Seen → Type 0) → Q x (s.node x) n' → ((j : ℕ) → Q j (s.node j) (s.node j)) → (j : ℕ) → Q j (s.node j) (s'.node j)

-- what is marked anew is listed by the same event
pub adds-lists : (p : Params) (mark mark' list list' : ℕ → Bool) (k : ℕ) → Adds p list list' k → Adds p mark mark' k
    → (a : ℕ) → mark' a ≡ true → (mark a ≡ true) ⊎ (list' a ≡ true)
adds-lists p mark mark' list list' k l m a h = go (m.only a h)
  where
    go : (mark a ≡ true) ⊎ (a ≡ k) → (mark a ≡ true) ⊎ (list' a ≡ true)
    go (inl o) = inl o
    go (inr e) = inr (rw e l.is)

module _ (p : Params) where
  pub record Local (s s' : View) (t x : ℕ) (n' : Seen) (out : List InFlight) : Type 0 where
    pub alive : n'.alive ≡ true → Live s x
    pub died : n'.alive ≡ false → Dead s x ⊎ ((p.planned x ≡ true) × (p.c x ≤ t))
    pub list : (k : ℕ) → Lists s x k → n'.list k ≡ true
    pub list' : (k : ℕ) → n'.list k ≡ true → Lists s x k ⊎ GoneBy p s t k
    pub mark : (k : ℕ) → n'.mark k ≡ true → Marks s x k ⊎ (n'.list k ≡ true)
    pub emitter : (n'.emitter ≡ (s.node x).emitter) ⊎ Moved p s s' x
    pub observer : (n'.observer ≡ (s.node x).observer) ⊎ (Tied p s n'.observer x ⊎ Tied p s' n'.observer x)
    pub new : (m : InFlight) → m ∈ out → NewMessage p s s' t m

  module _ (s s' : View) (t x : ℕ) (n' : Seen) (gone out : List InFlight) (f : Frame p s s' t x n' gone out) where
    -- a statement of each node's state, before and after
    pub each : OnEach s s' x n'
    each Q a b j = go (ℕ_discrete j x)
      where
        go : Dec (j ≡ x) → Q j (s.node j) (s'.node j)
        go (yes e) = rw (e, f.here) a
        go (no n) = rw (f.other j n) (b j)

    pub alike : {msg crash : ℕ} → Least p s t msg crash → t ≤ msg → t ≤ crash → s.last ≤ t → Local s s' t x n' out → Alike p s s' t
    alike le tm tc nt l = record {
      last' = f.last';
      t≥ = nt;
      alive = each (λ j n n'. n'.alive ≡ true → n.alive ≡ true) l.alive (λ j h. h);
      died = each (λ j n n'. n'.alive ≡ false → (n.alive ≡ false) ⊎ ((p.planned j ≡ true) × (p.c j ≤ t))) l.died (λ j h. inl h);
      list = each (λ j n n'. (k : ℕ) → n.list k ≡ true → n'.list k ≡ true) l.list (λ j k h. h);
      list' = each (λ j n n'. (k : ℕ) → n'.list k ≡ true → (n.list k ≡ true) ⊎ GoneBy p s t k) l.list' (λ j k h. inl h);
      mark = each (λ j n n'. (k : ℕ) → n'.mark k ≡ true → (n.mark k ≡ true) ⊎ (n'.list k ≡ true)) l.mark (λ j k h. inl h);
      emitter = each (λ j n n'. (n'.emitter ≡ n.emitter) ⊎ Moved p s s' j) l.emitter (λ j. inl refl);
      observer = each (λ j n n'. (n'.observer ≡ n.observer) ⊎ (Tied p s n'.observer j ⊎ Tied p s' n'.observer j)) l.observer (λ j. inl refl);
      came = λ m h. came m (f.came m h);
      message≥ = λ m h. omega (arith, le.message≥ m h);
      crash≥ = λ k a pl. omega (arith, le.crash≥ k a pl);
    }
      where
        came : (m : InFlight) → (m ∈ s.flight) ⊎ (m ∈ out) → (m ∈ s.flight) ⊎ NewMessage p s s' t m
        came m (inl h) = inl h
        came m (inr h) = inr (l.new m h)

    -- timers: the node's own, and time that passes for the others
    pub timers : {msg crash : ℕ} → Least p s t msg crash → s.last ≤ t → Inv p s → (Live s x → n'.alive ≡ true → Timers p t x n')
        → (n'.alive ≡ true → Live s x) → (j : ℕ) → Live s' j → Timers p s'.last j (s'.node j)
    timers le nt i own al = rw f.last' (each (λ j n n'. n'.alive ≡ true → Timers p t j n') (λ h. own (al h) h) (λ j h. record {
      on = (i.timers j h).on;
      off = (i.timers j h).off;
      watch≥ = le.watch≥ j h;
      heartbeat≥ = le.heartbeat≥ j h;
      heartbeat≤ = λ o. omega (arith, (i.timers j h).heartbeat≤ o);
      to = (i.timers j h).to;
      lone = (i.timers j h).lone;
    }))
