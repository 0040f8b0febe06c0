-- Where an event leaves what a watch rests on, the watch stays covered. Assumes nothing.
use mathlib.Core.Path.{◌≡◌, refl, ap, sym, ◌∙◌}
use mathlib.Core.Logic.{◌⊎◌, inl, inr, ◌≢◌}
use mathlib.Core.List.Memᴰ
use mathlib.Core.List.{List, [], ◌∷◌}
use mathlib.Core.Bool.{true}
use Prim.Native.Nat.{ℕ, ◌≤◌}
use native.Mathlib.Omega.{arith}
use Rattle.node.specs.Node.{H, O}
use Rattle.model.specs.Platform.{InFlight}
use Rattle.model.proofs.Events.{Seen, View, Live, ◌∈◌, Params}
use Rattle.model.proofs.Invariant.{Answered, Covered, by_heartbeat, by_timer, by_observer, by_crash}

-- the rest of a list of messages after one of them, g, left
pub stays : (l : List InFlight) (g m : InFlight) → (m ∈ (g ∷ [])) ⊎ (m ∈ l) → (m ≡ g → ⊥) → m ∈ l
stays l g m (inr h) ne = h
stays l g m (inl h) ne = absurd (ne (Memᴰ.eq_of_singleton h))

pub stays0 : (l : List InFlight) (m : InFlight) → (m ∈ []) ⊎ (m ∈ l) → m ∈ l
stays0 l m (inr h) = h
stays0 l m (inl h) = absurd (Memᴰ.not-nil h)

pub came0 : (l : List InFlight) (m : InFlight) → (m ∈ l) ⊎ (m ∈ []) → m ∈ l
came0 l m (inl h) = h
came0 l m (inr h) = absurd (Memᴰ.not-nil h)

pub other-kind : (m g : InFlight) (a b : ℕ) → m.kind ≡ a → g.kind ≡ b → a ≢ b → m ≡ g → ⊥
other-kind m g a b ma gb ne e = ne (sym ma ∙ ap (λ x. x.kind) e ∙ gb)

-- what of a node its watcher depends on
pub record Same (n n' : Seen) : Type 0 where
  pub alive : n'.alive ≡ n.alive
  pub observer : n'.observer ≡ n.observer
  pub heartbeat : n'.heartbeat ≡ n.heartbeat

pub same-node : (n : Seen) → Same n n
same-node n = record { alive = refl; observer = refl; heartbeat = refl }

module _ (p : Params) where
  pub covered-map : (l l' : List InFlight) (j i w w' : ℕ) (n n' : Seen) → Covered p l j i w n → w ≤ w' → Same n n'
      → ((m : InFlight) → m ∈ l → m.kind ≡ H → m.from ≡ i → m.to ≡ j → m ∈ l')
      → (n.alive ≡ true → (m : InFlight) → m ∈ l → m.kind ≡ O → m.from ≡ j → m.to ≡ i → m ∈ l')
      → Covered p l' j i w' n'
  covered-map l l' j i w w' n n' (by_heartbeat m h k f t d) ww s k_h k_o = by_heartbeat m (k_h m h k f t) k f t (omega arith)
  covered-map l l' j i w w' n n' (by_timer a o d) ww s k_h k_o = by_timer (s.alive ∙ a) (s.observer ∙ o) (omega (arith, s.heartbeat))
  covered-map l l' j i w w' n n' (by_observer a m h k f t d) ww s k_h k_o = by_observer (s.alive ∙ a) m (k_o a m h k f t) k f t (omega arith)
  covered-map l l' j i w w' n n' (by_crash a d) ww s k_h k_o = by_crash (s.alive ∙ a) (omega arith)

  pub answered-map : (s s' : View) → Answered s → ((j : ℕ) → Live s' j → Live s j) → ((j : ℕ) → (s'.node j).emitter ≡ (s.node j).emitter)
      → ((j : ℕ) → (s'.node j).observer ≡ (s.node j).observer)
      → ((m : InFlight) → m ∈ s'.flight → m.kind ≡ H → m ∈ s.flight) → Answered s'
  answered-map s s' b al em ob old m h k lf lt e ne = ob m.from ∙ b m (old m h k) k (al m.from lf) (al m.to lt) (sym (em m.to) ∙ e) ne
