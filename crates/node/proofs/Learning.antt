-- What a node takes from the list that a heartbeat carries: all but itself and the sender. Assumes nothing.
use mathlib.Core.Path.{◌≡◌}
use mathlib.Core.Logic.{◌≢◌}
use mathlib.Core.Bool.{true, false}
use Prim.Native.Nat.{ℕ, ◌^◌, ◌<◌}
use Rattle.ring.specs.Ring.{listed, unlisting}
use Rattle.ring.proofs.Lists.{unlisting-lt, unlisting-drops, unlisting-less, unlisting-only, unlisting-keeps}
use Rattle.node.specs.Node.{learnt}

module _ (me from list : ℕ) where
  pub learnt-lt : (n : ℕ) → list < 2 ^ n → learnt me from list < 2 ^ n
  unfolding learnt
  learnt-lt n h = unlisting-lt n (unlisting list me) from (unlisting-lt n list me h)

  pub learnt-only : (k : ℕ) → listed (learnt me from list) k ≡ true → (listed list k ≡ true) × (me ≢ k) × (from ≢ k)
  unfolding learnt
  learnt-only k h =
      let others = unlisting-only (unlisting list me) from k h in
      let all = unlisting-only list me k others.1 in
      (all.1, all.0, others.0)

  pub learnt-takes : (k : ℕ) → listed list k ≡ true → me ≢ k → from ≢ k → listed (learnt me from list) k ≡ true
  unfolding learnt
  learnt-takes k h me≢ from≢ = unlisting-keeps (unlisting list me) from k from≢ (unlisting-keeps list me k me≢ h)

  pub learnt-not-sender : listed (learnt me from list) from ≡ false
  unfolding learnt
  learnt-not-sender = unlisting-drops (unlisting list me) from

  pub learnt-not-me : listed (learnt me from list) me ≡ false
  unfolding learnt
  learnt-not-me = unlisting-less (unlisting list me) from me (unlisting-drops list me)
