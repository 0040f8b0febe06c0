-- THE THEOREMS: what demand 3 and requests 106 and 107 claim, and the ranges, of every state that a file leads to, for any ring order. All but
-- who has crashed and the ranges are of runs that end in E. Each statement stands in specs/Claims.antt. Assumes nothing.
use Prim.Native.Nat.{ℕ}
use Rattle.ring.proofs.Counts.{jumps-covers, jumps-le}
use Rattle.plans.specs.Plan.{Plan}
use Rattle.model.specs.Platform.{first_events, after}
use Rattle.plans.specs.Plain.{Plain}
use Rattle.model.specs.Range.{EndsInE}
use Rattle.model.specs.Claims.{CrashedAre, Safe, LogRoundedUp, K, Settles, NoneLeftBy, Joins, Completes, NeverOutOfRange}
use Rattle.model.proofs.NextEvent.{by_parts}
use Rattle.model.proofs.RangesKept.{steps-range, after-range}
use Rattle.model.proofs.NextNumber.{next_small}
use Rattle.model.proofs.Crashed.{crashed-are}
use Rattle.model.proofs.Reached.{after-inv, settled, joined, completed}
use Rattle.model.proofs.SettledNode.{joined_at, settled_at}

-- K is the base-two logarithm, rounded up
pub logarithm : (m : ℕ) → LogRoundedUp m (K m)
logarithm m = record { enough = jumps-covers m; least = λ j h. jumps-le j m h }

-- after any number of events the crashed nodes are exactly those whose C line's event is among these
pub crashed : (p : Plan) → Plain p → (e : ℕ) → CrashedAre p (first_events p e) (after p e)
crashed p pl e = crashed-are p pl e

-- after any number of events no node's list holds a live node
pub safety : (p : Plan) → EndsInE p → (e : ℕ) → Safe p (after p e)
safety p ac e = record { unlisted = λ j k h. ((after-inv p ac e).base.listed j k h).dead }

-- after any number of events, where the crashes are spaced and S ticks have passed since the last, every survivor is settled
pub settling : (p : Plan) → EndsInE p → (e : ℕ) → Settles p (after p e)
settling p ac e =
    record {
      settled = λ i d sp nl j j_n l. settled_at p ac (after p e) j j_n l (after-range p ac.plain e)
          (settled p ac e i d sp (by_parts p ac.plain (after p e) _ nl) j j_n l);
    }

-- after any number of events, however close the crashes came, where no event due by c + 2 × W × f + D is left every survivor's emitter and
-- observer are the neighbouring survivors
pub joining : (p : Plan) → EndsInE p → (e : ℕ) → Joins p (after p e)
unfolding NoneLeftBy
joining p ac e =
    record {
      joined = λ i d nl j j_n l. joined_at p ac (after p e) j j_n l (joined p ac e i d (by_parts p ac.plain (after p e) _ nl) j j_n l);
    }

-- and where no event due by (m − 1) × (H + D) after that is left every survivor lists exactly the crashed nodes
pub completing : (p : Plan) → EndsInE p → (e : ℕ) → Completes p (after p e)
unfolding NoneLeftBy
completing p ac e =
    record {
      complete = λ i d nl j j_n l. (settled_at p ac (after p e) j j_n l (after-range p ac.plain e)
          (completed p ac e i d (by_parts p ac.plain (after p e) _ nl) j j_n l)).list;
    }

-- whatever W, every state that a file leads to is in range, and events keep every range but the cap from any state
pub ranges : (p : Plan) → Plain p → NeverOutOfRange p
ranges p pl = record { reached = λ e. record { sound = after-range p pl e; cap = next_small p pl e }; kept = λ s r k. steps-range p pl k s r }
