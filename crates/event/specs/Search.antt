-- A search for the next event in two parts: the earliest tick that has one, then the first event at that tick. Assumes nothing.
use Rattle.std.specs.Prelude.{cond, List, [], ◌∷◌, ℕ, zero, suc, eqb, ltb, drop}
use Rattle.std.proofs.Math.Option.{Option, none, some}
use Rattle.plans.specs.Plan.{Plan}
use Rattle.model.specs.Platform.{Entry, crash_entries}

-- the earlier of two ticks
unfoldable pub sooner : ℕ → ℕ → ℕ
sooner t u = cond (ltb u t) u t

-- the earliest of t and the ticks of some entries
unfoldable pub least_tick : ℕ → List Entry → ℕ
least_tick t [] = t
least_tick t (e ∷ es) = least_tick (sooner t e.tick) es

-- the tick of the first crash that is not done, or the one after the end where all are
unfoldable pub crash_tick : Plan → ℕ → ℕ
crash_tick p done = least_tick (suc p.end) (crash_entries (drop done p.crashes))

-- the earliest of t and a timer's tick, where it is on
unfoldable pub timer_tick : ℕ → ℕ → ℕ
timer_tick t zero = t
timer_tick t (suc u) = sooner t u

-- the first of some entries at tick t
unfoldable pub first_at : ℕ → List Entry → Option Entry
first_at t [] = none
first_at t (e ∷ es) = cond (eqb e.tick t) (some e) (first_at t es)
