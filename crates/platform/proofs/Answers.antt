-- At each exit of a call's code, the answer and the bytes that are left are those of the call's definition. Assumes nothing.
use mathlib.Core.Path.{◌≡◌, refl, ap}
use mathlib.Core.Bool.{true, false}
use mathlib.Core.List.{List}
use Prim.Native.Nat.{ℕ, ◌≤◌, ◌<◌}
use native.Mathlib.Omega.{arith}
use borrow.Author.Tests.{lt-ltb, le-ltb}
use lib.ListN.{length, get_or}
use Rattle.text.specs.Put.{Put}
use Rattle.runfile.specs.Text.{plan_text}
use Rattle.runfile.proofs.Size.{plan-size}
use Rattle.limits.specs.Limits.{log_room, file_room}
use Rattle.store.specs.Store.{plan_in, state_in, store_in_range}
use Rattle.store.specs.Inside.{Held}
use Rattle.platform.specs.declared.Stepped.{Stepped}
use Rattle.platform.specs.declared.Ran.{Ran}
use Rattle.platform.specs.declared.RunRefusal.{RunRefusal}
use Rattle.std.specs.Prelude.{Result, Ok, Err}
use Rattle.limits.specs.declared.Refusal.{Refusal}
use Rattle.limits.specs.declared.Refusal.TheVariants.{BadStore, ShortPart}
use Rattle.platform.specs.Calls.{step_next, step, run_next, run, write_file}
use Rattle.platform.proofs.Stepping.{Steps}
use Rattle.platform.proofs.Running.{Ends}
use Rattle.platform.proofs.Stores.{Lends, lends, write-in}

-- ---- step

module _ (b log : List ℕ) where
  pub step-bad : store_in_range b ≡ false → Steps (step b log) (Err BadStore) b log
  unfolding step
  step-bad bad = rw bad (refl, (refl, refl))

  pub step-short : store_in_range b ≡ true → length log < log_room → Steps (step b log) (Err ShortPart) b log
  unfolding step
  step-short ok short = rw (ok, lt-ltb (length log) log_room short) (refl, (refl, refl))

  pub step-next : {a : Result Stepped Refusal} {b' log' : List ℕ} → store_in_range b ≡ true → log_room ≤ length log → Steps (step_next b log) a b' log'
      → Steps (step b log) a b' log'
  unfolding step
  step-next ok room e = rw (ok, le-ltb (length log) log_room room) e

-- ---- run

module _ (b : List ℕ) (budget : ℕ) where
  pub run-bad : store_in_range b ≡ false → Ends (run b budget) (Err (record { refusal = BadStore; events = 0 })) b
  unfolding run
  run-bad bad = rw bad (record { value = refl; store_after = refl })

  pub run-next : {a : Result Ran RunRefusal} {b' : List ℕ} → store_in_range b ≡ true → Ends (run_next b budget) a b' → Ends (run b budget) a b'
  unfolding run
  run-next ok e = rw ok (record { value = e.value; store_after = e.store_after })

-- ---- the run-file writer

module _ (b out : List ℕ) where
  pub write-bad : store_in_range b ≡ false → (Err BadStore ≡ (write_file b out).answer) × (out ≡ (write_file b out).out)
  unfolding write_file
  write-bad bad = rw bad (refl, refl)

  pub write-short : store_in_range b ≡ true → length out < file_room
      → (Err ShortPart ≡ (write_file b out).answer) × (out ≡ (write_file b out).out)
  unfolding write_file
  write-short ok short = rw (ok, lt-ltb (length out) file_room short) (refl, refl)

  -- the writer finds a store that holds a plan, and room for its text
  pub write-room : ((i : ℕ) → get_or b i 0 < 256) → store_in_range b ≡ true → file_room ≤ length out → Held b
      × (length (plan_text (plan_in b)) ≤ length out)
  write-room byte ok room = let l : Lends b = lends b byte ok in (l.held, omega (arith, plan-size (plan_in b) l.holds.good))

  pub write_done : {n : ℕ} {m : List ℕ} → store_in_range b ≡ true → file_room ≤ length out → Put out 0 (plan_text (plan_in b)) n m
      → (Ok n ≡ (write_file b out).answer) × (m ≡ (write_file b out).out)
  write_done {n} {m} ok room p = rw (write-in b (plan_in b) (state_in b) ok refl refl out room) (ap Ok (omega (arith, p.next)), p.bytes)
