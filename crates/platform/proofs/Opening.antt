-- An accepted file's rows, put into a store one after another. Assumes nothing.
use mathlib.Core.Path.{◌≡◌, refl, sym, ap, ◌∙◌}
use mathlib.Core.Bool.{Bool, true, false, cond}
use mathlib.Core.List.{List, ◌++◌, append-nil}
use Prim.Native.Nat.{ℕ, suc, ◌+◌, ◌≤◌, ◌<◌}
use native.Mathlib.Numerals.{add-one}
use native.Mathlib.Omega.{arith}
use borrow.Author.Tests.{eq-eqb, ne_eqb}
use lib.Dec.{eqb}
use lib.ListN.{length, get_or, length-append}
use Rattle.plans.specs.Plan.{Plan, plan_test, start_plan}
use Rattle.plans.specs.Plain.{no_crash, row_at}
use Rattle.store.specs.Inside.{delay_at}
use Rattle.runfile.specs.File.{FileAnswer, accepted, file_of, turned_down}
use Rattle.runfile.specs.declared.Outline.{Outline}
use Rattle.runfile.specs.declared.FileRefusal.{FileRefusal}
use Rattle.text.specs.Field.{number_field_at}
use Rattle.runfile.specs.Reader.{outline_of, read_of, fields_at, ring_place, crash_place, delay_place}
use Rattle.plans.proofs.Tests.{Ranges, ranges, few-ring, few-delays}
use Rattle.plans.proofs.Few.{crashes-few}
use Rattle.runfile.proofs.Refusals.{refusal-small}
use Rattle.runfile.proofs.RoundTrip.{accepted-plan}
use Rattle.runfile.proofs.Places.{ring-place-first, ring-place-last, crash-place-first, crash-place-last, ring-at, crash-at, delay-at}
use Rattle.runfile.proofs.Size.{plan-size}
use Rattle.runfile.specs.Text.{start_text, ring_text, head_text, crash_text, delay_text, rows_text, plan_text}
use Rattle.model.specs.Platform.{start}
use Rattle.limits.specs.Limits.{store_size}
use Rattle.store.specs.Store.{encode, plan_in}
use Rattle.std.specs.Prelude.{Some, None, Ok, Err}
use Rattle.platform.specs.Calls.{AfterOpen, open_plan, open_answer, open_file}
use Rattle.limits.specs.declared.Refusal.TheVariants.{BadStore}
use Rattle.limits.specs.Refusals.{number_of}
use Rattle.store.specs.Filling.{put_ring, put_crash, put_delay, unopened, begun, Unopened as NotOpened, rows_up_to, filled}
use Rattle.platform.specs.Accepts.{planned, plan_of, Accepts}
use Rattle.store.proofs.Filling.{none-begun, ring-begun, none_filled, crash-filled, delay-filled, all-filled}
use Rattle.store.proofs.Opening.{begun-unopened}

module _ (file : List ℕ) (ok : Accepts file) where
  abbrev p : Plan
  p = plan_of file

  pub good : plan_test p ≡ true
  good = accepted-plan file p ok

  -- the ranges of its P line
  pub bounds : Ranges p
  bounds = ranges p good

  pub ring-fits : length p.ring ≤ 64
  ring-fits = omega (arith, few-ring p good, bounds.n-high)

  pub crashes-fit : length p.crashes ≤ 64
  crashes-fit = omega (arith, crashes-few p good, bounds.n-high)

  pub delays-fit : length p.delays ≤ 2048
  delays-fit = few-delays p good

  -- a number of the file's Q line has its place in the store; it is put there, and the place of the next one is known
  module _ (i : ℕ) {count : ℕ} (less : i < count) (all : count ≡ length p.ring) where
    pub number_fits : i < 64
    number_fits = omega (arith, ring-fits)

    module _ {at : ℕ} (place : at ≡ ring_place p i) where
      number-there : number_field_at file at ≡ Some (get_or p.ring i 0, ring_place p (suc i))
      number-there = ap (number_field_at file) place ∙ ring-at file p ok i (omega arith)

      pub number-found : number_field_at file at ≡ None → ⊥
      number-found none_there = let z = sym number-there ∙ none_there in absurd (cc)

      module _ {number next : ℕ} (got : Some (number, next) ≡ number_field_at file at) where
        got_number : ◌≡◌ {A = ℕ × ℕ} (number, next) (get_or p.ring i 0, ring_place p (suc i))
        got_number = let e = got ∙ number-there in cc

        pub number-next : next ≡ ring_place p (i + 1)
        number-next = ap (λ (e : ℕ × ℕ). e.1) got_number ∙ ap (ring_place p) (sym (add-one i))

        pub number_put : {s t : List ℕ} → s ≡ begun p i → t ≡ put_ring s i number → t ≡ begun p (i + 1)
        number_put before put =
            put ∙ rw (before, ap (λ (e : ℕ × ℕ). e.0) got_number) (ring-begun p bounds.n-high ring-fits i (omega arith))

  -- the places of the P line's end, of the Q line's end and of the first row
  heads-small : length (head_text p) ≤ 27678
  unfolding plan_text
  heads-small =
      omega (arith, (plan-size p good).1, length-append (head_text p) (rows_text crash_text p.crashes ++ rows_text delay_text p.delays))

  first-row : crash_place p 0 ≡ length (head_text p)
  unfolding crash_place rows_text
  first-row = ap length (append-nil (head_text p))

  pub start_small : length (start_text p) < 65536
  unfolding head_text
  start_small = omega (arith, heads-small, length-append (start_text p) (ring_text p.ring))

  module _ {count : ℕ} (all : count ≡ length p.ring) where
    -- without a Q line
    pub line-none : count ≡ 0 → {first : ℕ} → first ≡ length (start_text p) → first ≡ crash_place p 0
    line-none none e = e ∙ sym (crash-place-first p (sym all ∙ none))

    -- with one
    pub line_first : {first : ℕ} → first ≡ length (start_text p) → first + 1 ≡ ring_place p 0
    line_first e = ap (λ (k : ℕ). k + 1) e ∙ sym (ring-place-first p)

    module _ (some : count ≡ 0 → ⊥) {end : ℕ} (at : end ≡ ring_place p count) where
      pub line-last : end + 1 ≡ crash_place p 0
      line-last = ap (λ (k : ℕ). k + 1) (at ∙ ap (ring_place p) all) ∙ ring-place-last p (λ z. some (all ∙ z))

      pub line_small : end < 65536
      line_small = omega (arith, line-last, first-row, heads-small)

  -- a C row of the file has its place in the store; it is put there, and the place of the next one is known
  module _ (i : ℕ) {count : ℕ} (less : i < count) (all : count ≡ length p.crashes) where
    pub crash-fits : i < 64
    crash-fits = omega (arith, crashes-fit)

    module _ {at : ℕ} (place : at ≡ crash_place p i) where
      crash-there : fields_at file at ≡ Some ((row_at p i).tick, (row_at p i).node, crash_place p (suc i))
      crash-there = ap (fields_at file) place ∙ crash-at file p ok no_crash i (omega arith)

      pub crash-found : fields_at file at ≡ None → ⊥
      crash-found none_there = let z = sym crash-there ∙ none_there in absurd (cc)

      module _ {tick node next : ℕ} (got : Some (tick, node, next) ≡ fields_at file at) where
        got-crash : ◌≡◌ {A = ℕ × ℕ × ℕ} (tick, node, next) ((row_at p i).tick, (row_at p i).node, crash_place p (suc i))
        got-crash = let e = got ∙ crash-there in cc

        pub crash-next : next ≡ crash_place p (i + 1)
        crash-next = ap (λ (r : ℕ × ℕ × ℕ). r.2) got-crash ∙ ap (crash_place p) (sym (add-one i))

        pub crash-put : {s t : List ℕ} → s ≡ filled p i 0 → t ≡ put_crash s i tick node → t ≡ filled p (i + 1) 0
        crash-put before put =
            put
            ∙ rw (before, ap (λ (r : ℕ × ℕ × ℕ). r.0) got-crash, ap (λ (r : ℕ × ℕ × ℕ). r.1) got-crash)
            (crash-filled p bounds.n-high ring-fits crashes-fit delays-fit i no_crash (omega arith))

  -- the same of an L row
  module _ (i : ℕ) {count : ℕ} (less : i < count) (all : count ≡ length p.delays) where
    pub delay-fits : i < 2048
    delay-fits = omega (arith, delays-fit)

    module _ {at : ℕ} (place : at ≡ delay_place p i) where
      delay-there : fields_at file at ≡ Some ((delay_at p i).number, (delay_at p i).delay, delay_place p (suc i))
      delay-there = ap (fields_at file) place ∙ delay-at file p ok (record { number = 0; delay = 0 }) i (omega arith)

      pub delay-found : fields_at file at ≡ None → ⊥
      delay-found none_there = let z = sym delay-there ∙ none_there in absurd (cc)

      module _ {number delay next : ℕ} (got : Some (number, delay, next) ≡ fields_at file at) where
        got-delay : ◌≡◌ {A = ℕ × ℕ × ℕ} (number, delay, next) ((delay_at p i).number, (delay_at p i).delay, delay_place p (suc i))
        got-delay = let e = got ∙ delay-there in cc

        pub delay-next : next ≡ delay_place p (i + 1)
        delay-next = ap (λ (r : ℕ × ℕ × ℕ). r.2) got-delay ∙ ap (delay_place p) (sym (add-one i))

        pub delay-put : {s t : List ℕ} → s ≡ filled p (length p.crashes) i → t ≡ put_delay s i number delay
            → t ≡ filled p (length p.crashes) (i + 1)
        delay-put before put =
            put
            ∙ rw (before, ap (λ (r : ℕ × ℕ × ℕ). r.0) got-delay, ap (λ (r : ℕ × ℕ × ℕ). r.1) got-delay)
            (delay-filled p bounds.n-high ring-fits crashes-fit delays-fit i (record { number = 0; delay = 0 }) (omega arith))

-- ---- the end of a loop that counts

pub at-end : {A : Type 0} (f : ℕ → A) {x : A} {i count : ℕ} → i ≤ count → count ≤ i → x ≡ f i → x ≡ f count
at-end f {x} {i} {count} h k e = let same : i ≡ count = omega arith in e ∙ ap f same

-- ---- the whole store

module _ (file : List ℕ) (ok : Accepts file) (o : Outline) (same : o ≡ outline_of (plan_of file)) where
  -- the P line is in range, as its writer asks
  pub outlined : o.n ≤ 64
  unfolding outline_of
  outlined = rw same (bounds file ok).n-high

  pub outlined-ring : (o.rows ≡ length (start_text (plan_of file))) × (o.ring ≡ length (plan_of file).ring)
  unfolding outline_of
  outlined-ring = (ap (λ (x : Outline). x.rows) same, ap (λ (x : Outline). x.ring) same)

  outlined-crashes : o.crashes ≡ length (plan_of file).crashes
  unfolding outline_of
  outlined-crashes = ap (λ (x : Outline). x.crashes) same

  pub outlined-rows : {at : ℕ} → at ≡ crash_place (plan_of file) 0
      → (at ≡ crash_place (plan_of file) 0) × (o.crashes ≡ length (plan_of file).crashes)
  outlined-rows e = (e, outlined-crashes)

  pub outlined-delays : {at : ℕ} → at ≡ crash_place (plan_of file) o.crashes
      → (at ≡ delay_place (plan_of file) 0) × (o.delays ≡ length (plan_of file).delays)
  unfolding outline_of
  outlined-delays e =
      (e ∙ ap (crash_place (plan_of file)) outlined-crashes ∙ crash-place-last (plan_of file), ap (λ (x : Outline). x.delays) same)

  -- the store of the P line alone; with the Q line; with the nodes; with the C rows; with all rows
  pub started : {s : List ℕ} → s ≡ encode (start_plan o.n o.h o.w o.d o.end) (unopened (start_plan o.n o.h o.w o.d o.end))
      → s ≡ begun (plan_of file) 0
  unfolding outline_of
  started e = e ∙ rw same (none-begun (plan_of file))

  module _ {s : List ℕ} (is : s ≡ begun (plan_of file) o.ring) where
    ready : NotOpened s × (plan_in s ≡ rows_up_to (plan_of file) 0 0)
    ready = begun-unopened (plan_of file) (good file ok) (is ∙ ap (begun (plan_of file)) outlined-ring.1)

    pub ringed : NotOpened s
    ringed = ready.0

    pub opened : {t : List ℕ} → t ≡ encode (plan_in s) (start (plan_in s)) → t ≡ filled (plan_of file) 0 0
    opened e = e ∙ rw ready.1 (none_filled (plan_of file))

  pub crashed : {s : List ℕ} → s ≡ filled (plan_of file) o.crashes 0 → s ≡ filled (plan_of file) (length (plan_of file).crashes) 0
  crashed e = e ∙ ap (λ (k : ℕ). filled (plan_of file) k 0) outlined-crashes

  pub whole : {s : List ℕ} → s ≡ filled (plan_of file) (length (plan_of file).crashes) o.delays → s ≡ encode (plan_of file) (start (plan_of file))
  unfolding outline_of
  whole e = e ∙ ap (filled (plan_of file) (length (plan_of file).crashes)) (ap (λ (x : Outline). x.delays) same) ∙ all-filled (plan_of file)

-- ---- opening's answers

-- an accepted file, by what the reader answers
pub read-accepts : (file : List ℕ) (o : Outline) → Ok o ≡ read_of (file_of file) → Accepts file × (o ≡ outline_of (plan_of file))
unfolding planned read_of
read-accepts file o e = go (file_of file) refl e
  where
    go : (a : FileAnswer) → file_of file ≡ a → Ok o ≡ read_of a
        → (file_of file ≡ accepted (planned (file_of file))) × (o ≡ outline_of (planned (file_of file)))
    go (accepted p) same h = let out : o ≡ outline_of p = cc in (rw same refl, rw same out)
    go (turned_down refusal line) same h = absurd (cc)

module _ (file store : List ℕ) where
  pub open-refused : {r : FileRefusal} → Err r ≡ read_of (file_of file)
      → (Err r ≡ (open_file file store).answer) × (store ≡ (open_file file store).store)
  unfolding open_file open_answer read_of
  open-refused {r} e = go (file_of file) e
    where
      go : (a : FileAnswer) → Err r ≡ read_of a → (Err r ≡ (open_answer a store).answer) × (store ≡ (open_answer a store).store)
      go (accepted p) h = absurd (cc)
      go (turned_down refusal line) h = let same : r ≡ record { refusal = refusal; line = line } = cc in (rw same, refl)

  open-plan : Accepts file → open_file file store ≡ open_plan (plan_of file) store
  unfolding open_file open_answer
  open-plan ok = ap (λ (a : FileAnswer). open_answer a store) ok

  pub open-short : Accepts file → (length store ≡ store_size → ⊥)
      → (Err (record { refusal = BadStore; line = 0 }) ≡ (open_file file store).answer) × (store ≡ (open_file file store).store)
  unfolding open_plan
  open-short ok h = rw (open-plan ok, ne_eqb (length store) store_size h) (refl, refl)

  pub open-ready : {t : List ℕ} → Accepts file → length store ≡ store_size → t ≡ encode (plan_of file) (start (plan_of file))
      → (Ok tt ≡ (open_file file store).answer) × (t ≡ (open_file file store).store)
  unfolding open_plan
  open-ready ok h e = rw (open-plan ok, eq-eqb (length store) store_size h) (refl, e)

-- a refused opening has a number of 1 to 13 and a line of at most 65,536
pub opening-small : (file store : List ℕ) (r : FileRefusal) → (open_file file store).answer ≡ Err r
    → (1 ≤ number_of r.refusal) × (number_of r.refusal ≤ 13) × (r.line ≤ 65536)
unfolding open_file open_answer open_plan
opening-small file store r e = go (file_of file) refl e
  where
    ready : AfterOpen → Bool → AfterOpen
    ready after t = cond t after (record { answer = Err (record { refusal = BadStore; line = 0 }); store = store })

    tested : (p : Plan) (t : Bool) → (ready (record { answer = Ok tt; store = encode p (start p) }) t).answer ≡ Err r
        → (1 ≤ number_of r.refusal) × (number_of r.refusal ≤ 13) × (r.line ≤ 65536)
    tested p true h = absurd (cc)
    tested p false h = let same : record { refusal = BadStore; line = 0 } ≡ r = cc in rw (← same) (omega arith, omega arith, omega arith)

    go : (a : FileAnswer) → file_of file ≡ a → (open_answer a store).answer ≡ Err r
        → (1 ≤ number_of r.refusal) × (number_of r.refusal ≤ 13) × (r.line ≤ 65536)
    go (accepted p) same h = tested p (eqb (length store) store_size) h
    go (turned_down refusal line) same h =
        let one : record { refusal = refusal; line = line } ≡ r = cc in
        let s = refusal-small file refusal line same in
        rw (← one) (s.0, s.1, s.2)
