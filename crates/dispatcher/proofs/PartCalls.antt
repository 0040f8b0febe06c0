-- What any list of calls leaves of stores that stand one after another, each opened from an accepted file: the same as steps and runs on each of
-- them alone, and no call answers 7. Assumes nothing.
use mathlib.Core.Path.{◌≡◌, refl, sym, ap, ◌∙◌, subst}
use mathlib.Core.Logic.{◌≢◌}
use mathlib.Core.Bool.{Bool, true, false, cond, ◌&&◌}
use mathlib.Core.List.{List, [], ◌∷◌, ◌++◌}
use Prim.Native.Nat.{ℕ, ◌+◌, ◌*◌, ◌-◌, ◌≤◌, ◌<◌}
use native.Mathlib.Omega.{arith}
use native.Mathlib.Decide.{dec_lt, ℕ_discrete}
use borrow.Author.Tests.{eq-eqb, ne_eqb, lt-ltb, le-ltb, le-leb, lt-leb}
use lib.Dec.{eqb, leb, ltb}
use lib.ListN.{length, get_or, take, drop, set, length-append, length-take, length-drop, length-set, take-append-drop, get_or-append}
use lib.Seq.{length-take-le, get_or-append-add, get_or-set_same, get_or-set_other, get_or-take, get_or-drop}
use Rattle.limits.specs.Limits.{store_size}
use Rattle.std.specs.Prelude.{is_ok}
use Rattle.limits.specs.declared.Refusal.TheVariants.{BadStore}
use Rattle.limits.specs.Refusals.{accepted, number_of as numbered, answer_of}
use Rattle.plans.specs.Plan.{Plan, plan_test}
use Rattle.plans.proofs.Facts.{plan-plain}
use Rattle.model.specs.Platform.{steps, after}
use Rattle.model.proofs.Theorems.{ranges}
use Rattle.store.specs.Store.{encode, store_in_range}
use Rattle.event.specs.Ready.{Ready}
use Rattle.event.proofs.Readiness.{steps-ready}
use Rattle.platform.specs.CallLists.{Call, a_run, store_after, store_after_all, refusal}
use Rattle.platform.proofs.Stores.{in-range, call-not-7}
use Rattle.platform.proofs.CallLists.{after_small, after_holds, call-leads}
use Rattle.dispatcher.specs.Dispatch.{stores_in, turns_of, AfterDispatch, dispatch}
use Rattle.dispatcher.specs.Tally.{AllReady}
use Rattle.dispatcher.specs.Claims.{turns_at}
use Rattle.dispatcher.specs.PartCalls.{PartCall, on_one, over_some, lent, stores_after, stores_after_all, number_of, calls_of, calls_on, NoCallAnswers}
use Rattle.dispatcher.proofs.Pieces.{AllSized}
use Rattle.dispatcher.proofs.Theorems.{stores-joined, accepts, part_left, not-seven, joined-in-range, left-length, store-so}

-- ---- some elements in a row of a list, put anew

module _ {A : Type 0} (first n : ℕ) (l : List A) where
  -- the row: shorter where the list ends before it does
  abbrev pub row : List A
  row = take n (drop first l)

  -- another row there
  abbrev pub row_anew : List A → List A
  row_anew ws = take first l ++ (ws ++ drop n (drop first l))

  -- the row itself
  same_row : row_anew row ≡ l
  same_row = ap (λ (r : List A). take first l ++ r) (take-append-drop n (drop first l)) ∙ take-append-drop first l

  row-length : (i : ℕ) → first ≤ i → i < first + n → i < length l → i - first < length row
  row-length i low high h = rw (length-take n (drop first l), length-drop first l) (omega arith)

  row_inside : (j : ℕ) → j < length row → (j < n) × (first + j < length l)
  row_inside j h =
      let k = rw (length-take n (drop first l), length-drop first l) at h in
      (omega arith, omega arith)

  row-at : (j : ℕ) (z : A) → j < n → get_or row j z ≡ get_or l (first + j) z
  row-at j z h = get_or-take n (drop first l) j z h ∙ get_or-drop first l j z

  module _ (ws : List A) (fits : length ws ≡ length row) where
    anew-length : length (row_anew ws) ≡ length l
    anew-length =
        length-append (take first l) (ws ++ drop n (drop first l))
        ∙ ap (λ (k : ℕ). length (take first l) + k)
        (length-append ws (drop n (drop first l)) ∙ ap (λ (k : ℕ). k + length (drop n (drop first l))) fits
        ∙ sym (length-append row (drop n (drop first l))))
        ∙ sym (length-append (take first l) (row ++ drop n (drop first l))) ∙ ap length same_row

    -- inside
    anew-at : (i : ℕ) (z : A) → first ≤ i → i < first + n → i < length l → get_or (row_anew ws) i z ≡ get_or ws (i - first) z
    anew-at i z low high h =
        let front : length (take first l) ≡ first = length-take-le first l (omega arith) in
        let place : i ≡ length (take first l) + (i - first) = rw front (omega arith) in
        ap (λ (k : ℕ). get_or (row_anew ws) k z) place
        ∙ get_or-append-add (take first l) (ws ++ drop n (drop first l)) (i - first) z
        ∙ get_or-append ws (drop n (drop first l)) z (i - first) (rw fits (row-length i low high h))

    -- before it, and after it
    anew-before : (i : ℕ) (z : A) → i < first → i < length l → get_or (row_anew ws) i z ≡ get_or l i z
    anew-before i z low h =
        get_or-append (take first l) (ws ++ drop n (drop first l)) z i (rw length-take (omega arith)) ∙ get_or-take first l i z low

    anew-after : (i : ℕ) (z : A) → first + n ≤ i → i < length l → get_or (row_anew ws) i z ≡ get_or l i z
    anew-after i z high h =
        let front : length (take first l) ≡ first = length-take-le first l (omega arith) in
        let whole : length ws ≡ n = fits ∙ length-take-le n (drop first l) (rw length-drop (omega arith)) in
        let place : i ≡ length (take first l) + (length ws + (i - (first + n))) = rw (front, whole) (omega arith) in
        let there : first + (n + (i - (first + n))) ≡ i = omega arith in
        ap (λ (k : ℕ). get_or (row_anew ws) k z) place
        ∙ get_or-append-add (take first l) (ws ++ drop n (drop first l)) (length ws + (i - (first + n))) z
        ∙ get_or-append-add ws (drop n (drop first l)) (i - (first + n)) z
        ∙ get_or-drop n (drop first l) (i - (first + n)) z ∙ get_or-drop first l (n + (i - (first + n))) z
        ∙ ap (λ (k : ℕ). get_or l k z) there

-- ---- a store that a file leads to

-- e events of an accepted plan lead to it from opening
pub record Led (p : Plan) (b : List ℕ) : Type 0 where
  pub good : plan_test p ≡ true
  pub e : ℕ
  pub is : b ≡ encode p (after p e)

module _ (p : Plan) (b : List ℕ) (l : Led p b) where
  pub led-ready : Ready b
  unfolding steps
  led-ready = rw l.is (steps-ready p l.good (after p l.e) ((ranges p (plan-plain p l.good)).reached l.e) 0)

  pub led-in-range : store_in_range b ≡ true
  led-in-range = ap store_in_range l.is ∙ in-range p (after p l.e) (after_holds p l.good l.e) (after_small p l.good l.e)

  pub led-sized : length b ≡ store_size
  led-sized = led-ready.held.size

  -- a call on it leaves such a store, and is not refused by 7
  pub led-call : (c : Call) → Led p (store_after c b)
  led-call c =
      let w = call-leads p l.good c l.e in
      record { good = l.good; e = w.0; is = ap (store_after c) l.is ∙ w.1 }

  pub led-not-seven : (c : Call) → refusal c b ≢ numbered BadStore
  led-not-seven c = rw l.is (call-not-7 p (after p l.e) (after_holds p l.good l.e) (after_small p l.good l.e) c)

-- so do any calls
pub led-calls : (p : Plan) (cs : List Call) (b : List ℕ) → Led p b → Led p (store_after_all cs b)
unfolding store_after_all
led-calls p [] b l = l
led-calls p (c ∷ cs) b l = led-calls p cs (store_after c b) (led-call p b l c)

-- calls after others
pub calls-append : (cs ds : List Call) (b : List ℕ) → store_after_all (cs ++ ds) b ≡ store_after_all ds (store_after_all cs b)
unfolding store_after_all
calls-append [] ds b = refl
calls-append (c ∷ cs) ds b = calls-append cs ds (store_after c b)

-- ---- stores one after another, the one at index i led to by plan i

abbrev pub AllLed : (ℕ → Plan) → List (List ℕ) → Type 0
AllLed plans bs = (i : ℕ) → i < length bs → Led (plans i) (get_or bs i [])

-- a call of the dispatcher over some of them
module _ (plans : ℕ → Plan) (bs : List (List ℕ)) (all : AllLed plans bs) (first n turn_length turns : ℕ) where
  abbrev stores : List (List ℕ)
  stores = row first n bs

  abbrev part : List ℕ
  part = lent first n bs

  abbrev after_call : AfterDispatch
  after_call = dispatch part turn_length turns

  -- each of the stores lent
  led-at : (j : ℕ) → j < length stores → Led (plans (first + j)) (get_or stores j [])
  led-at j h =
      let w = row_inside first n bs j h in
      rw (row-at first n bs j [] w.0) (all (first + j) w.1)

  lent-sized : AllSized store_size stores
  lent-sized j h = led-sized (plans (first + j)) (get_or stores j []) (led-at j h)

  -- they are the stores in the part
  lent-stores : stores_in part ≡ stores
  unfolding lent
  lent-stores = stores-joined stores lent-sized

  lent-ready : AllReady (stores_in part)
  lent-ready = rw lent-stores (λ j h. led-ready (plans (first + j)) (get_or stores j []) (led-at j h))

  -- 7 does not refuse the call
  some-not-seven : answer_of after_call.answer ≢ numbered BadStore
  unfolding lent
  some-not-seven = not-seven part turn_length turns
      (joined-in-range stores lent-sized (λ j h. led-in-range (plans (first + j)) (get_or stores j []) (led-at j h)))

  -- as many stores come back, whether it is refused or not
  back-length : length (stores_in after_call.part) ≡ length stores
  back-length = go (is_ok after_call.answer) refl
    where
      go : (b : Bool) → is_ok after_call.answer ≡ b → length (stores_in after_call.part) ≡ length stores
      go true e = left-length part turn_length turns lent-ready (accepts part turn_length turns e) ∙ ap length lent-stores
      go false e = ap (λ (b : List ℕ). length (stores_in b)) (part_left part turn_length turns e) ∙ ap length lent-stores

  some-length : length (stores_after (over_some first n turn_length turns) bs) ≡ length bs
  unfolding stores_after
  some-length = anew-length first n bs (stores_in after_call.part) back-length

  -- an accepted call leaves a store of its part as a run by itself does
  module _ (e : is_ok after_call.answer ≡ true) (i : ℕ) (low : first ≤ i) (high : i < first + n) (h : i < length bs) where
    run-there : get_or (stores_in after_call.part) (i - first) []
        ≡ store_after_all (a_run (turns_at (i - first) (turns_of part turn_length turns) * turn_length) ∷ []) (get_or bs i [])
    unfolding store_after_all store_after
    run-there =
        let there : first + (i - first) ≡ i = omega arith in
        let store : get_or (stores_in part) (i - first) [] ≡ get_or bs i [] =
        ap (λ (l : List (List ℕ)). get_or l (i - first) []) lent-stores ∙ row-at first n bs (i - first) [] (omega arith)
        ∙ ap (λ (k : ℕ). get_or bs k []) there in
        store-so part turn_length turns lent-ready (accepts part turn_length turns e) (i - first) (rw lent-stores (row-length first n bs i low high h))
        ∙ ap (λ (b : List ℕ). store_after (a_run (turns_at (i - first) (turns_of part turn_length turns) * turn_length)) b) store

  -- what the call comes to for each of all the stores
  some_at : (i : ℕ) → i < length bs
      → get_or (stores_after (over_some first n turn_length turns) bs) i []
      ≡ store_after_all (calls_of i (over_some first n turn_length turns) bs) (get_or bs i [])
  unfolding stores_after calls_of store_after_all
  some_at i h = go (is_ok after_call.answer) refl (dec_lt i first) (dec_lt i (first + n))
    where
      ws : List (List ℕ)
      ws = stores_in after_call.part

      neither : (b : Bool) → (b && false) ≡ false
      neither true = refl
      neither false = refl

      go : (b : Bool) → is_ok after_call.answer ≡ b → Dec (i < first) → Dec (i < first + n)
          → get_or (row_anew first n bs ws) i [] ≡ store_after_all (calls_of i (over_some first n turn_length turns) bs) (get_or bs i [])
      go false e b c =
          let still : ws ≡ stores = ap stores_in (part_left part turn_length turns e) ∙ lent-stores in
          rw (e, neither (leb first i && ltb i (first + n)))
          (ap (λ (l : List (List ℕ)). get_or (row_anew first n bs l) i []) still ∙ ap (λ (l : List (List ℕ)). get_or l i []) (same_row first n bs))
      go true e (yes low) c = rw (lt-leb first i low) (anew-before first n bs ws back-length i [] low h)
      go true e (no low) (no high) =
          rw (le-leb first i (omega arith), le-ltb i (first + n) (omega arith)) (anew-after first n bs ws back-length i [] (omega arith) h)
      go true e (no low) (yes high) =
          let from : first ≤ i = omega arith in
          rw (le-leb first i from, lt-ltb i (first + n) high, e)
          (anew-at first n bs ws back-length i [] from high h ∙ run-there e i from high h)

-- ---- ONE CALL

module _ (plans : ℕ → Plan) (bs : List (List ℕ)) (all : AllLed plans bs) where
  -- no store comes or goes
  pub call_length : (c : PartCall) → length (stores_after c bs) ≡ length bs
  unfolding stores_after
  call_length (on_one j c) = length-set bs j (store_after c (get_or bs j []))
  call_length (over_some first n turn_length turns) = some-length plans bs all first n turn_length turns

  -- and what it leaves of each is what the steps and runs that it comes to leave
  pub call_at : (c : PartCall) (i : ℕ) → i < length bs → get_or (stores_after c bs) i [] ≡ store_after_all (calls_of i c bs) (get_or bs i [])
  unfolding stores_after calls_of store_after_all
  call_at (on_one j c) i h = go (ℕ_discrete j i)
    where
      go : Dec (j ≡ i) → get_or (set bs j (store_after c (get_or bs j []))) i [] ≡ store_after_all (cond (eqb j i) (c ∷ []) []) (get_or bs i [])
      go (yes same) =
          rw (eq-eqb j i same)
          (ap (λ (k : ℕ). get_or (set bs k (store_after c (get_or bs k []))) i []) same ∙ get_or-set_same bs i (store_after c (get_or bs i [])) [] h)
      go (no other) = rw (ne_eqb j i other) (get_or-set_other bs j i (store_after c (get_or bs j [])) [] (λ q. other (sym q)))
  call_at (over_some first n turn_length turns) i h = some_at plans bs all first n turn_length turns i h

  -- which is a store of the same plan
  pub call-led : (c : PartCall) → AllLed plans (stores_after c bs)
  call-led c i h =
      let inside : i < length bs = rw (call_length c) at h in
      subst (Led (plans i)) (sym (call_at c i inside)) (led-calls (plans i) (calls_of i c bs) (get_or bs i []) (all i inside))

  pub call-not-seven : (c : PartCall) → number_of c bs ≢ numbered BadStore
  unfolding number_of
  call-not-seven (on_one i c) = go (dec_lt i (length bs))
    where
      go : Dec (i < length bs) → cond (ltb i (length bs)) (refusal c (get_or bs i [])) accepted ≢ numbered BadStore
      go (yes h) = rw (lt-ltb i (length bs) h) (led-not-seven (plans i) (get_or bs i []) (all i h) c)
      go (no h) = rw (le-ltb i (length bs) (omega arith)) (λ e. omega arith)
  call-not-seven (over_some first n turn_length turns) = some-not-seven plans bs all first n turn_length turns

-- ---- ANY LIST OF CALLS leaves of each store what the steps and runs that it comes to leave, and none of them is refused by 7

module _ (plans : ℕ → Plan) where
  pub calls-length : (cs : List PartCall) (bs : List (List ℕ)) → AllLed plans bs → length (stores_after_all cs bs) ≡ length bs
  unfolding stores_after_all
  calls-length [] bs all = refl
  calls-length (c ∷ cs) bs all = calls-length cs (stores_after c bs) (call-led plans bs all c) ∙ call_length plans bs all c

  pub calls_at : (cs : List PartCall) (bs : List (List ℕ)) → AllLed plans bs → (i : ℕ) → i < length bs
      → get_or (stores_after_all cs bs) i [] ≡ store_after_all (calls_on i cs bs) (get_or bs i [])
  unfolding stores_after_all calls_on store_after_all
  calls_at [] bs all i h = refl
  calls_at (c ∷ cs) bs all i h =
      calls_at cs (stores_after c bs) (call-led plans bs all c) i (rw (call_length plans bs all c) h)
      ∙ ap (store_after_all (calls_on i cs (stores_after c bs))) (call_at plans bs all c i h)
      ∙ sym (calls-append (calls_of i c bs) (calls_on i cs (stores_after c bs)) (get_or bs i []))

  pub calls-not-seven : (cs : List PartCall) (bs : List (List ℕ)) → AllLed plans bs → NoCallAnswers (numbered BadStore) cs bs
  unfolding NoCallAnswers
  calls-not-seven [] bs all = tt
  calls-not-seven (c ∷ cs) bs all = (call-not-seven plans bs all c, calls-not-seven cs (stores_after c bs) (call-led plans bs all c))
