-- Demand 3: what any list of calls leaves of a store just opened from an accepted file, also where the calls include the dispatcher's, over several
-- such stores that stand one after another, or over this one and whatever stands around it. Assumes nothing.
use mathlib.Core.Path.{◌≡◌, refl, sym, ap, ◌∙◌, subst}
use mathlib.Core.Bool.{true}
use mathlib.Core.List.{List, []}
use Prim.Native.Nat.{ℕ, ◌+◌, ◌≤◌, ◌<◌}
use native.Mathlib.Omega.{arith}
use borrow.Author.Tests.{eq-eqb}
use lib.ListN.{length, get_or}
use Rattle.plans.specs.Plan.{Plan, plan_test}
use Rattle.runfile.specs.File.{accepted, file_of}
use Rattle.runfile.proofs.RoundTrip.{accepted-plan}
use Rattle.model.specs.Platform.{State, start, first_events, after}
use Rattle.model.specs.Range.{EndsInE}
use Rattle.model.specs.Claims.{CrashedAre}
use Rattle.plans.proofs.Facts.{plan-plain}
use Rattle.model.proofs.Theorems.{crashed, logarithm, safety, settling, joining, completing}
use Rattle.limits.specs.Limits.{store_size}
use Rattle.store.specs.Store.{encode, plan_in, state_in, store_in_range}
use Rattle.std.specs.Prelude.{Ok}
use Rattle.platform.specs.Calls.{AfterOpen, open_plan, open_answer, open_file}
use Rattle.platform.specs.CallLists.{Call, store_after_all, NoneAnswers, events_of}
use Rattle.platform.proofs.Stores.{plan-of, state-of, in-range}
use Rattle.platform.proofs.CallLists.{after_small, after_holds, none-seven, opened-at, events-done}
use Rattle.dispatcher.specs.PartCalls.{PartCall, stores_after_all, calls_on, NoCallAnswers, LentCall, AllAround, store_after_all_lent, lent_calls}
use Rattle.dispatcher.proofs.PartCalls.{Led, AllLed, calls_at, calls-not-seven}
use Rattle.dispatcher.proofs.Among.{all-lent-leave}
use Rattle.demands.specs.Demands.{store_of, AfterCallsE, AfterCalls, JustOpened, AllOpened, Demand3}

-- an accepted file, and a lent store of its length
module _ (file store : List ℕ) (p : Plan) (ok : file_of file ≡ accepted p) (size : length store ≡ store_size) where
  abbrev pub good : plan_test p ≡ true
  good = accepted-plan file p ok

  pub opened : open_file file store ≡ record { answer = Ok tt; store = encode p (start p) }
  unfolding open_file open_answer open_plan
  opened = rw (ok, eq-eqb (length store) store_size size) refl

  -- the store after any calls
  pub called : (cs : List Call) → store_of file store cs ≡ encode p (after p (events_of p cs))
  called cs = ap (λ (a : AfterOpen). store_after_all cs a.store) opened ∙ events-done p good cs

  -- where the run ends in E
  ends-after : (e : ℕ) → p.h + p.d ≤ p.w → AfterCallsE p (after p e)
  ends-after e long =
      let ac : EndsInE p = record { plain = plan-plain p good; long = long } in
      record {
        safe = safety p ac e;
        settles = settling p ac e;
        joins = joining p ac e;
        completes = completing p ac e;
      }

  pub left_after : (cs : List Call) → AfterCalls p cs (store_of file store cs)
  left_after cs =
      let e : ℕ = events_of p cs in
      let holds = after_holds p good e in
      let state : state_in (store_of file store cs) ≡ after p e = ap state_in (called cs) ∙ state-of p (after p e) holds in
      record {
        events = called cs;
        plan = ap plan_in (called cs) ∙ plan-of p (after p e) holds;
        crashed = subst (CrashedAre p (first_events p e)) (sym state) (crashed p (plan-plain p good) e);
        ending = λ long. subst (AfterCallsE p) (sym state) (ends-after e (omega (arith, long)));
        in_range = ap store_in_range (called cs) ∙ in-range p (after p e) holds (after_small p good e);
      }

  pub no_seven : (cs : List Call) → NoneAnswers 7 cs (open_file file store).store
  no_seven cs =
      subst (λ (a : AfterOpen). NoneAnswers 7 cs a.store) (sym opened)
      (subst (λ (s : State). NoneAnswers 7 cs (encode p s)) (sym (opened-at p good)) (none-seven p good cs 0))

-- ---- stores that stand one after another

-- a store just opened is one that its plan leads to, with no event done
opened-led : (p : Plan) (b : List ℕ) → JustOpened p b → Led p b
opened-led p b o =
    let ok : plan_test p ≡ true = good o.file o.lent p o.taken o.size in
    record {
      good = ok;
      e = 0;
      is = o.opened ∙ ap (λ (a : AfterOpen). a.store) (opened o.file o.lent p o.taken o.size) ∙ ap (encode p) (opened-at p ok);
    }

module _ (bs : List (List ℕ)) (plans : ℕ → Plan) (all : AllOpened plans bs) (cs : List PartCall) where
  all-led : AllLed plans bs
  all-led i h = opened-led (plans i) (get_or bs i []) (all i h)

  -- what the calls leave of a store is what the steps and runs leave that they come to for it
  pub same-of-each : (i : ℕ) → i < length bs → get_or (stores_after_all cs bs) i [] ≡ store_after_all (calls_on i cs bs) (get_or bs i [])
  same-of-each i h = calls_at plans cs bs all-led i h

  -- so all holds of it that demand 3 says of steps and runs on one store
  pub left-of-each : (i : ℕ) → i < length bs → AfterCalls (plans i) (calls_on i cs bs) (get_or (stores_after_all cs bs) i [])
  left-of-each i h =
      let o : JustOpened (plans i) (get_or bs i []) = all i h in
      subst (AfterCalls (plans i) (calls_on i cs bs)) (sym (same-of-each i h ∙ ap (store_after_all (calls_on i cs bs)) o.opened))
      (left_after o.file o.lent (plans i) o.taken o.size (calls_on i cs bs))

  pub parts-no-seven : NoCallAnswers 7 cs bs
  parts-no-seven = calls-not-seven plans cs bs all-led

-- ---- one store, whatever stands around it

module _ (file store : List ℕ) (p : Plan) (ok : file_of file ≡ accepted p) (size : length store ≡ store_size) where
  pub just-opened : JustOpened p (open_file file store).store
  just-opened = record { file = file; lent = store; taken = ok; size = size; opened = refl }

  module _ (cs : List LentCall) (around : AllAround cs) where
    abbrev b : List ℕ
    b = (open_file file store).store

    -- what the calls leave of it is what the steps and runs leave that they come to
    pub same-among : store_after_all_lent cs b ≡ store_of file store (lent_calls cs b)
    same-among = all-lent-leave p cs b (opened-led p b just-opened) around

    pub left-among : AfterCalls p (lent_calls cs b) (store_after_all_lent cs b)
    left-among = subst (AfterCalls p (lent_calls cs b)) (sym same-among) (left_after file store p ok size (lent_calls cs b))

pub any-calls : Demand3
any-calls = record {
  logarithm = logarithm;
  opens = λ file store p ok size. ap (λ (a : AfterOpen). a.answer) (opened file store p ok size);
  just_opened = just-opened;
  left = left_after;
  none_seven = no_seven;
  parts = λ bs plans all cs i h. (same-of-each bs plans all cs i h, left-of-each bs plans all cs i h);
  parts_none_seven = parts-no-seven;
  among = λ file store p ok size cs around. (same-among file store p ok size cs around, left-among file store p ok size cs around);
}
