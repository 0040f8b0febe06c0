-- A file with a crash, in number order and shuffled, whose settled state is computed and meets every hypothesis of `settling`; one with three
-- crashes at one tick, likewise for `joining`; one whose report dies with its relays, likewise for `completing`; one in which a node leaves its
-- emitter by report; one with W one below H + D, of which none of these claims holds; and the S of document 01's edge. Assumes nothing.
use mathlib.Core.Path.{◌≡◌, refl, sym, ap, subst, ◌∙◌}
use mathlib.Core.Bool.{true, true≢false}
use mathlib.Core.List.{List, [], ◌∷◌, map}
use mathlib.Core.Option.{none, some}
use Prim.Native.Nat.{ℕ, suc, ◌+◌, ◌≤◌, ◌<◌}
use native.Mathlib.Omega.{arith}
use lib.ListN.{get_or}
use Rattle.ring.specs.Ring.{keep, numbers, among, each_once, listed, listing, unlisting, merging, unlisted, passing, round, place, ahead}
use Rattle.ring.specs.Ring.{first_unlisted, back, next, count, powers, jumps, targets, listing_all}
use Rattle.node.specs.declared.Node.{Node}
use Rattle.node.specs.Node.{due, R, reports, opening, learnt, on_heartbeat, on_observer, on_report, on_heartbeat_due, on_message, leaving}
use Rattle.logline.specs.Line.{letter_r, letter_k}
use Rattle.model.specs.Platform.{alive, survivors, start, crash_entries, message_entries, timer_entry, timer_entries, pending, earlier, first, up_to}
use Rattle.model.specs.Platform.{InFlight, State, message, message_at, next_survivor, survivor_before, crashed_list}
use Rattle.model.specs.Platform.{next_event, delay_in, delay_of, numbered, node_of, taken, without, received, apply, fits, tried, try, left, steps, after}
use Rattle.plans.specs.Plan.{Crash, Plan, within, start_ranges, long_enough, crash_range, rising_from, rising, later, hits, none_twice, crash_order}
use Rattle.plans.specs.Plan.{with_crashed, ring_order, order_of, ring_test, ring_count, ring_range}
use Rattle.plans.specs.Plan.{delay_order, few_delays, every, crash_test, delay_test, plan_test}
use Rattle.plans.specs.Plain.{Plain}
use Rattle.plans.proofs.Facts.{plan-plain}
use Rattle.model.specs.Range.{EndsInE, NotBefore}
use Rattle.model.specs.Lines.{line, other_of, moves, message_deed, deed_of, deed_lines, event_lines}
use Rattle.model.specs.Claims.{Safe, S, settled_by, Spaced, NoneLeftBefore, SettledAt, Settles, joined_by, NoneLeftBy, JoinedAt, Joins, complete_by}
use Rattle.model.specs.Claims.{Completes}
use Rattle.model.proofs.NextEvent.{Best, best}
use Rattle.model.proofs.RangesKept.{after-range}
use Rattle.model.proofs.Theorems.{settling, joining, completing}
use Rattle.model.proofs.Plans.{plan-ends}
use Rattle.model.proofs.Search.{none-left-before}

-- ---- 63 survivors, W 100, D 5: S is 140

unfoldable pub wide : Plan
wide = record { n = 64; h = 1; w = 100; d = 5; end = 10; ring = []; crashes = record { tick = 1; node = 9 } ∷ []; delays = [] }

pub wide-S : S wide (survivors wide 1) ≡ 140
unfolding wide keep numbers powers jumps hits among alive survivors S
wide-S = refl

-- ---- a file that settles: P,4,2,4,2,16 and C,5,2. S is 4 + (2 + 2) × 2 = 12, and all that is due before 17 is done

-- with these numbers as its Q line, none where it has none
unfoldable pub four : List ℕ → Plan
four ring = record { n = 4; h = 2; w = 4; d = 2; end = 16; ring = ring; crashes = record { tick = 5; node = 2 } ∷ []; delays = [] }

abbrev shuffled : List ℕ
shuffled = 0 ∷ 2 ∷ 3 ∷ 1 ∷ []

-- emitter, observer and list of node k at the end
unfoldable pub end_of : List ℕ → ℕ → List ℕ
end_of ring k = let a : Node = node_of (after (four ring) 200) k in a.emitter ∷ a.observer ∷ a.list ∷ []

-- the settled state, of survivors whose fields are these
pub record Ends (ring : List ℕ) (fields : List (List ℕ)) : Type 0 where
  pub nodes : map (end_of ring) (0 ∷ 1 ∷ 3 ∷ []) ≡ fields
  pub done : (after (four ring) 200).done ≡ 1
  pub by : settled_by (four ring) 0 ≡ 17
  pub end : next_event (four ring) (after (four ring) 200) ≡ none

-- nodes 0, 1 and 3 list node 2, and are neighbours in the ring 0, 1, 3; in the shuffled one, in the ring 0, 3, 1
pub four-ends : Ends [] ((3 ∷ 1 ∷ 4 ∷ []) ∷ (0 ∷ 3 ∷ 4 ∷ []) ∷ (1 ∷ 0 ∷ 4 ∷ []) ∷ [])
    × Ends shuffled ((1 ∷ 3 ∷ 4 ∷ []) ∷ (3 ∷ 0 ∷ 4 ∷ []) ∷ (0 ∷ 1 ∷ 4 ∷ []) ∷ [])
unfolding four end_of keep numbers listed listing unlisting merging unlisted passing round place ahead first_unlisted back next count powers jumps
    targets reports opening learnt on_heartbeat on_observer on_report on_heartbeat_due leaving on_message ring_order order_of hits among alive survivors start
    crash_entries message_entries timer_entry timer_entries pending earlier first up_to next_event delay_in delay_of numbered taken without received apply
    fits tried try left steps after S settled_by
four-ends =
    (record { nodes = refl; done = refl; by = refl; end = refl }, record { nodes = refl; done = refl; by = refl; end = refl })

pub four-plan : EndsInE (four []) × EndsInE (four shuffled)
unfolding four plan_test start_ranges within long_enough ring_test ring_count ring_range crash_test every crash_range crash_order rising
    rising_from none_twice each_once hits among delay_test delay_order few_delays
four-plan = (plan-ends (four []) refl refl, plan-ends (four shuffled) refl refl)

-- the same by the theorem: its hypotheses are met
module _ (ring : List ℕ) (fields : List (List ℕ)) (accepted : EndsInE (four ring)) (ends : Ends ring fields) where
  abbrev p : Plan
  p = four ring

  none_left : NotBefore p (after p 200) 17 17 17
  unfolding Best four
  none_left = subst (Best p accepted.plain (after p 200)) ends.end (best p accepted.plain (after p 200))

  spaced : Spaced p 1
  unfolding Spaced
  spaced i h = absurd (omega arith)

  settles : (j : ℕ) → j < 4 → alive p (after p 200).done j ≡ true → SettledAt p (after p 200) j
  unfolding four
  settles j h l =
      let left = none-left-before p accepted.plain (after p 200) 17 none_left in
      (settling p accepted 200).settled 0 ends.done spaced (subst (NoneLeftBefore p (after p 200)) (sym ends.by) left) j h l

pub four-settles : (j : ℕ) → j < 4
    → (alive (four []) (after (four []) 200).done j ≡ true → SettledAt (four []) (after (four []) 200) j)
    × (alive (four shuffled) (after (four shuffled) 200).done j ≡ true → SettledAt (four shuffled) (after (four shuffled) 200) j)
four-settles j h =
    (settles [] _ four-plan.0 four-ends.0 j h, settles shuffled _ four-plan.1 four-ends.1 j h)

-- ---- a file in which three neighbours crash at one tick: P,6,1,2,1,14 and C,1,1, C,1,2, C,1,3. With f = 3, c + 2 × W × f + D is
-- 1 + 2 × 2 × 3 + 1 = 14, and all that is due by then is done

-- with these numbers as its Q line, none where it has none
unfoldable pub trip : List ℕ → Plan
trip ring =
    let at_one : ℕ → Crash = λ node. record { tick = 1; node = node } in
    record { n = 6; h = 1; w = 2; d = 1; end = 14; ring = ring; crashes = at_one 1 ∷ at_one 2 ∷ at_one 3 ∷ []; delays = [] }

-- nodes 1, 3 and 2 stand in a row, between 4 and 5
abbrev mixed : List ℕ
mixed = 0 ∷ 4 ∷ 1 ∷ 3 ∷ 2 ∷ 5 ∷ []

-- emitter and observer of node k after some events
unfoldable pub neighbours : List ℕ → ℕ → ℕ → List ℕ
neighbours ring events k = let a : Node = node_of (after (trip ring) events) k in a.emitter ∷ a.observer ∷ []

-- the survivors' neighbours after some events, at tick 11, when a crashed node is still among them, and after all
pub record Rejoins (ring : List ℕ) (events : ℕ) (early late : List (List ℕ)) : Type 0 where
  pub not_yet : map (neighbours ring events) (0 ∷ 4 ∷ 5 ∷ []) ≡ early
  pub tick : (after (trip ring) events).last ≡ 11
  pub nodes : map (neighbours ring 200) (0 ∷ 4 ∷ 5 ∷ []) ≡ late
  pub done : (after (trip ring) 200).done ≡ 3
  pub by : joined_by (trip ring) 2 ≡ 14
  pub end : next_event (trip ring) (after (trip ring) 200) ≡ none

-- the neighbours of 0, 4 and 5 in the ring 0, 4, 5
abbrev pub rejoined : List (List ℕ)
rejoined = (5 ∷ 4 ∷ []) ∷ (0 ∷ 5 ∷ []) ∷ (4 ∷ 0 ∷ []) ∷ []

-- node 4, in the mixed ring node 5, has come to observe the survivor before it, whose observer is still a crashed node; then all are joined
pub trip-ends : Rejoins [] 81 ((5 ∷ 1 ∷ []) ∷ (0 ∷ 5 ∷ []) ∷ (4 ∷ 0 ∷ []) ∷ []) rejoined
    × Rejoins mixed 82 ((5 ∷ 4 ∷ []) ∷ (0 ∷ 1 ∷ []) ∷ (4 ∷ 0 ∷ []) ∷ []) rejoined
unfolding trip neighbours keep numbers listed listing unlisting merging unlisted passing round place ahead first_unlisted back next count powers jumps
    targets reports opening learnt on_heartbeat on_observer on_report on_heartbeat_due leaving on_message ring_order order_of hits among alive start
    crash_entries message_entries timer_entry timer_entries pending earlier first up_to next_event delay_in delay_of numbered taken without received apply
    fits tried try left steps after joined_by
trip-ends = (
  record { not_yet = refl; tick = refl; nodes = refl; done = refl; by = refl; end = refl },
  record { not_yet = refl; tick = refl; nodes = refl; done = refl; by = refl; end = refl },
)

pub trip-plan : EndsInE (trip []) × EndsInE (trip mixed)
unfolding trip plan_test start_ranges within long_enough ring_test ring_count ring_range crash_test every crash_range crash_order rising
    rising_from later none_twice each_once hits among delay_test delay_order few_delays
trip-plan = (plan-ends (trip []) refl refl, plan-ends (trip mixed) refl refl)

-- the same by the theorem: its hypotheses are met
module _ (ring : List ℕ) (events : ℕ) (early late : List (List ℕ)) (accepted : EndsInE (trip ring)) (ends : Rejoins ring events early late) where
  abbrev pt : Plan
  pt = trip ring

  none-by : NotBefore pt (after pt 200) 15 15 15
  unfolding Best trip
  none-by = subst (Best pt accepted.plain (after pt 200)) ends.end (best pt accepted.plain (after pt 200))

  joins : (j : ℕ) → j < 6 → alive pt (after pt 200).done j ≡ true → JoinedAt pt (after pt 200) j
  unfolding trip NoneLeftBy
  joins j h l =
      let left = none-left-before pt accepted.plain (after pt 200) 15 none-by in
      (joining pt accepted 200).joined 2 ends.done (subst (NoneLeftBy pt (after pt 200)) (sym ends.by) left) j h l

pub trip-joins : (j : ℕ) → j < 6
    → (alive (trip []) (after (trip []) 200).done j ≡ true → JoinedAt (trip []) (after (trip []) 200) j)
    × (alive (trip mixed) (after (trip mixed) 200).done j ≡ true → JoinedAt (trip mixed) (after (trip mixed) 200) j)
trip-joins j h =
    (joins [] _ _ _ trip-plan.0 trip-ends.0 j h, joins mixed _ _ _ trip-plan.1 trip-ends.1 j h)

next-is-4 : next_survivor (trip []) (after (trip []) 81).done 0 ≡ 4
unfolding trip keep numbers listed listing unlisting merging unlisted passing round place ahead first_unlisted back next count powers jumps targets
    reports opening learnt on_heartbeat on_observer on_report on_heartbeat_due leaving on_message ring_order order_of hits among alive next_survivor start
    crash_entries message_entries timer_entry timer_entries pending earlier first up_to next_event delay_in delay_of numbered taken without received apply
    fits tried try left steps after
next-is-4 = refl

-- neither 2 × W × (f - 1) + D, which makes 10 here, nor W × f + D, which makes 8, would do: no event due by 10 is left after those 81, and
-- node 0 still sends to node 1
pub too-soon : NoneLeftBy (trip []) (after (trip []) 81) 10 × (JoinedAt (trip []) (after (trip []) 81) 0 → ⊥)
unfolding NoneLeftBy neighbours
too-soon =
    let pl : Plain (trip []) = trip-plan.0.plain in
    let s : State = after (trip []) 81 in
    let now : NotBefore (trip []) s 11 11 11 = subst (λ t. NotBefore (trip []) s t t t) trip-ends.0.tick (after-range (trip []) pl 81).past in
    let observer : (node_of s 0).observer ≡ 1 = ap (λ (l : List (List ℕ)). get_or (get_or l 0 []) 1 0) trip-ends.0.not_yet in
    (none-left-before (trip []) pl s 11 now, λ joined. omega (arith, joined.observer, observer, next-is-4))

-- ---- a file in which a report dies with its relays: P,5,3,5,2,92 and C,4,1, C,5,3, C,5,4. No report of node 1 reaches node 0, and a heartbeat
-- brings it. With f = 3 and m = 2, c + 2 × W × f + D + (m − 1) × (H + D) is 5 + 2 × 5 × 3 + 2 + 1 × (3 + 2) = 42, and all that is due by then is done

unfoldable pub lost : Plan
lost =
    let at : ℕ → ℕ → Crash = λ tick node. record { tick = tick; node = node } in
    record { n = 5; h = 3; w = 5; d = 2; end = 92; ring = []; crashes = at 4 1 ∷ at 5 3 ∷ at 5 4 ∷ []; delays = [] }

-- the lists of nodes 0 and 2, the survivors, after some events
unfoldable pub two_lists : ℕ → List ℕ
two_lists events = map (λ k. (node_of (after lost events) k).list) (0 ∷ 2 ∷ [])

-- node 0 lists 3 and 4, node 2 also 1; by the 54th event, a heartbeat of node 2 at tick 24, node 0 lists it too, but has no report of it
pub record Brought : Type 0 where
  pub short : two_lists 53 ≡ 24 ∷ 26 ∷ []
  pub heard : two_lists 54 ≡ 26 ∷ 26 ∷ []
  pub tick : (after lost 54).last ≡ 24
  pub unreported : (node_of (after lost 200) 0).mark ≡ 24
  pub full : two_lists 200 ≡ 26 ∷ 26 ∷ []
  pub done : (after lost 200).done ≡ 3
  pub by : complete_by lost 2 ≡ 42
  pub end : next_event lost (after lost 200) ≡ none

pub lost-ends : Brought
unfolding lost two_lists keep numbers listed listing unlisting merging unlisted passing round place ahead first_unlisted back next count powers jumps
    targets reports opening learnt on_heartbeat on_observer on_report on_heartbeat_due leaving on_message ring_order order_of hits among alive survivors start
    crash_entries message_entries timer_entry timer_entries pending earlier first up_to next_event delay_in delay_of numbered taken without received apply
    fits tried try left steps after joined_by complete_by
lost-ends = record { short = refl; heard = refl; tick = refl; unreported = refl; full = refl; done = refl; by = refl; end = refl }

pub lost-plan : EndsInE lost
unfolding lost plan_test start_ranges within long_enough ring_test ring_count ring_range crash_test every crash_range crash_order rising
    rising_from later none_twice each_once hits among delay_test delay_order few_delays
lost-plan = plan-ends lost refl refl

-- the same by the theorem: its hypotheses are met
pub lost-completes : (j : ℕ) → j < 5 → alive lost (after lost 200).done j ≡ true → (node_of (after lost 200) j).list ≡ crashed_list lost 3
unfolding Best lost NoneLeftBy NoneLeftBefore
lost-completes j h l =
    let pl : Plain lost = lost-plan.plain in
    let s : State = after lost 200 in
    let over : NotBefore lost s 93 93 93 = subst (Best lost pl s) lost-ends.end (best lost pl s) in
    let left : NoneLeftBefore lost s 43 = λ e m. omega (arith, none-left-before lost pl s 93 over e m) in
    (completing lost lost-plan 200).complete 2 lost-ends.done (subst (NoneLeftBy lost s) (sym lost-ends.by) left) j h l
    ∙ ap (crashed_list lost) lost-ends.done

-- ---- a file in which a node leaves its emitter by report: P,9,3,10,7,47 with six crashes. Node 6 takes node 2 at tick 46, by its expired
-- watch; the 167th event, at tick 47, is a report of node 2

unfoldable pub nine : Plan
nine =
    let at : ℕ → ℕ → Crash = λ tick node. record { tick = tick; node = node } in
    record { n = 9; h = 3; w = 10; d = 7; end = 47; ring = []; crashes = at 2 4 ∷ at 2 8 ∷ at 10 2 ∷ at 11 5 ∷ at 15 1 ∷ at 28 3 ∷ []; delays = [] }

pub nine-plan : EndsInE nine
unfolding nine plan_test start_ranges within long_enough ring_test ring_count ring_range crash_test every crash_range crash_order rising
    rising_from later none_twice each_once hits among delay_test delay_order few_delays
nine-plan = plan-ends nine refl refl

-- node 6 after some events
unfoldable pub six : ℕ → Node
six e = node_of (after nine e) 6

-- kind, receiver and subject of the first message in flight
unfoldable pub first_in : State → List ℕ
first_in s = let m : InFlight = message_at s 0 in m.kind ∷ m.to ∷ m.subject ∷ []

-- the report moves node 6 on to node 1, the next one back, and gives that 2 × W from tick 47
pub record SixLeaves : Type 0 where
  pub observes-2 : six 166 ≡ record { emitter = 2; observer = 7; watch = due 66; heartbeat = due 48; list = 56; mark = 56 }
  pub message-next : next_event nine (after nine 166) ≡ some (record { tick = 47; event = message 0 })
  pub report-of-2 : first_in (after nine 166) ≡ R ∷ 6 ∷ 2 ∷ []
  pub observes-1 : six 167 ≡ record { emitter = 1; observer = 7; watch = due 67; heartbeat = due 48; list = 60; mark = 60 }
  -- and it passes node 2 alone, the one just left: nodes 3, 4 and 5 were passed in moves before
  pub lines : event_lines nine (after nine 166) (after nine 167) (record { tick = 47; event = message 0 })
      ≡ line letter_r 47 6 2 60 ∷ line letter_k 47 6 1 60 ∷ []

pub six-leaves : SixLeaves
unfolding nine six first_in keep numbers listed listing unlisting merging unlisted passing round place ahead first_unlisted back next count powers jumps
    targets reports learnt opening on_heartbeat on_observer on_report on_heartbeat_due leaving on_message ring_order order_of hits among alive survivors start
    crash_entries message_entries timer_entry timer_entries pending earlier first up_to next_event delay_in delay_of numbered taken without received apply
    fits tried try left steps after other_of moves message_deed deed_of deed_lines
six-leaves = record { observes-2 = refl; message-next = refl; report-of-2 = refl; observes-1 = refl; lines = refl }

-- ---- a file with W one below H + D: P,3,2,2,1,9 and C,1,0. At tick 2 node 2 lists node 1, which is live; at the end each of the two survivors
-- lists the other and is alone. Nothing due by 9 is left, and none of the claims counts from a later tick

unfoldable pub short : Plan
short = record { n = 3; h = 2; w = 2; d = 1; end = 9; ring = []; crashes = record { tick = 1; node = 0 } ∷ []; delays = [] }

abbrev short_end : State
short_end = after short 40

pub record ShortEnds : Type 0 where
  -- a run file may hold it, and one tick more would be enough
  pub taken : plan_test short ≡ true
  pub one_less : short.w + 1 ≡ short.h + short.d
  pub done : short_end.done ≡ 1
  -- nodes 1 and 2 are live, and 1 lists 0 and 2 and observes itself
  pub live-1 : alive short short_end.done 1 ≡ true
  pub live-2 : alive short short_end.done 2 ≡ true
  pub list : (node_of short_end 1).list ≡ 5
  pub lists-2 : listed (node_of short_end 1).list 2 ≡ true
  pub emitter : (node_of short_end 1).emitter ≡ 1
  -- where it should list 0 alone and observe 2
  pub dead : crashed_list short short_end.done ≡ 1
  pub before : survivor_before short short_end.done 1 ≡ 2
  pub settled : settled_by short 0 ≡ 6
  pub joined : joined_by short 0 ≡ 6
  pub complete : complete_by short 0 ≡ 9
  pub end : next_event short short_end ≡ none

pub short-ends : ShortEnds
unfolding short keep numbers listed listing unlisting merging unlisted passing round place ahead first_unlisted back next count powers jumps targets
    reports opening learnt on_heartbeat on_observer on_report on_heartbeat_due leaving on_message ring_order order_of hits among alive survivors start
    crash_entries message_entries timer_entry timer_entries pending earlier first up_to next_event delay_in delay_of numbered taken without received apply
    fits tried try left steps after S settled_by joined_by complete_by survivor_before crashed_list with_crashed listing_all
    plan_test start_ranges within ring_test crash_test every crash_range crash_order rising rising_from none_twice each_once delay_test delay_order few_delays
short-ends = record {
  taken = refl;
  one_less = refl;
  done = refl;
  live-1 = refl;
  live-2 = refl;
  list = refl;
  lists-2 = refl;
  emitter = refl;
  dead = refl;
  before = refl;
  settled = refl;
  joined = refl;
  complete = refl;
  end = refl;
}

-- so W at least H + D is needed for each of the four claims
pub none-holds : (Safe short short_end → ⊥) × (Settles short short_end → ⊥) × (Joins short short_end → ⊥) × (Completes short short_end → ⊥)
unfolding Best short Spaced NoneLeftBy NoneLeftBefore
none-holds = (
  λ h. true≢false (sym f.live-2 ∙ h.unlisted 1 2 f.lists-2),
  λ h. omega (arith, (h.settled 0 f.done spaced-1 (by f.settled (omega arith)) 1 (omega arith) f.live-1).list, f.list, f.dead),
  λ h. omega (arith, (h.joined 0 f.done (by (ap suc f.joined) (omega arith)) 1 (omega arith) f.live-1).emitter, f.emitter, f.before),
  λ h. omega (arith, h.complete 0 f.done (by (ap suc f.complete) (omega arith)) 1 (omega arith) f.live-1, f.list, f.dead),
)
  where
    f : ShortEnds
    f = short-ends

    pl : Plain short
    pl = plan-plain short f.taken

    spaced-1 : Spaced short 1
    spaced-1 i l = absurd (omega arith)

    over : NotBefore short short_end 10 10 10
    over = subst (Best short pl short_end) f.end (best short pl short_end)

    by : {u v : ℕ} → v ≡ u → u ≤ 10 → NoneLeftBefore short short_end v
    by e l x m = omega (arith, none-left-before short pl short_end 10 over x m)
