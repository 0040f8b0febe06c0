-- What the node calls leave where they are accepted, and what the functions below them ask for. Assumes nothing.
use mathlib.Core.Path.{◌≡◌, refl, sym, ap, ◌∙◌}
use mathlib.Core.Bool.{Bool, true, false, cond}
use mathlib.Core.List.{List}
use Prim.Native.Nat.{ℕ, ◌≤◌, ◌<◌}
use native.Mathlib.Omega.{arith}
use borrow.Author.Tests.{lt-leb, le-leb, eqb-true}
use lib.Dec.{eqb, leb}
use lib.ListN.{length, take}
use Rattle.std.specs.Prelude.{Result, Ok, Err}
use Rattle.limits.specs.Limits.{most_nodes, most_h, most_w, most_tick, part_size}
use Rattle.limits.specs.declared.Refusal.{Refusal}
use Rattle.limits.specs.declared.Refusal.TheVariants.{BadRecord, BadMessage, BadTick, ShortPart}
use Rattle.limits.specs.Refusals.{accepted, number_of}
use Rattle.node.specs.declared.Turned.{Turned}
use Rattle.node.specs.Node.{Turn, R, turned}
use Rattle.node.proofs.Messages.{turned-sends}
use Rattle.host.specs.declared.Record.{Record}
use Rattle.host.specs.declared.Received.{Received}
use Rattle.host.specs.Record.{encode, decode, sound}
use Rattle.host.specs.Call.{answer, tick_taken, message_taken, received, put_messages, record_after, part_after, delivered}
use Rattle.host.specs.Call.{fired, with_turn}
use Rattle.host.proofs.Facts.{InRange, MessageTaken, sound-facts, tick-facts, message-facts}
use Rattle.host.proofs.Tests.{delivered-subject}

pub answer-accepted : (a b c d : Bool) → a ≡ true → b ≡ true → c ≡ true → d ≡ true → answer a b c d ≡ accepted
unfolding answer
answer-accepted a b c d e f g h = rw (e, f, g, h)

-- ---- what is taken, or refused by e, by a test b

abbrev pub Taking : {A : Type 0} → Bool → A → Refusal → Result A Refusal → Type 0
Taking {A} b x e r = r ≡ cond {A = Result A Refusal} b (Ok x) (Err e)

ok-taken : {A : Type 0} (b : Bool) (x y : A) (e : Refusal) → Taking b x e (Ok y) → (b ≡ true) × (y ≡ x)
ok-taken true x y e q = (refl, cc)
ok-taken false x y e q = cc

err-refused : {A : Type 0} (b : Bool) (x : A) (e f : Refusal) → Taking b x e (Err f) → (b ≡ false) × (f ≡ e)
err-refused true x e f q = cc
err-refused false x e f q = (refl, cc)

-- ---- what a call answers, and the record and the part that it leaves, where its answer is a and the node takes the turn u

abbrev pub Left : ℕ → List ℕ → List ℕ → ℕ → Turn → ℕ → List ℕ → List ℕ → Type 0
Left a s part tick u a' s' part' = (a' ≡ a) × (s' ≡ record_after a s tick u) × (part' ≡ part_after a s part u)

refused : (a k : ℕ) (s part : List ℕ) (tick : ℕ) (u : Turn) → k ≡ a → eqb k accepted ≡ false → Left a s part tick u k s part
unfolding record_after part_after
refused a k s part tick u e n = (e, rw (← e, n), rw (← e, n))

taken : (a : ℕ) (s part : List ℕ) (tick : ℕ) (u : Turn) (t : Turned) (r : Record) (s' part' : List ℕ)
    → a ≡ accepted → r ≡ decode s → t ≡ turned u → s' ≡ encode (with_turn r tick t.node)
    → part' ≡ put_messages part r.number (take t.count t.sent)
    → Left a s part tick u accepted s' part'
unfolding record_after part_after turned
taken a s part tick u t r s' part' e rq tq sq pq = (
  sym e,
  sq ∙ rw (e, rq, tq),
  pq ∙ ap (put_messages part r.number) (turned-sends t u tq) ∙ rw (e, rq),
)

module _ (s : List ℕ) (tick : ℕ) where
  -- the answers: k is the number of the refusal e
  pub record-refused : (part : List ℕ) (u : Turn) (e : Refusal) (in-time known long : Bool)
      → Taking {A = Unit {0}} (sound s) tt BadRecord (Err e) → (k : ℕ) → k ≡ number_of e
      → Left (answer (sound s) in-time known long) s part tick u k s part
  unfolding answer
  record-refused part u e in-time known long q k kq =
      let bad = err-refused _ _ _ _ q in
      let is : k ≡ number_of BadRecord = rw (kq, bad.1) in
      refused _ k s part tick u (rw (is, bad.0)) (rw is)

  -- the record r that a call read, once its bytes were tried
  module _ (r : Record) (tried : Taking {A = Unit {0}} (sound s) tt BadRecord (Ok tt)) (read : r ≡ decode s) where
    record-taken : (sound s ≡ true) × (r ≡ decode s)
    record-taken = ((ok-taken _ _ _ _ tried).0, read)

    range : InRange r
    range = rw record-taken.1 (sound-facts s record-taken.0).fields

    pub tick-refused : (part : List ℕ) (u : Turn) (e : Refusal) (known long : Bool)
        → Taking (tick_taken r tick) tick BadTick (Err e) → (k : ℕ) → k ≡ number_of e
        → Left (answer (sound s) (tick_taken (decode s) tick) known long) s part tick u k s part
    unfolding answer
    tick-refused part u e known long q k kq =
        let bad = err-refused _ _ _ _ q in
        let late : tick_taken (decode s) tick ≡ false = rw (← record-taken.1) bad.0 in
        let is : k ≡ number_of BadTick = rw (kq, bad.1) in
        refused _ k s part tick u (rw (is, record-taken.0, late)) (rw is)

    -- the tick t that it took
    module _ (t : ℕ) (tq : Taking (tick_taken r tick) tick BadTick (Ok t)) where
      tick-taken : (tick_taken r tick ≡ true) × (t ≡ tick)
      tick-taken = ok-taken _ _ _ _ tq

      in-time : tick_taken (decode s) tick ≡ true
      in-time = rw (← record-taken.1) tick-taken.0

      tick-fits : t ≤ most_tick
      tick-fits = rw tick-taken.1 (tick-facts r tick tick-taken.0).1

      pub part-refused : (part : List ℕ) (u : Turn) (known : Bool) → known ≡ true → length part < part_size
          → Left (answer (sound s) (tick_taken (decode s) tick) known (leb part_size (length part))) s part tick u (number_of ShortPart) s part
      unfolding answer
      part-refused part u known q h =
          refused _ (number_of ShortPart) s part tick u (rw (record-taken.0, in-time, q, lt-leb part_size (length part) h)) refl

      -- ---- timers

      pub timer-asks : (1 ≤ r.nodes) × (r.nodes ≤ most_nodes) × (r.h ≤ most_h) × (r.w ≤ most_w) × (t ≤ most_tick) × (r.node.emitter < most_nodes)
      timer-asks =
          let o = range.openable in
          (o.some, o.most, o.h-most, o.w-most, tick-fits, omega (arith, range.fields.emitter, o.most))

      pub timers-taken : (part : List ℕ) (u : Turn) (v : Turned) (s' part' : List ℕ) → part_size ≤ length part
          → u ≡ fired (decode s) tick → v ≡ turned (fired r t)
          → s' ≡ encode (with_turn r t v.node) → part' ≡ put_messages part r.number (take v.count v.sent)
          → Left (answer (sound s) (tick_taken (decode s) tick) true (leb part_size (length part))) s part tick u accepted s' part'
      timers-taken part u v s' part' h uq vq sq pq =
          taken _ s part tick u v r s' part' (answer-accepted _ _ _ _ record-taken.0 in-time refl (le-leb part_size (length part) h)) record-taken.1
          (vq ∙ rw (uq, record-taken.1, tick-taken.1)) (sq ∙ rw tick-taken.1) pq

      -- ---- delivery

      module _ (kind sender subject list : ℕ) where
        pub message-refused : (part : List ℕ) (u : Turn) (e : Refusal) (long : Bool)
            → Taking (message_taken r kind sender subject list) (received kind sender subject list) BadMessage (Err e) → (k : ℕ) → k ≡ number_of e
            → Left (answer (sound s) (tick_taken (decode s) tick) (message_taken (decode s) kind sender subject list) long) s part tick u k s part
        unfolding answer
        message-refused part u e long q k kq =
            let bad = err-refused _ _ _ _ q in
            let unknown : message_taken (decode s) kind sender subject list ≡ false = rw (← record-taken.1) bad.0 in
            let is : k ≡ number_of BadMessage = rw (kq, bad.1) in
            refused _ k s part tick u (rw (is, record-taken.0, in-time, unknown)) (rw is)

        -- the message m that the call took
        module _ (m : Received) (mq : Taking (message_taken r kind sender subject list) (received kind sender subject list) BadMessage (Ok m)) where
          message-taken : (message_taken r kind sender subject list ≡ true) × (m ≡ received kind sender subject list)
          message-taken = ok-taken _ _ _ _ mq

          pub known : message_taken (decode s) kind sender subject list ≡ true
          known = rw (← record-taken.1) message-taken.0

          facts : MessageTaken r kind sender subject list
          facts = message-facts r kind sender subject list message-taken.0

          subject-below : cond (eqb kind R) subject 0 < most_nodes
          subject-below = go (eqb kind R) refl
            where
              go : (b : Bool) → eqb kind R ≡ b → cond b subject 0 < most_nodes
              go true q = omega (arith, range.openable.most, (facts.about (eqb-true kind R q)).0)
              go false q = omega arith

          pub message-asks : (1 ≤ r.nodes) × (r.nodes ≤ most_nodes) × (r.number < r.nodes) × (r.w ≤ most_w) × (t ≤ most_tick)
              × (m.sender < most_nodes) × (m.subject < most_nodes)
          message-asks =
              let o = range.openable in
              let sender-below : sender < most_nodes = omega (arith, o.most, facts.from.0) in
              (o.some, o.most, o.below, o.w-most, tick-fits, rw message-taken.1 sender-below, rw message-taken.1 subject-below)

          pub deliver-taken : (part : List ℕ) (u : Turn) (v : Turned) (s' part' : List ℕ) → part_size ≤ length part
              → u ≡ delivered (decode s) tick kind sender subject list → v ≡ turned (delivered r t m.kind m.sender m.subject m.list)
              → s' ≡ encode (with_turn r t v.node) → part' ≡ put_messages part r.number (take v.count v.sent)
              → Left (answer (sound s) (tick_taken (decode s) tick) (message_taken (decode s) kind sender subject list) (leb part_size (length part)))
              s part tick u accepted s' part'
          deliver-taken part u v s' part' h uq vq sq pq =
              let same : delivered r t m.kind m.sender m.subject m.list ≡ delivered (decode s) tick kind sender subject list =
              rw (message-taken.1, tick-taken.1, ← record-taken.1) (delivered-subject r tick kind sender subject list facts.known) in
              taken _ s part tick u v r s' part' (answer-accepted _ _ _ _ record-taken.0 in-time known (le-leb part_size (length part) h))
              record-taken.1 (vq ∙ ap turned (same ∙ sym uq)) (sq ∙ rw tick-taken.1) pq
