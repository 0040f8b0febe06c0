-- What the tests of a record, a tick and a message tell, as facts with names. Assumes nothing.
use mathlib.Core.Path.{◌≡◌, refl, sym, ap, ◌∙◌}
use mathlib.Core.Bool.{Bool, true, false, not, ◌||◌, and-eq-true_iff}
use mathlib.Core.List.{List}
use Prim.Native.Nat.{ℕ, ◌^◌, ◌≤◌, ◌<◌}
use native.Mathlib.Omega.{arith}
use native.Mathlib.Decide.{ℕ_discrete}
use borrow.Author.Tests.{ltb-true, leb-true, eqb-true, eqb-false, lt-ltb, le-leb, eq-eqb, ne_eqb, not-true}
use lib.Dec.{eqb, leb, ltb}
use lib.ListN.{length}
use lib.Seq.{slice}
use Rattle.fields.specs.Fields.{zeros}
use Rattle.limits.specs.Limits.{most_nodes, most_h, most_w, most_tick, record_size}
use Rattle.node.specs.Node.{R}
use Rattle.node.specs.Range.{NodeRange, LiveRange, Known, node_test, kind_test}
use Rattle.node.proofs.Tests.{node-facts, facts-node, live_facts, facts-live, kind-facts, facts-kind}
use Rattle.host.specs.declared.Record.{Record}
use Rattle.host.specs.Record.{gap_from, mark_at, spare_from, decode, openable, in_range, sound}
use Rattle.host.specs.Call.{tick_taken, other_node, message_taken, answer}
use Rattle.limits.specs.Refusals.{accepted}

-- ---- the numbers of a record

pub record Openable (number nodes h w : ℕ) : Type 0 where
  pub some : 1 ≤ nodes
  pub most : nodes ≤ most_nodes
  pub below : number < nodes
  pub h-some : 1 ≤ h
  pub h-most : h ≤ most_h
  pub w-some : 1 ≤ w
  pub w-most : w ≤ most_w

pub openable-facts : (number nodes h w : ℕ) → openable number nodes h w ≡ true → Openable number nodes h w
unfolding openable
openable-facts number nodes h w e =
    let a = (and-eq-true_iff (leb 1 nodes) _).0 e in
    let b = (and-eq-true_iff (leb nodes most_nodes) _).0 a.1 in
    let c = (and-eq-true_iff (ltb number nodes) _).0 b.1 in
    let d = (and-eq-true_iff (leb 1 h) _).0 c.1 in
    let f = (and-eq-true_iff (leb h most_h) _).0 d.1 in
    let g = (and-eq-true_iff (leb 1 w) _).0 f.1 in
    record {
      some = leb-true 1 nodes a.0;
      most = leb-true nodes most_nodes b.0;
      below = ltb-true number nodes c.0;
      h-some = leb-true 1 h d.0;
      h-most = leb-true h most_h f.0;
      w-some = leb-true 1 w g.0;
      w-most = leb-true w most_w g.1;
    }

pub ruleset in_openable = (openable-facts)

pub facts-openable : (number nodes h w : ℕ) → Openable number nodes h w → openable number nodes h w ≡ true
unfolding openable
facts-openable number nodes h w o =
    rw (
      le-leb 1 nodes o.some,
      le-leb nodes most_nodes o.most,
      lt-ltb number nodes o.below,
      le-leb 1 h o.h-some,
      le-leb h most_h o.h-most,
      le-leb 1 w o.w-some,
      le-leb w most_w o.w-most,
    )

-- ---- a record in range

pub record InRange (r : Record) : Type 0 where
  pub openable : Openable r.number r.nodes r.h r.w
  pub last : r.last ≤ most_tick
  pub fields : NodeRange r.nodes r.h r.w r.last r.node
  pub live : LiveRange r.number r.node

module _ (r : Record) where
  pub in-range-facts : in_range r ≡ true → InRange r
  unfolding in_range
  in-range-facts e =
      let a = (and-eq-true_iff (openable r.number r.nodes r.h r.w) _).0 e in
      let b = (and-eq-true_iff (leb r.last most_tick) _).0 a.1 in
      let c = (and-eq-true_iff (node_test r.nodes r.h r.w r.last r.node) _).0 b.1 in
      record {
        openable = openable-facts r.number r.nodes r.h r.w a.0;
        last = leb-true r.last most_tick b.0;
        fields = node-facts r.nodes r.h r.w r.last r.node c.0;
        live = live_facts r.number r.node c.1;
      }

  pub facts-in-range : InRange r → in_range r ≡ true
  unfolding in_range
  facts-in-range f =
      rw (
        facts-openable r.number r.nodes r.h r.w f.openable,
        le-leb r.last most_tick f.last,
        facts-node r.nodes r.h r.w r.last r.node f.fields,
        facts-live r.number r.node f.live,
      )

pub record Sound (s : List ℕ) : Type 0 where
  pub size : length s ≡ record_size
  pub gap : zeros (slice gap_from mark_at s) ≡ true
  pub spare : zeros (slice spare_from record_size s) ≡ true
  pub fields : InRange (decode s)

pub sound-facts : (s : List ℕ) → sound s ≡ true → Sound s
unfolding sound
sound-facts s e =
    let a = (and-eq-true_iff (eqb (length s) record_size) _).0 e in
    let b = (and-eq-true_iff (zeros (slice gap_from mark_at s)) _).0 a.1 in
    let c = (and-eq-true_iff (zeros (slice spare_from record_size s)) _).0 b.1 in
    record { size = eqb-true (length s) record_size a.0; gap = b.0; spare = c.0; fields = in-range-facts (decode s) c.1 }

pub ruleset in_sound = (sound-facts)

-- ---- a tick and a message that are taken

pub tick-facts : (r : Record) (tick : ℕ) → tick_taken r tick ≡ true → (r.last ≤ tick) × (tick ≤ most_tick)
unfolding tick_taken
tick-facts r tick e =
    let a = (and-eq-true_iff (leb r.last tick) _).0 e in
    (leb-true r.last tick a.0, leb-true tick most_tick a.1)

pub other-facts : (r : Record) (i : ℕ) → other_node r i ≡ true → (i < r.nodes) × (i ≡ r.number → ⊥)
unfolding other_node
other-facts r i e =
    let a = (and-eq-true_iff (ltb i r.nodes) _).0 e in
    (ltb-true i r.nodes a.0, eqb-false i r.number (not-true (eqb i r.number) a.1))

pub facts-other : (r : Record) (i : ℕ) → (i < r.nodes) × (i ≡ r.number → ⊥) → other_node r i ≡ true
unfolding other_node
facts-other r i f = rw (lt-ltb i r.nodes f.0, ne_eqb i r.number f.1)

pub record MessageTaken (r : Record) (kind sender subject list : ℕ) : Type 0 where
  pub known : Known kind
  pub from : (sender < r.nodes) × (sender ≡ r.number → ⊥)
  pub about : kind ≡ R → (subject < r.nodes) × (subject ≡ r.number → ⊥)
  pub within : list < 2 ^ r.nodes

module _ (r : Record) (kind sender subject list : ℕ) where
  pub message-facts : message_taken r kind sender subject list ≡ true → MessageTaken r kind sender subject list
  unfolding message_taken
  message-facts e =
      let a = (and-eq-true_iff (kind_test kind) _).0 e in
      let b = (and-eq-true_iff (other_node r sender) _).0 a.1 in
      let c = (and-eq-true_iff (not (eqb kind R) || other_node r subject) _).0 b.1 in
      record {
        known = kind-facts kind a.0;
        from = other-facts r sender b.0;
        about = λ q. other-facts r subject (ap (λ (k : ℕ). not (eqb k R) || other_node r subject) (sym q) ∙ c.0);
        within = ltb-true list (2 ^ r.nodes) c.1;
      }

  pub facts-message : MessageTaken r kind sender subject list → message_taken r kind sender subject list ≡ true
  unfolding message_taken
  facts-message m = rw (facts-kind kind m.known, facts-other r sender m.from, go (ℕ_discrete kind R), lt-ltb list (2 ^ r.nodes) m.within)
    where
      go : Dec (kind ≡ R) → (not (eqb kind R) || other_node r subject) ≡ true
      go (yes q) = rw (eq-eqb kind R q) (facts-other r subject (m.about q))
      go (no q) = rw (ne_eqb kind R q)

pub ruleset in_message = (message-facts)

-- ---- an accepted call

pub accepted-facts : (a b c d : Bool) → answer a b c d ≡ accepted → (a ≡ true) × (b ≡ true) × (c ≡ true) × (d ≡ true)
unfolding answer
accepted-facts true true true true e = (refl, refl, refl, refl)
accepted-facts false b c d e = absurd (omega arith)
accepted-facts true false c d e = absurd (omega arith)
accepted-facts true true false d e = absurd (omega arith)
accepted-facts true true true false e = absurd (omega arith)
