-- A line of good form has the bytes that are written of what it says. Assumes nothing.
use Prim.Native.Nat.{ℕ, zero, suc, ◌<◌}
use native.Mathlib.Omega.{arith}
use mathlib.Core.Path.{◌≡◌, refl, sym, ap, ◌∙◌}
use mathlib.Core.Bool.{Bool, true, false, cond, true≢false}
use mathlib.Core.List.{List, [], ◌∷◌, ◌++◌}
use Rattle.std.specs.Prelude.{Option, None, Some}
use lib.Dec.{eqb}
use lib.ListN.{length, drop}
use borrow.Author.Tests.{eqb-true}
use Rattle.text.specs.Number.{ceiling}
use Rattle.text.specs.Field.{read_then, number_field_at, ends, field}
use Rattle.std.proofs.lemmas.Option.{none-some, same_Some, cond_some, some_pair_parts}
use Rattle.text.proofs.FieldTrip.{field-trip, ends-trip}
use Rattle.plans.specs.Plan.{Crash, Delay, Plan, start_plan}
use Rattle.runfile.specs.Text.{fields_text, line_text, start_text, crash_text, delay_text}
use Rattle.runfile.specs.File.{Row, start, ring, crash, delay, two_of, ring_of, start_of, crash_of, delay_of, form_of, row_of}
use Rattle.runfile.specs.Reader.{there_then, with_rest, numbers_there, numbers_at}
use Rattle.runfile.proofs.Rings.{ring-form, there-count}
use Rattle.runfile.proofs.Written.{Small}

-- ---- what was read, taken apart

field-inv : {A : Type 0} (x : Option (ℕ × ℕ)) (f : ℕ → ℕ → Option A) (r : A) → read_then x f ≡ Some r
    → (v : ℕ) × (j : ℕ) × (x ≡ Some (v, j)) × (f v j ≡ Some r)
field-inv (Some (v, j)) f r e = (v, j, refl, e)
field-inv None f r e = absurd (none-some r e)

-- two numbers after the letter
record Two (l : List ℕ) (a b : ℕ) : Type 0 where
  i : ℕ
  j : ℕ
  one : number_field_at l 1 ≡ Some (a, i)
  two : number_field_at l i ≡ Some (b, j)
  feed : ends l j ≡ true

two-inv : (l : List ℕ) (a b : ℕ) → two_of l ≡ Some (a, b) → Two l a b
unfolding two_of
two-inv l a b e =
    let x = field-inv (number_field_at l 1) _ (a, b) e in
    let y = field-inv (number_field_at l x.1) _ (a, b) x.3 in
    let z = cond_some (ends l y.1) (x.0, y.0) (a, b) y.3 in
    let same = some_pair_parts x.0 a y.0 b (ap (λ (q : ℕ × ℕ). Some q) z.1) in
    record {
      i = x.1;
      j = y.1;
      one = x.2 ∙ ap (λ (k : ℕ). Some (k, x.1)) same.0;
      two = y.2 ∙ ap (λ (k : ℕ). Some (k, y.1)) same.1;
      feed = z.0;
    }

-- two numbers that make a row
pair-inv : (row : ℕ → ℕ → Row) (l : List ℕ) (r : Row) → read_then (two_of l) (λ a b. Some (row a b)) ≡ Some r
    → (a : ℕ) × (b : ℕ) × Two l a b × (row a b ≡ r)
pair-inv row l r e =
    let w = field-inv (two_of l) (λ a b. Some (row a b)) r e in
    (w.0, w.1, two-inv l w.0 w.1 w.2, same_Some _ _ w.3)

two-text : (l : List ℕ) (a b : ℕ) → Two l a b → a < ceiling → b < ceiling → drop 1 l ≡ fields_text (a ∷ b ∷ [])
unfolding fields_text
two-text l a b t ha hb =
    field-trip l 1 a t.i t.one ha
    ∙ ap (λ (s : List ℕ). field a ++ s) (field-trip l t.i b t.j t.two hb ∙ ap (λ (s : List ℕ). field b ++ s) (ends-trip l t.j t.feed))

-- five numbers after the letter
record Five (l : List ℕ) (n h w d end : ℕ) : Type 0 where
  i : ℕ
  j : ℕ
  k : ℕ
  m : ℕ
  z : ℕ
  one : number_field_at l 1 ≡ Some (n, i)
  two : number_field_at l i ≡ Some (h, j)
  three : number_field_at l j ≡ Some (w, k)
  four : number_field_at l k ≡ Some (d, m)
  five : number_field_at l m ≡ Some (end, z)
  feed : ends l z ≡ true

start-inv : (l : List ℕ) (r : Row) → start_of l ≡ Some r
    → (n : ℕ) × (h : ℕ) × (w : ℕ) × (d : ℕ) × (end : ℕ) × Five l n h w d end × (start (start_plan n h w d end) ≡ r)
unfolding start_of
start-inv l r e =
    let n = field-inv (number_field_at l 1) _ r e in
    let h = field-inv (number_field_at l n.1) _ r n.3 in
    let w = field-inv (number_field_at l h.1) _ r h.3 in
    let d = field-inv (number_field_at l w.1) _ r w.3 in
    let t = field-inv (number_field_at l d.1) _ r d.3 in
    let z = cond_some (ends l t.1) (start (start_plan n.0 h.0 w.0 d.0 t.0)) r t.3 in (
      n.0,
      h.0,
      w.0,
      d.0,
      t.0,
      record { i = n.1; j = h.1; k = w.1; m = d.1; z = t.1; one = n.2; two = h.2; three = w.2; four = d.2; five = t.2; feed = z.0 },
      z.1,
    )

five-text : (l : List ℕ) (n h w d end : ℕ) → Five l n h w d end → n < ceiling → h < ceiling → w < ceiling → d < ceiling → end < ceiling
    → drop 1 l ≡ fields_text (n ∷ h ∷ w ∷ d ∷ end ∷ [])
unfolding fields_text
five-text l n h w d end t hn hh hw hd he =
    field-trip l 1 n t.i t.one hn
    ∙ ap (λ (s : List ℕ). field n ++ s) (field-trip l t.i h t.j t.two hh
    ∙ ap (λ (s : List ℕ). field h ++ s) (field-trip l t.j w t.k t.three hw
    ∙ ap (λ (s : List ℕ). field w ++ s) (field-trip l t.k d t.m t.four hd
    ∙ ap (λ (s : List ℕ). field d ++ s) (field-trip l t.m end t.z t.five he
    ∙ ap (λ (s : List ℕ). field end ++ s) (ends-trip l t.z t.feed)))))

-- the numbers of a Q line
ring-inv : (n : ℕ) (l : List ℕ) (r : Row) → ring_of n l ≡ Some r → (numbers_there n l 1 ≡ true) × (ring (numbers_at n l 1) ≡ r)
ring-inv n l r e = cond_some (numbers_there n l 1) (ring (numbers_at n l 1)) r (sym (ring-form n l) ∙ e)

numbers-text : (k : ℕ) (l : List ℕ) (i : ℕ) → numbers_there k l i ≡ true → Small (numbers_at k l i) → drop i l ≡ fields_text (numbers_at k l i)
unfolding numbers_there there_then numbers_at with_rest fields_text Small
numbers-text zero l i h small = ends-trip l i h
numbers-text (suc k) l i h small = by (number_field_at l i) refl h small (λ j. numbers-text k l j)
  where
    by : (y : Option (ℕ × ℕ)) → number_field_at l i ≡ y → there_then y (λ j. numbers_there k l j) ≡ true
        → Small (with_rest y (λ j. numbers_at k l j))
        → ((j : ℕ) → numbers_there k l j ≡ true → Small (numbers_at k l j) → drop j l ≡ fields_text (numbers_at k l j))
        → drop i l ≡ fields_text (with_rest y (λ j. numbers_at k l j))
    by (Some (x, j)) e h small rest = field-trip l i x j e small.0 ∙ ap (λ (s : List ℕ). field x ++ s) (rest j h small.1)
    by None e h small rest = absurd (true≢false (sym h))

-- ---- a line by its letter

-- a line of a letter, whose form is what the letter says
abbrev Lettered : ℕ → (List ℕ → Option Row) → List ℕ → Row → Type 0
Lettered letter form l r = (s : List ℕ) × (l ≡ letter ∷ s) × (form l ≡ Some r)

-- what a line says comes from its letter's form
data Said (n : ℕ) (l : List ℕ) (r : Row) : Type 0 where
  by-start : Lettered 80 start_of l r → Said n l r
  by-ring : Lettered 81 (ring_of n) l r → Said n l r
  by-crash : Lettered 67 crash_of l r → Said n l r
  by-delay : Lettered 76 delay_of l r → Said n l r

row-inv : (n : ℕ) (l : List ℕ) (r : Row) → row_of n l ≡ Some r → Said n l r
unfolding row_of form_of
row-inv n [] r e = let z : ◌≡◌ {A = ℕ} 0 1 = cc in absurd (omega arith)
row-inv n (b ∷ s) r e = by (eqb b 80) refl (eqb b 81) refl (eqb b 67) refl (eqb b 76) refl e
  where
    by : (x : Bool) → eqb b 80 ≡ x → (w : Bool) → eqb b 81 ≡ w → (y : Bool) → eqb b 67 ≡ y → (z : Bool) → eqb b 76 ≡ z
        → cond x (start_of (b ∷ s)) (cond w (ring_of n (b ∷ s)) (cond y (crash_of (b ∷ s)) (cond z (delay_of (b ∷ s)) None))) ≡ Some r
        → Said n (b ∷ s) r
    by true p w o y q z t e = by-start (s, ap (λ (c : ℕ). c ∷ s) (eqb-true b 80 p), e)
    by false p true o y q z t e = by-ring (s, ap (λ (c : ℕ). c ∷ s) (eqb-true b 81 o), e)
    by false p false o true q z t e = by-crash (s, ap (λ (c : ℕ). c ∷ s) (eqb-true b 67 q), e)
    by false p false o false q true t e = by-delay (s, ap (λ (c : ℕ). c ∷ s) (eqb-true b 76 t), e)
    by false p false o false q false t e = let z : ◌≡◌ {A = ℕ} 0 1 = cc in absurd (omega arith)

lettered-text : (letter : ℕ) (l s xs : List ℕ) → l ≡ letter ∷ s → drop 1 l ≡ fields_text xs → l ≡ line_text letter xs
unfolding line_text
lettered-text letter l s xs e t = e ∙ ap (λ (k : List ℕ). letter ∷ k) (sym (ap (drop 1) e) ∙ t)

-- a C line
pub crash-text : (n : ℕ) (l : List ℕ) (r : Crash) → row_of n l ≡ Some (crash r) → r.tick < ceiling → r.node < ceiling → l ≡ crash_text r
unfolding ring_of crash_of delay_of crash_text
crash-text n l r e ht hk = by (row-inv n l (crash r) e)
  where
    by : Said n l (crash r) → l ≡ crash_text r
    by (by-start x) = let w = start-inv l (crash r) x.2 in let z : ◌≡◌ {A = ℕ} 0 1 = cc w.6 in absurd (omega arith)
    by (by-ring x) = let w = ring-inv n l (crash r) x.2 in let z : ◌≡◌ {A = ℕ} 0 1 = cc w.1 in absurd (omega arith)
    by (by-crash x) =
        let w = pair-inv _ l (crash r) x.2 in
        let t : w.0 ≡ r.tick = cc w.3 in
        let k : w.1 ≡ r.node = cc w.3 in
        lettered-text 67 l x.0 (r.tick ∷ r.node ∷ []) x.1 (two-text l w.0 w.1 w.2 (rw t ht) (rw k hk) ∙ rw (t, k))
    by (by-delay x) = let w = pair-inv _ l (crash r) x.2 in let z : ◌≡◌ {A = ℕ} 0 1 = cc w.3 in absurd (omega arith)

-- an L line
pub delay-text : (n : ℕ) (l : List ℕ) (r : Delay) → row_of n l ≡ Some (delay r) → r.number < ceiling → r.delay < ceiling → l ≡ delay_text r
unfolding ring_of crash_of delay_of delay_text
delay-text n l r e ht hk = by (row-inv n l (delay r) e)
  where
    by : Said n l (delay r) → l ≡ delay_text r
    by (by-start x) = let w = start-inv l (delay r) x.2 in let z : ◌≡◌ {A = ℕ} 0 1 = cc w.6 in absurd (omega arith)
    by (by-ring x) = let w = ring-inv n l (delay r) x.2 in let z : ◌≡◌ {A = ℕ} 0 1 = cc w.1 in absurd (omega arith)
    by (by-crash x) = let w = pair-inv _ l (delay r) x.2 in let z : ◌≡◌ {A = ℕ} 0 1 = cc w.3 in absurd (omega arith)
    by (by-delay x) =
        let w = pair-inv _ l (delay r) x.2 in
        let t : w.0 ≡ r.number = cc w.3 in
        let k : w.1 ≡ r.delay = cc w.3 in
        lettered-text 76 l x.0 (r.number ∷ r.delay ∷ []) x.1 (two-text l w.0 w.1 w.2 (rw t ht) (rw k hk) ∙ rw (t, k))

-- a Q line: as many numbers as nodes
pub ring-text : (n : ℕ) (l ks : List ℕ) → row_of n l ≡ Some (ring ks) → Small ks → (length ks ≡ n) × (l ≡ line_text 81 ks)
unfolding crash_of delay_of
ring-text n l ks e small = by (row-inv n l (ring ks) e)
  where
    by : Said n l (ring ks) → (length ks ≡ n) × (l ≡ line_text 81 ks)
    by (by-start x) = let w = start-inv l (ring ks) x.2 in let z : ◌≡◌ {A = ℕ} 0 1 = cc w.6 in absurd (omega arith)
    by (by-ring x) =
        let w = ring-inv n l (ring ks) x.2 in
        let same : numbers_at n l 1 ≡ ks = cc w.1 in
        let text : drop 1 l ≡ fields_text ks = numbers-text n l 1 w.0 (rw same small) ∙ ap fields_text same in
        (ap length (sym same) ∙ there-count n l 1 w.0, lettered-text 81 l x.0 ks x.1 text)
    by (by-crash x) = let w = pair-inv _ l (ring ks) x.2 in let z : ◌≡◌ {A = ℕ} 0 1 = cc w.3 in absurd (omega arith)
    by (by-delay x) = let w = pair-inv _ l (ring ks) x.2 in let z : ◌≡◌ {A = ℕ} 0 1 = cc w.3 in absurd (omega arith)

-- a P line: its plan has no Q line and no rows
record Opens (l : List ℕ) (p : Plan) : Type 0 where
  n : ℕ
  h : ℕ
  w : ℕ
  d : ℕ
  end : ℕ
  rest : List ℕ
  letter : l ≡ 80 ∷ rest
  fields : Five l n h w d end
  plan : start_plan n h w d end ≡ p

opens : (n : ℕ) (l : List ℕ) (p : Plan) → row_of n l ≡ Some (start p) → Opens l p
unfolding crash_of delay_of
opens n l p e = by (row-inv n l (start p) e)
  where
    by : Said n l (start p) → Opens l p
    by (by-start x) =
        let w = start-inv l (start p) x.2 in
        let q : start_plan w.0 w.1 w.2 w.3 w.4 ≡ p = cc w.6 in
        record { n = w.0; h = w.1; w = w.2; d = w.3; end = w.4; rest = x.0; letter = x.1; fields = w.5; plan = q }
    by (by-ring x) = let w = ring-inv n l (start p) x.2 in let z : ◌≡◌ {A = ℕ} 0 1 = cc w.1 in absurd (omega arith)
    by (by-crash x) = let w = pair-inv _ l (start p) x.2 in let z : ◌≡◌ {A = ℕ} 0 1 = cc w.3 in absurd (omega arith)
    by (by-delay x) = let w = pair-inv _ l (start p) x.2 in let z : ◌≡◌ {A = ℕ} 0 1 = cc w.3 in absurd (omega arith)

pub start-text : (n : ℕ) (l : List ℕ) (p : Plan) → row_of n l ≡ Some (start p)
    → p.n < ceiling → p.h < ceiling → p.w < ceiling → p.d < ceiling → p.end < ceiling → l ≡ start_text p
unfolding start_plan start_text
start-text n l p e hn hh hw hd he =
    let o = opens n l p e in
    let k : o.n ≡ p.n = ap (λ (q : Plan). q.n) o.plan in
    let h : o.h ≡ p.h = ap (λ (q : Plan). q.h) o.plan in
    let w : o.w ≡ p.w = ap (λ (q : Plan). q.w) o.plan in
    let d : o.d ≡ p.d = ap (λ (q : Plan). q.d) o.plan in
    let end : o.end ≡ p.end = ap (λ (q : Plan). q.end) o.plan in
    lettered-text 80 l o.rest _ o.letter
    (five-text l o.n o.h o.w o.d o.end o.fields (omega arith) (omega arith) (omega arith) (omega arith) (omega arith)
    ∙ rw (k, h, w, d, end))

-- what a P line leaves out
pub start-rows : (n : ℕ) (l : List ℕ) (p : Plan) → row_of n l ≡ Some (start p) → (p.crashes ≡ []) × (p.delays ≡ []) × (p.ring ≡ [])
unfolding start_plan
start-rows n l p e =
    let o = opens n l p e in (
      ap (λ (q : Plan). q.crashes) (sym o.plan),
      ap (λ (q : Plan). q.delays) (sym o.plan),
      ap (λ (q : Plan). q.ring) (sym o.plan),
    )
