-- A line that is written is read again as what it says. Assumes nothing.
use Prim.Native.Nat.{ℕ, zero, suc, ◌+◌, ◌/◌, ◌%◌, ◌^◌, ◌<◌}
use native.Mathlib.Omega.{arith}
use native.Mathlib.Decide.{dec_lt}
use mathlib.Core.Path.{◌≡◌, refl, sym, ap, ◌∙◌}
use mathlib.Core.Bool.{true, false}
use mathlib.Core.List.{List, [], ◌∷◌, ◌++◌, append_assoc, append-nil}
use Rattle.std.specs.Prelude.{Option, Some}
use lib.ListN.{length, drop, get_or, length-drop}
use borrow.Author.Tests.{ne_eqb}
use Rattle.text.specs.Number.{digit, ceiling, decimal}
use Rattle.text.specs.Field.{ends, field, onto, number_field_at}
use Rattle.text.proofs.NumberLaws.{decimal-small, decimal-more}
use Rattle.text.proofs.FieldTrip.{drop_past, field_back, ends-back}
use Rattle.plans.specs.Plan.{Crash, Delay, Plan, start_plan}
use Rattle.runfile.specs.Text.{fields_text, line_text, start_text, crash_text, delay_text}
use Rattle.runfile.specs.File.{Row, start, ring, crash, delay, lines, two_of, numbers_then, ring_of, start_of, crash_of, delay_of, form_of, row_of}

-- ---- fields that were written

-- numbers below the ceiling
unfoldable pub Small : List ℕ → Type 0
Small [] = Unit
Small (x ∷ xs) = (x < ceiling) × Small xs

pub small_all : (xs : List ℕ) → ((q : ℕ) → q < length xs → get_or xs q 0 < ceiling) → Small xs
unfolding Small
small_all [] h = tt
small_all (x ∷ xs) h = (h 0 (omega arith), small_all xs (λ q l. h (suc q) (omega arith)))

comma-no : digit 44 ≡ false
unfolding digit
comma-no = refl

feed-no : digit 10 ≡ false
unfolding digit
feed-no = refl

-- a field before another one, in a line that r follows
pub field_next : (l : List ℕ) (at x y : ℕ) (ys r : List ℕ) → drop at l ≡ fields_text (x ∷ y ∷ ys) ++ r → x < ceiling
    → (number_field_at l at ≡ Some (x, at + length (field x))) × (drop (at + length (field x)) l ≡ fields_text (y ∷ ys) ++ r)
unfolding fields_text
field_next l at x y ys r e h =
    let parts = e ∙ append_assoc (field x) (fields_text (y ∷ ys)) r in
    (field_back l at x 44 _ parts h comma-no, drop_past l at (field x) _ parts)

-- the last field
pub field-last : (l : List ℕ) (at x : ℕ) (r : List ℕ) → drop at l ≡ fields_text (x ∷ []) ++ r → x < ceiling
    → (number_field_at l at ≡ Some (x, at + length (field x))) × (drop (at + length (field x)) l ≡ 10 ∷ r)
unfolding fields_text
field-last l at x r e h =
    let parts = e ∙ append_assoc (field x) (10 ∷ []) r in
    (field_back l at x 10 r parts h feed-no, drop_past l at (field x) (10 ∷ r) parts)

-- a line ends where its line feed is all that is left
end-there : (l : List ℕ) (at : ℕ) → drop at l ≡ 10 ∷ [] → ends l at ≡ true
end-there l at e = ends-back l at (omega (arith, length-drop at l, ap length e)) e

two-back : (letter a b : ℕ) → a < ceiling → b < ceiling → two_of (line_text letter (a ∷ b ∷ [])) ≡ Some (a, b)
unfolding line_text two_of
two-back letter a b ha hb =
    let l : List ℕ = letter ∷ fields_text (a ∷ b ∷ []) in
    let x = field_next l 1 a b [] [] (sym (append-nil (fields_text (a ∷ b ∷ [])))) ha in
    let y = field-last l (1 + length (field a)) b [] x.1 hb in
    rw (x.0, y.0, end-there l _ y.1)

pub start_back : (n h w d end : ℕ) → n < ceiling → h < ceiling → w < ceiling → d < ceiling → end < ceiling
    → start_of (line_text 80 (n ∷ h ∷ w ∷ d ∷ end ∷ [])) ≡ Some (start (start_plan n h w d end))
unfolding line_text start_of
start_back n h w d end hn hh hw hd he =
    let l : List ℕ = 80 ∷ fields_text (n ∷ h ∷ w ∷ d ∷ end ∷ []) in
    let a = field_next l 1 n h (w ∷ d ∷ end ∷ []) [] (sym (append-nil (fields_text (n ∷ h ∷ w ∷ d ∷ end ∷ [])))) hn in
    let b = field_next l _ h w (d ∷ end ∷ []) [] a.1 hh in
    let c = field_next l _ w d (end ∷ []) [] b.1 hw in
    let e = field_next l _ d end [] [] c.1 hd in
    let f = field-last l _ end [] e.1 he in
    rw (a.0, b.0, c.0, e.0, f.0, end-there l _ f.1)

-- the numbers of a Q line
numbers-back : (l : List ℕ) (i : ℕ) (ks : List ℕ) (f : List ℕ → Option Row) → drop i l ≡ fields_text ks → Small ks
    → numbers_then (length ks) l i f ≡ f ks
unfolding numbers_then fields_text Small
numbers-back l i [] f e small = rw (end-there l i e)
numbers-back l i (x ∷ []) f e small =
    let a = field-last l i x [] (e ∙ sym (append-nil (fields_text (x ∷ [])))) small.0 in
    rw a.0 (numbers-back l (i + length (field x)) [] (λ xs. f (x ∷ xs)) a.1 small.1)
numbers-back l i (x ∷ y ∷ ys) f e small =
    let a = field_next l i x y ys [] (e ∙ sym (append-nil (fields_text (x ∷ y ∷ ys)))) small.0 in
    rw a.0 (numbers-back l (i + length (field x)) (y ∷ ys) (λ xs. f (x ∷ xs)) (a.1 ∙ append-nil (fields_text (y ∷ ys))) small.1)

pub ring-read : (n : ℕ) (ks : List ℕ) → length ks ≡ n → Small ks → row_of n (line_text 81 ks) ≡ Some (ring ks)
unfolding line_text row_of form_of ring_of
ring-read n ks e small = rw (← e) (numbers-back (81 ∷ fields_text ks) 1 ks (λ xs. Some (ring xs)) refl small)

pub crash-read : (n : ℕ) (r : Crash) → r.tick < ceiling → r.node < ceiling → row_of n (crash_text r) ≡ Some (crash r)
unfolding crash_text row_of form_of crash_of line_text
crash-read n r ht hk = rw (two-back 67 r.tick r.node ht hk)

pub delay-read : (n : ℕ) (r : Delay) → r.number < ceiling → r.delay < ceiling → row_of n (delay_text r) ≡ Some (delay r)
unfolding delay_text row_of form_of delay_of line_text
delay-read n r hk ht = rw (two-back 76 r.number r.delay hk ht)

pub start-read : (p : Plan) → p.n < ceiling → p.h < ceiling → p.w < ceiling → p.d < ceiling → p.end < ceiling
    → row_of 0 (start_text p) ≡ Some (start (start_plan p.n p.h p.w p.d p.end))
unfolding start_text line_text row_of form_of
start-read p hn hh hw hd he = start_back p.n p.h p.w p.d p.end hn hh hw hd he

-- ---- a line's bytes have one line feed, the last

-- no byte of t is a line feed
unfoldable Plain : List ℕ → Type 0
Plain [] = Unit
Plain (b ∷ t) = (b ≡ 10 → ⊥) × Plain t

plain-append : (s t : List ℕ) → Plain s → Plain t → Plain (s ++ t)
unfolding Plain
plain-append [] t h k = k
plain-append (b ∷ s) t h k = (h.0, plain-append s t h.1 k)

plain_by : (f n : ℕ) → n < f → n < 10 ^ 20 → Plain (decimal n)
unfolding Plain
plain_by zero n h big = absurd (omega arith)
plain_by (suc f) n h big = elim (dec_lt n 10) [
  | yes p ↦ rw (decimal-small n p) (λ e. omega arith, tt)
  | no p ↦ rw (decimal-more n (omega arith) big)
      (plain-append (decimal (n / 10)) ((48 + n % 10) ∷ []) (plain_by f (n / 10) (omega arith) (omega arith)) (λ e. omega arith, tt))
]

plain-decimal : (n : ℕ) → n < ceiling → Plain (decimal n)
plain-decimal n h = plain_by (suc n) n (omega arith) (omega arith)

plain-field : (x : ℕ) → x < ceiling → Plain (field x)
unfolding Plain
plain-field x h = (λ e. omega arith, plain-decimal x h)

-- bytes up to the first line feed are a line
line_plain : (t s : List ℕ) → Plain t → lines (t ++ (10 ∷ s)) ≡ (t ++ (10 ∷ [])) ∷ lines s
unfolding lines onto Plain
line_plain [] s h = refl
line_plain (b ∷ t) s h = rw (ne_eqb b 10 h.0, line_plain t s h.1)

fields-line : (t xs s : List ℕ) → Plain t → Small xs → lines (t ++ (fields_text xs ++ s)) ≡ (t ++ fields_text xs) ∷ lines s
unfolding fields_text Small
fields-line t [] s h k = line_plain t s h
fields-line t (x ∷ xs) s h k =
    rw (append_assoc (field x) (fields_text xs) s, ← append_assoc t (field x) (fields_text xs ++ s), ← append_assoc t (field x) (fields_text xs))
    (fields-line (t ++ field x) xs s (plain-append t (field x) h (plain-field x k.0)) k.1)

-- a line that is written is the first line of what it begins
pub line_first : (letter : ℕ) (xs s : List ℕ) → (letter ≡ 10 → ⊥) → Small xs
    → lines (line_text letter xs ++ s) ≡ line_text letter xs ∷ lines s
unfolding line_text Plain
line_first letter xs s h k = fields-line (letter ∷ []) xs s (h, tt) k
