-- The lines of a file. Assumes nothing.
use Prim.Native.Nat.{ℕ, zero, suc, ◌+◌, ◌≤◌, ◌<◌, min}
use native.Mathlib.Omega.{arith}
use mathlib.Core.Path.{◌≡◌, refl, sym, ap, ◌∙◌}
use mathlib.Core.Bool.{Bool, true, false, cond}
use mathlib.Core.List.{List, [], ◌∷◌, ◌++◌}
use lib.ListN.{length, take, drop, length-append}
use lib.Seq.{take_at, drop_at}
use lib.Dec.{eqb}
use Rattle.std.specs.List.{IsFirstMatchOrLen}
use Rattle.std.specs.Fn.{Called, ComputesKey}
use Rattle.std.proofs.lemmas.Fn.{always_returns_same}
use denote.Param.Members.{Mut}
use denote.Ref.{Bor}
use Rattle.text.specs.Field.{line_feed, onto}
use Rattle.runfile.specs.File.{lines}

-- how many bytes the first line of s takes, its line feed included where it has one
unfoldable line_length : List ℕ → ℕ
line_length [] = 0
line_length (b ∷ s) = cond (eqb b line_feed) 1 (1 + line_length s)

-- the first line of s, and the lines after it
first-line : (s : List ℕ) → 0 < length s → lines s ≡ take (line_length s) s ∷ lines (drop (line_length s) s)
unfolding lines onto line_length
first-line [] h = absurd (omega arith)
first-line (b ∷ s) h = by (eqb b 10) s (λ k. first-line s k)
  where
    more : (s : List ℕ) → (0 < length s → lines s ≡ take (line_length s) s ∷ lines (drop (line_length s) s))
        → onto b (lines s) ≡ (b ∷ take (line_length s) s) ∷ lines (drop (line_length s) s)
    more [] ih = refl
    more (x ∷ s) ih = rw (ih (omega arith))

    by : (t : Bool) (s : List ℕ) → (0 < length s → lines s ≡ take (line_length s) s ∷ lines (drop (line_length s) s))
        → cond t ((b ∷ []) ∷ lines s) (onto b (lines s))
        ≡ take (cond t 1 (1 + line_length s)) (b ∷ s) ∷ lines (drop (cond t 1 (1 + line_length s)) (b ∷ s))
    by true s ih = refl
    by false s ih = let e : 1 + line_length s ≡ suc (line_length s) = omega arith in rw e (more s ih)

-- the first line ends with the first line feed, or else with the text
line-ends : (s : List ℕ) (i : ℕ) → IsFirstMatchOrLen (λ b. eqb b 10) s i → line_length s ≡ min (i + 1) (length s)
unfolding line_length
line-ends [] i h = omega arith
line-ends (b ∷ s) zero h = let feed : eqb b 10 ≡ true = h.1 (omega arith) 0 in rw feed (omega arith)
line-ends (b ∷ s) (suc i) h =
    let other : eqb b 10 ≡ false = h.0 0 0 (omega arith) (omega arith) in
    rw other (omega (arith, line-ends s i (λ k d low high. h.0 (suc k) d (omega arith) (omega arith), λ here d. h.1 (omega arith) d)))

-- what a call of `split_inclusive`'s iterator took from a text of lines is the first of them
pub next-line : {F : Type 0} {g : Mut F (Bor ℕ × Unit {0}) Bool} {f f' : F} {s x : List ℕ} (t : List ℕ)
    → (s ≡ x ++ t)
    × ((i : ℕ) × (length x ≡ min (i + 1) (length s)) × ((p : ℕ → Bool) → ComputesKey g p f → ComputesKey g p f' × IsFirstMatchOrLen p s i))
    × (0 < length s)
    → ((a : Bor ℕ × Unit {0}) (r : Bool) (h : F) → Called g f a r h → (r ≡ eqb a.0.now 10) × (h ≡ f))
    → (lines s ≡ x ∷ lines t) × (1 + length t ≤ length s)
next-line {F} {g} {f} {f'} {s} {x} t (e, (i, n, first), some) feeds =
    let ends : line_length s ≡ min (i + 1) (length s) = line-ends s i (first (λ b. eqb b 10) (always_returns_same g _ f feeds)).1 in
    let front : take (line_length s) s ≡ x = rw e (take_at x t _ (n ∙ sym ends ∙ ap line_length e)) in
    let back : drop (line_length s) s ≡ t = rw e (drop_at x t _ (n ∙ sym ends ∙ ap line_length e)) in
    (rw (first-line s some, front, back), omega (arith, n, ap length e, length-append x t))
