-- Decimal numbers as bytes. Document 01, 'Run file and log': 'Numbers have no sign, space or leading zero.' Assumes nothing.
use Rattle.std.specs.Prelude.{ℕ, zero, suc, ◌+◌, ◌-◌, ◌*◌, ◌/◌, ◌%◌, min, Bool, Option, Some, None}
use Rattle.std.specs.Prelude.{cond, ◌&&◌, List, [], ◌∷◌, ◌++◌, drop, leb, ltb, eqb}

-- the bytes of the digits 0 and 9
abbrev pub digit_zero : ℕ
digit_zero = 48

abbrev pub digit_nine : ℕ
digit_nine = 57

unfoldable pub digit : ℕ → Bool
digit b = leb digit_zero b && leb b digit_nine

-- a number may have any count of digits. Its value is told up to the ceiling, which is beyond every range
abbrev pub ceiling : ℕ
ceiling = 10000000

-- the digits at the start of s, read on from the value a, where s stands at the place i: the value, and the place after the last digit
abbrev pub digits_from : ℕ → ℕ → List ℕ → ℕ × ℕ
digits_from a i [] = (min a ceiling, i)
digits_from a i (b ∷ s) = cond (digit b) (digits_from (a * 10 + (b - digit_zero)) (i + 1) s) (min a ceiling, i)

-- the number at the start of s, which stands at the place i: 0 alone, or digits of which the first is not 0; and the place after it
abbrev pub number_from : ℕ → List ℕ → Option (ℕ × ℕ)
number_from i [] = None
number_from i (b ∷ s) =
    cond (eqb b digit_zero) (Some (0, i + 1))
    (cond (digit b) (Some (digits_from 0 i (b ∷ s))) None)

-- the number at the place `at` of s
abbrev pub number_at : List ℕ → ℕ → Option (ℕ × ℕ)
number_at s at = number_from at (drop at s)

-- the digits of n, of which there are at most f, the most significant first
abbrev pub shown : ℕ → ℕ → List ℕ
shown zero n = []
shown (suc f) n = cond (ltb n 10) ((digit_zero + n) ∷ []) (shown f (n / 10) ++ ((digit_zero + n % 10) ∷ []))

-- n in decimal. Every 64-bit number has at most 20 digits
unfoldable pub decimal : ℕ → List ℕ
decimal n = shown 20 n
