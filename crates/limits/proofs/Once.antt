-- No two refusals have the same number: listed as below, they rise. Assumes nothing.
use mathlib.Core.Path.{◌≡◌, refl}
use mathlib.Core.Bool.{Bool, true, ◌&&◌}
use mathlib.Core.List.{List, [], ◌∷◌}
use Prim.Native.Nat.{ℕ}
use lib.Dec.{ltb}
use Rattle.limits.specs.declared.Refusal.TheVariants.{BadLength, BadForm, OutOfRange, NotRising, ManyDelays, BadStore, TooMany, ShortPart}
use Rattle.limits.specs.declared.Refusal.TheVariants.{BadRecord, BadMessage, BadTick, NotEachOnce, BadPart, BadTurn}
use Rattle.limits.specs.Refusals.{accepted, short_time_out, number_of}

unfoldable pub rises_from : ℕ → List ℕ → Bool
rises_from x [] = true
rises_from x (y ∷ ys) = ltb x y && rises_from y ys

pub refusals-differ : rises_from accepted
    (number_of BadLength ∷ number_of BadForm ∷ number_of OutOfRange ∷ short_time_out ∷ number_of NotRising ∷ number_of ManyDelays
    ∷ number_of BadStore ∷ number_of TooMany ∷ number_of ShortPart ∷ number_of BadRecord ∷ number_of BadMessage ∷ number_of BadTick
    ∷ number_of NotEachOnce ∷ number_of BadPart ∷ number_of BadTurn ∷ [])
    ≡ true
unfolding rises_from
refusals-differ = refl
