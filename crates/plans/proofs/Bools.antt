-- A test joined by && fails where one of its parts fails. Assumes nothing.
use mathlib.Core.Path.{◌≡◌, refl, ap}
use mathlib.Core.Bool.{Bool, true, false, ◌&&◌}

pub and_left : {a : Bool} (b : Bool) → a ≡ false → (a && b) ≡ false
and_left {a} b e = ap (λ (t : Bool). t && b) e

pub and_right : (a : Bool) {b : Bool} → b ≡ false → (a && b) ≡ false
and_right true e = e
and_right false e = refl
