-- Rows place by place: those from place j on begin with the one there. Assumes nothing.
use Prim.Native.Nat.{ℕ, ◌+◌}
use mathlib.Core.Path.{◌≡◌, sym, ap, ◌∙◌}
use mathlib.Core.List.{List, ◌∷◌}
use native.Mathlib.Omega.{arith}
use lib.ListN.{get_or, drop}
use lib.Seq.{drop-drop, get_or-drop}

module _ {A : Type 0} (all : List A) (z : A) (j : ℕ) (x : A) (rows : List A) (e : drop j all ≡ x ∷ rows) where
  pub row-here : get_or all j z ≡ x
  row-here =
      let k : j + 0 ≡ j = omega arith in
      ap (λ (i : ℕ). get_or all i z) (sym k) ∙ sym (get_or-drop j all 0 z) ∙ ap (λ (l : List A). get_or l 0 z) e

  pub rows-after : drop (j + 1) all ≡ rows
  rows-after = sym (drop-drop 1 j all) ∙ ap (drop 1) e
