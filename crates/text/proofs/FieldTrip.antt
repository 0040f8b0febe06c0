-- A field or the end of a line that was read has the bytes that are written of it; what was written is read again. Assumes nothing.
use Prim.Native.Nat.{ℕ, suc, ◌+◌, ◌^◌, ◌≤◌, ◌<◌, min}
use native.Mathlib.Omega.{arith}
use mathlib.Core.Path.{◌≡◌, refl, sym, ap, ◌∙◌}
use mathlib.Core.Bool.{Bool, true, false, cond, and-eq-true_iff}
use mathlib.Core.List.{List, [], ◌∷◌, ◌++◌}
use lib.ListN.{length, drop, get_or, drop_of_length-le, length-drop}
use lib.Seq.{drop-drop, drop_at}
use lib.Dec.{eqb}
use borrow.Author.Tests.{eqb-true, eq-eqb}
use Rattle.std.specs.Prelude.{Some, None}
use Rattle.std.proofs.lemmas.List.{get_or_past}
use Rattle.std.proofs.lemmas.Option.{none-some, same_Some, option_and_then_some}
use native.Mathlib.Decide.{dec_lt}
use Rattle.text.specs.Number.{digit, ceiling, number_at, decimal}
use Rattle.text.specs.Hex.{list_at, hex_of}
use Rattle.text.specs.Field.{after_comma, number_field_at, list_field_at, ends, field, list_field}
use Rattle.text.proofs.PutLaws.{drop-next}
use Rattle.text.proofs.NumberTrip.{read-trip, write-trip}
use Rattle.text.proofs.HexTrip.{hex-trip, hex-back}

-- what stands after a text
pub drop_past : (s : List ℕ) (at : ℕ) (t r : List ℕ) → drop at s ≡ t ++ r → drop (at + length t) s ≡ r
drop_past s at t r e = sym (drop-drop (length t) at s) ∙ ap (λ (l : List ℕ). drop (length t) l) e ∙ drop_at t r (length t) refl

-- a comma that was read
pub comma-trip : (s : List ℕ) (at i : ℕ) → after_comma s at ≡ Some i → (i ≡ at + 1) × (drop at s ≡ 44 ∷ drop i s)
comma-trip s at i e = by (eqb (get_or s at 0) 44) refl e
  where
    past : length s ≤ at → get_or s at 0 ≡ 44 → ⊥
    past h e = let z : get_or s at 0 ≡ 0 = get_or_past s at 0 h in omega arith

    by : (t : Bool) → eqb (get_or s at 0) 44 ≡ t → cond t (Some (at + 1)) None ≡ Some i → (i ≡ at + 1) × (drop at s ≡ 44 ∷ drop i s)
    by true t d =
        let there : get_or s at 0 ≡ 44 = eqb-true _ _ t in
        let here : at < length s = elim (dec_lt at (length s)) [ yes p ↦ p | no p ↦ absurd (past (omega arith) there) ] in
        let next : at + 1 ≡ i = same_Some _ _ d in
        (sym next, rw (drop-next s at here, there, next))
    by false t d = absurd (none-some _ d)

-- a number field that was read
pub field-trip : (s : List ℕ) (at v j : ℕ) → number_field_at s at ≡ Some (v, j) → v < ceiling → drop at s ≡ field v ++ drop j s
unfolding number_field_at
field-trip s at v j e h = option_and_then_some (number_at s) (after_comma s at) (v, j) e λ i p q.
    let r = read-trip i (drop i s) v j q h in
    let c = comma-trip s at i p in
    c.1 ∙ ap (λ (l : List ℕ). 44 ∷ l) (r.3 ∙ ap (λ (l : List ℕ). decimal v ++ l) (drop-drop r.0 i s ∙ ap (λ (k : ℕ). drop k s) (sym r.1)))

-- a list field that was read
pub list-field-trip : (s : List ℕ) (at v j : ℕ) → list_field_at s at ≡ Some (v, j) → drop at s ≡ list_field v ++ drop j s
unfolding list_field_at
list-field-trip s at v j e = option_and_then_some (list_at s) (after_comma s at) (v, j) e λ i p q.
    let r = hex-trip 16 i (drop i s) v j q in
    let c = comma-trip s at i p in
    c.1 ∙ ap (λ (l : List ℕ). 44 ∷ l) (r.2 ∙ ap (λ (l : List ℕ). hex_of 16 v ++ l) (drop-drop 16 i s ∙ ap (λ (k : ℕ). drop k s) (sym r.0)))

-- the end of a line that was read
pub ends-trip : (s : List ℕ) (at : ℕ) → ends s at ≡ true → drop at s ≡ 10 ∷ []
unfolding ends
ends-trip s at e =
    let p = (and-eq-true_iff (eqb (length s) (at + 1)) (eqb (get_or s at 0) 10)).0 e in
    let h : length s ≡ at + 1 = eqb-true _ _ p.0 in
    let k : at < length s = omega arith in
    let past : length s ≤ at + 1 = omega arith in
    let feed : get_or s at 0 ≡ 10 = eqb-true _ _ p.1 in
    rw (drop-next s at k, feed, drop_of_length-le s past)

-- a comma that was written
comma-back : (s : List ℕ) (at : ℕ) (r : List ℕ) → drop at s ≡ 44 ∷ r → (after_comma s at ≡ Some (at + 1)) × (drop (at + 1) s ≡ r)
comma-back s at r e =
    let k : at < length s = omega (arith, length-drop at s, ap length e) in
    let there : get_or s at 0 ≡ 44 = let q = sym (drop-next s at k) ∙ e in cc in
    (rw (eq-eqb _ _ there), drop_past s at (44 ∷ []) r e)

-- a number field that was written, where no digit follows
pub field_back : (s : List ℕ) (at n b : ℕ) (r : List ℕ) → drop at s ≡ field n ++ (b ∷ r) → n < ceiling → digit b ≡ false
    → number_field_at s at ≡ Some (n, at + length (field n))
unfolding number_field_at
field_back s at n b r e h d =
    let comma = comma-back s at (decimal n ++ (b ∷ r)) e in
    let m : min n ceiling ≡ n = omega arith in
    let p : at + 1 + length (decimal n) ≡ at + suc (length (decimal n)) = omega arith in
    rw (comma.0, comma.1, write-trip n (at + 1) b r (omega arith) d, m, p)

-- a list field that was written
pub list-field-back : (s : List ℕ) (at n : ℕ) (r : List ℕ) → drop at s ≡ list_field n ++ r → n < 2 ^ 64 → list_field_at s at ≡ Some (n, at + 17)
unfolding list_field_at
list-field-back s at n r e h =
    let comma = comma-back s at (hex_of 16 n ++ r) e in
    let p : at + 1 + 16 ≡ at + 17 = omega arith in
    rw (comma.0, comma.1, hex-back 16 n (at + 1) r h, p)

-- the end of a line that was written
pub ends-back : (s : List ℕ) (at : ℕ) → at ≤ length s → drop at s ≡ 10 ∷ [] → ends s at ≡ true
unfolding ends
ends-back s at h e =
    let l : length s ≡ at + 1 = omega (arith, length-drop at s, ap length e) in
    let k : at < length s = omega arith in
    let f : get_or s at 0 ≡ 10 = let q = sym (drop-next s at k) ∙ e in cc in
    rw (eq-eqb _ _ l, eq-eqb _ _ f)
