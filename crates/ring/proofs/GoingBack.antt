-- Going back over the listed nodes to the first unlisted one, for any order and any test of who is listed: what is passed is listed, and going back again
-- and again reaches every unlisted node. Assumes nothing.
use mathlib.Core.Path.{◌≡◌, refl, sym, ap, ◌∙◌}
use mathlib.Core.Logic.{◌⊎◌, inl, inr, ◌≢◌}
use mathlib.Core.Bool.{Bool, true, false, not, true≢false}
use mathlib.Core.List.{List, reverse}
use Prim.Native.Nat.{ℕ, zero, suc, ◌+◌, ◌-◌, ◌%◌, ◌≤◌, ◌<◌}
use native.Mathlib.Nat.{sub-zero, zero-add, suc-add, mod-lt, mod-eq_of_lt, mod_self, mod-add-mod, add-mod_right}
use native.Mathlib.Omega.{arith}
use native.Mathlib.Decide.{dec_lt}
use borrow.Author.Tests.{not-false}
use lib.ListN.{length, get_or, length-reverse}
use Rattle.ring.specs.Ring.{keep, none, place, round, InOrder}
use Rattle.ring.proofs.Laws.{length-round, keep-reverse, keep-round}
use Rattle.ring.proofs.Orders.{Kept, kept_at, before-first, order-kept}
use Rattle.ring.proofs.Unlisted.{count_by, ahead_by, back_by, ahead_by-below, ahead_by-unlisted, ahead_by-add, ahead_by-itself, ahead_by-reaches}
use Rattle.ring.proofs.Unlisted.{back_by-ahead, count_by-some}
use Rattle.ring.proofs.Gaps.{gap, gap-inj, gap-cyc, gap-add, gap≥1, gap≤n, gap-node, gap_back}

-- f, d times
abbrev pub iter : (ℕ → ℕ) → ℕ → ℕ → ℕ
iter f zero y = y
iter f (suc d) y = iter f d (f y)

pub iter-add : (f : ℕ → ℕ) (a b y : ℕ) → iter f (a + b) y ≡ iter f b (iter f a y)
iter-add f zero b y = rw zero-add
iter-add f (suc a) b y = rw suc-add (iter-add f a b (f y))

pub iter-out : (f : ℕ → ℕ) (d y : ℕ) → iter f (suc d) y ≡ f (iter f d y)
iter-out f zero y = refl
iter-out f (suc d) y = iter-out f d (f y)

-- f y is the first unlisted node going back from y
pub record First (gap : ℕ → ℕ → ℕ) (N : ℕ) (l : ℕ → Bool) (f : ℕ → ℕ) : Type 0 where
  pub in_n : (y : ℕ) → y < N → l y ≡ false → f y < N
  pub unlisted : (y : ℕ) → y < N → l y ≡ false → l (f y) ≡ false
  pub passed : (y : ℕ) → y < N → l y ≡ false → (k : ℕ) → gap y k < gap y (f y) → l k ≡ true

module _ (n : ℕ) {order : List ℕ} (o : InOrder n order) (l : ℕ → Bool) where
  -- e is the first unlisted node going back, seen from x, of those that are more than B steps back
  pub record Found (x B e : ℕ) : Type 0 where
    pub in_n : e < n
    pub unlisted : l e ≡ false
    pub past : B < gap n o x e
    pub passed : (k : ℕ) → B < gap n o x k → gap n o x k < gap n o x e → l k ≡ true

  -- ---- one search back

  module _ (e : ℕ) (e_n : e < n) (some : 0 < count_by n l) where
    back_by-below : back_by order l (place order e) < n
    back_by-below = rw (back_by-ahead n l order o (place order e)) (ahead_by-below n l order o (place order e) _ (omega arith))

    back_by-unlisted : l (back_by order l (place order e)) ≡ false
    back_by-unlisted = rw (back_by-ahead n l order o (place order e)) (ahead_by-unlisted n l order o (place order e) _ (omega arith))

    -- what it passes is listed
    pub back_by-passes : (k : ℕ) → gap n o e k < gap n o e (back_by order l (place order e)) → l k ≡ true
    unfolding back_by count_by
    back_by-passes k h = rw nearer (not-false _ (before-first un none ring w i less))
      where
        un : ℕ → Bool
        un j = not (l j)

        -- the nodes in turn going back from e
        ring : List ℕ
        ring = reverse (round order (place order e))

        all : length ring ≡ n
        all = length-reverse (round order (place order e)) ∙ length-round order (place order e) ∙ o.size

        kept : 0 < length (keep un ring)
        kept = rw (keep-reverse un (round order (place order e)), length-reverse, keep-round un order (place order e), order-kept un n order o) some

        w : Kept un none ring 0
        w = kept_at un none ring 0 kept

        w_n : w.q < n
        w_n = rw all at w.inside

        stop : gap n o e (get_or (keep un ring) 0 none) ≡ suc w.q
        stop = rw w.is (gap_back n o e w.q e_n w_n)

        k_n : k < n
        k_n = gap-node n o e k e_n (omega (arith, stop, w_n))

        i : ℕ
        i = gap n o e k - 1

        less : i < w.q
        less = omega (arith, stop, gap≥1 n o e k e_n k_n)

        nearer : k ≡ get_or ring i 0
        nearer = gap-inj n o e k (get_or ring i 0) e_n (omega (arith, gap≥1 n o e k e_n k_n, gap_back n o e i e_n (omega (arith, less, w_n))))

    -- and no other node is found so
    pub back_by-only : (y : ℕ) → l y ≡ false → ((k : ℕ) → gap n o e k < gap n o e y → l k ≡ true) → y ≡ back_by order l (place order e)
    back_by-only y u f = go (dec_lt (gap n o e y) (gap n o e b)) (dec_lt (gap n o e b) (gap n o e y))
      where
        b : ℕ
        b = back_by order l (place order e)

        go : Dec (gap n o e y < gap n o e b) → Dec (gap n o e b < gap n o e y) → y ≡ b
        go (yes h) d = absurd (true≢false (sym (back_by-passes y h) ∙ u))
        go (no h) (yes g) = absurd (true≢false (sym (f b g) ∙ back_by-unlisted))
        go (no h) (no g) = gap-inj n o e y b e_n (omega arith)

  -- seen from an unlisted node x: going back from i it is met before x, or is x
  pub found_by-back : (x i : ℕ) → x < n → l x ≡ false → i < n → i ≢ x → Found x (gap n o x i) (back_by order l (place order i))
  found_by-back x i x_n u i_n ne = record {
    in_n = e_n;
    unlisted = back_by-unlisted i i_n some;
    past = past;
    passed = λ k h g. let k_n : k < n = gap-node n o x k x_n (omega (arith, gap≤n n o x e x_n e_n)) in
        back_by-passes i i_n some k (omega (arith, gap-add n o x i k x_n i_n k_n h, gap-add n o x i e x_n i_n e_n past));
  }
    where
      some : 0 < count_by n l
      some = count_by-some n l order o x x_n u

      e : ℕ
      e = back_by order l (place order i)

      e_n : e < n
      e_n = back_by-below i i_n some

      past : gap n o x i < gap n o x e
      past = go (gap-cyc n o i x e i_n x_n ne)
        where
          go : (gap n o x i < gap n o x e) ⊎ (gap n o i x < gap n o i e) → gap n o x i < gap n o x e
          go (inl h) = h
          go (inr h) = absurd (true≢false (sym (back_by-passes i i_n some x h) ∙ u))

  -- ---- again and again

  module _ (f : ℕ → ℕ) (fs : First (gap n o) n l f) where
    abbrev m : ℕ
    m = count_by n l

    first-is : (y : ℕ) → y < n → l y ≡ false → f y ≡ back_by order l (place order y)
    first-is y y_n u = back_by-only y y_n (count_by-some n l order o y y_n u) (f y) (fs.unlisted y y_n u) (fs.passed y y_n u)

    -- k times back is m - k ahead
    iter-ahead : (y k : ℕ) → y < n → l y ≡ false → k ≤ m → iter f k y ≡ ahead_by order l (place order y) ((m - k) % m)
    iter-ahead y zero y_n u h = sym (ap (ahead_by order l (place order y)) (rw sub-zero (mod_self m)) ∙ ahead_by-itself n l order o y y_n u)
    iter-ahead y (suc k) y_n u h = go (iter-ahead y k y_n u (omega arith))
      where
        p : ℕ
        p = place order y

        some : 0 < m
        some = count_by-some n l order o y y_n u

        j : ℕ
        j = (m - k) % m

        less : j < m
        less = mod-lt (m - k) some

        sum : (j + (m - 1)) % m ≡ (m - suc k) % m
        sum =
            let e : m - k + (m - 1) ≡ m - suc k + m = omega arith in
            mod-add-mod (m - k) m (m - 1) ∙ ap (λ (i : ℕ). i % m) e ∙ add-mod_right (m - suc k) m

        go : iter f k y ≡ ahead_by order l p j → iter f (suc k) y ≡ ahead_by order l p ((m - suc k) % m)
        go e =
            iter-out f k y ∙ ap f e
            ∙ first-is (ahead_by order l p j) (ahead_by-below n l order o p j less) (ahead_by-unlisted n l order o p j less)
            ∙ back_by-ahead n l order o (place order (ahead_by order l p j))
            ∙ ahead_by-add n l order o p j (m - 1) less (omega arith)
            ∙ ap (ahead_by order l p) sum

    -- every unlisted node is reached in fewer times than there are unlisted nodes
    pub hops : (y q : ℕ) → y < n → l y ≡ false → q < n → l q ≡ false → (d : ℕ) × (d < m) × (iter f d y ≡ q)
    hops y q y_n u q_n v = go (ahead_by-reaches n l order o y y_n u q q_n v)
      where
        go : (k : ℕ) × (k < m) × (ahead_by order l (place order y) k ≡ q) → (d : ℕ) × (d < m) × (iter f d y ≡ q)
        go (zero, h, e) = (0, h, sym (ahead_by-itself n l order o y y_n u) ∙ e)
        go (suc k, h, e) =
            let back : m - (m - suc k) ≡ suc k = omega arith in (
              m - suc k,
              omega arith,
              iter-ahead y (m - suc k) y_n u (omega arith) ∙ ap (ahead_by order l (place order y)) (ap (λ (i : ℕ). i % m) back ∙ mod-eq_of_lt h) ∙ e,
            )

    -- k times back and k ahead is where it began
    pub ahead-iter : (y k : ℕ) → y < n → l y ≡ false → k < m → ahead_by order l (place order (iter f k y)) k ≡ y
    ahead-iter y k y_n u h =
        let p : ℕ = place order y in
        let j : ℕ = (m - k) % m in
        let whole : m - k + k ≡ m = omega arith in
        ap (λ (z : ℕ). ahead_by order l (place order z) k) (iter-ahead y k y_n u (omega arith))
        ∙ ahead_by-add n l order o p j k (mod-lt (m - k) (omega arith)) h
        ∙ ap (ahead_by order l p) (mod-add-mod (m - k) m k ∙ ap (λ (i : ℕ). i % m) whole ∙ mod_self m)
        ∙ ahead_by-itself n l order o y y_n u
