-- A text put into a lent part, the rest of which stays as it was. Assumes nothing.
use Rattle.std.specs.Prelude.{ℕ, ◌+◌, ◌≡◌, List, ◌++◌, length, take, drop}
use Rattle.text.specs.declared.Writer.{Writer}

-- l with the bytes of t from the place `at` on
unfoldable pub put : List ℕ → ℕ → List ℕ → List ℕ
put l at t = take at l ++ t ++ drop (at + length t) l

-- the bytes of t were put into l from the place `at` on: r is the place after them, and m is what l became
pub record Put (l : List ℕ) (at : ℕ) (t : List ℕ) (r : ℕ) (m : List ℕ) : Type 0 where
  pub next : r ≡ at + length t
  pub bytes : m ≡ put l at t

-- the writer w became w' by the bytes of t: it is at the place after them in the same part, which is as long as it was
pub record Writes (w w' : Writer) (t : List ℕ) : Type 0 where
  pub same : w'.out.ghost_name ≡ w.out.ghost_name
  pub size : length w'.out.now ≡ length w.out.now
  pub put : Put w.out.now w.at t w'.at w'.out.now
