-- What a call answered, where the code tested the answer negated. Assumes nothing.
use mathlib.Core.Path.{◌≡◌, sym, ◌∙◌}
use mathlib.Core.Bool.{Bool, true, false, not}
use borrow.Author.Tests.{not-true, not-false}

module _ {b test : Bool} (e : b ≡ test) where
  pub fails : not b ≡ true → test ≡ false
  fails h = sym e ∙ not-true b h

  pub holds : not b ≡ false → test ≡ true
  holds h = sym e ∙ not-false b h
