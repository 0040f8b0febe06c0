-- A plan that a run file may hold is plain, and where its W is long enough its run ends in E. Assumes nothing.
use mathlib.Core.Path.{◌≡◌}
use mathlib.Core.Bool.{true}
use Rattle.plans.specs.Plan.{Plan, long_enough, plan_test}
use Rattle.plans.proofs.Tests.{long-enough}
use Rattle.plans.proofs.Facts.{plan-plain}
use Rattle.model.specs.Range.{EndsInE}

pub plan-ends : (p : Plan) → plan_test p ≡ true → long_enough p ≡ true → EndsInE p
plan-ends p good long = record { plain = plan-plain p good; long = long-enough p long }
