-- `runfile::read_file` meets its contract: the lines that the iterator gave were passed. Assumes nothing.
use Rattle.std.proofs.Common.{refl, sym, ap, ◌∙◌, arith}
use Rattle.std.proofs.lemmas.Grind.{common_steps}
use Rattle.std.proofs.lemmas.Bool.Decides.{nat_tests}
use Rattle.runfile.specs.Reader.{read_of}
use Rattle.runfile.proofs.Lines.{next-line}
use Rattle.runfile.proofs.Reading.{kept-n, opened-file, passed_first, first-stop, passed-end, passed-stop, passed-next, file-lines}
use Rattle.runfile.proofs.read_file.Goals as goal

pub returns-in-Err : goal.returns-in-Err
returns-in-Err c =
    let line = next-line _ c.in-Some.ensures.steps (λ a r f k. (grind (arith, common_steps, nat_tests, k), refl)) in
    let file = opened-file c.args.s.now _ _ _ c.split_inclusive-lines.ensures.rest line c.if-s-gt-MOST_BYTES.false in
    first-stop _ _ _ file.0 _ c.in-Err.ensures ∙ sym (ap read_of file.2)

pub loop-bytes-init : goal.loop-bytes-init
loop-bytes-init c =
    let line = next-line _ c.in-Some.ensures.steps (λ a r f k. (grind (arith, common_steps, nat_tests, k), refl)) in
    let file = opened-file c.args.s.now _ _ _ c.split_inclusive-lines.ensures.rest line c.if-s-gt-MOST_BYTES.false in
    rw c.into_iter-bytes-iterator.ensures.into_iter_gives (passed_first _ _ _ file.0 _ c.in-Ok.ensures file.1)

pub later_line-requires : goal.later_line-requires
later_line-requires c =
    let line = next-line _ c.in-Some-bytes.ensures.steps (λ a r f k. (grind (arith, common_steps, nat_tests, k), refl)) in
    let n = kept-n _ _ c.loop-bytes.invariant.kept in
    (n.0, n.1, omega (arith, c.loop-bytes.invariant.few, c.loop-bytes.invariant.each, line.1, c.if-s-gt-MOST_BYTES.false))

pub loop-bytes-preserved : goal.loop-bytes-preserved
loop-bytes-preserved c =
    let line = next-line _ c.in-Some-bytes.ensures.steps (λ a r f k. (grind (arith, common_steps, nat_tests, k), refl)) in
    passed-next _ _ _ _ c.loop-bytes.invariant _ _ line.0 _
    (c.in-Ok-later_line.ensures c.loop-bytes.invariant.plan c.loop-bytes.invariant.kept) line.1

pub returns-in-Err-later_line : goal.returns-in-Err-later_line
returns-in-Err-later_line c =
    let line = next-line _ c.in-Some-bytes.ensures.steps (λ a r f k. (grind (arith, common_steps, nat_tests, k), refl)) in
    passed-stop _ _ _ _ c.loop-bytes.invariant _ _ line.0 _
    (c.in-Err-later_line.ensures c.loop-bytes.invariant.plan c.loop-bytes.invariant.kept)
    ∙ sym (ap read_of (file-lines _ (λ z. omega (arith, c.loop-bytes.invariant.few, c.loop-bytes.invariant.each)) c.if-s-gt-MOST_BYTES.false))

pub returns : goal.returns
returns c =
    passed-end _ _ _ _ c.loop-bytes.invariant c.in-None.ensures.steps.0
    ∙ sym (ap read_of (file-lines _ (λ z. omega (arith, c.loop-bytes.invariant.few, c.loop-bytes.invariant.each)) c.if-s-gt-MOST_BYTES.false))
