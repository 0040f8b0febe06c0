-- `platform::advance::step_ready` meets its contract. Assumes nothing.
use Rattle.std.proofs.Common.{◌≡◌, Ok, length, arith, rules}
use mathlib.Core.Path.{sym, ap, ◌∙◌}
use Rattle.std.proofs.lemmas.Result.{err_from_is_err_and}
use Rattle.event.proofs.Readiness.{left-ready, ready-acting}
use Rattle.event.proofs.LineRoom.{last_of, last-left, last_fits}
use Rattle.platform.proofs.Stepping.{step-did, step-ended, step-refused}
use Rattle.platform.proofs.advance.step_ready.Goals as goal

pub returns-in_err-deed : goal.returns-in_err-deed
returns-in_err-deed c =
    let p = err_from_is_err_and c.from_residual.result c.from_residual.ensures.1 in
    let d = c.do_event.ensures in
    let r = step-refused _ _ c.requires.ready d.1 (sym c.in_err-deed.was ∙ d.0) in
    rw (p.1, p.2) (record { value = r.0; store_after = r.1.0; log_after = r.1.1 })

pub last_line-line-requires : goal.last_line-line-requires
last_line-line-requires c = ready-acting _ (left-ready _ _ c.requires.ready c.do_event.ensures.1)

pub put_line-requires : goal.put_line-requires
put_line-requires c =
    let here = last_of _ _ c.message_count.ensures _ c.last_line-line.ensures in
    let was : c.do_event.result ≡ Ok c.in_ok-deed.field-0 = c.in_ok-deed.was in
    let ended = sym (rw c.in-None.is at was) ∙ c.do_event.ensures.0 in
    let line = last-left _ c.requires.ready _ c.do_event.ensures.1 ended _ here in
    let w = c.new-out-in-None.ensures in
    omega (arith, last_fits _ c.requires.ready _ line, w.start, ap length w.value, c.requires.log_room_in_bounds)

pub returns-in-Some : goal.returns-in-Some
returns-in-Some c =
    let was : c.do_event.result ≡ Ok c.in_ok-deed.field-0 = c.in_ok-deed.was in
    let done = sym (rw c.in-Some.is at was) ∙ c.do_event.ensures.0 in
    let w = c.new-out.ensures in
    let put = rw (w.value, w.start) at c.put_lines.ensures.put.put in
    let all = step-did _ _ c.requires.ready c.do_event.ensures.1 done put in
    record { value = rw c.own_line.ensures all.0; store_after = all.1.0; log_after = search (all.1.1, put, rules) }

pub returns-in-None : goal.returns-in-None
returns-in-None c =
    let here = last_of _ _ c.message_count.ensures _ c.last_line-line.ensures in
    let was : c.do_event.result ≡ Ok c.in_ok-deed.field-0 = c.in_ok-deed.was in
    let ended = sym (rw c.in-None.is at was) ∙ c.do_event.ensures.0 in
    let last = last-left _ c.requires.ready _ c.do_event.ensures.1 ended _ here in
    let w = c.new-out-in-None.ensures in
    let put = rw (w.value, w.start) at c.put_line.ensures.put in
    let r = step-ended _ _ c.requires.ready c.do_event.ensures.1 ended last put in
    record { value = r.0; store_after = r.1.0; log_after = search (r.1.1, put, rules) }
