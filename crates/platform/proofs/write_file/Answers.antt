-- `platform::write_file` meets its contract. Assumes nothing.
use Rattle.fields.proofs.Answers.{fails, holds}
use Rattle.platform.proofs.Answers.{write-bad, write-short, write-room, write_done}
use Rattle.platform.proofs.write_file.Goals as goal

pub returns-then-not-in_range : goal.returns-then-not-in_range
returns-then-not-in_range c = let r = write-bad _ _ (fails c.in_range.ensures c.if-not-in_range.true-raw) in record { value = r.0; out_after = r.1 }

pub returns-then-out-lt-FILE_ROOM : goal.returns-then-out-lt-FILE_ROOM
returns-then-out-lt-FILE_ROOM c =
    let r = write-short _ _ (holds c.in_range.ensures c.if-not-in_range.false-raw) c.if-out-lt-FILE_ROOM.true in record { value = r.0; out_after = r.1 }

pub put_file-requires : goal.put_file-requires
put_file-requires c =
    let a = c.args in
    let r = write-room a.store.now a.out.now (λ i. (c.shared_slice_known-1.given i).fits)
    (holds c.in_range.ensures c.if-not-in_range.false-raw) c.if-out-lt-FILE_ROOM.false in record { held = r.0; store_in_bounds = r.1 }

pub returns : goal.returns
returns c =
    let r = write_done _ _ (holds c.in_range.ensures c.if-not-in_range.false-raw) c.if-out-lt-FILE_ROOM.false c.put_file.ensures in
    record { value = r.0; out_after = r.1 }
