-- `host::write_record` meets its contract. Assumes nothing.
use Rattle.host.proofs.Bytes.{put_record}
use Rattle.host.proofs.write_record.Goals as goal

pub returns : goal.returns
returns c =
    rw (
      c.clear.ensures,
      c.write_mark.ensures,
      c.write_ticks.ensures,
      c.write_neighbours.ensures,
      c.write_numbers.ensures,
    )
    (put_record _ _ c.requires)
