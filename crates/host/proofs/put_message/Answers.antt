-- `host::put_message` meets its contract. Assumes nothing.
use mathlib.Core.Path.{sym}
use Rattle.host.proofs.Parts.{put-message}
use Rattle.host.proofs.put_message.Goals as goal

pub returns : goal.returns
returns c =
    rw (
      c.put-6.ensures,
      c.put-5.ensures,
      c.put-4.ensures,
      c.put-3.ensures,
      c.put-2.ensures,
      c.put.ensures,
    )
    (sym (put-message _ _ _ _))
