-- `platform::open_store` meets its contract. Assumes nothing.
use mathlib.Core.Path.{sym, ◌∙◌}
use Rattle.std.proofs.lemmas.Result.{err_from_is_err_and}
use Rattle.platform.proofs.Opening.{read-accepts, open-refused, open-short, open-ready}
use Rattle.platform.proofs.open_store.Goals as goal

pub returns-in_err-outline : goal.returns-in_err-outline
returns-in_err-outline c =
    let p = err_from_is_err_and c.from_residual.result c.from_residual.ensures.1 in
    let r = open-refused c.args.file.now c.args.store.now c.in_err-outline.ensures in rw (p.1, p.2) (record { value = r.0; store_after = r.1 })

pub returns-then-store-ne-STORE_SIZE : goal.returns-then-store-ne-STORE_SIZE
returns-then-store-ne-STORE_SIZE c =
    let k = read-accepts c.args.file.now _ (sym c.in_ok-outline.was ∙ c.read_file.ensures) in
    let r = open-short c.args.file.now c.args.store.now k.0 c.if-store-ne-STORE_SIZE.true in record { value = r.0; store_after = r.1 }

pub fill-requires : goal.fill-requires
fill-requires c =
    let k = read-accepts c.args.file.now _ (sym c.in_ok-outline.was ∙ c.read_file.ensures) in
    record { accepts = k.0; o_value = (k.1, c.if-store-ne-STORE_SIZE.false) }

pub returns : goal.returns
returns c =
    let k = read-accepts c.args.file.now _ (sym c.in_ok-outline.was ∙ c.read_file.ensures) in
    let r = open-ready c.args.file.now c.args.store.now k.0 c.if-store-ne-STORE_SIZE.false c.fill.ensures in record { value = r.0; store_after = r.1 }
