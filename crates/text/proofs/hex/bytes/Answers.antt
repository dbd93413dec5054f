-- `text::hex::bytes`: what `is_bytes` accepts has digits only and fits, as `store` asks; otherwise nothing is written. Assumes nothing.
use mathlib.Core.Path.{◌≡◌, sym, ◌∙◌}
use mathlib.Core.Bool.{true}
use lib.ListN.{length}
use Rattle.text.proofs.Values.{bytes-few, bytes-digits, bytes-stored, bytes-refused}
use Rattle.text.specs.Numbers.{hex_bytes}
use Rattle.text.proofs.hex.bytes.Goals as goal

pub store-requires : goal.store-requires
store-requires c =
    let s = c.args.s.now in
    let out = c.args.out.now in
    let e : hex_bytes (length out) s ≡ true = sym c.is_bytes-good.ensures ∙ c.if-good.true in
    (bytes-few (length out) s e, bytes-digits (length out) s e)

pub returns-then-good : goal.returns-then-good
returns-then-good c =
    let p = c.is_bytes-good.ensures in
    (p, bytes-stored c.args.s.now c.args.out.now (sym p ∙ c.if-good.true) c.store.ensures)

pub returns-else-good : goal.returns-else-good
returns-else-good c =
    let p = c.is_bytes-good.ensures in
    (p, bytes-refused c.args.s.now c.args.out.now (sym p ∙ c.if-good.false))
