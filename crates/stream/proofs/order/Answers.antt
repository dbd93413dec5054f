-- `stream::order`: both numbers' domain, then the order, as the refusals come. Assumes nothing.
use mathlib.Core.Bool.{true}
use mathlib.Core.Path.{◌≡◌}
use Rattle.entcode.specs.Refusal.{refusal}
use Rattle.stream.specs.Frame.{ordered}
use Rattle.entcode.specs.Said.{verdict}
use Rattle.stream.proofs.order.Goals as goal

pub returns : goal.returns
unfolding ordered
returns c =
    let r : verdict c.refusal_of.result ≡ refusal true c.both_in_domain-known.result true
    (verdict c.order_of-special.result) true true = c.refusal_of.ensures in
    rw (c.both_in_domain-known.ensures, c.order_of-special.ensures) at r
