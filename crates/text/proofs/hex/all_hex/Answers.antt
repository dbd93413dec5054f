-- `text::hex::all_hex`: the chain tests each byte. Assumes nothing.
use Prim.Native.Nat.{◌<◌}
use mathlib.Core.Path.{◌≡◌}
use borrow.Author.Rules.{rules}
use borrow.Author.Tests.{tests}
use Rattle.std.proofs.lemmas.Iterator.{cases_from_all, YieldsList-from_slice}
use Rattle.text.specs.Digits.{digit_of}
use Rattle.text.proofs.Values.{hex_tested}
use Rattle.text.proofs.hex.all_hex.Goals as goal

pub returns : goal.returns
returns c =
    let s = c.args.s.now in
    hex_tested s c.all.result
    (cases_from_all _ _ c.all.result (λ b. digit_of b < 16) (λ b. digit_of b ≡ 16) c.all.ensures.ran (YieldsList-from_slice s c.iter.ensures.rest)
    (λ x q k. search (rules, tests)) (λ x q k. search (rules, tests)))
