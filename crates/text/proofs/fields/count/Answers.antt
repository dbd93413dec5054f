-- `text::fields::count`: the tabs are counted, of which there is one less than fields. Assumes nothing.
use Prim.Native.Nat.{◌+◌, ℕ}
use mathlib.Core.Path.{ap, sym, ◌∙◌}
use mathlib.Core.List.{List}
use lib.Dec.{eqb}
use lib.ListN.{length}
use lib.Seq.{take_all}
use Rattle.std.specs.List.{count_by}
use Rattle.std.proofs.lemmas.List.Splits.{length-slice_split}
use Rattle.text.proofs.FieldLaws.{separated_is}
use Rattle.text.proofs.fields.count.Goals as goal

pub returns : goal.returns
returns c =
    let s = c.args.s.now in
    let l = c.loop-b in
    l.invariant
    ∙ ap (λ (t : List ℕ). count_by (λ b. eqb b 9) t + 1) (take_all l.b-index s c.loop-b-test.false)
    ∙ sym (length-slice_split (λ b. eqb b 9) s)
    ∙ ap (λ (fs : List (List ℕ)). length fs) (separated_is 9 s)
