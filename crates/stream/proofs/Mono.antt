-- A mono frame leaves channel 1 alone. Assumes nothing.
use Prim.Native.Nat.{ℕ, zero, suc, ◌≤◌}
use mathlib.Core.Path.{◌≡◌, refl}
use lib.IntN.{pos}
use lib.Ieee.{nan}
use lib.ListN.{get_or}
use Rattle.laws.specs.Signs.{clip}
use Rattle.entdec.proofs.Accepted.{opened}
use Rattle.quant_bands.specs.Question.{is_intra}
use Rattle.quant_bands.proofs.Accepts.{coarse_in}
use Rattle.quant_bands.specs.Promises.{Outside}
use Rattle.quant_bands.proofs.Outside.{outside_mono, coarse_stays}
use Rattle.stream.specs.declared.Record.{Record}
use Rattle.stream.specs.Frame.{Call, refusal_frame, frame_answer}
use Rattle.stream.specs.History.{MonoKeepsSecond}
use Rattle.stream.proofs.Accepts.{known}

-- by the number of the refusal: places from 21 on are outside what a mono decode writes
answer_keeps : (n : ℕ) (r : Record) (q : Call) → refusal_frame r q ≡ n → q.c ≡ pos 1 → (k : ℕ) → 21 ≤ k
    → get_or (frame_answer n r q).rec.energies k nan ≡ get_or r.energies k nan
unfolding frame_answer refusal_frame
answer_keeps zero r q h e k l =
    let i = coarse_in q.c q.lm q.start q.end q.intra (known _ _ _ _ _ _ _ (opened _ _ _ _ _ _ h).known).coarse in
    let o : Outside (clip q.c) (clip q.start) (clip q.end) k = rw e (outside_mono (clip q.start) (clip q.end) k i.0.end-le l) in
    (coarse_stays (clip q.c) (clip q.lm) (is_intra q.intra) (clip q.start) (clip q.end) q.packet q.coder r.energies k o).same
answer_keeps (suc n) r q h e k l = refl

-- of a whole frame call
pub mono_keeps_second : MonoKeepsSecond
mono_keeps_second r q e k l = answer_keeps (refusal_frame r q) r q refl e k l
