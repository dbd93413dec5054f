-- An accepted state stays accepted: after any symbol that was not refused. Assumes nothing.
use Prim.Native.Nat.{ℕ, ◌+◌, ◌≤◌}
use mathlib.Core.Path.{◌≡◌}
use mathlib.Core.Bool.{true}
use mathlib.Core.List.{List}
use native.Mathlib.Omega.{arith}
use lib.ListN.{length}
use Rattle.laws.specs.Lists.{Bytes}
use Rattle.entcode.specs.Sym.{Shape}
use Rattle.entcode.proofs.RenormSteps.{scaled}
use Rattle.entdec.specs.declared.Reader.{Reader}
use Rattle.entdec.specs.Read.{begun_reader, fresh_reader}
use Rattle.entdec.specs.Rule.{reader_ok, refusal_r}
use Rattle.entdec.specs.Symbols.{read_sym}
use Rattle.entdec.proofs.Accepted.{Sound, sound-ok, opened_for}
use Rattle.entdec.proofs.Found.{ShapeFound}
use Rattle.entdec.proofs.Pulls.{advanced_in, pulled}
use Rattle.entdec.proofs.Steps.{Good, Step, read_step}

-- an accepted state is in order
pub sound_good : (d : Reader) → Sound d → Good d
sound_good d f = record { range_gt = f.counts.range_gt; range_le = f.counts.range_le; val-lt = f.val-lt; waiting-le = f.counts.waiting-le }

-- refusal 4 leaves the bit count room for a step
pub step-sound : (s : List ℕ) (n : ℕ) (d e : Reader) → Bytes s → Sound d → d.storage ≡ length s → d.total + n ≤ 65535 → Step s n d e → Sound e
step-sound s n d e b f w m a =
    let c = f.counts in
    let l = a.storage-is in
    record {
      counts = record {
        storage-le = omega (arith, c.storage-le);
        range_gt = a.good.range_gt;
        range_le = a.good.range_le;
        waiting-le = a.good.waiting-le;
        total_ge = omega (arith, c.total_ge, a.total_ge);
        total-le = omega (arith, a.total-le);
      };
      val-lt = a.good.val-lt;
      offs-le = omega (arith, a.offs_in (omega (arith, f.offs-le)));
      ends-le = omega (arith, a.ends_in (omega (arith, f.ends-le)));
      rem-le = a.rem-le b f.rem-le;
    }

-- any symbol that is not refused leaves an accepted state
pub stays : (h : Shape) (s : List ℕ) (d : Reader) → Bytes s → refusal_r h s d ≡ 0 → ShapeFound h d → reader_ok (read_sym h s d).next ≡ true
stays h s d b z f =
    let o = opened_for h s d z in
    let c = o.state.counts in
    let t : d.total ≤ 10264 = omega (arith, o.tell-le, c.storage-le) in
    sound-ok _
    (step-sound s 49 d (read_sym h s d).next b o.state o.whole (omega arith)
    (read_step h s d (sound_good d o.state) o.sizes o.known o.entries f))

-- a new reader is accepted
pub fresh_ok : (s : List ℕ) → Bytes s → length s ≤ 1275 → reader_ok (fresh_reader s) ≡ true
unfolding fresh_reader scaled
fresh_ok s b h =
    let p = pulled 3 s (begun_reader s) in
    let e = advanced_in 0 (length s) (omega arith) in
    sound-ok (fresh_reader s)
    (record {
      counts = record {
        storage-le = rw p.storage-is h;
        range_gt = omega (arith, p.range_is);
        range_le = omega (arith, p.range_is);
        waiting-le = omega (arith, p.waiting-is);
        total_ge = omega (arith, p.total-is);
        total-le = omega (arith, p.total-is);
      };
      val-lt = p.val-lt (omega arith);
      offs-le = rw p.storage-is (p.offs_in e);
      ends-le = omega (arith, p.ends_is);
      rem-le = p.rem-le b (omega (arith, b 0));
    })
