-- An accepted state stays accepted after an accepted write, but for the held run, and after an accepted close. Assumes nothing.
use Prim.Native.Nat.{ℕ, ◌+◌, ◌*◌, ◌≤◌}
use mathlib.Core.Path.{◌≡◌}
use mathlib.Core.Bool.{true}
use native.Mathlib.Omega.{arith}
use borrow.Author.Tests.{leb-true}
use Rattle.entcode.specs.Tell.{tell_of}
use Rattle.entcode.specs.Sym.{Shape}
use Rattle.entcode.proofs.Pieces.{ModelOk, pieces_ok}
use Rattle.entenc.specs.declared.Writer.{Writer}
use Rattle.entenc.specs.Write.{Wr, fresh_writer}
use Rattle.entenc.specs.Symbols.{write_sym}
use Rattle.entenc.specs.Close.{close_w}
use Rattle.entenc.specs.Rule.{writer_ok, refusal_w, refusal_close}
use Rattle.entenc.proofs.Taken.{ruled, ruled_ok, taken, close-taken, ready_of}
use Rattle.entenc.proofs.Chain.{Stepped, sym-stepped}
use Rattle.entenc.proofs.Tails.{closed_fit, closed_rem}
use Rattle.entenc.proofs.Sticky.{close-keeps}

-- each byte of the held run has cost eight bits of the bit count, beside the 33 of a new writer
abbrev pub Paid : Writer → Type 0
Paid w = 8 * w.ext + 33 ≤ w.total

-- a new writer holds no run
pub paid-new : (n : ℕ) → Paid (fresh_writer n)
paid-new n = omega arith

-- a new writer is accepted
pub fresh_ok : (n : ℕ) → n ≤ 1275 → writer_ok (fresh_writer n) ≡ true
fresh_ok n h =
    ruled_ok (fresh_writer n)
    (record {
      counts =
          record {
            storage-le = h;
            range_gt = omega arith;
            range_le = omega arith;
            waiting-le = omega arith;
            total_ge = omega arith;
            total-le = omega arith;
          };
      places-le = omega arith;
      end_lt = omega arith;
      rem-le = omega arith;
      ext-le = omega arith;
    })

module _ (h : Shape) (v : ℕ) (w : Wr) (zero : refusal_w h v w ≡ 0) (model : ModelOk h v) where
  -- an accepted write, as a step
  pub write-stepped : Stepped 49 3 w (write_sym h v w)
  write-stepped =
      let t = taken h v w zero in
      sym-stepped h v w (pieces_ok h v t.shape t.value t.lists model) (ready_of 1 w (omega arith) t.rule t.len)

  -- the bit count is no obstacle, since tell was at most 10,232; the held run can be
  pub accepted_within : (write_sym h v w).st.ext ≤ 65535 → writer_ok (write_sym h v w).st ≡ true
  accepted_within e =
      let t = taken h v w zero in
      let r = ruled w.st t.rule in
      let p = write-stepped in
      let s = p.sound in
      let l : tell_of w.st.total w.st.rng ≤ 8 * w.st.sink.storage + 32 = leb-true _ _ t.tell-fits in
      ruled_ok (write_sym h v w).st
      (record {
        counts =
            record {
              storage-le = s.storage-le;
              range_gt = s.range_gt;
              range_le = s.range_le;
              waiting-le = s.waiting-le;
              total_ge = omega (arith, p.total_ge, r.counts.total_ge);
              total-le = omega (arith, p.total-le, r.counts.storage-le);
            };
        places-le = s.fit.room;
        end_lt = s.end_lt;
        rem-le = s.rem-le;
        ext-le = e;
      })

  -- where the run is paid for it is no obstacle either, and it is paid for after the write too
  pub accepted_paid : Paid w.st → Paid (write_sym h v w).st × (writer_ok (write_sym h v w).st ≡ true)
  accepted_paid f =
      let t = taken h v w zero in
      let r = ruled w.st t.rule in
      let p = write-stepped in
      let l : tell_of w.st.total w.st.rng ≤ 8 * w.st.sink.storage + 32 = leb-true _ _ t.tell-fits in
      let q : 8 * (write_sym h v w).st.ext + 33 ≤ (write_sym h v w).st.total = omega (arith, p.paid) in
      (q, accepted_within (omega (arith, p.total-le, r.counts.storage-le)))

-- A close asks for nothing more: the range and the counts stay, the places stay within the storage, and no run is held
pub close_accepted : (w : Wr) → refusal_close w ≡ 0 → writer_ok (close_w w).st ≡ true
unfolding close_w
close_accepted w zero =
    let t = close-taken w zero in
    let r = ruled w.st t.0 in
    let f = closed_fit w (record { len = t.1; room = r.places-le }) in
    ruled_ok (close_w w).st
    (record {
      counts = rw (close-keeps w).storage r.counts;
      places-le = f.room;
      end_lt = r.end_lt;
      rem-le = closed_rem w r.rem-le;
      ext-le = omega arith;
    })
