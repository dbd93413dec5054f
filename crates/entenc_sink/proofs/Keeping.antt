-- What stays when bytes go out, whatever the sink: the storage, the error mark once it is set, and the lent length; and that a close leaves the
-- places within the storage. Assumes nothing.
use Prim.Native.Nat.{ℕ, zero, suc, ◌+◌, ◌-◌, ◌/◌, ◌%◌}
use mathlib.Core.Path.{◌≡◌, refl, sym, ◌∙◌}
use mathlib.Core.Bool.{true}
use mathlib.Core.List.{List, [], ◌∷◌}
use lib.ListN.{length, set, length-set}
use lib.Dec.{leb, eqb}
use Rattle.laws.proofs.Tests.{split_on}
use Rattle.entenc_sink.specs.Out.{Out, out, marked, is_room, put_front, put_end, emit, flushed}
use Rattle.entenc_sink.specs.Gap.{zeroed, cleared, busts, finished}
use Rattle.entenc_sink.specs.Fit.{Fit}

-- from o to o': the storage stays, a set mark stays set, and there are as many bytes
pub record Keeps (o o' : Out) : Type 0 where
  pub storage : o'.sink.storage ≡ o.sink.storage
  pub mark : o.sink.error ≡ true → o'.sink.error ≡ true
  pub long : length o'.bytes ≡ length o.bytes

-- nothing happened
pub keeps_same : (o : Out) → Keeps o o
keeps_same o = record { storage = refl; mark = λ e. e; long = refl }

-- one after another
pub keeps_then : {a b c : Out} → Keeps a b → Keeps b c → Keeps a c
keeps_then p q = record { storage = q.storage ∙ p.storage; mark = λ e. q.mark (p.mark e); long = q.long ∙ p.long }

-- ---- bytes

-- one byte at the front
front_keeps : (b : ℕ) (o : Out) → Keeps o (put_front b o)
unfolding put_front
front_keeps b o =
    split_on (is_room o.sink)
    (λ t. simp t (record { storage = refl; mark = λ e. e; long = length-set o.bytes _ _ }))
    (λ t. simp t (record { storage = refl; mark = λ e. refl; long = refl }))

-- one byte at the end
end-keeps : (b : ℕ) (o : Out) → Keeps o (put_end b o)
unfolding put_end
end-keeps b o =
    split_on (is_room o.sink)
    (λ t. simp t (record { storage = refl; mark = λ e. e; long = length-set o.bytes _ _ }))
    (λ t. simp t (record { storage = refl; mark = λ e. refl; long = refl }))

-- bytes at the front
pub emit-keeps : (bs : List ℕ) (o : Out) → Keeps o (emit bs o)
unfolding emit
emit-keeps [] o = keeps_same o
emit-keeps (b ∷ bs) o = keeps_then (front_keeps b o) (emit-keeps bs (put_front b o))

-- bytes at the end
pub flush-keeps : (k window : ℕ) (o : Out) → Keeps o (flushed k window o)
unfolding flushed
flush-keeps zero window o = keeps_same o
flush-keeps (suc k) window o = keeps_then (end-keeps (window % 256) o) (flush-keeps k (window / 256) (put_end (window % 256) o))

-- ---- a close

-- clearing keeps the length
zeroed-length : (n a : ℕ) (l : List ℕ) → length (zeroed n a l) ≡ length l
unfolding zeroed
zeroed-length zero a l = refl
zeroed-length (suc n) a l = zeroed-length n (a + 1) (set l a 0) ∙ length-set l a 0

-- so does clearing the gap
pub cleared-length : (o : Out) → length (cleared o) ≡ length o.bytes
cleared-length o = zeroed-length (o.sink.storage - o.sink.ends - o.sink.offs) o.sink.offs o.bytes

module _ (window used spare : ℕ) (o : Out) where
  -- a close leaves all as it was, or as many bytes under the same sink or the same with its mark
  finish-by : (P : Out → Type 0) → P o
      → ((l : List ℕ) → length l ≡ length o.bytes → P (out o.sink l) × P (out (marked o.sink) l))
      → P (finished window used spare o)
  unfolding finished
  finish-by P same new =
      split_on o.sink.error
      (λ t. simp t same)
      (λ t.
      split_on (eqb used 0)
      (λ a. simp (t, a) (new (cleared o) (cleared-length o)).0)
      (λ a.
      split_on (leb o.sink.storage o.sink.ends)
      (λ b. simp (t, a, b) (new (cleared o) (cleared-length o)).1)
      (λ b.
      split_on (busts o.sink used spare)
      (λ c. simp (t, a, b, c) (new _ (length-set (cleared o) _ _ ∙ cleared-length o)).1)
      (λ c. simp (t, a, b, c) (new _ (length-set (cleared o) _ _ ∙ cleared-length o)).0))))

  -- what a close does to the gap
  pub finish-keeps : Keeps o (finished window used spare o)
  finish-keeps =
      finish-by (Keeps o) (keeps_same o)
      (λ l e. (record { storage = refl; mark = λ m. m; long = e }, record { storage = refl; mark = λ m. refl; long = e }))

  -- and a sink within its storage stays so
  pub finish-fit : Fit o → Fit (finished window used spare o)
  finish-fit f =
      finish-by Fit f
      (λ l e. (record { len = f.len ∙ sym e; room = f.room }, record { len = f.len ∙ sym e; room = f.room }))
