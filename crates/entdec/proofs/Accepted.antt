-- What an accepted state meets, as facts, and what a refusal number 0 says. Assumes nothing.
use Prim.Native.Nat.{ℕ, ◌+◌, ◌*◌, ◌≤◌, ◌<◌}
use mathlib.Core.Path.{◌≡◌}
use mathlib.Core.Bool.{Bool, true, ◌&&◌, and-eq-true_iff}
use mathlib.Core.List.{List}
use lib.ListN.{length}
use lib.Dec.{eqb}
use borrow.Author.Tests.{ltb-true, leb-true, eqb-true, lt-ltb, le-leb}
use Rattle.entcode.specs.Counts.{tell_ok}
use Rattle.entcode.specs.Sym.{Shape, length_ok, shape_ok, list_ok}
use Rattle.entcode.specs.Tell.{tell_of}
use Rattle.entcode.proofs.Rule.{Counts, counts, counts-ok}
use Rattle.entcode.proofs.Refusals.{passed}
use Rattle.entdec.specs.declared.Reader.{Reader}
use Rattle.entdec.specs.Rule.{reader_ok, read_refusal, refusal_r}

-- ---- the rule

-- the tests of `reader_ok`, as facts
pub record Sound (d : Reader) : Type 0 where
  pub counts : Counts d.storage d.rng d.waiting d.total
  pub val-lt : d.val < d.rng
  pub offs-le : d.offs ≤ d.storage
  pub ends-le : d.ends ≤ d.storage
  pub rem-le : d.rem ≤ 255

-- from the test
pub sound : (d : Reader) → reader_ok d ≡ true → Sound d
unfolding reader_ok
sound d h =
    let a = (and-eq-true_iff _ _).0 h in
    let b = (and-eq-true_iff _ _).0 a.0 in
    let c = (and-eq-true_iff _ _).0 b.0 in
    let e = (and-eq-true_iff _ _).0 c.0 in
    record {
      counts = counts d.storage d.rng d.waiting d.total e.0;
      val-lt = ltb-true d.val d.rng e.1;
      offs-le = leb-true d.offs d.storage c.1;
      ends-le = leb-true d.ends d.storage b.1;
      rem-le = leb-true d.rem 255 a.1;
    }

-- and back
pub sound-ok : (d : Reader) → Sound d → reader_ok d ≡ true
unfolding reader_ok
sound-ok d f =
    simp (
      counts-ok d.storage d.rng d.waiting d.total f.counts,
      lt-ltb d.val d.rng f.val-lt,
      le-leb d.offs d.storage f.offs-le,
      le-leb d.ends d.storage f.ends-le,
      le-leb d.rem 255 f.rem-le,
    )

-- ---- number 0

-- a read that no refusal stops: each of its tests, as a fact
pub record Open (n : ℕ) (d : Reader) (lengths numbers lists : Bool) (special : ℕ) : Type 0 where
  pub whole : d.storage ≡ n
  pub sizes : lengths ≡ true
  pub state : Sound d
  pub known : numbers ≡ true
  pub entries : lists ≡ true
  pub none : special ≡ 0
  pub tell-le : tell_of d.total d.rng ≤ 8 * d.storage + 32

-- from the number 0
pub opened : (n : ℕ) (d : Reader) (lengths numbers lists : Bool) (special : ℕ) → read_refusal n d lengths numbers lists special ≡ 0
    → Open n d lengths numbers lists special
unfolding read_refusal
opened n d lengths numbers lists special h =
    let p = passed (eqb d.storage n && lengths) (reader_ok d && numbers) lists special true (tell_ok d.storage d.total d.rng) h in
    let a = (and-eq-true_iff (eqb d.storage n) lengths).0 p.no_2 in
    let b = (and-eq-true_iff (reader_ok d) numbers).0 p.no_1 in
    record {
      whole = eqb-true d.storage n a.0;
      sizes = a.1;
      state = sound d b.0;
      known = b.1;
      entries = p.no_3;
      none = p.no_special;
      tell-le = leb-true (tell_of d.total d.rng) (8 * d.storage + 32) p.no_4;
    }

-- of reading one symbol
pub opened_for : (h : Shape) (s : List ℕ) (d : Reader) → refusal_r h s d ≡ 0 → Open (length s) d (length_ok h) (shape_ok h) (list_ok h) 0
unfolding refusal_r
opened_for h s d e = opened (length s) d (length_ok h) (shape_ok h) (list_ok h) 0 e
