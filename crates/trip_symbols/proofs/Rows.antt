-- Rows of symbols: writer and reader follow the ideal coder through them, and meet after each symbol.
use Prim.Native.Nat.{ℕ}
use mathlib.Core.Path.{◌≡◌, sym, ◌∙◌}
use mathlib.Core.List.{List, [], ◌∷◌}
use native.Mathlib.Omega.{arith}
use lib.ListN.{length}
use Rattle.laws.specs.Lists.{Bytes}
use Rattle.entcode.specs.Sym.{Sym, Piece, pieces_of, adjust}
use Rattle.entdec.specs.declared.Reader.{Reader}
use Rattle.entdec.specs.Symbols.{read_sym}
use Rattle.entdec.proofs.Accepted.{sound-ok}
use Rattle.entenc.specs.Write.{Wr, out_of}
use Rattle.entenc.specs.Symbols.{write_sym, write_syms}
use Rattle.entenc.proofs.Taken.{ruled}
use Rattle.trip_symbols.specs.Along.{Meets, Along}
use Rattle.trip_symbols.proofs.Ideal.{Ideal, pieces_i, raw_of, Ready, pieces_ready}
use Rattle.trip_symbols.proofs.Nested.{Inside, inside_pieces}
use Rattle.trip_symbols.proofs.WriterFollows.{WriterAt, pieces_at}
use Rattle.trip_symbols.proofs.Sized.{Sized, pieces_sized}
use Rattle.trip_symbols.proofs.ReaderFollows.{ReaderAt}
use Rattle.trip_symbols.proofs.Kind.{SymOk, pieces_ok}
use Rattle.trip_symbols.proofs.Found.{read_sym-at}

-- the pieces of a symbol as it counts as written
abbrev pub pieces_in : Sym → List Piece
pieces_in y = pieces_of y.shape (adjust y.shape y.value)

-- the ideal coder after a row
unfoldable pub syms_i : List Sym → Ideal → Ideal
syms_i [] g = g
syms_i (y ∷ ys) g = syms_i ys (pieces_i (pieces_in y) g)

-- the row's raw bits with q above them
unfoldable pub raw_syms : List Sym → ℕ → ℕ
raw_syms [] q = q
raw_syms (y ∷ ys) q = raw_of (pieces_in y) (raw_syms ys q)

-- every symbol of a row meets its rule as it counts as written
abbrev pub AllSymsOk : List Sym → Type 0
AllSymsOk [] = Unit {0}
AllSymsOk (y ∷ ys) = SymOk y.shape (adjust y.shape y.value) × AllSymsOk ys

-- ranges are nested along a row
pub inside_syms : (ys : List Sym) (s : List ℕ) (g : Ideal) → Bytes s → Ready g → AllSymsOk ys → Inside s (syms_i ys g) → Inside s g
unfolding syms_i
inside_syms [] s g b y f h = h
inside_syms (z ∷ ys) s g b y f h =
    let ok = pieces_ok z.shape (adjust z.shape z.value) f.0 in
    inside_pieces (pieces_in z) s g b y ok (inside_syms ys s (pieces_i (pieces_in z) g) b (pieces_ready (pieces_in z) g y ok) f.1 h)

-- ---- written

-- the writer w of n bytes stands at g, and r gives its raw bits
pub record Stands (n : ℕ) (w : Wr) (g : Ideal) (r : ℕ → ℕ) : Type 0 where
  pub inv : WriterAt w g r
  pub ready : Ready g
  pub sized : Sized n (out_of w)

-- one symbol
pub write_sym-at : (y : Sym) (n : ℕ) (w : Wr) (g : Ideal) (r : ℕ → ℕ) → SymOk y.shape (adjust y.shape y.value) → Stands n w g r
    → Stands n (write_sym y.shape y.value w) (pieces_i (pieces_in y) g) (λ q. r (raw_of (pieces_in y) q))
write_sym-at y n w g r f a =
    let ok = pieces_ok y.shape (adjust y.shape y.value) f in
    record {
      inv = pieces_at (pieces_in y) w g r a.ready ok a.inv;
      ready = pieces_ready (pieces_in y) g a.ready ok;
      sized = pieces_sized (pieces_in y) n w a.sized;
    }

-- a row
pub write_syms-at : (ys : List Sym) (n : ℕ) (w : Wr) (g : Ideal) (r : ℕ → ℕ) → AllSymsOk ys → Stands n w g r
    → Stands n (write_syms ys w) (syms_i ys g) (λ q. r (raw_syms ys q))
unfolding write_syms syms_i raw_syms
write_syms-at [] n w g r f a = a
write_syms-at (y ∷ ys) n w g r f a = write_syms-at ys n (write_sym y.shape y.value w) _ _ f.1 (write_sym-at y n w g r f.0 a)

-- ---- read

-- a reader that stands at g meets a writer that stands there
pub meets : (n : ℕ) (w : Wr) (g : Ideal) (r : ℕ → ℕ) (s : List ℕ) (d : Reader) (x : ℕ) → Stands n w g r → length s ≡ n → Bytes s → ReaderAt s d g x → Inside s g
    → Meets s w.st d
meets n w g r s d x a l b y h =
    let t = a.inv.numbers in
    record {
      storage = y.len ∙ l ∙ sym a.sized.storage;
      len = y.len;
      total = y.total ∙ sym t.total;
      range_is = y.range_is ∙ sym t.range_is;
      rule = λ e.
          let c = (ruled w.st e).counts in
          let k = b g.at in
          sound-ok d
          (record {
            counts =
                record {
                  storage-le = omega (arith, c.storage-le, y.len, a.sized.storage);
                  range_gt = omega (arith, a.ready.range_gt, y.range_is);
                  range_le = omega (arith, a.ready.range_le, y.range_is);
                  waiting-le = y.wait;
                  total_ge = omega (arith, c.total_ge, y.total, t.total);
                  total-le = omega (arith, c.total-le, y.total, t.total);
                };
            val-lt = omega (arith, y.range_is, y.val, h.from);
            offs-le = omega (arith, y.offs, y.len);
            ends-le = omega (arith, y.ends, y.len);
            rem-le = omega (arith, y.rem);
          });
      error = y.error;
    }

-- x is the raw bits after the row
pub along_at : (ys : List Sym) (n : ℕ) (w : Wr) (g : Ideal) (r : ℕ → ℕ) (s : List ℕ) (d : Reader) (x : ℕ) → AllSymsOk ys → Stands n w g r → length s ≡ n
    → Bytes s
    → ReaderAt s d g (raw_syms ys x) → Inside s (syms_i ys g) → Along ys s w d
unfolding syms_i raw_syms
along_at [] n w g r s d x f a l b y h = meets n w g r s d x a l b y h
along_at (u ∷ ys) n w g r s d x f a l b y h =
    let c = write_sym-at u n w g r f.0 a in
    let k = inside_syms ys s (pieces_i (pieces_in u) g) b c.ready f.1 h in
    let i = inside_pieces (pieces_in u) s g b a.ready (pieces_ok u.shape (adjust u.shape u.value) f.0) k in
    let q = read_sym-at s d g (raw_syms ys x) b a.ready u.shape (adjust u.shape u.value) f.0 y k in (
      meets n w g r s d _ a l b y i,
      q.0,
      along_at ys n (write_sym u.shape u.value w) (pieces_i (pieces_in u) g) _ s (read_sym u.shape s d).next x f.1 c l b q.1 h,
    )
