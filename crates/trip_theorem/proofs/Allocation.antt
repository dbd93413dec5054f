-- The allocation between the two coders: an encoder's run is the writing of a row of symbols, those of its result; a decoder that reads this row
-- comes to the same result. Assumes nothing.
use Prim.Native.Nat.{ℕ, suc, ◌-◌, ◌≤◌}
use mathlib.Core.Path.{◌≡◌, refl, ap, sym, subst, ◌∙◌}
use mathlib.Core.Bool.{Bool, true, false, cond}
use mathlib.Core.List.{List, [], ◌∷◌, ◌++◌, append-nil}
use native.Mathlib.Omega.{arith}
use lib.Dec.{eqb}
use lib.IntN.{ℤ}
use Rattle.entcode.specs.Sym.{Sym, sym_of, adjust, shape_ok, list_ok, value_ok}
use Rattle.entcode.specs.Sym.Shape.{bit, uint}
use Rattle.entdec.specs.declared.Reader.{Reader}
use Rattle.entdec.specs.Symbols.{read_sym}
use Rattle.entenc.specs.Write.{Wr}
use Rattle.entenc.specs.Symbols.{write_sym, write_syms}
use Rattle.rate_spec.specs.Types.{AllocIn, AllocOut}
use Rattle.rate_spec.specs.Domain.{AllocInOk}
use Rattle.rate_spec.specs.Answers.{decoder_ask}
use Rattle.rate_spec.specs.Written.{flags_written, written}
use Rattle.rate_spec.proofs.Trace.{writing-below}
use Rattle.rate_spec.proofs.Follow.{Says, Tells, Agrees}
use Rattle.rate_spec.proofs.Budget.{answers_in, intensity_in}
use Rattle.rate_skip.specs.Asks.{read_ask, write_ask, read_bit, write_bit, write_below}
use Rattle.rate.specs.Answer.{write_alloc}
use Rattle.rate.proofs.Coded.{out, write_traced}
use Rattle.trip_symbols.specs.Along.{Meets, Along}
use Rattle.trip_symbols.proofs.Kind.{UintOk, sym-ok}
use Rattle.trip_symbols.proofs.Rows.{AllSymsOk}
use Rattle.trip_theorem.proofs.RowsBack.{write_append, fine_append}

-- ---- the symbols of an allocation's result, in the order coded

-- a flag is a bit of probability a half
abbrev flag_sym : Bool → Sym
flag_sym f = sym_of (bit 1) (cond f 1 0)

-- the skip flags as symbols of the coder
unfoldable pub flag_syms : List Bool → List Sym
flag_syms [] = []
flag_syms (f ∷ fs) = flag_sym f ∷ flag_syms fs

-- a symbol that is coded or not
abbrev given : Bool → Sym → List Sym
given true y = y ∷ []
given false y = []

-- intensity as a number below the bands that it can be
abbrev intensity_sym : AllocIn → AllocOut → Sym
intensity_sym a o = sym_of (uint (suc o.coded - a.start)) (o.intensity - a.start)

-- what an allocation codes: its flags, then intensity and dual stereo where they are coded
unfoldable pub alloc_syms : AllocIn → AllocOut → List Sym
alloc_syms a o = flag_syms o.flags ++ (given o.intensity_coded (intensity_sym a o) ++ given o.dual_coded (flag_sym o.dual))

-- ---- written

-- writing the flags is writing these symbols
flags-written : (fs : List Bool) (w : Wr) → flags_written write_bit fs w ≡ write_syms (flag_syms fs) w
unfolding flag_syms write_syms
flags-written [] w = refl
flags-written (f ∷ fs) w = flags-written fs (write_bit f w)

-- so is what is written only where it is coded
given-written : (b : Bool) (y : Sym) (w : Wr) → cond b (write_sym y.shape y.value w) w ≡ write_syms (given b y) w
unfolding write_syms
given-written true y w = refl
given-written false y w = refl

-- and so is all that an allocation writes
pub alloc-written : (a : AllocIn) (o : AllocOut) (w : Wr) → written write_bit write_below a o w ≡ write_syms (alloc_syms a o) w
unfolding alloc_syms
alloc-written a o w =
    let fs = flag_syms o.flags in
    let i = given o.intensity_coded (intensity_sym a o) in
    let d = given o.dual_coded (flag_sym o.dual) in
    rw (
      flags-written o.flags w,
      given-written o.intensity_coded (intensity_sym a o) (write_syms fs w),
      given-written o.dual_coded (flag_sym o.dual)
          (write_syms i (write_syms fs w)),
    )
    (sym (write_append fs (i ++ d) w ∙ write_append i d (write_syms fs w)))

-- ---- each is in the domain

-- a flag is a value of a bit
flag_ok : (f : Bool) → value_ok (bit 1) (cond f 1 0) ≡ true
unfolding value_ok
flag_ok true = refl
flag_ok false = refl

-- so its symbol is of the domain
flag-fine : (f : Bool) → AllSymsOk (flag_sym f ∷ [])
unfolding shape_ok list_ok
flag-fine f = (sym-ok (bit 1) (cond f 1 0) tt refl refl (flag_ok f), tt)

-- and so are those of all flags
flags-fine : (fs : List Bool) → AllSymsOk (flag_syms fs)
unfolding flag_syms
flags-fine [] = tt
flags-fine (f ∷ fs) = ((flag-fine f).0, flags-fine fs)

-- a symbol of the domain is of it where it is coded only sometimes
given-fine : (b : Bool) (y : Sym) → AllSymsOk (y ∷ []) → AllSymsOk (given b y)
given-fine true y f = f
given-fine false y f = tt

-- the symbols of an allocation are of the domain where intensity has 2 to 22 values
pub alloc-fine : (a : AllocIn) (o : AllocOut) → 2 ≤ suc o.coded - a.start → suc o.coded - a.start ≤ 22 → o.intensity ≤ o.coded
    → AllSymsOk (alloc_syms a o)
unfolding alloc_syms adjust
alloc-fine a o l h i =
    let u : UintOk (suc o.coded - a.start) (o.intensity - a.start) = record { ft-lt = omega arith; value-lt = omega arith } in
    fine_append (flag_syms o.flags) _ (flags-fine o.flags)
    (fine_append (given o.intensity_coded (intensity_sym a o)) _ (given-fine o.intensity_coded (intensity_sym a o) (u, tt))
    (given-fine o.dual_coded (flag_sym o.dual) (flag-fine o.dual)))

-- ---- read

-- a flag is read off its bit
flag_is : (f : Bool) → eqb (cond f 1 0) 1 ≡ f
flag_is true = refl
flag_is false = refl

module _ (s : List ℕ) where
  -- a reader that finds the bit answers with the flag
  flag-read : (f : Bool) (d : Reader) → (read_sym (bit 1) s d).value ≡ adjust (bit 1) (cond f 1 0) → read_bit s d ≡ (f, (read_sym (bit 1) s d).next)
  unfolding adjust
  flag-read f d e = rw (e, flag_is f)

  -- the flags
  record SaysOn (fs : List Bool) (more : List Sym) (w : Wr) (d : Reader) : Type 0 where
    last : Reader
    says : Says (read_ask s) d fs last
    goes : Along more s (write_syms (flag_syms fs) w) last

  -- a reader that goes along the flags says each of them
  says_on : (fs : List Bool) (more : List Sym) (w : Wr) (d : Reader) → Along (flag_syms fs ++ more) s w d → SaysOn fs more w d
  unfolding flag_syms write_syms decoder_ask
  says_on [] more w d g = record { last = d; says = refl; goes = g }
  says_on (f ∷ fs) more w d g =
      let x = says_on fs more (write_bit f w) (read_sym (bit 1) s d).next g.2 in
      record { last = x.last; says = ((read_sym (bit 1) s d).next, λ coded bits. flag-read f d g.1, x.says); goes = x.goes }

  -- a symbol that is coded or not
  record TellsOn {X : Type 0} (b : Bool) (y : Sym) (q : Reader → X × Reader) (x : X) (more : List Sym) (w : Wr) (d : Reader) : Type 0 where
    last : Reader
    tells : Tells (read_ask s) b q x d last
    goes : Along more s (write_syms (given b y) w) last

  -- a reader that goes along a symbol that may be coded tells its value
  tells_on : {X : Type 0} (b : Bool) (y : Sym) (q : Reader → X × Reader) (x : X) (more : List Sym) (w : Wr) (d : Reader)
      → ((read_sym y.shape s d).value ≡ adjust y.shape y.value → q d ≡ (x, (read_sym y.shape s d).next))
      → Along (given b y ++ more) s w d → TellsOn b y q x more w d
  unfolding write_syms
  tells_on true y q x more w d h g = record { last = (read_sym y.shape s d).next; tells = h g.1; goes = g.2 }
  tells_on false y q x more w d h g = record { last = d; tells = refl; goes = g }

  -- all of them
  pub record ReadsOn (a : AllocIn) (o : AllocOut) (w : Wr) (d : Reader) : Type 0 where
    pub last : Reader
    pub agrees : Agrees (read_ask s) a o d last
    pub meets : Meets s (write_syms (alloc_syms a o) w).st last

  -- a reader that goes along the symbols of an allocation answers its questions with them
  pub reads_on : (a : AllocIn) (o : AllocOut) (w : Wr) (d : Reader) → Along (alloc_syms a o) s w d → ReadsOn a o w d
  unfolding alloc_syms decoder_ask adjust
  reads_on a o w d g =
      let i = given o.intensity_coded (intensity_sym a o) in
      let e = given o.dual_coded (flag_sym o.dual) in
      let x = says_on o.flags (given o.intensity_coded (intensity_sym a o) ++ given o.dual_coded (flag_sym o.dual)) w d g in
      let w₁ = write_syms (flag_syms o.flags) w in
      let y = tells_on o.intensity_coded (intensity_sym a o) ((read_ask s).intensity (suc o.coded - a.start)) (o.intensity - a.start)
      (given o.dual_coded (flag_sym o.dual)) w₁ x.last (λ h. ap (λ (v : ℕ). (v, (read_sym (uint (suc o.coded - a.start)) s x.last).next)) h)
      x.goes in
      let z = tells_on o.dual_coded (flag_sym o.dual) (read_ask s).dual o.dual [] (write_syms i w₁) y.last (λ h. flag-read o.dual y.last h)
      (rw append-nil y.goes) in
      record {
        last = z.last;
        agrees = record { t₁ = x.last; t₂ = y.last; says = x.says; intensity = y.tells; dual = z.tells };
        meets =
            subst (λ (v : Wr). Meets s v.st z.last) (sym (write_append (flag_syms o.flags) (i ++ e) w ∙ write_append i e w₁)) z.goes;
      }

-- ---- the encoder's call: it wrote its result's symbols, each in its domain

module _ (a : AllocIn) (ok : AllocInOk a) (previous bandwidth : ℤ) (intensity : ℕ) (dual : Bool) (w : Wr) where
  -- the writer after the call has written the symbols of its result
  pub write_syms_lem : (write_alloc a intensity dual previous bandwidth w).1 ≡ write_syms (alloc_syms a (out a previous bandwidth intensity dual w)) w
  write_syms_lem = write_traced a previous bandwidth intensity dual w ∙ alloc-written a (out a previous bandwidth intensity dual w) w

  -- and they are of the domain
  pub write-fine : AllSymsOk (alloc_syms a (out a previous bandwidth intensity dual w))
  write-fine =
      let asker = write_ask a previous bandwidth intensity dual in
      let n = answers_in a ok asker w in
      alloc-fine a (out a previous bandwidth intensity dual w) n.0 n.1
      (intensity_in a ok asker w (writing-below write_bit write_below a previous bandwidth intensity dual))
