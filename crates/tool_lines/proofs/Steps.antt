-- A reader's steps: what it gives and what it is still to give are what it was to give before. Assumes nothing.
use Prim.Native.Nat.{ℕ, zero, suc, ◌≤◌}
use mathlib.Core.Path.{◌≡◌, refl, sym, ap, ◌∙◌}
use mathlib.Core.Bool.{Bool, true, false, cond, ◌&&◌, ◌||◌}
use mathlib.Core.List.{List, [], ◌∷◌, ◌++◌, append-nil, append_assoc}
use native.Mathlib.Omega.{arith}
use lib.Dec.{ltb}
use lib.ListN.{length, take, drop, drop_of_length-le}
use lib.Seq.{length-take-le}
use borrow.Author.Tests.{eqb-true, lt-ltb}
use Rattle.tool_io.specs.declared.BlockRead.{BlockRead}
use Rattle.tool_io.specs.Moved.{OneRead}
use Rattle.text.specs.declared.lines.Filling.{Filling}
use Rattle.text.specs.Lines.{no_empty_last, lines_ended, kept_after, last_of, Filled}
use Rattle.text.proofs.Blocks.{filled_more}
use Rattle.tool_lines.specs.declared.Reader.{Reader}
use Rattle.tool_lines.specs.Reading.{lines_after, lines_to_come, InBounds, Stepped, CutInBlock}

-- of a line that has not ended no more bytes are kept than of any
pub begun_kept : (r : Bool) {n line_size : ℕ} → n ≤ line_size → cond r 0 n ≤ line_size
begun_kept true h = omega arith
begun_kept false h = h

-- ---- within a block

-- the same bytes, cut by a length
begun-is : (d : Bool) (n : ℕ) (kept : List ℕ) → cond d [] (take n kept) ≡ take (cond d 0 n) kept
begun-is true n kept = refl
begun-is false n kept = refl

-- the lines to come are the line that was cut off, if one was, and those after it
pub cut_in_block : (line_size : ℕ) (p : Reader) (kept block : List ℕ) {f : Filling} {k : ℕ} (kept' : List ℕ) → k ≡ cond p.ready 0 p.kept
    → Filled line_size block p.at (take k kept) f (take f.kept kept')
    → CutInBlock line_size p kept block (record { at = f.at; n = p.n; kept = f.kept; ready = f.ended; over = p.over; input = p.input }) kept'
unfolding lines_after
cut_in_block line_size p kept block {f} {k} kept' e g =
    record {
      inside = g.inside;
      few = g.few;
      same = (refl, refl, refl);
      lines = λ t.
          let m = filled_more line_size block p.at (take k kept) g t in
          let x : List (List ℕ) = cond f.ended (take f.kept kept' ∷ []) [] in
          let d : List ℕ = drop f.at block ++ t in
          let h : List ℕ = cond f.ended [] (take f.kept kept') in
          ap (λ (j : ℕ). lines_ended line_size (take j kept) (drop p.at block ++ t) ++ last_of (kept_after line_size (take j kept) (drop p.at block ++ t)))
          (sym e)
          ∙ ap (λ (l : List (List ℕ)). l ++ last_of (kept_after line_size (take k kept) (drop p.at block ++ t))) m.0
          ∙ ap (λ (l : List ℕ). (x ++ lines_ended line_size h d) ++ last_of l) m.1
          ∙ append_assoc x (lines_ended line_size h d) (last_of (kept_after line_size h d))
          ∙ ap (λ (l : List ℕ). x ++ (lines_ended line_size l d ++ last_of (kept_after line_size l d))) (begun-is f.ended f.kept kept');
    }

-- an input that is not over has not ended
not-ended : {line_size : ℕ} {p : Reader} {block log : ℕ} → InBounds line_size p block log → p.over ≡ false → p.input.failed ≡ false → p.input.ended ≡ false
not-ended h o f = sym (h.over-is f) ∙ o

-- a step within the block reads nothing
pub stepped_in_block : (line_size : ℕ) (p : Reader) (kept block log : List ℕ) {r : Reader} (kept' : List ℕ) {calls : List ℕ} → calls ≡ p.input.calls ∷ []
    → InBounds line_size p (length block) (length log) → p.over ≡ false
    → CutInBlock line_size p kept (take p.n block) r kept' → Stepped line_size p kept block log r kept' block log calls
unfolding lines_to_come
stepped_in_block line_size p kept block log {r} kept' {calls} n h o c =
    let l : length (take p.n block) ≡ p.n = length-take-le p.n block h.n_le in
    let en : r.n ≡ p.n = c.same.0 in
    let eo : r.over ≡ p.over = c.same.1 in
    let es : r.input ≡ p.input = c.same.2 in
    record {
      bounds = record {
        block_some = h.block_some;
        at-le = omega (arith, c.inside, l, en);
        n_le = omega (arith, h.n_le, en);
        kept-le = c.few;
        log_le = rw es h.log_le;
        over-is = λ f. eo ∙ h.over-is (sym (ap (λ s. s.failed) es) ∙ f) ∙ sym (ap (λ s. s.ended) es);
      };
      fine = λ f. sym (ap (λ s. s.failed) es) ∙ f;
      complete = λ w. sym (ap (λ s. s.complete) es) ∙ w;
      counted = n ∙ ap (λ s. s.calls ∷ []) (sym es);
      gave = λ f w.
          let fp : p.input.failed ≡ false = sym (ap (λ s. s.failed) es) ∙ f in
          let ep : p.input.ended ≡ false = not-ended h o fp in
          let er : r.input.ended ≡ false = ap (λ s. s.ended) es ∙ ep in
          record {
            new_bytes = [];
            logged = ap (λ s. take s.logged log) es ∙ sym (append-nil (take p.input.logged log));
            lines = λ t g. rw (ep, er, en) (c.lines t);
          };
    }

-- ---- the next block, or the end

-- the line that the input's end ends, where it has a byte
last_line : (line_size k : ℕ) (kept : List ℕ) → k ≤ length kept → lines_after line_size (take k kept) [] ≡ cond (ltb 0 k) (take k kept ∷ []) []
unfolding lines_after lines_ended kept_after no_empty_last
last_line line_size zero kept h = refl
last_line line_size (suc k) [] h = absurd (omega arith)
last_line line_size (suc k) (b ∷ kept) h = rw (lt-ltb 0 (suc k) (omega arith))

-- the lines to come are those of the block that was read, or the last one
lines_of-refill : (line_size : ℕ) (e : Bool) (n k : ℕ) (kept block t : List ℕ) → k ≤ length kept → (e ≡ true → n ≡ 0) → (e ≡ true → t ≡ [])
    → lines_after line_size (take k kept) (take n block ++ t)
    ≡ cond (e && ltb 0 k) (take k kept ∷ []) [] ++ cond e [] (lines_after line_size (take (cond (e && ltb 0 k) 0 k) kept) (drop 0 (take n block) ++ t))
lines_of-refill line_size true n k kept block t h a b = rw (a refl, b refl)
    (last_line line_size k kept h ∙ sym (append-nil (cond (ltb 0 k) (take k kept ∷ []) [])))
lines_of-refill line_size false n k kept block t h a b = refl

-- a test that fails changes no `or`
or_false : (a b : Bool) → b ≡ false → (a || b) ≡ a
or_false true b e = refl
or_false false b e = e

module _ (line_size : ℕ) (p : Reader) (kept block log : List ℕ) {g : BlockRead} {k : ℕ} (block' log' calls : List ℕ)
    (h : InBounds line_size p (length block) (length log))
    (o : p.over ≡ false)
    (u : p.n ≤ p.at) (ek : k ≡ cond p.ready 0 p.kept) (lk : length kept ≡ line_size) (lb : length block' ≡ length block)
    (q : OneRead p.input log g block' log' calls) where
  -- where the block is used up, the lines to come are those of the bytes still to be read
  to_come_before : (s : List ℕ) → p.input.ended ≡ false → lines_to_come line_size p kept block s ≡ lines_after line_size (take k kept) s
  unfolding lines_to_come
  to_come_before s e =
      let l : length (take p.n block) ≡ p.n = length-take-le p.n block h.n_le in
      let m : length (take p.n block) ≤ p.at = omega arith in
      let d : drop p.at (take p.n block) ≡ [] = drop_of_length-le (take p.n block) m in
      rw (e, d, sym ek)

  -- a step that reads the next block, or sees the end
  pub stepped-by-read : {e b : Bool} → e ≡ g.input.ended → b ≡ g.input.failed
      → Stepped line_size p kept block log (record { at = 0; n = g.n; kept = k; ready = e && ltb 0 k; over = e || b; input = g.input }) kept block' log' calls
  unfolding lines_to_come
  stepped-by-read {e} {b} ee eb =
      record {
        bounds = record {
          block_some = omega (arith, lb, h.block_some);
          at-le = omega arith;
          n_le = q.few;
          kept-le = omega (arith, ek, begun_kept p.ready h.kept-le);
          log_le = q.noted.inside;
          over-is = λ f. or_false e b (eb ∙ f) ∙ ee;
        };
        fine = q.fine;
        complete = q.noted.before;
        counted = q.counted.lent;
        gave = λ f w.
            record {
              new_bytes = take g.n block';
              logged = q.noted.after w;
              lines = λ t c.
                  to_come_before (take g.n block' ++ t) (not-ended h o (q.fine f))
                  ∙ lines_of-refill line_size e g.n k kept block' t (omega (arith, ek, lk, begun_kept p.ready h.kept-le))
                  (λ x. eqb-true g.n 0 (sym (q.ends f) ∙ sym ee ∙ x)) (λ x. c (sym ee ∙ x))
                  ∙ ap (λ (z : Bool). cond (e && ltb 0 k) (take k kept ∷ []) [] ++ cond z []
                  (lines_after line_size (take (cond (e && ltb 0 k) 0 k) kept) (drop 0 (take g.n block') ++ t))) ee;
            };
      }
