-- A program that answers lines: from turn to turn nothing is lost and nothing added, and at the end all is written. Assumes nothing.
use Prim.Native.Nat.{ℕ, ◌+◌, ◌<◌, ◌≤◌}
use mathlib.Core.Path.{◌≡◌, refl, sym, ap, subst, ◌∙◌}
use mathlib.Core.Bool.{Bool, true, false, cond, not, ◌&&◌, true≢false, false≢true, and-eq-true_iff}
use mathlib.Core.List.{List, [], ◌∷◌, ◌++◌, map, append-nil, append_assoc}
use native.Mathlib.Omega.{arith}
use lib.Dec.{eqb}
use lib.ListN.{length, take}
use borrow.Author.Tests.{eq-eqb}
use Rattle.tool_io.specs.declared.Input.{Input}
use Rattle.tool_io.specs.declared.Output.{Output}
use Rattle.tool_io.specs.Moved.{NewInput, NewOutput, OneWrite}
use Rattle.text.specs.Lines.{lines_of, cut_to}
use Rattle.text.proofs.Blocks.{whole_stream}
use Rattle.tool_lines.specs.declared.Reader.{Reader}
use Rattle.tool_lines.specs.declared.Pen.{Pen}
use Rattle.tool_lines.specs.Reading.{lines_after, ready_line, lines_to_come, InBounds, Stepped, AtStart}
use Rattle.tool_lines.specs.Tool.{Tool, text_of_lines, text_of, Ran, Running, Replied, Flushed}

-- ---- the text

-- the first of both
and_left : (a b : Bool) → (a && b) ≡ true → a ≡ true
and_left a b e = ((and-eq-true_iff a b).0 e).0

-- where no write failed, whether to go on is as it was
and_not_false : (a b : Bool) → b ≡ false → (a && not b) ≡ a
and_not_false true b e = ap not e
and_not_false false b e = refl

-- the text is handed over
pub text_handed_over : (p : Pen) (out log : List ℕ) (dry : Bool) (most : ℕ) {o : Output} {l : Bool} (log' calls : List ℕ)
    → OneWrite p.output log (take p.pending out) o log' calls → l ≡ o.failed
    → Flushed p out log dry most (record { pending = 0; on = p.on && not l; output = o }) log' calls
text_handed_over p out log dry most {o} {l} log' calls q e =
    record {
      room = omega arith;
      inside = q.noted.inside;
      counted = q.counted.lent;
      empty = λ f. refl;
      prompt = λ f. refl;
      going = λ f. and_left p.on (not l) f;
      fine = q.fine;
      same = λ f. and_not_false p.on l (e ∙ f);
      complete = q.noted.before;
      text = λ f. append-nil (take o.logged log') ∙ q.noted.after f;
    }

-- ---- a line

-- the last text, where the input is over
abbrev pub end_text_if : {S : Type 0} → Tool S → S → Bool → List ℕ
end_text_if T s over = cond over (T.end_text s) []

-- what is not over
not-true : (o : Bool) → not o ≡ true → o ≡ false
not-true true e = absurd (false≢true e)
not-true false e = refl

module _ {S : Type 0} (T : Tool S) (s : S) where
  -- the text so far and the last text, where the input is over; else what is to come
  text-at-end : (o : Bool) (A B : List ℕ) (ls : List (List ℕ)) → (o ≡ true → ls ≡ []) → A ≡ B ++ end_text_if T s o
      → A ++ cond (not o) (text_of_lines T s ls) [] ≡ B ++ text_of_lines T s ls
  unfolding text_of_lines
  text-at-end true A B ls h e = rw (h refl) (append-nil A ∙ e)
  text-at-end false A B ls h e = ap (λ (x : List ℕ). x ++ text_of_lines T s ls) (e ∙ append-nil B)

  -- a line that is taken
  text_of-taken : (l : List ℕ) (ls : List (List ℕ)) → T.takes s ≡ true → text_of_lines T s (l ∷ ls) ≡ T.line_text s l ++ text_of_lines T (T.next s l) ls
  unfolding text_of_lines
  text_of-taken l ls e = rw e

  -- a line that is not taken
  text_of-not-taken : (l : List ℕ) (ls : List (List ℕ)) → T.takes s ≡ false → text_of_lines T s (l ∷ ls) ≡ T.stop_text s
  unfolding text_of_lines
  text_of-not-taken l ls e = rw e

module _ {S : Type 0} (T : Tool S) (s : S) (r : Reader) (p : Pen) (kept out : List ℕ) (more : ℕ) {w : ℕ} (out' : List ℕ) where
  -- a line is answered
  pub replied_line : {s' : S} → r.ready ≡ true → T.takes s ≡ true → s' ≡ T.next s (take r.kept kept)
      → take w out' ≡ (take p.pending out ++ T.line_text s (take r.kept kept)) ++ end_text_if T s' r.over → w ≤ p.pending + more
      → Replied T s r p kept out more s' (record { pending = w; on = not r.over; output = p.output }) out'
  replied_line {s'} a b c d e =
      record {
        text = λ ls h.
            let l : List ℕ = take r.kept kept in
            text-at-end T s' r.over (take w out') (take p.pending out ++ T.line_text s l) ls h d
            ∙ append_assoc (take p.pending out) (T.line_text s l) (text_of_lines T s' ls)
            ∙ ap (λ (x : S). take p.pending out ++ (T.line_text s l ++ text_of_lines T x ls)) c
            ∙ ap (λ (x : List ℕ). take p.pending out ++ x) (sym (text_of-taken T s l ls b))
            ∙ ap (λ (x : Bool). take p.pending out ++ text_of_lines T s (cond x (l ∷ []) [] ++ ls)) (sym a);
        room = e;
        output = refl;
        going = not-true r.over;
      }

  -- there is no line yet, or none any more
  pub replied_none : r.ready ≡ false → take w out' ≡ take p.pending out ++ end_text_if T s r.over → w ≤ p.pending + more
      → Replied T s r p kept out more s (record { pending = w; on = not r.over; output = p.output }) out'
  replied_none a d e =
      record {
        text = λ ls h. text-at-end T s r.over (take w out') (take p.pending out) ls h d ∙
            ap (λ (x : Bool). take p.pending out ++ text_of_lines T s (cond x (take r.kept kept ∷ []) [] ++ ls)) (sym a);
        room = e;
        output = refl;
        going = not-true r.over;
      }

  -- a line follows that is not taken
  pub replied_stop : r.ready ≡ true → T.takes s ≡ false → take w out' ≡ take p.pending out ++ T.stop_text s → w ≤ p.pending + more
      → Replied T s r p kept out more s (record { pending = w; on = false; output = p.output }) out'
  replied_stop a b d e =
      record {
        text = λ ls h.
            let l : List ℕ = take r.kept kept in
            append-nil (take w out') ∙ d ∙ ap (λ (x : List ℕ). take p.pending out ++ x) (sym (text_of-not-taken T s l ls b))
            ∙ ap (λ (x : Bool). take p.pending out ++ text_of_lines T s (cond x (l ∷ []) [] ++ ls)) (sym a);
        room = e;
        output = refl;
        going = λ x. absurd (false≢true x);
      }

-- ---- a turn

-- no line is to come after the input's end
none-after-end : (line_size : ℕ) (r : Reader) (kept block t : List ℕ) → r.input.ended ≡ true → lines_to_come line_size r kept block t ≡ []
unfolding lines_to_come
none-after-end line_size r kept block t e = rw e

-- before the first byte all lines are to come
all-to_come : (line_size : ℕ) (r : Reader) (kept block t : List ℕ) → r.input.ended ≡ false → (r.at ≡ 0) × (r.n ≡ 0) × (r.kept ≡ 0) × (r.ready ≡ false)
    → lines_to_come line_size r kept block t ≡ lines_after line_size [] t
unfolding lines_to_come
all-to_come line_size r kept block t e b = rw (e, b.0, b.1, b.2, b.3)

-- One input among several: with G the text as the lines to come of this input decide it, and H as its bytes do, a step of its reader keeps
-- the promise. The other inputs' bytes stand still, in G and H.
pub step_keeps : (line_size : ℕ) (G : List (List ℕ) → List ℕ) (H : List ℕ → List ℕ) (p : Reader) (kept block log : List ℕ) (r : Reader)
    (kept' block' log' calls : List ℕ)
    → InBounds line_size p (length block) (length log) → p.over ≡ false → Stepped line_size p kept block log r kept' block' log' calls → r.input.failed ≡ false
    → r.input.complete ≡ true
    → ((t : List ℕ) → (p.input.ended ≡ true → t ≡ []) → G (lines_to_come line_size p kept block t) ≡ H (take p.input.logged log ++ t))
    → (t : List ℕ) → (r.input.ended ≡ true → t ≡ []) → G (ready_line r kept' ++ lines_to_come line_size r kept' block' t) ≡ H (take r.input.logged log' ++ t)
step_keeps line_size G H p kept block log r kept' block' log' calls h o w f c d t g =
    let k = w.gave f c in
    let e : p.input.ended ≡ false = sym (h.over-is (w.fine f)) ∙ o in
    ap G (sym (k.lines t g)) ∙ d (k.new_bytes ++ t) (λ x. absurd (true≢false (sym x ∙ e)))
    ∙ ap H (sym (append_assoc (take p.input.logged log) k.new_bytes t) ∙ ap (λ (x : List ℕ). x ++ t) (sym k.logged))

-- the lines of all bytes are those of the definition, each cut to what is kept
pub whole-input : (line_size : ℕ) → 0 < line_size → (s : List ℕ) → lines_after line_size [] s ≡ map (cut_to line_size) (lines_of s)
unfolding lines_after
whole-input line_size h s = whole_stream line_size h s

module _ {S : Type 0} (T : Tool S) (s₀ : S) where
  -- a turn keeps what holds between turns: the text handed over, the line answered, and the next one read
  turn-keeps-at : (s : S) (r₀ r : Reader) (p : Pen) (most more : ℕ) (block kept out seen sent reads writes block' kept' seen' reads' : List ℕ)
      {s' : S} {p₁ p₂ : Pen} (out' sent' writes' : List ℕ)
      → Running T s₀ s r₀ p most more block kept out seen sent reads writes → p.on ≡ true → length kept' ≡ length kept → length out' ≡ length out
      → Stepped T.line_size r₀ kept block seen r kept' block' seen' reads'
      → Replied T s r p kept' out more s' p₁ out'
      → Flushed p₁ out' sent (eqb r.at r.n) most p₂ sent' writes'
      → Running T s₀ s' r p₂ most more block' kept' out' seen' sent' reads' writes'
  turn-keeps-at s r₀ r p most more block kept out seen sent reads writes block' kept' seen' reads' {s'} {p₁} {p₂} out' sent' writes' R on lk lo w q f =
      record {
        some = R.some;
        bounds = w.bounds;
        line = lk ∙ R.line;
        free = omega (arith, lo, R.free);
        room = f.room;
        log_le = f.inside;
        read_count = w.counted;
        write-count = f.counted;
        going = λ e. q.going (f.going e);
        empty = f.empty;
        prompt = λ e. f.prompt (eq-eqb r.at r.n e);
        accounted = λ a b c d t g.
            let b₁ : p₁.output.failed ≡ false = f.fine b in
            let b₀ : p.output.failed ≡ false = sym (ap (λ (z : Output). z.failed) q.output) ∙ b₁ in
            let d₁ : p₁.output.complete ≡ true = f.complete d in
            let d₀ : p.output.complete ≡ true = sym (ap (λ (z : Output). z.complete) q.output) ∙ d₁ in
            let a₀ : r₀.input.failed ≡ false = w.fine a in
            let en : r₀.input.ended ≡ false = sym (R.bounds.over-is a₀) ∙ R.going on in
            let k = w.gave a c in
            let ls : List (List ℕ) = lines_to_come T.line_size r kept' block' t in
            let none : r.over ≡ true → ls ≡ [] = λ o. none-after-end T.line_size r kept' block' t (sym (w.bounds.over-is a) ∙ o) in
            let m : List ℕ = take p₁.output.logged sent in
            -- the text in the buffer is handed over
            ap (λ (x : List ℕ). x ++ cond p₂.on (text_of_lines T s' ls) []) (f.text d)
            ∙ ap (λ (x : Bool). (m ++ take p₁.pending out') ++ cond x (text_of_lines T s' ls) []) (f.same b)
            -- the line was answered
            ∙ append_assoc m (take p₁.pending out') (cond p₁.on (text_of_lines T s' ls) [])
            ∙ ap (λ (x : List ℕ). m ++ x) (q.text ls none)
            ∙ sym (append_assoc m (take p.pending out) (text_of_lines T s (ready_line r kept' ++ ls)))
            ∙ ap (λ (x : Output). (take x.logged sent ++ take p.pending out) ++ text_of_lines T s (ready_line r kept' ++ ls)) q.output
            -- it was the next one
            ∙ ap (λ (x : List (List ℕ)). (take p.output.logged sent ++ take p.pending out) ++ text_of_lines T s x) (sym (k.lines t g))
            ∙ ap (λ (x : Bool). (take p.output.logged sent ++ take p.pending out) ++ cond x
            (text_of_lines T s (lines_to_come T.line_size r₀ kept block (k.new_bytes ++ t))) [])
            (sym on)
            ∙ R.accounted a₀ b₀ (w.complete c) d₀ (k.new_bytes ++ t) (λ e. absurd (true≢false (sym e ∙ en)))
            ∙ ap (λ (x : List ℕ). text_of_lines T s₀ (lines_after T.line_size [] x))
            (sym (append_assoc (take r₀.input.logged seen) k.new_bytes t) ∙ ap (λ (x : List ℕ). x ++ t) (sym k.logged));
      }

  -- a step of the reader, a reply and a flush
  pub turn-keeps : (s : S) (r₀ r : Reader) (p : Pen) (most more : ℕ) (block kept out seen sent reads writes block' kept' seen' reads' : List ℕ)
      {s' : S} {p₁ p₂ : Pen} (out' sent' writes' : List ℕ)
      → Running T s₀ s r₀ p most more block kept out seen sent reads writes → p.on ≡ true → length kept' ≡ length kept → length out' ≡ length out
      → Stepped (length kept) r₀ kept block seen r kept' block' seen' reads'
      → Replied T s r p kept' out more s' p₁ out'
      → Flushed p₁ out' sent (eqb r.at r.n) most p₂ sent' writes'
      → Running T s₀ s' r p₂ most more block' kept' out' seen' sent' reads' writes'
  turn-keeps s r₀ r p most more block kept out seen sent reads writes block' kept' seen' reads' out' sent' writes' R on lk lo w q f =
      turn-keeps-at s r₀ r p most more block kept out seen sent reads writes block' kept' seen' reads' out' sent' writes' R on lk lo
      (subst (λ (n : ℕ). Stepped n r₀ kept block seen r kept' block' seen' reads') R.line w) q f

  -- ---- the start and the end

  -- it holds before the first byte
  pub start-holds : (i : Input) (o : Output) {r : Reader} {p : Pen} (most more : ℕ) (block kept out seen sent reads writes : List ℕ)
      → NewInput i → NewOutput o → AtStart i r → (p.pending ≡ 0) × (p.on ≡ true) × (p.output ≡ o)
      → 0 < length block → 0 < T.line_size → length kept ≡ T.line_size → most + more ≤ length out → reads ≡ i.calls ∷ [] → writes ≡ o.calls ∷ []
      → Running T s₀ s₀ r p most more block kept out seen sent reads writes
  start-holds i o {r} {p} most more block kept out seen sent reads writes fi fo b q hb hs hk ho er ew =
      let z : r.input.logged ≡ 0 = ap (λ (x : Input). x.logged) b.input ∙ fi.unlogged in
      let e : r.input.ended ≡ false = ap (λ (x : Input). x.ended) b.input ∙ fi.going in
      let y : p.output.logged ≡ 0 = ap (λ (x : Output). x.logged) q.2 ∙ fo.unlogged in
      record {
        some = hs;
        bounds = record {
          block_some = hb;
          at-le = omega (arith, b.empty.0);
          n_le = omega (arith, b.empty.1);
          kept-le = omega (arith, b.empty.2);
          log_le = omega (arith, z);
          over-is = λ f. b.going ∙ sym e;
        };
        line = hk;
        free = ho;
        room = omega (arith, q.0);
        log_le = omega (arith, y);
        read_count = er ∙ ap (λ (x : Input). x.calls ∷ []) (sym b.input);
        write-count = ew ∙ ap (λ (x : Output). x.calls ∷ []) (sym q.2);
        going = λ f. b.going;
        empty = λ f. q.0;
        prompt = λ f. q.0;
        accounted = λ a c d f t g. rw (all-to_come T.line_size r kept block t e b.empty, y, q.0, q.1, z);
      }

  -- a program that ended has written the text for all that it read
  pub end-holds : {s : S} {r : Reader} {p : Pen} {most more : ℕ} {block kept out reads writes : List ℕ} (seen sent : List ℕ)
      → Running T s₀ s r p most more block kept out seen sent reads writes → p.on ≡ false → Ran T s₀ r.input p.output seen sent
  unfolding text_of
  end-holds {s} {r} {p} {most} {more} {block} {kept} {out} {reads} {writes} seen sent R off =
      record {
        all = λ a b c d t g.
            sym (append-nil (take p.output.logged sent)) ∙ sym (append-nil (take p.output.logged sent ++ []))
            ∙ ap (λ (x : ℕ). (take p.output.logged sent ++ take x out) ++ []) (sym (R.empty off))
            ∙ ap (λ (x : Bool). (take p.output.logged sent ++ take p.pending out) ++ cond x (text_of_lines T s (lines_to_come T.line_size r kept block t))
            []) (sym off)
            ∙ R.accounted a b c d t g ∙ ap (text_of_lines T s₀) (whole-input T.line_size R.some (take r.input.logged seen ++ t));
      }

-- ---- the turns
