-- `lister::work::reply`: a line that is taken, one that is not, and none. Assumes nothing.
use mathlib.Core.Path.{refl, sym}
use mathlib.Core.List.{append-nil}
use native.Mathlib.Numerals.{add-one}
use native.Mathlib.Omega.{arith}
use lib.ListN.{take}
use borrow.Author.Tests.{lt-ltb, le-ltb}
use Rattle.tool_lines.proofs.Tools.{replied_line, replied_none, replied_stop}
use Rattle.lister.specs.Stream.{lister}
use Rattle.lister.proofs.ListerText.{not_last, no_last, numbered}
use Rattle.lister.proofs.work.reply.Goals as goal

pub returns-then-number-eq4294967295 : goal.returns-then-number-eq4294967295
returns-then-number-eq4294967295 c =
    let a = c.args in
    replied_stop lister a.number a.r a.p a.kept.now a.out.now 1200 a.out.now c.if-r.true
    (le-ltb a.number 4294967295 (omega (arith, c.if-number-eq4294967295.true)))
    (sym (append-nil (take a.p.pending a.out.now))) (omega arith)

pub returns-then-r : goal.returns-then-r
returns-then-r c =
    let a = c.args in
    let d = c.answer-pending in
    replied_line lister a.number a.r a.p a.kept.now a.out.now 1200 d.new.out c.if-r.true
    (lt-ltb a.number 4294967295 (not_last a.number (omega arith) c.if-number-eq4294967295.false)) (add-one a.number)
    (no_last a.r.over (numbered (take a.p.pending a.out.now) (take a.r.kept a.kept.now) a.number d.ensures.0)) d.ensures.1

pub returns : goal.returns
returns c =
    let a = c.args in
    replied_none lister a.number a.r a.p a.kept.now a.out.now 1200 a.out.now c.if-r.false (no_last a.r.over refl)
    (omega arith)
