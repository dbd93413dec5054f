-- `stream_saved::reads::energies`: what is left of the fields gives what all of them gave. Assumes nothing.
use Prim.Native.Nat.{ℕ, ◌+◌, ◌<◌}
use mathlib.Core.Path.{◌≡◌, ap, ◌∙◌}
use native.Mathlib.Omega.{arith}
use lib.Dec.{eqb}
use lib.ListN.{length, drop, length-append}
use borrow.Author.Rules.{rules}
use borrow.Author.Tests.{tests}
use Rattle.std.proofs.lemmas.Iterator.Adapters.{YieldsList-from_skip}
use Rattle.std.proofs.lemmas.Iterator.Consumers.{YieldsList-from_enumerate, YieldsList-turn, YieldsList-end, YieldsList-at}
use Rattle.std.proofs.lemmas.Iterator.Splits.{YieldsList-from_slice_split}
use Rattle.text.specs.Fields.{field_of}
use Rattle.stream_saved.specs.declared.Fields.{Fields}
use Rattle.stream_saved.specs.Fields.{energy_of}
use Rattle.stream_saved.specs.Loop.{read_from, read_field}
use Rattle.stream_saved.proofs.Energies.{said, said-length, read_next, read_none, numbered-length, field_in_turn}
use Rattle.stream_saved.proofs.reads.energies.Goals as goal
use Rattle.stream_saved.proofs.reads.energies.Goals.{After-energy_of}

-- which field the turn has
turn : (c : After-energy_of)
    → (length c.loop-k.yielded < 42) × (c.in-Some.k ≡ length c.loop-k.yielded) × (c.in-Some.field.now ≡ field_of c.args.s.now (length c.loop-k.yielded + 2))
turn c =
    let s = c.args.s.now in
    let p = c.split.ensures in
    let l = c.loop-k in
    let t = YieldsList-turn
    (YieldsList-at c.into_iter-k-iterator.ensures.into_iter_gives (YieldsList-from_enumerate (YieldsList-at c.enumerate-k-items.ensures.source
    (YieldsList-from_skip 2 (YieldsList-at c.skip.ensures.source
    (YieldsList-from_slice_split _ (λ b. eqb b 9) s p.rest p.done p.closure (λ x b q k. search (rules, tests)))) c.skip.ensures.count))
    c.enumerate-k-items.ensures.count))
    l.yielded l.k-iterator l.yielded_by c.next.result c.next.new.self (c.in-Some.k, c.in-Some.field) c.in-Some.is c.next.ensures.steps in
    field_in_turn s c.requires (length l.yielded) c.in-Some.k c.in-Some.field.now t.0 t.1

pub read_one-f-requires : goal.read_one-f-requires
read_one-f-requires c =
    let w = turn c in
    omega (arith, w.0, w.1)

pub loop-k-preserved : goal.loop-k-preserved
loop-k-preserved c =
    let s = c.args.s.now in
    let l = c.loop-k in
    let w = turn (goal.at.loop-k-preserved c).After-energy_of in
    rw length-append
    (ap (λ (f : Fields). read_from f (length l.yielded + 1) (drop (length l.yielded + 1) (said s c.args.letter)))
    (c.read_one-f.ensures ∙ ap (λ (k : ℕ). read_field l.f k c.energy_of.result) w.1)
    ∙ read_next s c.args.letter c.requires l.f (length l.yielded) w.0 (c.energy_of.ensures ∙ ap (energy_of c.args.letter) w.2) ∙ l.invariant)

pub returns : goal.returns
returns c =
    let s = c.args.s.now in
    let p = c.split.ensures in
    let l = c.loop-k in
    let t = YieldsList-end
    (YieldsList-at c.into_iter-k-iterator.ensures.into_iter_gives (YieldsList-from_enumerate (YieldsList-at c.enumerate-k-items.ensures.source
    (YieldsList-from_skip 2 (YieldsList-at c.skip.ensures.source
    (YieldsList-from_slice_split _ (λ b. eqb b 9) s p.rest p.done p.closure (λ x b q k. search (rules, tests)))) c.skip.ensures.count))
    c.enumerate-k-items.ensures.count))
    l.yielded l.k-iterator l.yielded_by c.next.result c.next.new.self c.in-None.is c.next.ensures.steps in
    let n = said-length s c.args.letter c.requires in
    let m = numbered-length s c.requires in
    read_none l.f (length l.yielded) (said s c.args.letter) (omega (arith, t.1, n, m)) ∙ l.invariant
