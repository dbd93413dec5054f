-- `rate::work::allocate`: each step's contract, put together. Assumes nothing.
use Prim.Native.Nat.{◌<◌, ◌≤◌}
use mathlib.Core.Path.{refl}
use native.Mathlib.Omega.{arith}
use Rattle.rate_spec.specs.Alloc.{alloc}
use Rattle.rate_spec.specs.Types.{Ask}
use Rattle.rate_bands.specs.Inputs.{alloc_in}
use Rattle.rate.proofs.Begins.{reserved-bare}
use Rattle.rate.proofs.Figures.{lists-same, worked-is}
use Rattle.rate.proofs.Joined.{Started, SkipDone, StereoAnswered, Numbered, skip_in, coded_range, left_le, split_in, listed_is, numbered}
use Rattle.rate.proofs.work.allocate.Given.{Over}
use Rattle.rate.proofs.work.allocate.Goals as goal
use Rattle.rate.proofs.work.allocate.Goals.{After-begin-b, After-dual-dual, After-skip-skipped, After-split_bands-balance, Start}

-- who answers, and from which state
abbrev asker : (g : Over) → Start g → Ask g.S.Side.State
asker g p = g.S.Side.ask p.args.side.now p.args.f

abbrev first : (g : Over) → Start g → g.S.Side.State
first g p = g.S.Side.state p.args.side.now

-- the bits before skipping
started : (g : Over) (c : After-begin-b g) → let a = c.args in
    Started a.f a.offsets.now a.caps.now c.begin-b.new.bits c.begin-b.result
started g c =
    record {
      frame = c.requires.0;
      lists = c.requires.1;
      blank = _;
      room = refl;
      bits_are = c.begin-b.ensures.1;
      begins = c.begin-b.ensures.0;
    }

-- the bands that are coded
went : (g : Over) (c : After-skip-skipped g) → let r = c.skip-skipped.result in
    SkipDone c.args.f c.begin-b.new.bits c.begin-b.result (asker g (goal.at.After-skip-skipped g c).Start) (first g (goal.at.After-skip-skipped g c).Start)
    r.coded r.left r.reserve r.stopped (g.S.Side.state c.skip-skipped.new.side) c.skip-skipped.new.kept
went g c = record { is = c.skip-skipped.ensures.ended }

range : (g : Over) (c : After-skip-skipped g) → let r = c.skip-skipped.result in
    (c.args.f.start < r.coded) × (r.coded ≤ c.args.f.end)
range g c =
    coded_range (started g (goal.at.After-skip-skipped g c).After-begin-b) (asker g (goal.at.After-skip-skipped g c).Start)
    (first g (goal.at.After-skip-skipped g c).Start) (went g c)

-- the stereo symbols, and the numbers
answered : (g : Over) (c : After-dual-dual g) →
    StereoAnswered c.args.f (asker g (goal.at.After-dual-dual g c).Start) c.skip-skipped.result.coded c.skip-skipped.result.reserve
    (g.S.Side.state c.skip-skipped.new.side) c.intensity-intensity.result c.dual-dual.result (g.S.Side.state c.dual-dual.new.side)
answered g c =
    let m = g.met.S.Side in
    let s = c.skip-skipped.ensures.same in
    let i = c.intensity-intensity.ensures in
    record {
      mid = g.S.Side.state c.intensity-intensity.new.side;
      intensity = rw (asker, m.answers _ _ s) i.answered;
      dual = rw (asker, m.answers _ _ (m.alike_next _ _ _ s i.same)) c.dual-dual.ensures.answered;
    }

counted : (g : Over) (c : After-split_bands-balance g) →
    Numbered (alloc (alloc_in c.args.f c.args.offsets.now c.args.caps.now) (asker g (goal.at.After-split_bands-balance g c).Start)
    (first g (goal.at.After-split_bands-balance g c).Start))
    c.skip-skipped.result.coded c.split_bands-balance.result c.intensity-intensity.result c.dual-dual.result (g.S.Side.state c.dual-dual.new.side)
counted g c =
    let p = goal.at.After-split_bands-balance g c in
    numbered (started g p.After-begin-b) (asker g p.Start) (first g p.Start) (went g p.After-skip-skipped) (answered g p.After-dual-dual)
    c.left_of-left.ensures c.split_bands-balance.ensures.filled.0

pub skip-skipped-requires : goal.skip-skipped-requires
skip-skipped-requires g c =
    let p = goal.at.skip-skipped-requires g c in
    (skip_in (started g p.After-begin-b) (asker g p.Start) (first g p.Start), c.requires.2, refl)

pub intensity-intensity-requires : goal.intensity-intensity-requires
intensity-intensity-requires g c =
    let r = range g (goal.at.intensity-intensity-requires g c).After-skip-skipped in
    (c.requires.0, r.0, omega (arith, r.1, c.requires.0.end-le), c.skip-skipped.ensures.ready)

pub dual-dual-requires : goal.dual-dual-requires
dual-dual-requires g c =
    let a = c.args in
    ((reserved-bare a.f a.offsets.now a.caps.now c.begin-b.ensures.0.reserved).dual-is, c.intensity-intensity.ensures.ready)

pub left_of-left-requires : goal.left_of-left-requires
left_of-left-requires g c =
    let a = c.args in
    let p = goal.at.left_of-left-requires g c in (
      c.requires.0,
      reserved-bare a.f a.offsets.now a.caps.now c.begin-b.ensures.0.reserved,
      left_le (started g p.After-begin-b) (asker g p.Start) (first g p.Start) (went g p.After-skip-skipped),
    )

pub split_bands-balance-requires : goal.split_bands-balance-requires
split_bands-balance-requires g c =
    let p = goal.at.split_bands-balance-requires g c in
    split_in (started g p.After-begin-b) (asker g p.Start) (first g p.Start) (went g p.After-skip-skipped) _ c.left_of-left.ensures

pub returns-clause-numbers : goal.returns-clause-numbers
returns-clause-numbers g c = worked-is (counted g (goal.at.returns-clause-numbers g c).After-split_bands-balance)

pub returns-clause-within : goal.returns-clause-within
returns-clause-within g c =
    let p = goal.at.returns-clause-within g c in
    let r = range g p.After-skip-skipped in
    let n = counted g p.After-split_bands-balance in
    let e = c.requires.0.end-le in
    let i = c.intensity-intensity.ensures.within in
    (omega (arith, r.1, e), n.balance-le, omega (arith, r.1, e, i))

pub returns-clause-filled : goal.returns-clause-filled
returns-clause-filled g c =
    let p = goal.at.returns-clause-filled g c in
    let l = c.left_of-left.ensures in
    let e = c.split_bands-balance.ensures.filled in
    let s = started g p.After-begin-b in
    let k = went g p.After-skip-skipped in
    let q = answered g p.After-dual-dual in
    lists-same (listed_is s (asker g p.Start) (first g p.Start) k q l (λ x. x.pulses) _ e.1)
    (listed_is s (asker g p.Start) (first g p.Start) k q l (λ x. x.fine) _ e.2)
    (listed_is s (asker g p.Start) (first g p.Start) k q l (λ x. x.prio) _ e.3)
