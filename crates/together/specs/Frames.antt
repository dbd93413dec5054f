-- Allocations over whole frames, as the public call reads them: three that libopus made while it decoded, and five of one band for what those do not
-- run of the split. The proofs are in proofs/Frames.antt.
use Rattle.std.specs.Prelude.{ℕ, Bool, false, List, [], ◌∷◌, map, ◌≡◌, ℤ, pos, replicate, Ok}
use Rattle.entdec.specs.declared.Reader.{Reader}
use Rattle.entdec.specs.Read.{fresh_reader}
use Rattle.rate.specs.declared.AllocNumbers.{AllocNumbers}
use Rattle.rate.specs.Question.{alloc_numbers, lists, no_entries, no_lists}
use Rattle.rate.specs.Answer.{AfterRead, after_read, numbers, reading}

-- ---- recorded

-- a call and what it answered
pub record Recorded : Type 0 where
  pub q : AllocNumbers
  pub offsets : List ℕ
  pub caps : List ℕ
  pub packet : List ℕ
  pub reader : Reader
  pub coded : ℕ
  pub balance : ℕ
  pub intensity : ℕ
  pub dual : Bool
  pub pulses : List ℕ
  pub fine : List ℕ
  pub priorities : List ℕ
  pub next : Reader

-- clt_compute_allocation_read gives the same
abbrev pub Same : Recorded → Type 0
Same r =
    reading r.q (map pos r.offsets) (map pos r.caps) r.packet r.reader no_lists
    ≡ after_read (Ok (numbers r.coded r.balance r.intensity r.dual r.next))
    (lists (map pos r.pulses) (map pos r.fine) (map pos r.priorities))

-- two channels, 10 ms: six bands are skipped, one of them with a fine bit, and the two lowest have two channels
unfoldable pub stereo : Recorded
stereo =
    record {
      q = alloc_numbers (pos 2) (pos 2) (pos 0) (pos 21) (pos 2) (pos 1536);
      offsets = 0 ∷ 0 ∷ 0 ∷ 0 ∷ 0 ∷ 0 ∷ 0 ∷ 0 ∷ 0 ∷ 0 ∷ 0 ∷ 0 ∷ 0 ∷ 0 ∷ 0 ∷ 0 ∷ 0 ∷ 0 ∷ 0 ∷ 0 ∷ 0 ∷ [];
      caps = 542 ∷ 542 ∷ 542 ∷ 542 ∷ 542 ∷ 542 ∷ 542 ∷ 542 ∷ 1072 ∷ 1072 ∷ 1072 ∷ 1072 ∷ 2120 ∷ 2120 ∷ 2120 ∷ 3024 ∷ 3024 ∷ 3840 ∷ 4920 ∷ 4680 ∷ 4576 ∷ [];
      packet =
          216 ∷ 30 ∷ 169 ∷ 140 ∷ 35 ∷ 226 ∷ 208 ∷ 57 ∷ 241 ∷ 105 ∷ 98 ∷ 237 ∷ 243 ∷ 122 ∷ 197 ∷ 183 ∷ 92 ∷ 239 ∷ 248 ∷ 44 ∷ 69 ∷ 226 ∷ 236 ∷ 116 ∷
          17 ∷ 201 ∷ 8 ∷ 38 ∷ 42 ∷ 114 ∷ 48 ∷ 49 ∷ 168 ∷ 203 ∷ 12 ∷ 73 ∷ 212 ∷ 234 ∷ 229 ∷ [];
      reader = record {
        storage = 39;
        offs = 17;
        ends = 4;
        window = 604829;
        waiting = 21;
        total = 148;
        rng = 149501440;
        val = 64801105;
        ext = 3136;
        rem = 92;
        error = false;
      };
      coded = 15;
      balance = 0;
      intensity = 2;
      dual = false;
      pulses = 117 ∷ 105 ∷ 95 ∷ 98 ∷ 88 ∷ 81 ∷ 75 ∷ 69 ∷ 111 ∷ 97 ∷ 99 ∷ 84 ∷ 119 ∷ 72 ∷ 34 ∷ 0 ∷ 0 ∷ 0 ∷ 0 ∷ 0 ∷ 0 ∷ [];
      fine = 1 ∷ 1 ∷ 1 ∷ 0 ∷ 0 ∷ 0 ∷ 0 ∷ 0 ∷ 1 ∷ 1 ∷ 0 ∷ 0 ∷ 1 ∷ 1 ∷ 1 ∷ 1 ∷ 0 ∷ 0 ∷ 0 ∷ 0 ∷ 0 ∷ [];
      priorities = 1 ∷ 1 ∷ 1 ∷ 0 ∷ 0 ∷ 0 ∷ 0 ∷ 1 ∷ 1 ∷ 1 ∷ 0 ∷ 0 ∷ 1 ∷ 1 ∷ 1 ∷ 0 ∷ 1 ∷ 1 ∷ 1 ∷ 1 ∷ 1 ∷ [];
      next = record {
        storage = 39;
        offs = 18;
        ends = 4;
        window = 604829;
        waiting = 21;
        total = 156;
        rng = 598005760;
        val = 442927496;
        ext = 4671920;
        rem = 239;
        error = false;
      };
    }

-- one channel, 2.5 ms: the lowest bands have one coefficient and hand on what they cannot use; two bands are skipped, with a flag that says go on
unfoldable pub small : Recorded
small =
    record {
      q = alloc_numbers (pos 1) (pos 0) (pos 0) (pos 21) (pos 3) (pos 645);
      offsets = 0 ∷ 0 ∷ 0 ∷ 0 ∷ 0 ∷ 0 ∷ 0 ∷ 0 ∷ 0 ∷ 0 ∷ 0 ∷ 0 ∷ 0 ∷ 0 ∷ 0 ∷ 0 ∷ 0 ∷ 0 ∷ 0 ∷ 0 ∷ 0 ∷ [];
      caps = 72 ∷ 72 ∷ 72 ∷ 72 ∷ 72 ∷ 72 ∷ 72 ∷ 72 ∷ 112 ∷ 112 ∷ 112 ∷ 112 ∷ 249 ∷ 249 ∷ 249 ∷ 363 ∷ 363 ∷ 464 ∷ 594 ∷ 562 ∷ 555 ∷ [];
      packet =
          32 ∷ 218 ∷ 131 ∷ 202 ∷ 35 ∷ 190 ∷ 247 ∷ 19 ∷ 96 ∷ 114 ∷ 174 ∷ 190 ∷ 251 ∷ 100 ∷ 138 ∷ 155 ∷ [];
      reader = record {
        storage = 16;
        offs = 9;
        ends = 0;
        window = 0;
        waiting = 0;
        total = 73;
        rng = 30589300;
        val = 21121141;
        ext = 3025;
        rem = 96;
        error = false;
      };
      coded = 19;
      balance = 0;
      intensity = 0;
      dual = false;
      pulses = 8 ∷ 8 ∷ 8 ∷ 8 ∷ 8 ∷ 8 ∷ 8 ∷ 8 ∷ 31 ∷ 26 ∷ 32 ∷ 29 ∷ 47 ∷ 49 ∷ 44 ∷ 49 ∷ 47 ∷ 50 ∷ 49 ∷ 0 ∷ 0 ∷ [];
      fine = 1 ∷ 2 ∷ 1 ∷ 1 ∷ 1 ∷ 1 ∷ 0 ∷ 1 ∷ 1 ∷ 1 ∷ 0 ∷ 0 ∷ 1 ∷ 0 ∷ 0 ∷ 1 ∷ 0 ∷ 0 ∷ 1 ∷ 1 ∷ 0 ∷ [];
      priorities = 0 ∷ 1 ∷ 0 ∷ 0 ∷ 1 ∷ 1 ∷ 0 ∷ 1 ∷ 1 ∷ 1 ∷ 0 ∷ 0 ∷ 1 ∷ 0 ∷ 0 ∷ 1 ∷ 0 ∷ 0 ∷ 1 ∷ 0 ∷ 1 ∷ [];
      next = record {
        storage = 16;
        offs = 10;
        ends = 0;
        window = 0;
        waiting = 0;
        total = 81;
        rng = 1957715200;
        val = 1491581894;
        ext = 3025;
        rem = 114;
        error = false;
      };
    }

-- one channel, 20 ms, with boosts: no flag is asked, and nothing is read
unfoldable pub boosted : Recorded
boosted =
    record {
      q = alloc_numbers (pos 1) (pos 3) (pos 0) (pos 21) (pos 4) (pos 2306);
      offsets = 0 ∷ 48 ∷ 0 ∷ 240 ∷ 240 ∷ 192 ∷ 48 ∷ 48 ∷ 0 ∷ 240 ∷ 96 ∷ 0 ∷ 384 ∷ 96 ∷ 0 ∷ 0 ∷ 384 ∷ 0 ∷ 0 ∷ 0 ∷ 0 ∷ [];
      caps = 514 ∷ 514 ∷ 514 ∷ 514 ∷ 514 ∷ 514 ∷ 514 ∷ 514 ∷ 1028 ∷ 1028 ∷ 1028 ∷ 1028 ∷ 2064 ∷ 2064 ∷ 2064 ∷ 2976 ∷ 2976 ∷ 3792 ∷ 4872 ∷ 4644 ∷ 4532 ∷ [];
      packet =
          223 ∷ 190 ∷ 168 ∷ 122 ∷ 5 ∷ 130 ∷ 42 ∷ 141 ∷ 218 ∷ 205 ∷ 220 ∷ 240 ∷ 76 ∷ 30 ∷ 154 ∷ 182 ∷ 127 ∷ 103 ∷ 193 ∷ 252 ∷ 61 ∷ 237 ∷ 134 ∷ 179 ∷
          113 ∷ 78 ∷ 180 ∷ 172 ∷ 161 ∷ 46 ∷ 73 ∷ 173 ∷ 122 ∷ 36 ∷ 174 ∷ 135 ∷ 51 ∷ 0 ∷ 64 ∷ 4 ∷ 212 ∷ 9 ∷ 170 ∷ 109 ∷ 230 ∷ 45 ∷ 39 ∷ 189 ∷
          197 ∷ 122 ∷ 38 ∷ 23 ∷ 169 ∷ 219 ∷ 229 ∷ 157 ∷ 104 ∷ 168 ∷ 29 ∷ 188 ∷ [];
      reader = record {
        storage = 60;
        offs = 26;
        ends = 4;
        window = 857347;
        waiting = 21;
        total = 220;
        rng = 364572956;
        val = 37696594;
        ext = 42716;
        rem = 78;
        error = false;
      };
      coded = 17;
      balance = 0;
      intensity = 0;
      dual = false;
      pulses = 80 ∷ 108 ∷ 61 ∷ 248 ∷ 241 ∷ 190 ∷ 71 ∷ 59 ∷ 29 ∷ 220 ∷ 78 ∷ 2 ∷ 324 ∷ 80 ∷ 4 ∷ 6 ∷ 321 ∷ 0 ∷ 0 ∷ 0 ∷ 0 ∷ [];
      fine = 1 ∷ 1 ∷ 1 ∷ 3 ∷ 3 ∷ 3 ∷ 1 ∷ 1 ∷ 1 ∷ 2 ∷ 1 ∷ 0 ∷ 2 ∷ 1 ∷ 0 ∷ 0 ∷ 2 ∷ 0 ∷ 0 ∷ 0 ∷ 0 ∷ [];
      priorities = 1 ∷ 0 ∷ 1 ∷ 0 ∷ 0 ∷ 1 ∷ 1 ∷ 1 ∷ 1 ∷ 0 ∷ 0 ∷ 0 ∷ 0 ∷ 0 ∷ 0 ∷ 0 ∷ 0 ∷ 1 ∷ 1 ∷ 1 ∷ 1 ∷ [];
      next = record {
        storage = 60;
        offs = 26;
        ends = 4;
        window = 857347;
        waiting = 21;
        total = 220;
        rng = 364572956;
        val = 37696594;
        ext = 42716;
        rem = 78;
        error = false;
      };
    }

-- the statement: each is read as it was recorded
abbrev pub RecordedFrames : Type 0
RecordedFrames = Same stereo × Same small × Same boosted

-- ---- one band

-- band 8 at LM 0 has two coefficients: a total and a cap
unfoldable pub alone : ℕ × ℕ → AfterRead
alone (total, cap) =
    reading (alloc_numbers (pos 1) (pos 0) (pos 8) (pos 9) (pos 5) (pos total)) no_entries (replicate 21 (pos cap)) (0 ∷ []) (fresh_reader (0 ∷ [])) no_lists

-- 21 entries of which band 8's is n, the others 0
abbrev pub eighth : ℕ → List ℤ
eighth n = pos 0 ∷ pos 0 ∷ pos 0 ∷ pos 0 ∷ pos 0 ∷ pos 0 ∷ pos 0 ∷ pos 0 ∷ pos n ∷ replicate 12 (pos 0)

-- accepted: band 8 has these pulses, fine bits and priority, and this balance is handed on; nothing is read
abbrev pub has : ℕ → ℕ → ℕ → ℕ → AfterRead
has pulses fine prio balance = after_read (Ok (numbers 9 balance 0 false (fresh_reader (0 ∷ []))))
    (lists (eighth pulses) (eighth fine) (eighth prio))

-- no fine bit is wanted; above the cap nothing, one and three further fine bits, the last of them all that it can have; more than 8 are wanted
abbrev pub OneBand : Type 0
OneBand =
    map alone ((9, 112) ∷ (113, 112) ∷ (120, 112) ∷ (150, 112) ∷ (1000, 32767) ∷ [])
    ≡ has 9 0 1 0 ∷ has 72 5 0 1 ∷ has 72 6 1 0 ∷ has 72 8 0 14 ∷ has 936 8 0 0 ∷ []
