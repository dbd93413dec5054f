-- How the code finds a pair of the coarse-energy model: by its share of zero, among the decays that go with it. No public contract cites this;
-- modes/specs/EnergyModel.antt says which form of the pairs is for what.
use Rattle.std.specs.Prelude.{ℕ, ◌/◌, ◌%◌, Bool, cond, ◌||◌, List, [], ◌∷◌, eqb}

-- a share of zero in 256ths, and the decays that go with it in 256ths, up to five, each a byte of one number
pub record DecayRow : Type 0 where
  pub share : ℕ
  pub decays : ℕ

-- made of its two parts
abbrev pub decay_row : ℕ → ℕ → DecayRow
decay_row z w = record { share = z; decays = w }

-- by rising share
unfoldable pub decay_rows : List DecayRow
decay_rows =
    decay_row 21 0xb2 ∷ decay_row 22 0xb2 ∷ decay_row 23 0xb2 ∷ decay_row 24 0xb3 ∷ decay_row 42 0x79 ∷ decay_row 48 0x8a ∷ decay_row 53 0x86 ∷
    decay_row 54 0x87_84_73 ∷ decay_row 55 0x84 ∷ decay_row 56 0x85 ∷ decay_row 59 0x6e ∷ decay_row 61 0x72_5a ∷ decay_row 62 0x80 ∷ decay_row 63 0x72_66 ∷
    decay_row 64 0x80 ∷ decay_row 65 0x81_80 ∷ decay_row 66 0x80_62 ∷ decay_row 69 0x63 ∷ decay_row 70 0x60 ∷ decay_row 71 0x5b_56 ∷ decay_row 72 0x7f ∷
    decay_row 73 0x5b ∷ decay_row 74 0x59_58_52 ∷ decay_row 75 0x58_55 ∷ decay_row 77 0x2d_2a_28 ∷ decay_row 78 0x59_32 ∷ decay_row 83 0x4e ∷
    decay_row 84 0x53_51 ∷ decay_row 86 0x50_4a ∷ decay_row 87 0x4a_48_47 ∷ decay_row 88 0x4b_49 ∷ decay_row 89 0x42 ∷ decay_row 90 0x4f_49 ∷
    decay_row 91 0x43_42 ∷ decay_row 92 0x52_4f_4e_4b_42 ∷ decay_row 93 0x4a_40_3c ∷ decay_row 96 0x48_43_42 ∷ decay_row 97 0x2b_26_21 ∷
    decay_row 98 0x48_23 ∷ decay_row 100 0x3b ∷ decay_row 101 0x49 ∷ decay_row 102 0x3b ∷ decay_row 103 0x3e_3c ∷ decay_row 104 0x3c ∷
    decay_row 105 0x3a_2a ∷ decay_row 107 0x48_36_29 ∷ decay_row 108 0x32_2b ∷ decay_row 109 0x28 ∷ decay_row 110 0x2d ∷ decay_row 111 0x28 ∷
    decay_row 112 0x38_26 ∷ decay_row 113 0x37_26 ∷ decay_row 114 0x37_28_24 ∷ decay_row 115 0x34_28 ∷ decay_row 116 0x29_26 ∷ decay_row 117 0x37_34_2c_22 ∷
    decay_row 118 0x34 ∷ decay_row 119 0x21 ∷ decay_row 120 0x28_24 ∷ decay_row 122 0x25 ∷ decay_row 123 0x2c_20 ∷ decay_row 124 0x1a ∷ decay_row 125 0x34 ∷
    decay_row 127 0x21 ∷ decay_row 129 0x33 ∷ decay_row 132 0x28_1b_1a ∷ decay_row 133 0x1f ∷ decay_row 134 0x22 ∷ decay_row 135 0x31 ∷ decay_row 136 0x13 ∷
    decay_row 137 0x27 ∷ decay_row 138 0x23 ∷ decay_row 139 0x15_0f ∷ decay_row 140 0x1d_14 ∷ decay_row 143 0x11 ∷ decay_row 145 0x1d_12_11 ∷
    decay_row 146 0x13 ∷ decay_row 147 0x17 ∷ decay_row 150 0x21_0d ∷ decay_row 152 0x14 ∷ decay_row 154 0x1a ∷ decay_row 155 0x0e ∷ decay_row 157 0x20 ∷
    decay_row 158 0x19_12 ∷ decay_row 159 0x10_0a ∷ decay_row 161 0x0c ∷ decay_row 162 0x0c ∷ decay_row 165 0x0a ∷ decay_row 166 0x15 ∷ decay_row 170 0x0d ∷
    decay_row 173 0x10 ∷ decay_row 175 0x09 ∷ decay_row 176 0x0a ∷ decay_row 177 0x0b_0a_09 ∷ decay_row 178 0x07 ∷ decay_row 184 0x0d_0a ∷
    decay_row 187 0x08 ∷ decay_row 189 0x06 ∷ decay_row 190 0x08 ∷ decay_row 192 0x06 ∷ []

-- the decays in the first row with this share, none where there is none
unfoldable pub decays_in : List DecayRow → ℕ → ℕ
decays_in [] z = 0
decays_in (r ∷ rs) z = cond (eqb z r.share) r.decays (decays_in rs z)

-- the decays that go with a share of zero in the model
unfoldable pub decays_for : ℕ → ℕ
decays_for z = decays_in decay_rows z

-- d is one of the five bytes of w
abbrev pub holds : ℕ → ℕ → Bool
holds w d =
    eqb (w % 256) d || eqb (w / 256 % 256) d || eqb (w / 65536 % 256) d || eqb (w / 16777216 % 256) d || eqb (w / 4294967296) d
