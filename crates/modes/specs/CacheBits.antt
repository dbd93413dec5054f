-- The pulse cache, RFC 6716, section 4.3.4.1 (cache_bits50): rows one after the other. A row starts with its length; entry i after it is one
-- less than what the i-th number of pulses costs, in eighths of a bit.
-- The cache stands in three forms. Definitions cite this list, with cache_index (CacheIndex.antt) for where rows start. src/cache_bits.rt has it as a
-- const, to lend to a search that reads several entries of a row: the contract of `table` says that it is this list. rate_cache packs starts, lengths
-- and entries into numbers (rate_cache/specs/Packed.antt), for a lookup that reads one of each: `mark_in` and `entry_in` (rate_cache/proofs/Packings.antt)
-- say that they are these lists'.
use Rattle.std.specs.Prelude.{ℕ, ◌+◌, ◌≤◌, ◌<◌, List, [], ◌∷◌, get_or}

-- one row to a line
unfoldable pub cache_bits : List ℕ
cache_bits =
    40 ∷ 7 ∷ 7 ∷ 7 ∷ 7 ∷ 7 ∷ 7 ∷ 7 ∷ 7 ∷ 7 ∷ 7 ∷ 7 ∷ 7 ∷ 7 ∷ 7 ∷ 7 ∷ 7 ∷ 7 ∷ 7 ∷ 7 ∷ 7 ∷ 7 ∷ 7 ∷ 7 ∷ 7 ∷ 7 ∷ 7 ∷ 7 ∷ 7 ∷ 7 ∷ 7 ∷ 7 ∷ 7 ∷ 7 ∷ 7 ∷ 7 ∷ 7 ∷ 7 ∷ 7 ∷
    7 ∷ 7 ∷
    40 ∷ 15 ∷ 23 ∷ 28 ∷ 31 ∷ 34 ∷ 36 ∷ 38 ∷ 39 ∷ 41 ∷ 42 ∷ 43 ∷ 44 ∷ 45 ∷ 46 ∷ 47 ∷ 47 ∷ 49 ∷ 50 ∷ 51 ∷ 52 ∷ 53 ∷ 54 ∷ 55 ∷ 55 ∷ 57 ∷ 58 ∷ 59 ∷ 60 ∷ 61 ∷ 62 ∷
    63 ∷ 63 ∷ 65 ∷ 66 ∷ 67 ∷ 68 ∷ 69 ∷ 70 ∷ 71 ∷ 71 ∷
    40 ∷ 20 ∷ 33 ∷ 41 ∷ 48 ∷ 53 ∷ 57 ∷ 61 ∷ 64 ∷ 66 ∷ 69 ∷ 71 ∷ 73 ∷ 75 ∷ 76 ∷ 78 ∷ 80 ∷ 82 ∷ 85 ∷ 87 ∷ 89 ∷ 91 ∷ 92 ∷ 94 ∷ 96 ∷ 98 ∷ 101 ∷ 103 ∷ 105 ∷ 107 ∷
    108 ∷ 110 ∷ 112 ∷ 114 ∷ 117 ∷ 119 ∷ 121 ∷ 123 ∷ 124 ∷ 126 ∷ 128 ∷
    40 ∷ 23 ∷ 39 ∷ 51 ∷ 60 ∷ 67 ∷ 73 ∷ 79 ∷ 83 ∷ 87 ∷ 91 ∷ 94 ∷ 97 ∷ 100 ∷ 102 ∷ 105 ∷ 107 ∷ 111 ∷ 115 ∷ 118 ∷ 121 ∷ 124 ∷ 126 ∷ 129 ∷ 131 ∷ 135 ∷ 139 ∷ 142 ∷
    145 ∷ 148 ∷ 150 ∷ 153 ∷ 155 ∷ 159 ∷ 163 ∷ 166 ∷ 169 ∷ 172 ∷ 174 ∷ 177 ∷ 179 ∷
    35 ∷ 28 ∷ 49 ∷ 65 ∷ 78 ∷ 89 ∷ 99 ∷ 107 ∷ 114 ∷ 120 ∷ 126 ∷ 132 ∷ 136 ∷ 141 ∷ 145 ∷ 149 ∷ 153 ∷ 159 ∷ 165 ∷ 171 ∷ 176 ∷ 180 ∷ 185 ∷ 189 ∷ 192 ∷ 199 ∷ 205 ∷
    211 ∷ 216 ∷ 220 ∷ 225 ∷ 229 ∷ 232 ∷ 239 ∷ 245 ∷ 251 ∷
    21 ∷ 33 ∷ 58 ∷ 79 ∷ 97 ∷ 112 ∷ 125 ∷ 137 ∷ 148 ∷ 157 ∷ 166 ∷ 174 ∷ 182 ∷ 189 ∷ 195 ∷ 201 ∷ 207 ∷ 217 ∷ 227 ∷ 235 ∷ 243 ∷ 251 ∷
    17 ∷ 35 ∷ 63 ∷ 86 ∷ 106 ∷ 123 ∷ 139 ∷ 152 ∷ 165 ∷ 177 ∷ 187 ∷ 197 ∷ 206 ∷ 214 ∷ 222 ∷ 230 ∷ 237 ∷ 250 ∷
    25 ∷ 31 ∷ 55 ∷ 75 ∷ 91 ∷ 105 ∷ 117 ∷ 128 ∷ 138 ∷ 146 ∷ 154 ∷ 161 ∷ 168 ∷ 174 ∷ 180 ∷ 185 ∷ 190 ∷ 200 ∷ 208 ∷ 215 ∷ 222 ∷ 229 ∷ 235 ∷ 240 ∷ 245 ∷ 255 ∷
    16 ∷ 36 ∷ 65 ∷ 89 ∷ 110 ∷ 128 ∷ 144 ∷ 159 ∷ 173 ∷ 185 ∷ 196 ∷ 207 ∷ 217 ∷ 226 ∷ 234 ∷ 242 ∷ 250 ∷
    11 ∷ 41 ∷ 74 ∷ 103 ∷ 128 ∷ 151 ∷ 172 ∷ 191 ∷ 209 ∷ 225 ∷ 241 ∷ 255 ∷
    9 ∷ 43 ∷ 79 ∷ 110 ∷ 138 ∷ 163 ∷ 186 ∷ 207 ∷ 227 ∷ 246 ∷
    12 ∷ 39 ∷ 71 ∷ 99 ∷ 123 ∷ 144 ∷ 164 ∷ 182 ∷ 198 ∷ 214 ∷ 228 ∷ 241 ∷ 253 ∷
    9 ∷ 44 ∷ 81 ∷ 113 ∷ 142 ∷ 168 ∷ 192 ∷ 214 ∷ 235 ∷ 255 ∷
    7 ∷ 49 ∷ 90 ∷ 127 ∷ 160 ∷ 191 ∷ 220 ∷ 247 ∷
    6 ∷ 51 ∷ 95 ∷ 134 ∷ 170 ∷ 203 ∷ 234 ∷
    7 ∷ 47 ∷ 87 ∷ 123 ∷ 155 ∷ 184 ∷ 212 ∷ 237 ∷
    6 ∷ 52 ∷ 97 ∷ 137 ∷ 174 ∷ 208 ∷ 240 ∷
    5 ∷ 57 ∷ 106 ∷ 151 ∷ 192 ∷ 231 ∷
    5 ∷ 59 ∷ 111 ∷ 158 ∷ 202 ∷ 243 ∷
    5 ∷ 55 ∷ 103 ∷ 147 ∷ 187 ∷ 224 ∷
    5 ∷ 60 ∷ 113 ∷ 161 ∷ 206 ∷ 248 ∷
    4 ∷ 65 ∷ 122 ∷ 175 ∷ 224 ∷
    4 ∷ 67 ∷ 127 ∷ 182 ∷ 234 ∷ []

-- how many entries the row that starts here has after its length
unfoldable pub row_length : ℕ → ℕ
row_length start = get_or cache_bits start 0

-- entry i of the row that starts here
unfoldable pub row_entry : ℕ → ℕ → ℕ
row_entry start i = get_or cache_bits (start + i) 0

-- a row starts here: it lies inside the table, and its entries never fall
pub record CacheRow (start : ℕ) : Type 0 where
  pub length-least : 4 ≤ row_length start
  pub length_most : row_length start ≤ 40
  pub inside : start + row_length start < 392
  pub entry-least : (i : ℕ) → 1 ≤ i → i ≤ row_length start → 7 ≤ row_entry start i
  pub entry-le : (i j : ℕ) → 1 ≤ i → i ≤ j → j ≤ row_length start → row_entry start i ≤ row_entry start j
