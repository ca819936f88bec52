-- The numbers of a cell as the code computes them: from its bytes, and under masks.
use Rattle.std.specs.Prelude.{ℕ, ◌+◌, ◌-◌, ◌*◌, ◌/◌, ◌%◌, ◌^◌, ◌<◌, cond, List, [], ◌∷◌, eqb, get_or}
use Rattle.std.specs.Int.Bits.{bit_and}
use Rattle.std.specs.Int.Count.{count_trailing_zeros}
use Rattle.cells.specs.declared.colours.Channel.{Channel}
use Rattle.cells.specs.declared.colours.Channels.{Channels}

-- cell x of cells of `size` bytes: blue, green, red
unfoldable pub bytes_quad : List ℕ → ℕ → ℕ → ℕ → List ℕ
bytes_quad file from size x = get_or file (from + x * size + 2) 0 ∷ get_or file (from + x * size + 1) 0 ∷ get_or file (from + x * size) 0 ∷ 0 ∷ []

-- where the byte of number k of four such cells stands, counted from five bytes before byte k; alpha, which has none, is behind the eight bytes there
unfoldable pub number_place : ℕ → ℕ → ℕ
number_place size k = k / 4 * size + 7 + k % 4 / 3 * 16 - k % 4 - k

-- a mask and the place of its lowest one; 0 for a zero mask
abbrev pub channel_at : ℕ → Channel
channel_at mask = record { mask = mask; shift = cond (eqb mask 0) 0 (count_trailing_zeros 32 mask) }

abbrev pub value_under : Channel → ℕ → ℕ
value_under channel word = bit_and word channel.mask / 2 ^ channel.shift

abbrev pub quad_under : Channels → ℕ → List ℕ
quad_under c word = value_under c.red word ∷ value_under c.green word ∷ value_under c.blue word ∷ value_under c.alpha word ∷ []

-- shifts that a word has
pub record ChannelsOk (c : Channels) : Type 0 where
  pub red : c.red.shift < 32
  pub green : c.green.shift < 32
  pub blue : c.blue.shift < 32
  pub alpha : c.alpha.shift < 32
