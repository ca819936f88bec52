-- The channels of a file's cells.
use Rattle.std.specs.Prelude.{ℕ, cond, List, eqb}
use Rattle.format.specs.Readers.{dword_at}
use Rattle.cells.specs.declared.colours.Channels.{Channels}
use Rattle.cells.specs.Quads.{channel_at}

-- five bits each from bits 10, 5, 0, without alpha
unfoldable pub five_bits : Channels
five_bits = record { red = channel_at 0x7C00; green = channel_at 0x03E0; blue = channel_at 0x001F; alpha = channel_at 0 }

-- those of a file: at 16 bits without masks five bits each from bits 10, 5, 0; alpha for compression 6 only
unfoldable pub channels_for : List ℕ → ℕ → Channels
channels_for file c =
    record {
      red = channel_at (cond (eqb c 0) 0x7C00 (dword_at file 54));
      green = channel_at (cond (eqb c 0) 0x03E0 (dword_at file 58));
      blue = channel_at (cond (eqb c 0) 0x001F (dword_at file 62));
      alpha = channel_at (cond (eqb c 0) 0 (cond (eqb c 6) (dword_at file 66) 0));
    }
