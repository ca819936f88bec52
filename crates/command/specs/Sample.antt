-- The palette of the sample: straight between five stops, from dark violet to yellow.
use Rattle.std.specs.Prelude.{cond, List, [], ◌∷◌, ℕ, ◌+◌, ◌-◌, ◌*◌, ◌/◌, ◌%◌, eqb, get_or}
use Rattle.leaves.specs.Lists.{tab}

-- red, green and blue of every 64th entry
unfoldable pub stops : List ℕ
stops = 68 ∷ 1 ∷ 84 ∷ 59 ∷ 82 ∷ 139 ∷ 33 ∷ 145 ∷ 140 ∷ 94 ∷ 201 ∷ 98 ∷ 253 ∷ 231 ∷ 37 ∷ []

-- a channel of an entry: 64ths of the way from one stop to the next
unfoldable pub channel_at : ℕ → ℕ → ℕ
channel_at entry channel =
    let n = entry / 64 * 3 + channel in
    (get_or stops n 0 * (64 - entry % 64) + get_or stops (n + 3) 0 * (entry % 64)) / 64

-- red, green, blue and alpha of 256 entries
unfoldable pub shade : ℕ → ℕ
shade i = cond (eqb (i % 4) 3) 255 (channel_at (i / 4) (i % 4))

unfoldable pub sample_palette : List ℕ
sample_palette = tab shade 1024
