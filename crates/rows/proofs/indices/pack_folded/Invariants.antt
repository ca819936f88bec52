use Rattle.std.proofs.Common.{◌≡◌, ℕ, ◌+◌, ◌*◌, List, get_or, drop}
use Rattle.leaves.specs.Lists.{tab}
use Rattle.leaves.specs.Put.{put}
use Rattle.rows.specs.Packing.{packed_byte_of}
use Rattle.rows.proofs.indices.pack_folded.Given as goal

-- byte k of the packed row
abbrev pub byte : List ℕ → ℕ → ℕ → ℕ
byte src bpp k = packed_byte_of bpp (λ x. get_or src x 0) k

abbrev pub invariant-loop-turn : goal.invariant-loop-turn
invariant-loop-turn g l = put l.dst (l.at + l.turn * g.row.BPP) (drop (l.turn * g.row.BPP) (tab (byte l.src g.row.BPP) l.n)) ≡ put l.initial.dst l.at (tab (byte l.src g.row.BPP) l.n)
