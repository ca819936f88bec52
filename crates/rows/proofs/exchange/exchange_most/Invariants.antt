use Rattle.std.proofs.Common.{◌≡◌, ℕ, ◌+◌, ◌*◌, ◌≤◌, false, List, length}
use Rattle.leaves.specs.Lists.{cat}
use Rattle.leaves.specs.Put.{put}
use Rattle.rows.specs.StoredRows.{cell24}
use Rattle.rows.proofs.exchange.exchange_most.Given as goal

-- over whatever the buffer held before the first cell
abbrev pub invariant-loop-turn : goal.invariant-loop-turn
invariant-loop-turn l =
    (d : List ℕ) → l.at + l.width * 3 ≤ length d → l.initial.dst ≡ put d l.at (cat (cell24 false l.src) 1) → l.dst ≡ put d l.at (cat (cell24 false l.src) (1 + l.turn * 16))
