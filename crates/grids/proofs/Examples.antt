-- Quotes and scales by their bits: what is answered, and the later plane. One list, by evaluation.
use mathlib.Core.Path.{◌≡◌, refl}
use mathlib.Core.Bool.{true, false}
use mathlib.Core.List.{List, [], ◌∷◌, map}
use Prim.Native.Nat.{ℕ}
use lib.Count.{count_trailing_zeros}
use lib.IntN.{pos}
use lib.Ieee.{Float, fin, binary64, of_bits, of_fields, odd, is_nan, lt, eq, le}
use lib.ListN.{length}
use Rattle.leaves.specs.Lists.{tab}
use Rattle.leaves.specs.Put.{put}
use Rattle.leaves.specs.Refusals.{first_applying}
use Rattle.grids.specs.Scale.{shade_of, index_of, quote_at, indices_of, some_nan, rises_from, rises, not_scale, not_quote, some_not_quote, quote_rows, later_plane}

-- a scale, the lows, the highs and the plane, prices as the bits of binary64
pub record Call : Type 0 where
  pub edges : List ℕ
  pub lows : List ℕ
  pub highs : List ℕ
  pub plane : List ℕ

abbrev call : List ℕ → List ℕ → List ℕ → List ℕ → Call
call edges lows highs plane = record { edges = edges; lows = lows; highs = highs; plane = plane }

abbrev prices : List ℕ → List Float
prices bits = map (of_bits binary64) bits

pub answered : Call → ℕ × List ℕ
unfolding quote_rows
answered c =
    let number = first_applying (quote_rows (prices c.edges) (prices c.lows) (prices c.highs) (length c.plane)) in
    (number, later_plane number (prices c.edges) (prices c.lows) (prices c.highs) c.plane)

-- 0 and -0; 1, the largest number below it, 2 and 4; the smallest subnormal; both infinities; NaNs: quiet, signalling and negative
abbrev zero : ℕ
zero = 0x0000000000000000

abbrev minus_zero : ℕ
minus_zero = 0x8000000000000000

abbrev one : ℕ
one = 0x3FF0000000000000

abbrev under_one : ℕ
under_one = 0x3FEFFFFFFFFFFFFF

abbrev two : ℕ
two = 0x4000000000000000

abbrev four : ℕ
four = 0x4010000000000000

abbrev tiny : ℕ
tiny = 0x0000000000000001

abbrev infinity : ℕ
infinity = 0x7FF0000000000000

abbrev minus_infinity : ℕ
minus_infinity = 0xFFF0000000000000

abbrev quiet : ℕ
quiet = 0x7FF8000000000000

abbrev signalling : ℕ
signalling = 0x7FF0000000000001

abbrev minus_nan : ℕ
minus_nan = 0xFFF8000000000001

abbrev pub examples : List (Call × (ℕ × List ℕ))
examples =
    -- an edge is at or below a price that is the edge itself; infinities are prices; what is left of the plane stays
    (call (one ∷ two ∷ four ∷ []) (under_one ∷ one ∷ two ∷ minus_infinity ∷ four ∷ infinity ∷ []) (under_one ∷ one ∷ two ∷ zero ∷ infinity ∷ infinity ∷ []) (9 ∷ 9 ∷ 9 ∷ 9 ∷ 9 ∷ 9 ∷ 8 ∷ []), (0, 0 ∷ 1 ∷ 2 ∷ 0 ∷ 3 ∷ 3 ∷ 8 ∷ []))
    -- ends of different shades: the hatch, also one step below an edge
    ∷ (call (one ∷ two ∷ []) (under_one ∷ one ∷ minus_infinity ∷ []) (one ∷ two ∷ infinity ∷ []) (9 ∷ 9 ∷ 9 ∷ []), (0, 255 ∷ 255 ∷ 255 ∷ []))
    -- -0 and 0 are one price, as a cell's ends and as an edge
    ∷ (call (minus_zero ∷ tiny ∷ []) (zero ∷ minus_zero ∷ zero ∷ []) (minus_zero ∷ zero ∷ tiny ∷ []) (9 ∷ 9 ∷ 9 ∷ []), (0, 1 ∷ 1 ∷ 255 ∷ []))
    ∷ (call (minus_zero ∷ zero ∷ []) [] [] [], (22, []))
    -- infinities are edges
    ∷ (call (minus_infinity ∷ infinity ∷ []) (minus_infinity ∷ infinity ∷ []) (one ∷ infinity ∷ []) (9 ∷ 9 ∷ []), (0, 1 ∷ 2 ∷ []))
    -- no lows: a good scale is accepted, a bad one refused; highs past the lows are not looked at
    ∷ (call (one ∷ []) [] (quiet ∷ []) (9 ∷ []), (0, 9 ∷ []))
    ∷ (call [] [] [] (9 ∷ []), (22, 9 ∷ []))
    -- 15 first: highs shorter, the plane shorter
    ∷ (call [] (one ∷ two ∷ []) (one ∷ []) (9 ∷ 9 ∷ []), (15, 9 ∷ 9 ∷ []))
    ∷ (call [] (one ∷ two ∷ []) (one ∷ two ∷ []) (9 ∷ []), (15, 9 ∷ []))
    -- 22: an edge that is no number, of either kind and sign; equal, and falling edges; before 23
    ∷ (call (quiet ∷ []) [] [] [], (22, []))
    ∷ (call (one ∷ signalling ∷ []) [] [] [], (22, []))
    ∷ (call (minus_nan ∷ one ∷ []) (quiet ∷ []) (one ∷ []) (9 ∷ []), (22, 9 ∷ []))
    ∷ (call (one ∷ one ∷ []) [] [] [], (22, []))
    ∷ (call (two ∷ one ∷ []) (two ∷ []) (one ∷ []) (9 ∷ []), (22, 9 ∷ []))
    -- 23: a low, a high that is no number, and a low above its high, also in the last cell
    ∷ (call (one ∷ []) (quiet ∷ []) (one ∷ []) (9 ∷ []), (23, 9 ∷ []))
    ∷ (call (one ∷ []) (one ∷ one ∷ []) (one ∷ signalling ∷ []) (9 ∷ 9 ∷ []), (23, 9 ∷ 9 ∷ []))
    ∷ (call (one ∷ []) (one ∷ tiny ∷ []) (one ∷ zero ∷ []) (9 ∷ 9 ∷ []), (23, 9 ∷ 9 ∷ []))
    ∷ []

pub examples_hold : map (λ e. answered e.0) examples ≡ map (λ e. e.1) examples
unfolding answered shade_of index_of quote_at indices_of some_nan rises_from rises not_scale not_quote some_not_quote quote_rows put tab of_bits of_fields odd is_nan lt eq le count_trailing_zeros
examples_hold = refl

-- the whole numbers from 0 on: 1 to 254 of them are a scale
abbrev pub ladder : ℕ → List Float
ladder n = tab (λ k. fin false k (pos 0)) n

pub most_edges : map (λ n. not_scale (ladder n)) (0 ∷ 1 ∷ 254 ∷ 255 ∷ []) ≡ true ∷ false ∷ false ∷ true ∷ []
unfolding not_scale some_nan rises_from rises tab is_nan lt
most_edges = refl
