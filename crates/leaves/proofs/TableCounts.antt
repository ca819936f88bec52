-- Laws of the colour table's counts.
use Rattle.std.proofs.Common.{◌≡◌, ℕ, ◌^◌, ◌<◌, ◌≤◌, Bool, true, false, cond, ◌||◌, eqb, refl, arith, lit≤, pow_mono, eqb-true}
use mathlib.Core.Bool.{false≢true}
use Rattle.leaves.specs.Sizes.{has_table, palette_entry_count, written_palette_entries}

-- a table has at most 256 entries
pub entries_le : (depth : ℕ) → palette_entry_count depth ≤ 256
unfolding palette_entry_count
entries_le depth = go (has_table depth) refl
  where
    small : (a b c d : Bool) → eqb depth 1 ≡ a → eqb depth 2 ≡ b → eqb depth 4 ≡ c → eqb depth 8 ≡ d → (a || b || c || d) ≡ true → depth ≤ 8
    small true b c d e f g h t = omega (arith, eqb-true depth 1 e)
    small false true c d e f g h t = omega (arith, eqb-true depth 2 f)
    small false false true d e f g h t = omega (arith, eqb-true depth 4 g)
    small false false false true e f g h t = omega (arith, eqb-true depth 8 h)
    small false false false false e f g h t = let z : false ≡ true = t in absurd (false≢true z)

    go : (b : Bool) → has_table depth ≡ b → cond b (2 ^ depth) 0 ≤ 256
    go true e = pow_mono {j = 8} (small (eqb depth 1) (eqb depth 2) (eqb depth 4) (eqb depth 8) refl refl refl refl e)
    go false e = lit≤ tt

-- the entries written are no more than a full table's
pub written_le : (depth count : ℕ) (minimal : Bool) → written_palette_entries depth count minimal ≤ palette_entry_count depth
unfolding written_palette_entries
written_le depth count true = omega arith
written_le depth count false = omega arith

-- a table has at least one entry
pub written_some : (depth count : ℕ) (minimal : Bool) → 0 < palette_entry_count depth → 0 < written_palette_entries depth count minimal
unfolding written_palette_entries
written_some depth count true h = omega arith
written_some depth count false h = h
