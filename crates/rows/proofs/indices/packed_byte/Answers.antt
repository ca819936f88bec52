use Rattle.std.proofs.Common.{◌≡◌, ℕ, ◌+◌, ◌*◌, ◌/◌, ◌%◌, ◌^◌, ◌<◌, List, sym, refl, ap, ◌∙◌, le_antisymm, arith, pow_mono}
use lib.ListN.{get_or-eq_default}
use Rattle.rows.specs.Packing.{digits, packed_byte_of}
use Rattle.rows.proofs.PackLaws.{Depth, depth, digits_byte, digits_more, byte_none}
use Rattle.rows.proofs.indices.packed_byte.Goals.{else-x-src, then-x-src}
use Rattle.rows.proofs.indices.packed_byte.Invariants.{cell}
use Rattle.rows.proofs.indices.packed_byte.Goals as goal

-- the base, as the shift gives it
base-is : {d : ℕ} → Depth d → 1 * 2 ^ d % 4294967296 ≡ 2 ^ d
base-is {d} q = omega (arith, pow_mono {j = 8} q.small)

-- one cell more
turn : {d : ℕ} → Depth d → (cells : List ℕ) (i j byte index : ℕ) → byte ≡ digits (2 ^ d) (cell cells d i) j → index ≡ cell cells d i j
    → byte * (1 * 2 ^ d % 4294967296) + index % (1 * 2 ^ d % 4294967296) ≡ digits (2 ^ d) (cell cells d i) (j + 1)
turn {d} q cells i j byte index e f = rw (base-is q, e, f) (sym (digits_more (2 ^ d) (cell cells d i) j))

-- the bits so far fit a byte
fits : {d : ℕ} → Depth d → (cells : List ℕ) (i j byte index : ℕ) → j < 8 / d → byte ≡ digits (2 ^ d) (cell cells d i) j → index ≡ cell cells d i j
    → byte * (1 * 2 ^ d % 4294967296) + index % (1 * 2 ^ d % 4294967296) < 256
fits {d} q cells i j byte index h e f = rw (turn q cells i j byte index e f) (digits_byte q (cell cells d i) (j + 1) (omega arith))

pub returns-then-i-per : goal.returns-then-i-per
returns-then-i-per c = let a = c.args in sym (byte_none a.bpp a.i a.src.now c.if-i-per.true)

pub loop-j-init : goal.loop-j-init
unfolding digits
loop-j-init c = refl

pub overflow_mul-byte : goal.overflow_mul-byte
overflow_mul-byte c =
    let a = c.args in
    let l = c.loop-j in
    let q = depth a.bpp c.requires.table_depth in
    let e : c.if-x-src.index ≡ cell a.src.now a.bpp a.i l.j = elim (c.if-x-src.branch) [ then-x-src w ↦ w.index-is | else-x-src w ↦ w.index-is ∙ sym (get_or-eq_default a.src.now 0 w.if-x-src.false) ] in
    omega (arith, fits q a.src.now a.i l.j l.byte c.if-x-src.index c.loop-j-test.true l.invariant e)

pub overflow_add-byte : goal.overflow_add-byte
overflow_add-byte c =
    let a = c.args in
    let l = c.loop-j in
    let q = depth a.bpp c.requires.table_depth in
    let e : c.if-x-src.index ≡ cell a.src.now a.bpp a.i l.j = elim (c.if-x-src.branch) [ then-x-src w ↦ w.index-is | else-x-src w ↦ w.index-is ∙ sym (get_or-eq_default a.src.now 0 w.if-x-src.false) ] in
    omega (arith, fits q a.src.now a.i l.j l.byte c.if-x-src.index c.loop-j-test.true l.invariant e)

pub loop-j-preserved : goal.loop-j-preserved
loop-j-preserved c =
    let a = c.args in
    let l = c.loop-j in
    let q = depth a.bpp c.requires.table_depth in
    let e : c.if-x-src.index ≡ cell a.src.now a.bpp a.i l.j = elim (c.if-x-src.branch) [ then-x-src w ↦ w.index-is | else-x-src w ↦ w.index-is ∙ sym (get_or-eq_default a.src.now 0 w.if-x-src.false) ] in
    turn q a.src.now a.i l.j l.byte c.if-x-src.index l.invariant e

pub overflow_cast-result : goal.overflow_cast-result
overflow_cast-result c =
    let a = c.args in
    let l = c.loop-j in
    omega (arith, digits_byte (depth a.bpp c.requires.table_depth) (cell a.src.now a.bpp a.i) l.j (omega arith))

pub returns : goal.returns
unfolding packed_byte_of
returns c =
    let a = c.args in
    let l = c.loop-j in
    l.invariant ∙ ap (digits (2 ^ a.bpp) (cell a.src.now a.bpp a.i)) (le_antisymm (omega arith) c.loop-j-test.false)
