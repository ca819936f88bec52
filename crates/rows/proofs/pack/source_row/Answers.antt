use Rattle.std.proofs.Common.{◌≡◌, refl}
use Rattle.rows.specs.StoredRows.{row_of}
use Rattle.rows.proofs.AllRows.{source_is}
use Rattle.rows.proofs.pack.source_row.Goals.{Joined-top_down, else-top_down, then-top_down}
use Rattle.rows.proofs.pack.source_row.Goals as goal

-- the row's place, as the contract counts it
source : (c : Joined-top_down) → c.if-top_down.from ≡ row_of c.args.top_down c.args.height c.args.s
source c = elim (c.if-top_down.branch) [ then-top_down w ↦ rw w.if-top_down.true w.from-is | else-top_down w ↦ rw w.if-top_down.false w.from-is ]

pub returns : goal.returns
returns c =
    let a = c.args in
    source_is a.plane.now a.stride a.bytes a.bytes c.if-top_down.from a.height a.s a.top_down refl (source (goal.at.returns c).Joined-top_down)
