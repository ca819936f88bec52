use Rattle.std.proofs.Common.{sym}
use lib.Seq.{set_out}
use Rattle.rows.proofs.starts.note_start.Goals as goal

pub returns-else-s-starts : goal.returns-else-s-starts
returns-else-s-starts c = let a = c.args in sym (set_out a.starts.now a.s a.place c.if-s-starts.false)
