use Rattle.sheets.proofs.TextLoop.{TextSoFar}
use Rattle.sheets.proofs.write.write_sheet.Given as goal

abbrev pub invariant-loop-k : goal.invariant-loop-k
invariant-loop-k l = TextSoFar l.width l.cells l.initial.text l.text l.at l.k
