use Prim.Native.Nat.{◌≤◌}
use lib.ListN.{length, take}
use Rattle.messages.specs.Messages.{piece_at, filled, Says}
use Rattle.messages.proofs.message.tell.Given as goal

abbrev pub invariant-loop-mark : goal.invariant-loop-mark
invariant-loop-mark l =
    (l.at ≤ length l.text) × Says l.initial.text 0 (filled (piece_at l.pieces 0) (piece_at l.pieces 1) (piece_at l.pieces 2) (piece_at l.pieces 3) (take l.mark-index l.line)) l.text l.at
