use mathlib.Core.Path.{sym, ap}
use native.Mathlib.Omega.{arith}
use lib.Seq.{take_all}
use Rattle.messages.specs.Messages.{piece_at, filled}
use Rattle.messages.proofs.MessageLaws.{says_as, says_none, says_next, says_length, says_place, filled_more}
use Rattle.messages.proofs.message.tell.Goals as goal

pub loop-mark-init : goal.loop-mark-init
unfolding filled
loop-mark-init c = (omega arith, says_none c.args.text.now 0)

pub loop-mark-preserved : goal.loop-mark-preserved
loop-mark-preserved c =
    let a = c.args in
    let l = c.loop-mark in
    let piece = piece_at a.pieces.now in
    let said = c.say_mark-at.ensures in
    (omega (arith, says_place l.invariant.0 said, says_length l.invariant.0 said), says_as (sym (filled_more (piece 0) (piece 1) (piece 2) (piece 3) a.line.now l.mark-index (omega arith))) (says_next (omega arith) l.invariant.1 said))

pub returns : goal.returns
returns c =
    let a = c.args in
    let l = c.loop-mark in
    let piece = piece_at a.pieces.now in
    says_as (ap (filled (piece 0) (piece 1) (piece 2) (piece 3)) (take_all l.mark-index a.line.now (omega arith))) l.invariant.1
