use native.Mathlib.Omega.{arith}
use Rattle.messages.specs.Messages.{piece_at}
use Rattle.messages.proofs.MessageLaws.{says_as, first_mark, second_mark, third_mark, fourth_mark, no_mark}
use Rattle.messages.proofs.message.say_mark.Goals as goal

pub returns-in-64 : goal.returns-in-64
returns-in-64 c =
    let a = c.args in
    let piece = piece_at a.pieces.now in
    says_as (first_mark (piece 0) (piece 1) (piece 2) (piece 3) a.mark c.in-64.is) c.say_piece.ensures

pub returns-in-35 : goal.returns-in-35
returns-in-35 c =
    let a = c.args in
    let piece = piece_at a.pieces.now in
    says_as (second_mark (piece 0) (piece 1) (piece 2) (piece 3) a.mark (λ e. omega arith) c.in-35.is) c.say_piece-in-35.ensures

pub returns-in-37 : goal.returns-in-37
returns-in-37 c =
    let a = c.args in
    let piece = piece_at a.pieces.now in
    says_as (third_mark (piece 0) (piece 1) (piece 2) (piece 3) a.mark (λ e. omega arith) (λ e. omega arith) c.in-37.is) c.say_piece-in-37.ensures

pub returns-in-38 : goal.returns-in-38
returns-in-38 c =
    let a = c.args in
    let piece = piece_at a.pieces.now in
    says_as (fourth_mark (piece 0) (piece 1) (piece 2) (piece 3) a.mark (λ e. omega arith) (λ e. omega arith) (λ e. omega arith) c.in-38.is) c.say_piece-in-38.ensures

pub returns-in_default : goal.returns-in_default
returns-in_default c =
    let a = c.args in
    let piece = piece_at a.pieces.now in
    says_as (no_mark (piece 0) (piece 1) (piece 2) (piece 3) a.mark (λ e. omega arith) (λ e. omega arith) (λ e. omega arith) (λ e. omega arith)) c.say.ensures
