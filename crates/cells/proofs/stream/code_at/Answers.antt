use native.Mathlib.Omega.{arith}
use lib.ListN.{drop}
use Rattle.format.specs.Decode.{read_code}
use Rattle.cells.proofs.Codes.{none_of, refused_short, pair_told, pair_over, escape_small, escape_over, escape_cut, block_told}
use Rattle.cells.proofs.stream.code_at.Goals as goal

pub returns-then-rest-lt2-clause-code : goal.returns-then-rest-lt2-clause-code
returns-then-rest-lt2-clause-code c =
    let a = c.args in
    none_of (read_code a.depth a.room (drop a.at a.file.now)) (refused_short a.file.now a.at a.depth a.room (omega arith))

pub returns-then-first-room-clause-code : goal.returns-then-first-room-clause-code
returns-then-first-room-clause-code c =
    let a = c.args in
    none_of (read_code a.depth a.room (drop a.at a.file.now)) (pair_over a.file.now a.at a.depth a.room c.requires.room_nonzero (omega arith) c.if-first-room.true)

pub returns-then-first-ne0-clause-code : goal.returns-then-first-ne0-clause-code
returns-then-first-ne0-clause-code c =
    let a = c.args in
    pair_told a.file.now a.at a.depth a.room c.requires.room_nonzero (omega arith) c.if-first-ne0.true c.if-first-room.false

pub returns-then-second-lt3-clause-code : goal.returns-then-second-lt3-clause-code
returns-then-second-lt3-clause-code c =
    let a = c.args in
    none_of (read_code a.depth a.room (drop a.at a.file.now)) (escape_small a.file.now a.at a.depth a.room c.requires.room_nonzero (omega arith) c.if-first-ne0.false c.if-second-lt3.true)

pub returns-then-second-room-clause-code : goal.returns-then-second-room-clause-code
returns-then-second-room-clause-code c =
    let a = c.args in
    none_of (read_code a.depth a.room (drop a.at a.file.now)) (escape_over a.file.now a.at a.depth a.room c.requires.room_nonzero (omega arith) c.if-first-ne0.false c.if-second-lt3.false c.if-second-room.true)

pub returns-then-rest-data-clause-code : goal.returns-then-rest-data-clause-code
returns-then-rest-data-clause-code c =
    let a = c.args in
    none_of (read_code a.depth a.room (drop a.at a.file.now)) (escape_cut a.file.now a.at a.depth a.room c.requires.room_nonzero (omega arith) c.if-first-ne0.false _ c.data_bytes-data.ensures.0 c.if-second-lt3.false c.if-second-room.false (omega arith))

pub returns-clause-code : goal.returns-clause-code
returns-clause-code c =
    let a = c.args in
    block_told a.file.now a.at a.depth a.room c.requires.room_nonzero (omega arith) c.if-first-ne0.false _ c.data_bytes-data.ensures.0 c.if-second-lt3.false c.if-second-room.false (omega arith)
