use Rattle.arguments.proofs.Pieces.{piece_up}
use Rattle.arguments.proofs.words.piece.Goals as goal

pub returns : goal.returns
returns c =
    let a = c.args in
    piece_up a.mark a.text.now a.at c.end_of-to.result c.end_of-to.ensures.0
