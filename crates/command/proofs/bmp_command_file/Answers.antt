use mathlib.Core.List.{List, [], ◌∷◌}
use mathlib.Core.Path.{◌∙◌, ◌≡◌}
use Prim.Native.Nat.{ℕ}
use Rattle.messages.specs.Messages.{piece_for, filled}
use Rattle.messages.proofs.MessageLaws.{says_as, append-nil}
use Rattle.command.proofs.bmp_command_file.Goals as goal

itself : (name : List ℕ) → filled name [] [] [] (64 ∷ []) ≡ name
unfolding filled piece_for
itself name = append-nil name

pub returns : goal.returns
returns c =
    says_as (itself c.file_name.result.now ∙ c.file_name.ensures) c.tell.ensures
