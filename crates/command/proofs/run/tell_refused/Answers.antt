use mathlib.Core.List.{List, []}
use mathlib.Core.Path.{refl, ap, ◌∙◌, ◌≡◌}
use Prim.Native.Nat.{ℕ}
use Rattle.leaves.specs.Texts.{bytes_of}
use Rattle.arguments.specs.Words.{onto, pieces, items_of, item_at}
use Rattle.messages.specs.Messages.{decimal, filled}
use Rattle.messages.proofs.MessageLaws.{says_as}
use Rattle.command.specs.Runs.{causes, refused_line}
use Rattle.command.proofs.run.tell_refused.Goals as goal

lines : items_of 124 (bytes_of "|width or height is 0|width or height is over 2147483647|an indexed format needs a palette|the palette's bytes are not a multiple of 4|more than one of masks, calibrated colour and a profile|the masks' depth is neither 16 nor 32|a mask has a bit above the depth|a mask's ones are not one run|a mask shares a bit with an earlier one|the masks of red, green and blue are all 0|masks are for Rgba, Rgb24, Bgra and Bgr24 alone|the plane is shorter than stride times height|the stride is below width times the bytes of a pixel|the file would have more bytes than the limit|a lent buffer or list is too short|neither the stream nor the plain file is within the limit|the head is one that the writer never writes|a byte of header, masks, table, rows or profile lies outside the file|the stream steps over a row's end, ends too early or uses a delta code|the limit is over 4294967295|a resolution is negative|the edges are not 1 to 254 numbers, each above the one before|a cell's low or high is not a number, or the low is above the high") ≡ causes
unfolding bytes_of items_of pieces onto causes
lines = refl

same : (n m : ℕ) (cause : List ℕ) → m ≡ n → cause ≡ item_at causes n → filled (decimal m) cause [] [] refused_line ≡ filled (decimal n) (item_at causes n) [] [] refused_line
same n m cause e f = rw (e, f)

pub returns : goal.returns
unfolding refused_line bytes_of
returns c =
    let number = c.args.number in
    says_as (same number c.from.result c.item-cause.result.now c.from.ensures (c.item-cause.ensures ∙ ap (λ (ps : List (List ℕ)). item_at ps number) lines)) c.tell.ensures
