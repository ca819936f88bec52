use mathlib.Core.Path.{ap, ◌∙◌}
use Prim.Native.Nat.{ℕ}
use Rattle.leaves.specs.Texts.{bytes_of}
use Rattle.arguments.specs.Options.{option_names, option_named, number_asked, stride_asked}
use Rattle.arguments.specs.Words.{up_to, place_among, alike, words_of}
use Rattle.arguments.proofs.options.stride.Goals as goal

pub returns : goal.returns
unfolding stride_asked bytes_of option_names option_named place_among alike up_to
returns c =
    c.number_asked.ensures ∙ ap (λ (n : ℕ). number_asked 13 n (words_of c.args.words.now)) c.row_bytes.ensures
