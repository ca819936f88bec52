use mathlib.Core.List.{List}
use mathlib.Core.Path.{ap, ◌∙◌, ◌≡◌}
use Prim.Native.Nat.{ℕ, ◌+◌}
use native.Mathlib.Omega.{arith}
use lib.ListN.{length, drop}
use Rattle.arguments.specs.Options.{carried}
use Rattle.arguments.specs.Words.{up_to}
use Rattle.arguments.proofs.Pieces.{part_rest}
use Rattle.arguments.proofs.options.carried.Goals as goal

behind : (w : List ℕ) (to : ℕ) → to ≡ 0 + length (up_to 61 w) → drop (to + 1) w ≡ carried w
unfolding carried
behind w to e = let n : to + 1 ≡ length (up_to 61 w) + 1 = omega arith in ap (λ (k : ℕ). drop k w) n

pub returns : goal.returns
returns c =
    let w = c.args.word.now in
    let to = c.end_of in
    c.part.ensures ∙ part_rest w (to.result + 1) ∙ behind w to.result to.ensures.0
