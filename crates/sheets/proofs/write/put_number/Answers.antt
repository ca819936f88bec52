use mathlib.Core.Path.{ap, ◌∙◌}
use Prim.Native.Nat.{◌+◌}
use native.Mathlib.Omega.{arith}
use lib.ListN.{length}
use Rattle.leaves.specs.Put.{put}
use Rattle.messages.specs.Messages.{decimal}
use Rattle.messages.proofs.MessageLaws.{decimal_is}
use Rattle.sheets.proofs.TextLoop.{number_put}
use Rattle.sheets.proofs.write.put_number.Goals as goal

pub returns : goal.returns
returns c =
    let a = c.args in
    let digits = c.as_bytes-digits.ensures.value ∙ c.format.ensures.text ∙ decimal_is a.n (omega arith) in
    let few = c.format.ensures.fits in
    let long = c.as_bytes-digits.ensures.len in
    let k = number_put a.text.now a.at (decimal a.n) a.mark c.put_slice.new.buf (a.at + length c.as_bytes-digits.result.now) (c.put_slice.ensures ∙ ap (put a.text.now a.at) digits) (ap (λ (d : _). a.at + length d) digits) (omega (arith, few, long, c.requires)) in
    (k.0, omega (arith, few, long), k.1)
