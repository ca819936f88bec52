use Rattle.std.proofs.Common.{◌≡◌, ℕ, sym, ap, ◌∙◌, arith}
use Rattle.leaves.specs.Lists.{tab}
use Rattle.leaves.specs.Put.{put}
use Rattle.rows.specs.StoredRows.{field}
use Rattle.leaves.proofs.Puts.{put-nil}
use Rattle.rows.proofs.PackLaws.{put_byte}
use Rattle.rows.proofs.masks.put_channel.Goals as goal

pub loop-sample-init : goal.loop-sample-init
unfolding tab
loop-sample-init c = let a = c.args in sym (put-nil a.fields.now a.at)

pub loop-sample-preserved : goal.loop-sample-preserved
loop-sample-preserved c =
    let l = c.loop-sample in
    let a = c.args in
    put_byte a.fields.now l.fields a.at l.sample c.mask_field.result (field a.channel) c.mask_field.ensures l.invariant (omega arith)

pub returns : goal.returns
returns c =
    let a = c.args in
    let l = c.loop-sample in
    let all : l.sample ≡ 256 = omega arith in
    l.invariant ∙ ap (λ (n : ℕ). put a.fields.now a.at (tab (field a.channel) n)) all
