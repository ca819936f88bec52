-- Demand 3, of every file that an accepted call appends.
use mathlib.Core.Path.{◌≡◌, refl, ap, ◌∙◌}
use mathlib.Core.Bool.{Bool, true, false, cond}
use Prim.Native.Nat.{ℕ, ◌<◌}
use lib.ListN.{length, get_or}
use Rattle.std.proofs.Common.{Ok}
use Rattle.leaves.specs.Refusals.{first_of}
use Rattle.leaves.specs.Options.{calibrated_in}
use Rattle.format.specs.Accepted.{Accepted}
use Rattle.format.specs.Demand.{two_bits, alpha_masked, Demand3}
use Rattle.format.specs.Expectation.{expected}
use Rattle.format.specs.File.{limit_in, stream_used, file_of}
use Rattle.format.specs.Refusals.{write_rows}
use Rattle.format.proofs.Acceptance.{accepted}
use Rattle.format.proofs.PlainBody.{plain_body}
use Rattle.format.specs.Input.{Input}
use Rattle.format.specs.Readers.{Reading, shows, refuses, fields_of, body}
use Rattle.format.specs.Shown.{unknown_depth, unknown_compression}
use Rattle.format.proofs.Opening.{newer_opens, older_opens}
use Rattle.format.proofs.StreamBody.{stream-body}

-- what is shown of an opened file, stream or rows
opened : (i : Input) → Accepted i → body (file_of (limit_in i) i) (fields_of (file_of (limit_in i) i)) ≡ shows (expected i)
opened i a = go (stream_used (limit_in i) i) refl
  where
    go : (b : Bool) → stream_used (limit_in i) i ≡ b → body (file_of (limit_in i) i) (fields_of (file_of (limit_in i) i)) ≡ shows (expected i)
    go true e = stream-body i a e
    go false e = plain_body i a e

-- the newer reader shows all that was handed in; the older one refuses by name where it must, and otherwise shows the same
pub demand3 : (i : Input) → Accepted i → Demand3 i (file_of (limit_in i) i)
demand3 i a =
    record {
      newer_shows = newer_opens i a ∙ opened i a;
      older_reads_is =
          older_opens i a
          ∙ ap (λ (r : Reading). cond (two_bits i.source.format) (refuses unknown_depth) (cond (alpha_masked i) (refuses unknown_compression) r)) (opened i a);
    }

-- and a call is accepted if no row of the table refuses it
pub demand3_of_table : (i : Input) (room offset : ℕ) → ((k : ℕ) → get_or i.plane k 0 < 256) → ((k : ℕ) → get_or i.palette k 0 < 256)
    → length (calibrated_in i.options).endpoints ≡ 9 → length (calibrated_in i.options).gamma ≡ 3 → first_of (write_rows (limit_in i) i room offset) ≡ Ok tt
    → Demand3 i (file_of (limit_in i) i)
demand3_of_table i room offset plane palette nine three e = demand3 i (accepted i room offset plane palette nine three e)
