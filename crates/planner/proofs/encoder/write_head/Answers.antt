use mathlib.Core.Path.{◌≡◌, ◌∙◌, refl}
use lib.ListN.{length}
use Rattle.std.proofs.Common.{Option, Some, None}
use Rattle.leaves.specs.declared.options.CalibratedRgb.{CalibratedRgb}
use Rattle.leaves.specs.Options.{calibrated_in}
use Prim.Native.Nat.{◌+◌, ◌-◌, ◌*◌}
use native.Mathlib.Omega.{arith}
use Rattle.leaves.specs.Put.{put}
use mathlib.Core.List.{◌++◌}
use Rattle.leaves.specs.Lists.{cat}
use Rattle.format.specs.File.{table_entry}
use Rattle.format.specs.Layout.{head_rest}
use Rattle.planner.specs.Plans.{first_fields, head_by}
use Rattle.planner.proofs.HeadWrites.{rest_room, head_written}
use Rattle.planner.proofs.Longs.{long_of}
use Rattle.planner.proofs.encoder.write_head.Goals.{Start}
use Rattle.planner.proofs.encoder.write_head.Goals as goal

-- calibrated colour has nine endpoints and three gammas, given or not
counts : (c : Start) → (length (calibrated_in c.args.options).endpoints ≡ 9) × (length (calibrated_in c.args.options).gamma ≡ 3)
counts c = go c.args.options.calibrated_rgb refl
  where
    go : (o : Option CalibratedRgb) → c.args.options.calibrated_rgb ≡ o → (length (calibrated_in c.args.options).endpoints ≡ 9) × (length (calibrated_in c.args.options).gamma ≡ 3)
    go None q = (rw q, rw q)
    go (Some x) q = let k = (rw q at c.well_formed.1.1.0.1.1.1.1.1.1.1.1.0).1.1.1.1.0.1.1 in (rw q k.0.1.0.1, rw q k.1.0.1.0.1)

pub overflow_add-at : goal.overflow_add-at
overflow_add-at c = record { fits = omega (arith, c.requires.head_length, c.requires.head_in_bounds, c.well_formed.1.1.1.1.1.1.1.1.1.1.0) }

pub write_rest-requires : goal.write_rest-requires
write_rest-requires c =
    let a = c.args in
    let n = counts (goal.at.write_rest-requires c).Start in
    let rest = rest_room a.layout.mode a.src a.options n.0 n.1 in
    record { mode_chosen = c.requires.mode_chosen; in_bounds = omega (arith, rest, c.requires.head_length, c.requires.head_in_bounds, c.write_first_fields.auto.buf) }

pub overflow_add-at-2 : goal.overflow_add-at-2
overflow_add-at-2 c = record { fits = omega (arith, c.requires.head_in_bounds, c.well_formed.1.1.1.1.1.1.1.1.1.1.0) }

pub overflow_sub-at : goal.overflow_sub-at
overflow_sub-at c =
    omega (arith, c.requires.head_length)

pub write_color_table-requires : goal.write_color_table-requires
write_color_table-requires c =
    record { entries_bound = c.requires.entries_bound; entries_in_bounds = omega (arith, c.requires.head_length, c.requires.head_in_bounds, c.write_first_fields.auto.buf, c.write_rest.auto.buf) }

pub returns : goal.returns
unfolding head_by
returns c =
    let a = c.args in
    let x = long_of a.options.x_pels_per_meter c.long_bits.result c.struct_told-1.given.1.1.1.1.1.1.1.1.0.1 c.long_bits.ensures in
    let y = long_of a.options.y_pels_per_meter c.long_bits-2.result c.struct_told-2-1.given.1.1.1.1.1.1.1.1.1.0.1 c.long_bits-2.ensures in
    let w1 = c.write_first_fields in
    let w2 = c.write_rest in
    let w3 = c.write_color_table in
    head_written a.buf.now w1.new.buf w2.new.buf w3.new.buf a.palette.now a.at a.head (a.at + a.head - 4 * a.layout.entries) a.profile_size a.profile_data _ a.layout a.src a.options
    c.requires.head_length c.requires.head_in_bounds refl w1.ensures w2.ensures w3.ensures
    ∙ (λ z. put a.buf.now a.at (first_fields (record {
      file_size = a.file_size;
      pixel_offset = a.head;
      header_size = a.layout.header_size;
      width = a.src.width;
      stored_height = c.stored_height.ensures z;
      bit_count = a.layout.bit_count;
      compression = a.compression;
      image_size = a.image_size;
      x_pels = x z;
      y_pels = y z;
      clr_used = c.clr_used.ensures z;
    }) ++ head_rest a.layout.mode a.src a.options a.profile_size a.profile_data ++ cat (table_entry a.palette.now) a.layout.entries))
