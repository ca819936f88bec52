use Rattle.rows.proofs.pack.RowPack.bits_per_pixel.Goals as goal

pub returns-in-Masks : goal.returns-in-Masks
returns-in-Masks c = rw c.in-Masks.is
