use Rattle.cells.proofs.Blocks.{byte_of_eight_is}
use Rattle.cells.proofs.colours.byte_of_eight.Goals as goal

pub returns : goal.returns
returns c = let a = c.args in byte_of_eight_is a.file.now a.at a.place _ _ _ _ _ _ _ _ (λ i. (c.shared_slice_known-1.given i).fits) c.place_mask.ensures c.place_mask-2.ensures c.place_mask-3.ensures c.place_mask-4.ensures c.place_mask-5.ensures c.place_mask-6.ensures c.place_mask-7.ensures c.place_mask-8.ensures
