use Rattle.rows.specs.declared.pack.RowPack.TheVariants.{Bgra32, Bgr24, Words16, Masks}
use Rattle.rows.proofs.AllRows.{case_gives, indices_give}
use Rattle.rows.proofs.pack.RowPack.row.Goals as goal

pub returns-in-Bgra32 : goal.returns-in-Bgra32
returns-in-Bgra32 c =
    let a = c.args in
    case_gives a.self (Bgra32 c.in-Bgra32.bgr) a.width a.at a.src.now a.dst.now c.pack_bgra32.new.dst c.in-Bgra32.is c.pack_bgra32.ensures

pub returns-in-Bgr24 : goal.returns-in-Bgr24
returns-in-Bgr24 c =
    let a = c.args in
    case_gives a.self (Bgr24 c.in-Bgr24.bgr) a.width a.at a.src.now a.dst.now c.pack_bgr24.new.dst c.in-Bgr24.is c.pack_bgr24.ensures

pub returns-in-Words16 : goal.returns-in-Words16
returns-in-Words16 c =
    let a = c.args in
    case_gives a.self Words16 a.width a.at a.src.now a.dst.now c.pack_words16.new.dst c.in-Words16.is c.pack_words16.ensures

pub returns-in-Indexed : goal.returns-in-Indexed
returns-in-Indexed c =
    let a = c.args in
    indices_give a.self c.in-Indexed.bpp a.width a.at a.src.now a.dst.now c.pack_indices.new.dst c.in-Indexed.is c.requires.src_len c.pack_indices.ensures

pub returns-in-Masks : goal.returns-in-Masks
returns-in-Masks c =
    let a = c.args in
    case_gives a.self (Masks c.in-Masks.in_bpp c.in-Masks.bgr c.in-Masks.layout) a.width a.at a.src.now a.dst.now c.pack.new.dst c.in-Masks.is c.pack.ensures
