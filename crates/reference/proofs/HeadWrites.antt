-- What the header writers append is the document's headers.
use mathlib.Core.Path.{◌≡◌, refl, sym, ap, ◌∙◌}
use mathlib.Core.Bool.{Bool, true, false, cond}
use mathlib.Core.List.{List, [], ◌∷◌, ◌++◌, map, append_assoc, append-nil}
use Prim.Native.Nat.{ℕ, ◌+◌, ◌*◌, ◌/◌, ◌%◌, ◌≤◌, ◌<◌}
use native.Mathlib.Omega.{arith}
use borrow.Author.Tests.{ltb-true, ltb-false}
use lib.Dec.{ltb, lit<}
use lib.ListN.{length, get_or, take, drop, get_or-eq_default}
use Rattle.leaves.specs.Bytes.{le16, le32}
use Rattle.leaves.specs.Lists.{cat}
use Rattle.leaves.proofs.ListLaws.{length-tab, get_or-tab}
use Rattle.rows.specs.StoredRows.{source_row}
use Rattle.format.proofs.SourceRows.{length_source, source_at}
use Rattle.format.specs.File.{table_entry}
use Rattle.format.specs.Headers.{dwords, file_header, info_header}
use Rattle.reference.specs.Rust.{done, ◌>>=◌, at, to_le_bytes, extend, for, for_each}
use Rattle.reference.specs.Headers.{extend_all, write_file_header, write_entry, write_color_table}
use Rattle.reference.specs.Compared.{entries_in}
use Rattle.reference.proofs.RunLaws.{at_is, for_is}

-- four bytes pushed
joined_4 : (out : List ℕ) (a b c d : ℕ) → out ++ (a ∷ []) ++ (b ∷ []) ++ (c ∷ []) ++ (d ∷ []) ≡ out ++ (a ∷ b ∷ c ∷ d ∷ [])
joined_4 out a b c d =
    append_assoc (out ++ (a ∷ []) ++ (b ∷ [])) (c ∷ []) (d ∷ []) ∙ append_assoc (out ++ (a ∷ [])) (b ∷ []) (c ∷ d ∷ []) ∙ append_assoc out (a ∷ []) (b ∷ c ∷ d ∷ [])

-- lists one after the other
unfoldable pub joined : List (List ℕ) → List ℕ
joined [] = []
joined (x ∷ xs) = x ++ joined xs

pub extend_all_lem : (out : List ℕ) (parts : List (List ℕ)) → extend_all out parts ≡ out ++ joined parts
unfolding extend_all joined
extend_all_lem out [] = sym (append-nil out)
extend_all_lem out (x ∷ xs) = extend_all_lem (out ++ x) xs ∙ append_assoc out x (joined xs)

-- the file header and the first 40 bytes of the info header, with more after them
pub heads_is : (out : List ℕ) (file_size_of offset header_size_of w h bpp compression image_size_of used : ℕ) (more : List (List ℕ))
    → extend_all (write_file_header out file_size_of offset)
    (to_le_bytes 4 header_size_of ∷ to_le_bytes 4 w ∷ to_le_bytes 4 h ∷ to_le_bytes 2 1 ∷ to_le_bytes 2 bpp ∷ to_le_bytes 4 compression ∷ to_le_bytes 4 image_size_of ∷ to_le_bytes 4 2835 ∷ to_le_bytes 4 2835 ∷ to_le_bytes 4 used ∷ to_le_bytes 4 0 ∷ more)
    ≡ out ++ (file_header file_size_of offset ++ info_header header_size_of w h bpp compression image_size_of 2835 2835 used ++ joined more)
unfolding write_file_header joined file_header info_header to_le_bytes le16 le32
heads_is out file_size_of offset header_size_of w h bpp compression image_size_of used more =
    let file : List (List ℕ) = to_le_bytes 2 0x4D42 ∷ to_le_bytes 4 file_size_of ∷ to_le_bytes 2 0 ∷ to_le_bytes 2 0 ∷ to_le_bytes 4 offset ∷ [] in
    let info : List (List ℕ) =
    to_le_bytes 4 header_size_of ∷ to_le_bytes 4 w ∷ to_le_bytes 4 h ∷ to_le_bytes 2 1 ∷ to_le_bytes 2 bpp ∷ to_le_bytes 4 compression ∷ to_le_bytes 4 image_size_of ∷ to_le_bytes 4 2835 ∷ to_le_bytes 4 2835 ∷ to_le_bytes 4 used ∷ to_le_bytes 4 0 ∷ more in
    extend_all_lem (extend_all out file) info ∙ ap (λ o. o ++ joined info) (extend_all_lem out file) ∙ append_assoc out (joined file) (joined info)

-- for v in values { out.extend_from_slice(&v.to_le_bytes()); }
pub dwords_is : {A : Type 0} (bits : A → ℕ) (values : List A) (out : List ℕ)
    → for_each values (λ v o. done (extend o (to_le_bytes 4 (bits v)))) out ≡ done (out ++ dwords (map bits values))
unfolding for_each dwords to_le_bytes le32
dwords_is bits [] out = ap done (sym (append-nil out))
dwords_is bits (v ∷ vs) out = dwords_is bits vs (out ++ to_le_bytes 4 (bits v)) ∙ ap done (append_assoc out (to_le_bytes 4 (bits v)) (dwords (map bits vs)))

-- ---- the colour table

pub entry_is : (palette : List ℕ) (k : ℕ) (out : List ℕ) → length palette % 4 ≡ 0 → write_entry (record { entries = entries_in palette }) k out ≡ done (out ++ table_entry palette k)
unfolding write_entry entries_in table_entry
entry_is palette k out whole = go (ltb k (length (entries_in palette))) refl
  where
    count : length (entries_in palette) ≡ length palette / 4
    count = length-tab (λ k. take 4 (drop (k * 4) palette)) (length palette / 4)

    rgb : List ℕ
    rgb = get_or (entries_in palette) k []

    go : (b : Bool) → ltb k (length (entries_in palette)) ≡ b
        → cond b (at rgb 2 >>= λ b. at rgb 1 >>= λ g. at rgb 0 >>= λ r. done (out ++ (b ∷ []) ++ (g ∷ []) ++ (r ∷ []) ++ (0 ∷ []))) (done (out ++ (0 ∷ 0 ∷ 0 ∷ 0 ∷ [])))
        ≡ done (out ++ (get_or palette (k * 4 + 2) 0 ∷ get_or palette (k * 4 + 1) 0 ∷ get_or palette (k * 4) 0 ∷ 0 ∷ []))
    go true e =
        let l : k < length palette / 4 = omega (arith, ltb-true k (length (entries_in palette)) e, count) in
        let is : rgb ≡ source_row palette 4 4 k = get_or-tab (λ k. take 4 (drop (k * 4) palette)) (length palette / 4) k [] l in
        let n : length rgb ≡ 4 = ap length is ∙ length_source palette 4 4 (length palette / 4) k (omega arith) (omega arith) l in
        let byte : (j : ℕ) → j < 4 → at rgb j ≡ done (get_or palette (k * 4 + j) 0) = λ j h. at_is rgb j (omega (arith, n, h)) ∙ ap done (ap (λ r. get_or r j 0) is ∙ source_at palette 4 4 k j h) in
        let z : k * 4 + 0 ≡ k * 4 = omega arith in
        rw (byte 2 (lit< tt), byte 1 (lit< tt), byte 0 (lit< tt), z)
        (ap done (joined_4 out (get_or palette (k * 4 + 2) 0) (get_or palette (k * 4 + 1) 0) (get_or palette (k * 4) 0) 0))
    go false e =
        let h : length palette ≤ k * 4 = omega (arith, ltb-false k (length (entries_in palette)) e, count, whole) in
        let byte : (j : ℕ) → get_or palette (k * 4 + j) 0 ≡ 0 = λ j. get_or-eq_default palette 0 (omega (arith, h)) in
        let first : get_or palette (k * 4) 0 ≡ 0 = get_or-eq_default palette 0 h in
        rw (byte 2, byte 1, first)

pub table_is : (palette : List ℕ) (n : ℕ) (out : List ℕ) → length palette % 4 ≡ 0 → write_color_table out (record { entries = entries_in palette }) n ≡ done (out ++ cat (table_entry palette) n)
unfolding write_color_table cat
table_is palette n out whole =
    ap (for n (write_entry (record { entries = entries_in palette }))) (sym (append-nil out))
    ∙ for_is (write_entry (record { entries = entries_in palette })) (λ k. out ++ cat (table_entry palette) k) n
    (λ k l. entry_is palette k (out ++ cat (table_entry palette) k) whole ∙ ap done (append_assoc out (cat (table_entry palette) k) (table_entry palette k)))
