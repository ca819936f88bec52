-- Laws of a list of row starts: a turn of the loops that note them, and the whole list.
use Rattle.std.proofs.Common.{◌≡◌, ℕ, zero, suc, ◌+◌, ◌-◌, ◌<◌, ◌≤◌, List, [], ◌∷◌, length, set, sym, refl, ap, ◌∙◌, add-one, arith, length-set}
use Rattle.leaves.specs.Lists.{tab, cat}
use Rattle.leaves.specs.Put.{put}
use Rattle.leaves.proofs.ListLaws.{length-tab}
use Rattle.leaves.proofs.Puts.{put-nil, put-cons, put-append}
use Rattle.rows.specs.Starts.{noted}
use Rattle.rows.specs.Stream.{stream_row, stream_start}

pub length-noted : (start : ℕ → ℕ) (was : List ℕ) (n : ℕ) → length (noted start was n) ≡ length was
unfolding noted
length-noted start was zero = refl
length-noted start was (suc n) = length-set (noted start was n) n (start n) ∙ length-noted start was n

-- nothing is noted before the first row
pub noted_start : (start : ℕ → ℕ) (was : List ℕ) → was ≡ noted start was 0
unfolding noted
noted_start start was = refl

-- one row more
pub noted_turn : (start : ℕ → ℕ) (was is later : List ℕ) (y place : ℕ) → is ≡ noted start was y → place ≡ start y → later ≡ set is y place → later ≡ noted start was (y + 1)
unfolding noted
noted_turn start was is later y place e f g = rw (g, e, f, add-one y)

-- and all rows
pub noted_end : (start : ℕ → ℕ) (was is : List ℕ) (y h : ℕ) → y ≡ h → is ≡ noted start was y → is ≡ noted start was h
noted_end start was is y h e f = f ∙ ap (noted start was) e

-- the starts alone decide
pub noted_ext : (f g : ℕ → ℕ) (was : List ℕ) (n : ℕ) → ((s : ℕ) → f s ≡ g s) → noted f was n ≡ noted g was n
unfolding noted
noted_ext f g was zero e = refl
noted_ext f g was (suc n) e = λ z. set (noted_ext f g was n e z) n (e n z)

-- a list that has an entry for each row holds their starts, and behind them what it held
pub noted_all : (start : ℕ → ℕ) (was : List ℕ) (n : ℕ) → n ≤ length was → noted start was n ≡ put was 0 (tab start n)
unfolding noted tab
noted_all start was zero h = sym (put-nil was 0)
noted_all start was (suc n) h =
    let k : length (tab start n) ≡ n = length-tab start n in
    let here : n ≡ 0 + length (tab start n) = omega arith in
    let room : n < length (put was 0 (tab start n)) = rw (← noted_all start was n (omega arith)) (omega (arith, length-noted start was n)) in
    ap (λ (l : List ℕ). set l n (start n)) (noted_all start was n (omega arith))
    ∙ sym (put-nil (set (put was 0 (tab start n)) n (start n)) (n + 1))
    ∙ sym (put-cons (put was 0 (tab start n)) n (start n) [] room)
    ∙ ap (λ (m : ℕ). put (put was 0 (tab start n)) m (start n ∷ [])) here
    ∙ put-append was 0 (tab start n) (start n ∷ []) (omega (arith, k))

-- an empty one stays empty
pub noted_none : (start : ℕ → ℕ) (n : ℕ) → noted start [] n ≡ []
unfolding noted
noted_none start zero = refl
noted_none start (suc n) = ap (λ (l : List ℕ). set l n (start n)) (noted_none start n)

-- the place in the file of a stream's row; the file's first byte is at `origin` of the buffer
pub stream_place : (d w h : ℕ) (plane : List ℕ) (stride at origin y o : ℕ) → origin ≤ at → o ≡ at + length (cat (stream_row d w h plane stride) y)
    → o - origin ≡ at - origin + stream_start d w h plane stride y
unfolding stream_start
stream_place d w h plane stride at origin y o k e = omega arith
