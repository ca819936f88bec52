-- Shades: on a list where every edge before one at or below the price is so too, the shade parts the edges; so sixteen comparisons with block ends and sixteen
-- in a block find it, and a cell needs one search.
use mathlib.Core.Path.{◌≡◌, refl, sym, ap, ◌∙◌}
use mathlib.Core.Bool.{Bool, true, false, cond, true≢false}
use mathlib.Core.List.{List, [], ◌∷◌, ◌++◌}
use Prim.Native.Nat.{ℕ, zero, suc, ◌+◌, ◌*◌, ◌/◌, ◌≤◌, ◌<◌, ◌-◌}
use native.Mathlib.Decide.{dec_lt}
use native.Mathlib.Nat.{not-suc-le-zero, le_of_suc-le-suc}
use native.Mathlib.Omega.{arith}
use borrow.Author.Tests.{eq-eqb, ne_eqb}
use lib.Ieee.{Float, nan, is_nan, le}
use lib.ListN.{length, get_or, take, drop, get_or-eq_default, length-drop}
use lib.ListN.{replicate, length-append, get_or-append}
use lib.Seq.{length-take-le, get_or-take, get_or-drop, get_or-append_right}
use Rattle.std.proofs.lemmas.List.{length-replicate, get_or-replicate, drop-replicate}
use Rattle.std.specs.List.{count_by}
use Rattle.std.proofs.lemmas.List.Recursion.{is_count_by}
use Rattle.leaves.specs.Refusals.{one}
use Rattle.grids.specs.Levels.{Falls, Padded, Levels, Spread}
use Rattle.grids.specs.Scale.{shade_of, index_of, not_scale, not_quote}
use Rattle.grids.specs.declared.scale.Quote.{Quote}
use Rattle.grids.proofs.FloatOrder.{truth, holds, le_trans, nan_le}
use Rattle.grids.proofs.Scales.{few_edges, scale_rises, earlier, quote_le}

-- ---- the count

one_more : (b : Bool) (s n : ℕ) → s ≤ n → one b + s ≤ suc n
one_more true s n h = omega arith
one_more false s n h = omega arith

pub shade_few : (edges : List Float) (price : Float) → shade_of edges price ≤ length edges
unfolding shade_of
shade_few [] price = omega arith
shade_few (edge ∷ edges) price = one_more (le edge price) (shade_of edges price) (length edges) (shade_few edges price)

-- where the edges part is the count
count_at : (edges : List Float) (price : Float) (n : ℕ) → n ≤ length edges
    → ((k : ℕ) → k < n → le (get_or edges k nan) price ≡ true)
    → ((k : ℕ) → n ≤ k → k < length edges → le (get_or edges k nan) price ≡ false)
    → n ≡ shade_of edges price
unfolding shade_of
count_at [] price n h a b = omega arith
count_at (edge ∷ edges) price zero h a b =
    rw (b 0 (omega arith) (omega arith))
    (omega (arith, count_at edges price zero (omega arith) (λ k l. absurd (not-suc-le-zero l)) (λ k l m. b (suc k) (omega arith) (omega arith))))
count_at (edge ∷ edges) price (suc n) h a b =
    rw (a 0 (omega arith))
    (omega (arith, count_at edges price n (le_of_suc-le-suc h) (λ k l. a (suc k) (omega arith)) (λ k l m. b (suc k) (omega arith) (omega arith))))

-- ---- an edge is at or below the price exactly where its place is below the shade

pub record Parts (edges : List Float) (price : Float) (k : ℕ) : Type 0 where
  pub under : le (get_or edges k nan) price ≡ true → k < shade_of edges price
  pub over : le (get_or edges k nan) price ≡ false → shade_of edges price ≤ k

false_or : (b : Bool) → (b ≡ true → ⊥) → b ≡ false
false_or true f = absurd (f refl)
false_or false f = refl

true_or : (b : Bool) → (b ≡ false → ⊥) → b ≡ true
true_or true f = refl
true_or false f = absurd (f refl)

none_under : (edges : List Float) (price : Float) → ((k : ℕ) → k < length edges → le (get_or edges k nan) price ≡ false) → shade_of edges price ≡ 0
none_under edges price h = sym (count_at edges price 0 (omega arith) (λ k l. absurd (not-suc-le-zero l)) (λ k l m. h k m))

tail_falls : (edge : Float) (edges : List Float) → Falls (edge ∷ edges) → Falls edges
tail_falls edge edges f price j k h l e = f price (suc j) (suc k) (omega arith) (omega arith) e

pub parts : (edges : List Float) (price : Float) → Falls edges → (k : ℕ) → k < length edges → Parts edges price k
unfolding shade_of
parts [] price f k h = absurd (not-suc-le-zero h)
parts (edge ∷ edges) price f zero h = record {
  under = λ e. rw e (omega arith);
  over = λ e. rw e
      (omega (arith, none_under edges price (λ k l. false_or (le (get_or edges k nan) price) (λ t. true≢false (sym (f price 0 (suc k) (omega arith) (omega arith) t) ∙ e)))));
}
parts (edge ∷ edges) price f (suc k) h =
    let r : Parts edges price k = parts edges price (tail_falls edge edges f) k (le_of_suc-le-suc h) in
    record {
      under = λ e. rw (f price 0 (suc k) (omega arith) h e) (omega (arith, r.under e));
      over = λ e. one_more (le edge price) (shade_of edges price) k (r.over e);
    }

-- ---- a scale in blocks

-- edges with NaNs behind them have the same shades
module _ (edges ends blocks : List Float) (scale : not_scale edges ≡ false) (s : Spread edges ends blocks) where
  at_block : (price : Float) (k : ℕ) → k < 256 → le (get_or blocks k nan) price ≡ le (get_or edges k nan) price
  at_block price k l = ap (λ (x : Float). le x price) (s.padded.each k l)

  behind : (price : Float) (k : ℕ) → length edges ≤ k → k < 256 → le (get_or blocks k nan) price ≡ false
  unfolding is_nan
  behind price k h l = at_block price k l ∙ ap (λ (x : Float). le x price) (get_or-eq_default edges nan {n = k} h) ∙ nan_le nan price refl

  blocks_fall : Falls blocks
  blocks_fall price j k h l e =
      elim (dec_lt k (length edges)) [
        | yes p ↦ at_block price j (omega (arith, s.padded.long)) ∙ earlier edges price j k (scale_rises edges scale) h p (sym (at_block price k (omega (arith, s.padded.long))) ∙ e)
        | no p ↦ absurd (true≢false (sym e ∙ behind price k (omega arith) (omega (arith, s.padded.long))))
      ]

  pub levels : Levels (length edges / 16) ends blocks
  unfolding is_nan
  levels = record {
    long = s.padded.long;
    falls = blocks_fall;
    few = omega (arith, few_edges edges scale);
    open_end = ap is_nan (s.padded.each (16 * (length edges / 16) + 15) (omega (arith, few_edges edges scale)) ∙ get_or-eq_default edges nan {n = 16 * (length edges / 16) + 15} (omega arith));
    block_ends = s.block_ends;
  }

  part : (price : Float) (k : ℕ) → k < 256 → Parts blocks price k
  part price k l = parts blocks price blocks_fall k (omega (arith, s.padded.long))

  same-shade : (price : Float) → shade_of blocks price ≡ shade_of edges price
  same-shade price = count_at edges price (shade_of blocks price) few low high
    where
      few : shade_of blocks price ≤ length edges
      few = (part price (length edges) (omega (arith, few_edges edges scale))).over (behind price (length edges) (omega arith) (omega (arith, few_edges edges scale)))

      low : (k : ℕ) → k < shade_of blocks price → le (get_or edges k nan) price ≡ true
      low k h =
          let l : k < 256 = omega (arith, few, few_edges edges scale) in
          true_or (le (get_or edges k nan) price) (λ e. let o : shade_of blocks price ≤ k = (part price k l).over (at_block price k l ∙ e) in omega arith)

      high : (k : ℕ) → shade_of blocks price ≤ k → k < length edges → le (get_or edges k nan) price ≡ false
      high k h m =
          let l : k < 256 = omega (arith, few_edges edges scale) in
          false_or (le (get_or edges k nan) price) (λ e. let u : k < shade_of blocks price = (part price k l).under (at_block price k l ∙ e) in omega arith)

  pub same_index : (quoted : Quote) → index_of blocks quoted ≡ index_of edges quoted
  unfolding index_of
  same_index quoted = rw (same-shade quoted.low, same-shade quoted.high)

-- the edges written over the start of a list of NaNs
pub padded_is : (edges was blank : List Float) (x : Float) → length edges ≤ 256 → was ≡ edges → blank ≡ replicate 256 x → x ≡ nan → Padded edges (was ++ drop (length edges) blank)
padded_is edges was blank x few w b n =
    let tail : drop (length edges) blank ≡ replicate (256 - length edges) x = ap (drop (length edges)) b ∙ drop-replicate (length edges) 256 x in
    record {
      long = length-append was (drop (length edges) blank) ∙ rw (w, tail, length-replicate (256 - length edges) x) (omega arith);
      each = λ k h.
          elim (dec_lt k (length edges)) [
            | yes p ↦ rw w (get_or-append edges (drop (length edges) blank) nan k p)
            | no p ↦ rw (w, get_or-append_right edges (drop (length edges) blank) k nan (omega arith), tail, get_or-replicate (256 - length edges) (k - length edges) x nan (omega arith), n)
                (sym (get_or-eq_default edges nan {n = k} (omega arith)))
          ];
    }

-- ---- the search

-- std's count is the shade
count_is : (price : Float) (edges : List Float) → shade_of edges price ≡ count_by (λ edge. le edge price) edges
unfolding shade_of
count_is price = is_count_by (λ edges. shade_of edges price) (λ edge. le edge price) refl (λ edge edges. by (le edge price) (shade_of edges price))
  where
    by : (b : Bool) (s : ℕ) → one b + s ≡ cond b (1 + s) s
    by true s = refl
    by false s = omega arith

module _ (full : ℕ) (ends blocks : List Float) (l : Levels full ends blocks) (price : Float) where
  -- no shade is behind the NaN
  pub shade_small : shade_of blocks price ≤ 16 * full + 15
  shade_small =
      (parts blocks price l.falls (16 * full + 15) (omega (arith, l.long, l.few))).over (nan_le (get_or blocks (16 * full + 15) nan) price l.open_end)

  pub end_under : (i : ℕ) → i < 16 → le (get_or ends i nan) price ≡ true → 16 * i + 15 < shade_of blocks price
  end_under i h e = (parts blocks price l.falls (16 * i + 15) (omega (arith, l.long))).under (sym (ap (λ (x : Float). le x price) (l.block_ends i h)) ∙ e)

  pub end_over : (i : ℕ) → i < 16 → le (get_or ends i nan) price ≡ false → shade_of blocks price ≤ 16 * i + 15
  end_over i h e = (parts blocks price l.falls (16 * i + 15) (omega (arith, l.long))).over (sym (ap (λ (x : Float). le x price) (l.block_ends i h)) ∙ e)

  pub place_under : (k : ℕ) → k < 256 → le (get_or blocks k nan) price ≡ true → k < shade_of blocks price
  place_under k h e = (parts blocks price l.falls k (omega (arith, l.long))).under e

  pub place_over : (k : ℕ) → k < 256 → le (get_or blocks k nan) price ≡ false → shade_of blocks price ≤ k
  place_over k h e = (parts blocks price l.falls k (omega (arith, l.long))).over e

  -- after the ends of the full blocks the block is known
  whole_blocks : length ends ≡ 16 → (whole : ℕ) → whole ≡ count_by (λ edge. le edge price) (take full ends) → whole ≡ shade_of blocks price / 16
  whole_blocks e whole w =
      let t = shade_of blocks price in
      let n : t / 16 ≤ full = omega (arith, shade_small) in
      w ∙ sym (count_is price (take full ends)) ∙ sym (count_at (take full ends) price (t / 16) (omega (arith, length-take-le full ends (omega (arith, l.few, e)))) (λ k h. rw (get_or-take full ends k nan (omega arith)) (true_or (le (get_or ends k nan) price) (λ q. let o : t ≤ 16 * k + 15 = end_over k (omega (arith, l.few)) q in omega arith))) (λ k h m. let i : k < full = omega (arith, length-take-le full ends (omega (arith, l.few, e))) in rw (get_or-take full ends k nan i) (false_or (le (get_or ends k nan) price) (λ q. let u : 16 * k + 15 < t = end_under k (omega (arith, l.few)) q in omega arith))))

  pub shade_found : length ends ≡ 16 → (whole count : ℕ) → whole ≡ count_by (λ edge. le edge price) (take full ends)
      → count ≡ count_by (λ edge. le edge price) (take 16 (drop (16 * whole) blocks)) → 16 * whole + count ≡ shade_of blocks price
  shade_found e whole count w c =
      let t = shade_of blocks price in
      let i : whole ≡ t / 16 = whole_blocks e whole w in
      let few : whole ≤ 15 = omega (arith, shade_small, l.few) in
      let block = take 16 (drop (16 * whole) blocks) in
      let long : length block ≡ 16 = length-take-le 16 (drop (16 * whole) blocks) (omega (arith, length-drop (16 * whole) blocks, l.long)) in
      let at : (k : ℕ) → k < 16 → get_or block k nan ≡ get_or blocks (16 * whole + k) nan = λ k h. get_or-take 16 (drop (16 * whole) blocks) k nan h ∙ get_or-drop (16 * whole) blocks k nan in
      let n : count ≡ t - 16 * whole = c ∙ sym (count_is price block) ∙ sym (count_at block price (t - 16 * whole) (omega arith) (λ k h. rw (at k (omega arith)) (true_or (le (get_or blocks (16 * whole + k) nan) price) (λ q. let o : t ≤ 16 * whole + k = place_over (16 * whole + k) (omega arith) q in omega arith))) (λ k h m. rw (at k (omega arith)) (false_or (le (get_or blocks (16 * whole + k) nan) price) (λ q. let u : 16 * whole + k < t = place_under (16 * whole + k) (omega arith) q in omega arith)))) in
      omega arith

-- ---- a cell

at_least : (a b c : Bool) → (c ≡ true → b ≡ true) → (m n : ℕ) → m ≤ n → one c + m ≤ one b + n
at_least a b true f m n h = rw (f refl) (omega arith)
at_least a b false f m n h = omega arith

-- a higher price has no lower shade
pub shade_mono : (edges : List Float) (x y : Float) → le x y ≡ true → shade_of edges x ≤ shade_of edges y
unfolding shade_of
shade_mono [] x y h = omega arith
shade_mono (edge ∷ edges) x y h =
    at_least true (le edge y) (le edge x) (λ e. truth (le_trans edge x y (holds e) (holds h))) (shade_of edges x) (shade_of edges y) (shade_mono edges x y h)

-- prices that compare as equal, as -0 and 0 do, have one shade
pub same_price : (edges : List Float) (x y : Float) → le x y ≡ true → le y x ≡ true → shade_of edges x ≡ shade_of edges y
same_price edges x y h k = let a = shade_mono edges x y h in let b = shade_mono edges y x k in omega arith

-- the next edge is at or below the high, and the shades differ; or it is not, and they are one
module _ (full : ℕ) (ends blocks : List Float) (l : Levels full ends blocks) (quoted : Quote) (low : ℕ) (found : low ≡ shade_of blocks quoted.low) where
  pub next_small : low < 256
  next_small = let h = shade_small full ends blocks l quoted.low in omega (arith, l.few)

  pub index_hatch : le (get_or blocks low nan) quoted.high ≡ true → 255 ≡ index_of blocks quoted
  unfolding index_of
  index_hatch e =
      let h : low < shade_of blocks quoted.high = place_under full ends blocks l quoted.high low next_small e in
      rw (ne_eqb (shade_of blocks quoted.low) (shade_of blocks quoted.high) (λ q. omega arith))

  pub index_shade : not_quote quoted ≡ false → le (get_or blocks low nan) quoted.high ≡ false → low ≡ index_of blocks quoted
  unfolding index_of
  index_shade good e =
      let h : shade_of blocks quoted.high ≤ low = place_over full ends blocks l quoted.high low next_small e in
      let k : shade_of blocks quoted.low ≤ shade_of blocks quoted.high = shade_mono blocks quoted.low quoted.high (quote_le quoted good) in
      rw (eq-eqb (shade_of blocks quoted.low) (shade_of blocks quoted.high) (omega arith)) found
