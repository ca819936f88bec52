use native.Mathlib.Omega.{arith}
use borrow.Author.Tests.{not-true, not-false}
use lib.ListN.{length}
use Rattle.grids.specs.Scale.{not_scale, some_not_quote}
use Rattle.grids.proofs.Placing.{passes, says_highs, says_plane, says_scale, says_quote, says_painted}
use Rattle.grids.proofs.scale.shade_quotes.Goals as goal

pub returns-then-highs-n : goal.returns-then-highs-n
returns-then-highs-n c =
    let a = c.args in
    says_highs a.edges.now a.lows.now a.highs.now a.plane.now c.if-highs-n.true

pub returns-then-plane-n : goal.returns-then-plane-n
returns-then-plane-n c =
    let a = c.args in
    says_plane a.edges.now a.lows.now a.highs.now a.plane.now c.if-plane-n.true

pub returns-then-not-is_scale : goal.returns-then-not-is_scale
returns-then-not-is_scale c =
    let a = c.args in
    says_scale a.edges.now a.lows.now a.highs.now a.plane.now (omega arith) (omega arith) c.is_scale.result c.is_scale.ensures (not-true _ c.if-not-is_scale.true-raw)

pub returns-then-not-are_quotes : goal.returns-then-not-are_quotes
returns-then-not-are_quotes c =
    let a = c.args in
    says_quote a.edges.now a.lows.now a.highs.now a.plane.now (omega arith) (omega arith) c.is_scale.result c.is_scale.ensures (not-false _ c.if-not-is_scale.false-raw) c.are_quotes.result c.are_quotes.ensures (not-true _ c.if-not-are_quotes.true-raw)

pub fill-requires : goal.fill-requires
fill-requires c =
    let a = c.args in
    record { lows_in_bounds = omega arith; plane_in_bounds = omega arith; edges_rise = passes c.is_scale.result (not_scale a.edges.now) c.is_scale.ensures (not-false _ c.if-not-is_scale.false-raw); all_quotes = passes c.are_quotes.result (some_not_quote a.lows.now a.highs.now (length a.lows.now)) c.are_quotes.ensures (not-false _ c.if-not-are_quotes.false-raw) }

pub returns : goal.returns
returns c =
    let a = c.args in
    says_painted a.edges.now a.lows.now a.highs.now a.plane.now (omega arith) (omega arith) c.is_scale.result c.is_scale.ensures (not-false _ c.if-not-is_scale.false-raw) c.are_quotes.result c.are_quotes.ensures c.fill.new.plane (not-false _ c.if-not-are_quotes.false-raw) c.fill.ensures
