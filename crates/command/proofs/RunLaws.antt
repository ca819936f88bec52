-- Numbers in messages, and the answers of a run.
use mathlib.Core.Bool.{Bool, true, false, cond}
use mathlib.Core.Logic.{inl, inr}
use mathlib.Core.List.{List, []}
use mathlib.Core.Path.{◌≡◌, refl, sym, ap, subst, ◌∙◌}
use Prim.Native.Nat.{ℕ, ◌-◌}
use native.Mathlib.Omega.{arith}
use lib.ListN.{length, take}
use lib.Seq.{take-nil}
use Rattle.std.proofs.Common.{Ok, Err}
use Rattle.std.specs.Result.{result_unwrap_or}
use Rattle.leaves.specs.declared.encoder.EncodeSource.{EncodeSource}
use Rattle.leaves.specs.declared.error.Refusal.{Refusal}
use Rattle.leaves.specs.Formats.{written_name}
use Rattle.leaves.specs.Put.{put}
use Rattle.leaves.specs.Refusals.{number_of}
use Rattle.leaves.specs.Texts.{bytes_of}
use Rattle.leaves.proofs.Puts.{inside_put, put-nil}
use Rattle.format.specs.Input.{Input}
use Rattle.planner.specs.Answers.{EncodeAnswer, BoundAnswer, Written, Sized, bound_bytes}
use Rattle.planner.specs.Calls.{called}
use Rattle.planner.specs.declared.encoder.Encoded.{Encoded}
use Rattle.arguments.specs.Options.{option_names, option_named, is_none, is_given, value_of, first_fault, format_asked, source_asked, options_asked}
use Rattle.arguments.specs.Words.{up_to, place_among, alike, item_at}
use Rattle.messages.specs.Checksum.{cksum}
use Rattle.messages.specs.Messages.{decimal, filled, Says}
use Rattle.sheets.specs.Sheets.{sheet_rows, width_of, is_grid, cells_of, SheetRead}
use Rattle.std.specs.Prelude.{Option, Some, None, is_some, Result, Ok}
use Rattle.command.specs.declared.check.JointFault.{JointFault}
use Rattle.sheets.specs.declared.Grid.{Grid}
use Rattle.sheets.specs.declared.SheetError.{SheetError}
use Rattle.command.specs.Commands.{joint_fault, joint_text_of, fault_text_at, help_text, version_text, asks_help, check_status, check_text}
use Rattle.command.specs.Runs.{causes, told_answer, too_long_of, too_long_text, written_answer, written_text, written_line, refused_line, Checked, Encodes, most_index, sheet_source, palette_for, sheet_input, is_index_grid, SheetRun, Runs, Ran}
use Rattle.command.specs.Sample.{sample_palette}
use Rattle.command.specs.declared.CommandAnswer.{CommandAnswer}

-- ---- messages

-- what is said of a file, and of a refusal
pub file_text : (ws : List (List ℕ)) (out name file : List ℕ) (written : Encoded) (e : EncodeAnswer) → e ≡ Ok written → name ≡ value_of 24 ws → file ≡ take written.bytes out
    → filled name (written_name written.format) (decimal (length file)) (decimal (cksum file)) written_line ≡ written_text ws out e
unfolding bytes_of option_names option_named place_among alike up_to
file_text ws out name file written e eb en ef = rw (eb, en, ef)

pub refused_text : (ws : List (List ℕ)) (out : List ℕ) (why : Refusal) (e : EncodeAnswer) → e ≡ Err why → filled (decimal (number_of why)) (item_at causes (number_of why)) [] [] refused_line ≡ written_text ws out e
refused_text ws out why e eb = rw eb

-- a message of nothing changes nothing
pub nothing_said : {was message later : List ℕ} {n : ℕ} → message ≡ [] → Says was 0 message later n → later ≡ was
nothing_said {was} {message} {later} {n} e s =
    s.text ∙ ap (λ (m : List ℕ). put was 0 (take (length was - 0) m)) e ∙ ap (put was 0) (take-nil (length was - 0)) ∙ put-nil was 0

-- ---- a picture

-- the bound that is told
pub bound_told : (b : BoundAnswer) → result_unwrap_or b 0 ≡ bound_bytes b
bound_told (Ok bytes) = refl
bound_told (Err why) = refl

pub is_flag : (ws : List (List ℕ)) (bound : BoundAnswer) (source : EncodeSource) (bytes : ℕ) (more r b : Bool) → r ≡ too_long_of bound source bytes more → more ≡ is_given 4 ws → r ≡ b
    → too_long_of bound source bytes (is_given 4 ws) ≡ b
is_flag ws bound source bytes more r b e f g = ap (too_long_of bound source bytes) (sym f) ∙ sym e ∙ g

module _ {ws : List (List ℕ)} {i : Input} {bound : BoundAnswer} (sized : Sized i bound) where
  pub too_long : {was text_was text_later : List ℕ} {answer : CommandAnswer} {n : ℕ} → too_long_of bound i.source (length i.plane) (is_given 4 ws) ≡ true → answer ≡ told_answer 2 n → Says text_was 0 (too_long_text i) text_later n
      → Encodes ws i was was text_was text_later answer
  unfolding bytes_of option_names option_named place_among alike up_to
  too_long {was} {text_was} {text_later} {answer} {n} long e said =
      let k : answer.text ≡ n = ap (λ (x : CommandAnswer). x.text) e in
      inl (record {
        bound = bound;
        sized = sized;
        longer = long;
        numbers = e ∙ ap (told_answer 2) (sym k);
        message = subst (λ (x : ℕ). Says text_was 0 (too_long_text i) text_later x) (sym k) said;
        buffer = refl;
      })

  pub writes : {was later text_was text_later : List ℕ} {answer : CommandAnswer} {writer : EncodeAnswer} {k : ℕ} → too_long_of bound i.source (length i.plane) (is_given 4 ws) ≡ false → Written i 0 was later writer
      → k ≡ bound_bytes bound → answer ≡ written_answer k answer.text writer → Says text_was 0 (written_text ws later writer) text_later answer.text → Encodes ws i was later text_was text_later answer
  unfolding bytes_of option_names option_named place_among alike up_to
  writes {was} {later} {text_was} {text_later} {answer} {writer} {k} fits written e numbers said =
      inr (record {
        bound = bound;
        sized = sized;
        fits = fits;
        writer = writer;
        written = written;
        numbers = numbers ∙ ap (λ (x : ℕ). written_answer x answer.text writer) e;
        message = said;
      })

-- ---- a sheet

module _ (ws : List (List ℕ)) (sheet palette icc linked cells : List ℕ) where
  module _ (most : ℕ) (later : List ℕ) (is : most ≡ most_index (format_asked ws)) (read : Result Grid SheetError) (done : SheetRead read most (sheet_rows sheet) cells later) where
    as_read : (r : Result Grid SheetError) → read ≡ r → SheetRead r most (sheet_rows sheet) cells later
    as_read r e = subst (λ (x : Result Grid SheetError). SheetRead x most (sheet_rows sheet) cells later) e done

    same_grid : (b : Bool) → is_grid most (width_of (sheet_rows sheet)) (sheet_rows sheet) ≡ b → is_index_grid ws sheet ≡ b
    same_grid b e = ap (λ (m : ℕ). is_grid m (width_of (sheet_rows sheet)) (sheet_rows sheet)) (sym is) ∙ e

    module _ (grid : Grid) (e : read ≡ Ok grid) where
      read_as : SheetRead (Ok grid) most (sheet_rows sheet) cells later
      read_as = as_read (Ok grid) e

      is_grid_lem : is_index_grid ws sheet ≡ true
      is_grid_lem = same_grid true (ap (λ (w : ℕ). is_grid most w (sheet_rows sheet)) (sym read_as.1) ∙ read_as.0)

      cells-read : take grid.cells later ≡ cells_of (sheet_rows sheet)
      cells-read =
          let s = cells_of (sheet_rows sheet) in
          ap (λ (k : ℕ). take k later) read_as.3 ∙ ap (λ (l : List ℕ). take (length s) l) read_as.5 ∙ inside_put cells 0 s (omega arith)

      pub grid_run : {was out text_was text_later : List ℕ} {answer : CommandAnswer} (source : EncodeSource) (plane : List ℕ) → source ≡ sheet_source ws grid.width grid.height → plane ≡ take grid.cells later
          → Encodes ws (called source (options_asked ws) plane palette icc linked) was out text_was text_later answer → SheetRun ws sheet palette icc linked cells was out text_was text_later answer
      grid_run {was} {out} {text_was} {text_later} {answer} source plane es ep done =
          let input : called source (options_asked ws) plane palette icc linked ≡ sheet_input ws sheet palette icc linked =
          rw (es, ep, cells-read, read_as.1, read_as.2) in
          inr (is_grid_lem, subst (λ (i : Input). Encodes ws i was out text_was text_later answer) input done)

-- ---- the run

module _ (ws : List (List ℕ)) (plane palette icc linked cells was later text_was text_later : List ℕ) (answer : CommandAnswer) where
  pub sheet_runs : is_given 20 ws ≡ true → SheetRun ws plane palette icc linked cells was later text_was text_later answer → Runs (is_given 20 ws) ws plane palette icc linked cells was later text_was text_later answer
  sheet_runs e r = subst (λ (b : Bool). Runs b ws plane palette icc linked cells was later text_was text_later answer) (sym e) r

  pub plane_runs : (source : EncodeSource) → is_given 20 ws ≡ false → source ≡ source_asked ws → Encodes ws (called source (options_asked ws) plane palette icc linked) was later text_was text_later answer
      → Runs (is_given 20 ws) ws plane palette icc linked cells was later text_was text_later answer
  plane_runs source e f r =
      subst (λ (b : Bool). Runs b ws plane palette icc linked cells was later text_was text_later answer) (sym e)
      (subst (λ (s : EncodeSource). Encodes ws (called s (options_asked ws) plane palette icc linked) was later text_was text_later answer) f r)

-- the words of a command that is run have no message
pub no_message : (ws : List (List ℕ)) → check_status ws ≡ 3 → check_text ws ≡ []
unfolding check_status check_text joint_text_of
no_message ws e = go (is_none (first_fault ws)) (asks_help ws) (is_given (option_named (bytes_of "--version")) ws) (joint_fault ws) e
  where
    go : (a b c : Bool) (d : Option JointFault) → ◌≡◌ {A = ℕ} (cond a (cond b 0 (cond c 0 (cond (is_some d) 2 3))) 2) 3 → cond a (cond b help_text (cond c version_text (joint_text_of d))) (fault_text_at (first_fault ws)) ≡ []
    go true true c d q = let z : ⊥ = omega arith in absurd z
    go true false true d q = let z : ⊥ = omega arith in absurd z
    go true false false None q = refl
    go true false false (Some fault) q = let z : ⊥ = omega arith in absurd z
    go false b c d q = let z : ⊥ = omega arith in absurd z

module _ {ws : List (List ℕ)} {text_was text_later : List ℕ} {r : CommandAnswer} (checked : Checked ws text_was text_later r) where
  pub status_is : r.status ≡ check_status ws
  status_is = ap (λ (x : CommandAnswer). x.status) checked.numbers

  module _ (plane palette icc linked cells was : List ℕ) where
    pub not-run : (r.status ≡ 3 → ⊥) → Ran ws plane palette icc linked cells was was text_was text_later r
    not-run n = inl (record { status = λ e. n (status_is ∙ e); checked = checked; buffer = refl })

    pub has_run : {chosen later text_end : List ℕ} {answer : CommandAnswer} → r.status ≡ 3 → chosen ≡ palette_for ws palette → Runs (is_given 20 ws) ws plane chosen icc linked cells was later text_later text_end answer
        → Ran ws plane palette icc linked cells was later text_was text_end answer
    unfolding bytes_of option_names option_named place_among alike up_to
    has_run {chosen} {later} {text_end} {answer} e p done =
        let go : check_status ws ≡ 3 = sym status_is ∙ e in
        let same : text_later ≡ text_was = nothing_said (no_message ws go) checked.message in
        inr (
          go,
          subst (λ (t : List ℕ). Runs (is_given 20 ws) ws plane (palette_for ws palette) icc linked cells was later t text_end answer) same
              (subst (λ (x : List ℕ). Runs (is_given 20 ws) ws plane x icc linked cells was later text_later text_end answer) p done),
        )

pub sample-chosen : (ws : List (List ℕ)) (palette : List ℕ) → is_given 5 ws ≡ true → sample_palette ≡ palette_for ws palette
unfolding palette_for bytes_of option_names option_named place_among alike up_to
sample-chosen ws palette e = rw e

pub lent_chosen : (ws : List (List ℕ)) (palette : List ℕ) → is_given 5 ws ≡ false → palette ≡ palette_for ws palette
unfolding palette_for bytes_of option_names option_named place_among alike up_to
lent_chosen ws palette e = rw e
