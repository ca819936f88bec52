-- What a command that paints a grid from prices promises: the cells, which are then the plane, or why there are none.
use Rattle.std.specs.Prelude.{Bool, true, false, cond, ◌&&◌, ◌⊎◌, ◌≡◌, List, [], ℕ, zero, suc, eqb, leb, Float, length}
use Rattle.leaves.specs.Texts.{bytes_of}
use Rattle.arguments.specs.Options.{numbered, value_of}
use Rattle.arguments.specs.Words.{item_at}
use Rattle.messages.specs.Messages.{decimal, filled, Says}
use Rattle.grids.specs.Scale.{Shaded}
use Rattle.command.specs.Commands.{check_status}
use Rattle.command.specs.Runs.{causes, refused_line, told_answer, NotRun}
use Rattle.command.specs.SheetReads.{refused_answer}
use Rattle.command.specs.declared.CommandAnswer.{CommandAnswer}

-- ---- the counts of the lists

-- a high for each low and no more, and memory for their cells
unfoldable pub lists_fit : ℕ → ℕ → ℕ → Bool
lists_fit lows highs cells = eqb highs lows && leb lows cells

-- the file of the highs and their count, the file of the lows and theirs
unfoldable pub counts_line : List ℕ
counts_line = bytes_of "@: # prices, and % has &\n"

unfoldable pub no_cells_line : List ℕ
no_cells_line = bytes_of "not enough memory for the cells\n"

unfoldable pub counts_text : List (List ℕ) → ℕ → ℕ → List ℕ
counts_text ws lows highs = filled (value_of (numbered "--highs") ws) (decimal highs) (value_of (numbered "--lows") ws) (decimal lows) counts_line

-- of lists that do not fit
unfoldable pub lists_text : List (List ℕ) → ℕ → ℕ → List ℕ
lists_text ws lows highs = cond (eqb highs lows) (filled [] [] [] [] no_cells_line) (counts_text ws lows highs)

-- ---- the painting

-- by its number: the answer, and the message
abbrev pub shaded_answer : ℕ → ℕ → CommandAnswer
shaded_answer zero text = told_answer 3 text
shaded_answer (suc n) text = refused_answer (suc n) 0 text

abbrev pub shaded_text : ℕ → List ℕ
shaded_text zero = []
shaded_text (suc n) = filled (decimal (suc n)) (item_at causes (suc n)) [] [] refused_line

-- of lists that do not fit: nothing is painted
pub record Unfit (ws : List (List ℕ)) (lows highs : List Float) (was later text_was text_later : List ℕ) (answer : CommandAnswer) : Type 0 where
  pub trouble : lists_fit (length lows) (length highs) (length was) ≡ false
  pub numbers : answer ≡ told_answer 2 answer.text
  pub message : Says text_was 0 (lists_text ws (length lows) (length highs)) text_later answer.text
  pub same : later ≡ was

-- of lists that do: the painting's number with its whole promise
pub record Paints (edges lows highs : List Float) (was later text_was text_later : List ℕ) (answer : CommandAnswer) : Type 0 where
  pub fit : lists_fit (length lows) (length highs) (length was) ≡ true
  pub number : ℕ
  pub shaded : Shaded edges lows highs was later number
  pub numbers : answer ≡ shaded_answer number answer.text
  pub message : Says text_was 0 (shaded_text number) text_later answer.text

abbrev pub Quoted : List (List ℕ) → List Float → List Float → List Float → List ℕ → List ℕ → List ℕ → List ℕ → CommandAnswer → Type 0
Quoted ws edges lows highs was later text_was text_later answer =
    Unfit ws lows highs was later text_was text_later answer ⊎ Paints edges lows highs was later text_was text_later answer

-- the promise
abbrev pub QuoteRan : List (List ℕ) → List Float → List Float → List Float → List ℕ → List ℕ → List ℕ → List ℕ → CommandAnswer → Type 0
QuoteRan ws edges lows highs was later text_was text_later answer =
    NotRun ws was later text_was text_later answer ⊎ ((check_status ws ≡ 3) × Quoted ws edges lows highs was later text_was text_later answer)
