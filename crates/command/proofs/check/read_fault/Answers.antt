use mathlib.Core.Bool.{Bool, not}
use mathlib.Core.List.{List}
use mathlib.Core.Path.{◌∙◌, ◌≡◌}
use Prim.Native.Nat.{ℕ}
use Rattle.std.specs.Prelude.{None}
use Rattle.arguments.specs.Options.{is_given}
use Rattle.leaves.specs.Texts.{bytes_of}
use Rattle.arguments.specs.Options.{option_names, option_named}
use Rattle.arguments.specs.Words.{up_to, place_among, alike, words_of}
use Rattle.command.specs.declared.check.JointFault.TheVariants.{ReadAndWrite, NoCsv}
use Rattle.command.specs.Commands.{first_found, asks_writing, read_fault}
use Rattle.command.proofs.CheckLaws.{first_test, next_test}
use Rattle.command.proofs.check.read_fault.Goals as goal

joined : (ws : List (List ℕ)) (writing csv : Bool) → writing ≡ asks_writing ws → csv ≡ is_given 20 ws → first_found (first_found None writing ReadAndWrite) (not csv) NoCsv ≡ read_fault ws
unfolding read_fault bytes_of option_names option_named place_among alike up_to
joined ws writing csv e f = rw (e, f)

pub returns : goal.returns
returns c =
    next_test NoCsv _ c.or.ensures c.then_some-2.ensures (first_test ReadAndWrite _ c.then_some.ensures)
    ∙ joined (words_of c.args.words.now) c.asks_writing.result c.is_given-csv.result c.asks_writing.ensures c.is_given-csv.ensures
