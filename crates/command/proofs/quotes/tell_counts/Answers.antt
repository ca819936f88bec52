use Rattle.arguments.specs.Words.{words_of}
use Rattle.leaves.specs.Texts.{bytes_of}
use Rattle.messages.proofs.MessageLaws.{says_as}
use Rattle.command.specs.QuoteRuns.{counts_line}
use Rattle.command.proofs.QuoteLaws.{counts_said}
use Rattle.command.proofs.quotes.tell_counts.Goals as goal

pub returns : goal.returns
unfolding counts_line bytes_of
returns c =
    let a = c.args in
    says_as (counts_said (words_of a.words.now) a.lows a.highs c.value_of.result.now c.value_of-2.result.now c.value_of.ensures c.value_of-2.ensures) c.tell.ensures
