use Rattle.leaves.specs.Texts.{bytes_of}
use Rattle.command.specs.Commands.{joint_line}
use Rattle.command.proofs.check.joint_line.Goals as goal

pub returns-in-NoCells : goal.returns-in-NoCells
unfolding joint_line bytes_of
returns-in-NoCells c = rw c.in-NoCells.is

pub returns-in-PlaneAndCsv : goal.returns-in-PlaneAndCsv
unfolding joint_line bytes_of
returns-in-PlaneAndCsv c = rw c.in-PlaneAndCsv.is

pub returns-in-NoWidth : goal.returns-in-NoWidth
unfolding joint_line bytes_of
returns-in-NoWidth c = rw c.in-NoWidth.is

pub returns-in-NoHeight : goal.returns-in-NoHeight
unfolding joint_line bytes_of
returns-in-NoHeight c = rw c.in-NoHeight.is

pub returns-in-SizeWithCsv : goal.returns-in-SizeWithCsv
unfolding joint_line bytes_of
returns-in-SizeWithCsv c = rw c.in-SizeWithCsv.is

pub returns-in-CsvNotIndexed : goal.returns-in-CsvNotIndexed
unfolding joint_line bytes_of
returns-in-CsvNotIndexed c = rw c.in-CsvNotIndexed.is

pub returns-in-TwoPalettes : goal.returns-in-TwoPalettes
unfolding joint_line bytes_of
returns-in-TwoPalettes c = rw c.in-TwoPalettes.is

pub returns-in-NoOut : goal.returns-in-NoOut
unfolding joint_line bytes_of
returns-in-NoOut c = rw c.in-NoOut.is

pub returns-in-ReadAndWrite : goal.returns-in-ReadAndWrite
unfolding joint_line bytes_of
returns-in-ReadAndWrite c = rw c.in-ReadAndWrite.is

pub returns-in-NoCsv : goal.returns-in-NoCsv
unfolding joint_line bytes_of
returns-in-NoCsv c = rw c.in-NoCsv.is

pub returns-in-PricesBesideCells : goal.returns-in-PricesBesideCells
unfolding joint_line bytes_of
returns-in-PricesBesideCells c = rw c.in-PricesBesideCells.is

pub returns-in-PricesApart : goal.returns-in-PricesApart
unfolding joint_line bytes_of
returns-in-PricesApart c = rw c.in-PricesApart.is

pub returns-in-PricesNotPal8 : goal.returns-in-PricesNotPal8
unfolding joint_line bytes_of
returns-in-PricesNotPal8 c = rw c.in-PricesNotPal8.is
