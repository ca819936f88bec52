use Rattle.leaves.specs.Texts.{bytes_of}
use Rattle.command.specs.Commands.{fault_line}
use Rattle.command.proofs.check.fault_line.Goals as goal

pub returns-in-UnknownOption : goal.returns-in-UnknownOption
unfolding fault_line bytes_of
returns-in-UnknownOption c = rw c.in-UnknownOption.is

pub returns-in-NoValue : goal.returns-in-NoValue
unfolding fault_line bytes_of
returns-in-NoValue c = rw c.in-NoValue.is

pub returns-in-NoNumber : goal.returns-in-NoNumber
unfolding fault_line bytes_of
returns-in-NoNumber c = rw c.in-NoNumber.is

pub returns-in-UnknownFormat : goal.returns-in-UnknownFormat
unfolding fault_line bytes_of
returns-in-UnknownFormat c = rw c.in-UnknownFormat.is

pub returns-in-NotMasks : goal.returns-in-NotMasks
unfolding fault_line bytes_of
returns-in-NotMasks c = rw c.in-NotMasks.is

pub returns-in-NotCalibrated : goal.returns-in-NotCalibrated
unfolding fault_line bytes_of
returns-in-NotCalibrated c = rw c.in-NotCalibrated.is

pub returns-in-NoStride : goal.returns-in-NoStride
unfolding fault_line bytes_of
returns-in-NoStride c = rw c.in-NoStride.is

pub returns-in-TakesNoValue : goal.returns-in-TakesNoValue
unfolding fault_line bytes_of
returns-in-TakesNoValue c = rw c.in-TakesNoValue.is

pub returns-in-WordBehind : goal.returns-in-WordBehind
unfolding fault_line bytes_of
returns-in-WordBehind c = rw c.in-WordBehind.is

pub returns-in-NoLimit : goal.returns-in-NoLimit
unfolding fault_line bytes_of
returns-in-NoLimit c = rw c.in-NoLimit.is

pub returns-in-NoPels : goal.returns-in-NoPels
unfolding fault_line bytes_of
returns-in-NoPels c = rw c.in-NoPels.is
