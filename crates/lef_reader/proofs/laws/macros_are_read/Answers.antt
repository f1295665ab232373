use Rattle.lef_reader.proofs.SpelledMacros.{macro-line-read, macros-read, pins-read}
use Rattle.lef_reader.proofs.laws.macros_are_read.Goals as goal

pub returns : goal.returns
returns c = record { pins = pins-read; lines = macro-line-read; macros = macros-read }
