-- From the answer of the machine to that of a LEF text.
use Rattle.std.proofs.Common.{Option, Some, None, Result, Ok, Err, ap}
use Rattle.std.specs.Option.{option_map}
use Rattle.ld_words.specs.declared.word.WordFault.{WordFault}
use Rattle.ld_words.specs.declared.word.WordFault.TheVariants as word
use Rattle.ld_words.specs.Reading.{Reading as WordsRead}
use Rattle.ld_reader.specs.declared.fault.TextFault.{TextFault}
use Rattle.ld_reader.specs.declared.fault.TextFault.TheVariants as fault
use Rattle.ld_reader.specs.declared.reader.Reader.{Reader}
use Rattle.ld_reader.specs.Answers.{IsAnswer, IsKept, IsLeft}
use Rattle.ld_reader.specs.Reading.{text_of}
use Rattle.lef_forms.specs.declared.class.Class.{Class}
use Rattle.lef_forms.specs.declared.form.Statement.{Statement}
use Rattle.lef_forms.specs.declared.kind.LefKind.{LefKind}
use Rattle.lef_reader.specs.declared.so_far.SoFar.{SoFar}
use Rattle.lef_reader.specs.Reading.{lef_of, rules, start, tree_in}

abbrev Given : Type 0
Given = Result (Reader SoFar Class Statement) (TextFault LefKind)

pub answered : (told : Option WordsRead) (given : Given) → IsAnswer (option_map (text_of rules start) told) given → IsAnswer (option_map lef_of told) (tree_in given)
answered None (Ok r) h = tt
answered None (Err (fault.At line k)) h = tt
answered None (Err (fault.Word (word.OpenQuote line))) h = tt
answered None (Err (fault.Word (word.LongWord line))) h = tt
answered None (Err (fault.Word (word.TooLong line))) h = tt
answered None (Err (fault.Word word.ReadFault)) h = tt
answered None (Err (fault.Word word.Memory)) h = h
answered None (Err fault.Memory) h = tt
answered (Some text) (Ok r) h = ap tree_in h
answered (Some text) (Err (fault.At line k)) h = ap tree_in h
answered (Some text) (Err (fault.Word (word.OpenQuote line))) h = ap tree_in h
answered (Some text) (Err (fault.Word (word.LongWord line))) h = ap tree_in h
answered (Some text) (Err (fault.Word (word.TooLong line))) h = ap tree_in h
answered (Some text) (Err (fault.Word word.ReadFault)) h = tt
answered (Some text) (Err (fault.Word word.Memory)) h = h
answered (Some text) (Err fault.Memory) h = tt

pub kept_so : (stood kept : Option WordFault) (given : Given) → IsKept stood kept given → IsKept stood kept (tree_in given)
kept_so stood kept (Ok r) h = h
kept_so stood kept (Err (fault.At line k)) h = h
kept_so stood kept (Err (fault.Word f)) h = h
kept_so stood kept (Err fault.Memory) h = h

pub left_so : (told left : Option WordsRead) (given : Given) → IsLeft told left given → IsLeft told left (tree_in given)
left_so told left (Ok r) h = h
left_so told left (Err (fault.At line k)) h = h
left_so told left (Err (fault.Word f)) h = h
left_so told left (Err fault.Memory) h = h
