use Rattle.std.proofs.Common.{rules, sym}
use Rattle.std.specs.Str.{IsUtf8}
use Rattle.script_words.proofs.FileNames.{is_text}
use Rattle.script_words.proofs.file_name.FileName.new.Goals as goal

pub unreachable-requires : goal.unreachable-requires
unreachable-requires c =
    let text : IsUtf8 c.args.word.now = is_text c.args.word.now (sym c.if-not-is_file_name.ensures) in
    search rules
