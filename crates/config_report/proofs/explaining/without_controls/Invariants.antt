use Rattle.std.proofs.Common.{◌≡◌, ◌++◌, IsUtf8, string_bytes}
use Rattle.std.specs.Char.{is_control}
use Rattle.std.specs.Str.{NoCharPasses}
use Rattle.std.specs.Str.Iter.{chars_rest}
use Rattle.config_report.specs.Plain.{without_controls}
use Rattle.config_report.proofs.explaining.without_controls.Given as goal

abbrev pub invariant-loop-character : goal.invariant-loop-character
invariant-loop-character l =
    record {
      plain : NoCharPasses is_control (string_bytes l.text);
      utf8 : IsUtf8 (chars_rest l.character-iterator);
      text : string_bytes l.text ++ without_controls (chars_rest l.character-iterator) ≡ without_controls l.fn.line;
    }
