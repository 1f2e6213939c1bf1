use Rattle.std.proofs.Common.{◌≡◌, take}
use Rattle.sqs_replay.specs.Sheets.{sheets_of}
use Rattle.sqs_replay.proofs.statistics.sheets_of_names.Given as goal

abbrev pub invariant-loop-name : goal.invariant-loop-name
invariant-loop-name l = record {
  state : l.house ≡ l.fn.house;
  sheets : l.sheets.items ≡ take l.name-index (sheets_of l.fn.house);
}
