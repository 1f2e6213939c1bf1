use Rattle.std.proofs.Common.{◌≡◌, drop}
use Rattle.statistics_api.specs.Answer.{sheet_named}
use Rattle.statistics_api.proofs.replies.sheet_named.Given as goal

abbrev pub invariant-loop-sheet : goal.invariant-loop-sheet
invariant-loop-sheet l = sheet_named l.name (drop l.sheet-index l.sheets) ≡ sheet_named l.name l.sheets
