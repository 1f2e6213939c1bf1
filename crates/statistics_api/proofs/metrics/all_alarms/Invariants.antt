use Rattle.std.proofs.Common.{◌≡◌, ◌++◌, drop}
use Rattle.std.specs.Prelude.{flat_map, string_bytes}
use Rattle.statistics_api.specs.Metrics.{queue_alarms_text}
use Rattle.statistics_api.proofs.metrics.all_alarms.Given as goal

abbrev pub invariant-loop-sheet : goal.invariant-loop-sheet
invariant-loop-sheet l = string_bytes l.text ++ flat_map (λ s. queue_alarms_text s.now) (drop l.sheet-index l.sheets) ≡ flat_map (λ s. queue_alarms_text s.now) l.sheets
