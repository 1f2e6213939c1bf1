use Rattle.std.proofs.Common.{◌≡◌, ◌++◌, drop}
use Rattle.std.specs.Prelude.{flat_map, string_bytes}
use Rattle.statistics_api.specs.Metrics.{sample_text}
use Rattle.statistics_api.proofs.metrics.samples.Given as goal

abbrev pub invariant-loop-sheet : goal.invariant-loop-sheet
invariant-loop-sheet l = string_bytes l.text ++ flat_map (λ s. sample_text l.measure s.now) (drop l.sheet-index l.sheets) ≡ flat_map (λ s. sample_text l.measure s.now) l.sheets
