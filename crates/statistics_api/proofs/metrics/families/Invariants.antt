use Rattle.std.proofs.Common.{◌≡◌, ◌++◌, map, drop}
use Rattle.std.specs.Prelude.{flat_map, string_bytes}
use Rattle.statistics_api.specs.Metrics.{family_text}
use Rattle.statistics_api.proofs.metrics.families.Given as goal

abbrev pub invariant-loop-measure : goal.invariant-loop-measure
invariant-loop-measure l = string_bytes l.text ++ flat_map (family_text (map (λ s. s.now) l.sheets)) (drop l.measure-index l.measures) ≡ flat_map (family_text (map (λ s. s.now) l.sheets)) l.measures
