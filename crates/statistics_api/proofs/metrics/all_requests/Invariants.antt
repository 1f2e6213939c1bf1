use Rattle.std.proofs.Common.{◌≡◌, ◌++◌, drop}
use Rattle.std.specs.Prelude.{flat_map, string_bytes}
use Rattle.statistics_api.specs.Metrics.{request_text}
use Rattle.statistics_api.proofs.metrics.all_requests.Given as goal

abbrev pub invariant-loop-requested : goal.invariant-loop-requested
invariant-loop-requested l = string_bytes l.text ++ flat_map request_text (drop l.requested-index l.requests) ≡ flat_map request_text l.requests
