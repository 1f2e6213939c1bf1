use Rattle.std.proofs.Common.{◌≡◌, inl, ap, ◌∙◌}
use Rattle.std.specs.Prelude.{string_bytes}
use Rattle.statistics_api.specs.Metrics.{metrics_text, served_text}
use Rattle.statistics_api.specs.Response.{for_prometheus}
use Rattle.statistics_api.proofs.port.metrics.Goals as goal

pub returns-in-Ok-clause-told : goal.returns-in-Ok-clause-told
returns-in-Ok-clause-told c =
    let text : string_bytes c.in-Ok.text ≡ metrics_text c.args.sheets.now (served_text c.args.served.now) = cc (c.in-Ok.ensures) in
    inl (c.for_prometheus.ensures.told ∙ ap for_prometheus text)
