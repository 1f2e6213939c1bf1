use Rattle.std.proofs.Common.{◌≡◌, codes, ap, ◌∙◌}
use Rattle.std.specs.Prelude.{Ok, flat_map, string_bytes}
use Rattle.statistics_api.specs.Metrics.{head_text, measure_name, measure_help, sample_text}
use Rattle.statistics_api.proofs.JoinLemmas.{joined_map}
use Rattle.statistics_api.proofs.metrics.family.Goals as goal

pub returns : goal.returns
returns c =
    let first : string_bytes c.in_ok-first.first ≡ head_text (codes "gauge") (measure_name c.args.measure) (measure_help c.args.measure) = cc (c.in_ok-first.ensures, c.name-name.ensures, c.help-help.ensures) in
    let each : string_bytes c.in_ok-lines.lines ≡ flat_map (λ s. sample_text c.args.measure s.now) c.args.sheets.now = cc (c.in_ok-lines.ensures) in
    let lines = each ∙ joined_map (sample_text c.args.measure) (λ s. s.now) c.args.sheets.now in
    ap Ok (rw (first, lines) at c.in_ok-format.ensures.ok)
