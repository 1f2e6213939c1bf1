use Rattle.std.proofs.Common.{◌≡◌, List, map, Bor, ap, ◌∙◌}
use Rattle.std.specs.Prelude.{Ok, flat_map, string_bytes}
use Rattle.board.specs.Sheet.{Sheet}
use Rattle.statistics_api.specs.Metrics.{measures, family_text, alarms_family_text, served_text}
use Rattle.statistics_api.specs.Texts.{by_name}
use Rattle.statistics_api.proofs.metrics.metrics_text.Goals as goal

pub returns : goal.returns
returns c =
    let order : map (λ s. s.now) c.as_slice.result.now ≡ by_name c.args.sheets.now = ap (λ (ss : List (Bor Sheet)). map (λ s. s.now) ss) c.as_slice.ensures.value ∙ c.in_ok-order.ensures.ok in
    let again : map (λ s. s.now) c.as_slice-2.result.now ≡ by_name c.args.sheets.now = ap (λ (ss : List (Bor Sheet)). map (λ s. s.now) ss) c.as_slice-2.ensures.value ∙ c.in_ok-order.ensures.ok in
    let all : string_bytes c.in_ok-numbers.numbers ≡ flat_map (family_text (map (λ s. s.now) c.as_slice.result.now)) measures = cc (c.in_ok-numbers.ensures) in
    let states : string_bytes c.in_ok-alarms.alarms ≡ alarms_family_text (map (λ s. s.now) c.as_slice-2.result.now) = cc (c.in_ok-alarms.ensures) in
    let own : string_bytes c.in_ok-own.own ≡ served_text c.args.server.now = cc (c.in_ok-own.ensures) in
    let numbers = all ∙ ap (λ (ss : List Sheet). flat_map (family_text ss) measures) order in
    let alarms = states ∙ ap alarms_family_text again in
    ap Ok (rw (numbers, alarms, own) at c.in_ok-format.ensures.ok)
