use Rattle.std.proofs.Common.{◌≡◌, false, codes, Some, bytes_eq, sym, ◌∙◌}
use Rattle.statistics_api.specs.Routes.{after}
use Rattle.statistics_api.proofs.PlainLemmas.{target_behind, other_way}
use Rattle.statistics_api.proofs.routes.target_without_memory.Goals as goal

pub returns : goal.returns
returns c =
    let other : bytes_eq c.args.path.now (codes "/statistics/queues") ≡ false = sym c.eq.ensures ∙ c.if-eq.false in
    let behind : Some c.in_ok-behind_queues.field-0.now ≡ after (codes "/statistics/queues/") c.args.path.now = c.in_ok-behind_queues.ensures in
    c.target_in.ensures ∙ target_behind c.args.path.now c.in_ok-behind_queues.field-0.now (other_way (codes "/statistics/queues") c.args.path.now other) behind
