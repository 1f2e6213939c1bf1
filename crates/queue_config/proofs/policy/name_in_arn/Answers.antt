use Rattle.std.proofs.Common.{rules, ◌≡◌, ◌∙◌}
use Rattle.queue_config.specs.Policy.{name_in_arn}
use Rattle.queue_config.proofs.ArnLemmas.{spelled-result, found}
use Rattle.queue_config.proofs.policy.name_in_arn.Goals as goal

pub returns-clause-arn : goal.returns-clause-arn
returns-clause-arn c =
    let value : c.ok.result ≡ name_in_arn c.args.arn.now = search rules in
    spelled-result c.args.arn.now c.ok.result value

pub returns-clause-only : goal.returns-clause-only
returns-clause-only c region account name h =
    let value : c.ok.result ≡ name_in_arn c.args.arn.now = search rules in
    value ∙ found c.args.arn.now region account name h
