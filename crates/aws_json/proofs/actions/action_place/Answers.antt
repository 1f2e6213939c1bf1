use Rattle.std.proofs.Common.{[], sym}
use Rattle.aws_json.specs.Request.{served_actions}
use Rattle.aws_json.specs.declared.actions.Action.TheVariants.{CreateQueue}
use Rattle.aws_json.proofs.ActionLemmas.{told_where_found}
use Rattle.aws_json.proofs.actions.action_place.Goals as goal

pub returns-clause-named : goal.returns-clause-named
returns-clause-named c = told_where_found c.args.name.now served_actions ([], CreateQueue) c.first_place.result (sym c.first_place.ensures)
