use Rattle.aws_json.proofs.ActionLemmas.{told_at, none_behind}
use Rattle.aws_json.proofs.actions.name_in.Goals as goal

pub returns-in-Some : goal.returns-in-Some
returns-in-Some c = told_at c.args.rows.now c.args.place c.in-Some.row.now c.in-Some.ensures.lookup.3.0 c.in-Some.ensures.lookup.1

pub returns-in-None : goal.returns-in-None
returns-in-None c = none_behind c.args.rows.now c.args.place c.in-None.ensures.lookup.3
