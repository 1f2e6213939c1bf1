use Rattle.aws_json.proofs.actions.action_at.Goals as goal

pub returns : goal.returns
returns c = c.name_in.ensures
