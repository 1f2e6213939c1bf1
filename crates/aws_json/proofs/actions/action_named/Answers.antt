use Rattle.aws_json.proofs.actions.action_named.Goals as goal

pub returns : goal.returns
returns c = c.named_in.ensures
