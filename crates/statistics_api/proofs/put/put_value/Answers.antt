use Rattle.serde_json.proofs.Views.{members_view-insert_entry}
use Rattle.statistics_api.proofs.put.put_value.Goals as goal

pub returns-clause-ok : goal.returns-clause-ok
returns-clause-ok c =
    rw (c.in_ok-insert.ensures.entries, members_view-insert_entry c.args.members.now.entries c.in_ok-key.key c.args.value, c.in_ok-key.ensures.ok)
