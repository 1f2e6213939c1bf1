use Rattle.std.proofs.Common.{◌≡◌, drop}
use Rattle.aws_json.specs.Reply.{url_items}
use Rattle.aws_json.proofs.ReplyLemmas.{items_then}
use Rattle.aws_json.proofs.reply.url_values.Given as goal

abbrev pub invariant-loop-name : goal.invariant-loop-name
invariant-loop-name l = items_then l.urls.items (url_items l.port (drop l.name-index l.names)) ≡ url_items l.port l.names
