use Rattle.sqs_server.proofs.ViewLemmas.{refused_of_queues, one_is_asked_for}
use Rattle.sqs_server.proofs.statistics.StatisticsFront.sheets.Goals as goal

pub returns-in-Queue-clause-errors : goal.returns-in-Queue-clause-errors
returns-in-Queue-clause-errors g c =
    refused_of_queues c.sheets_named.result c.sheets_named.ensures.errors (c.asked_for.ensures.needed (one_is_asked_for c.asked_for.result c.in-Queue.name c.in-Queue.is))
