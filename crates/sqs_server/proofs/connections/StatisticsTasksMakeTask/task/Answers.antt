-- The connection runs, wherever it lies.
use Rattle.sqs_server.proofs.connections.StatisticsTasksMakeTask.task.Goals as goal

pub returns : goal.returns
returns g c = rw c.in-Ok.ensures.ok c.serve_connection-connection.ensures.runs
