use Rattle.std.proofs.Common.{subst, sym}
use Rattle.statistics_api.specs.Metrics.{served_text}
use Rattle.statistics_api.specs.Response.{told_by}
use Rattle.sqs_server.specs.Viewed.{ArePrinted}
use Rattle.sqs_server.proofs.ViewLemmas.{told_by_sheets, written_tells}
use Rattle.sqs_server.proofs.statistics.StatisticsFront.told.Goals as goal

pub returns-in-Ok-sheets-clause-told : goal.returns-in-Ok-sheets-clause-told
returns-in-Ok-sheets-clause-told g c =
    let printed = subst ArePrinted (sym c.as_slice.ensures.value) c.in-Ok-sheets.ensures.printed in
    told_by_sheets c.args.method.now c.args.path.now c.as_slice.result.now c.in-Ok.served (told_by c.respond.result) printed c.respond.ensures.response c.respond.ensures.constant c.respond.ensures.exact

pub returns-in-Ok-sheets-clause-written : goal.returns-in-Ok-sheets-clause-written
returns-in-Ok-sheets-clause-written g c =
    written_tells c.args.method.now c.args.path.now c.as_slice.result.now (served_text c.in-Ok.served) c.respond.result c.respond.ensures.response c.respond.ensures.written
