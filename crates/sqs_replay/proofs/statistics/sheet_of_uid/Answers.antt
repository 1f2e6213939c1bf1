use Rattle.sqs_replay.proofs.SheetLemmas.{looked}
use Rattle.sqs_replay.proofs.statistics.sheet_of_uid.Goals as goal

pub sheet_in-requires : goal.sheet_in-requires
sheet_in-requires c =
    looked c.args.house.now c.args.uid c.args.at c.in_ok-reply.reply c.step.new.self c.in_ok-reply.ensures.answer c.in_ok-reply.ensures.state
