use Rattle.std.proofs.Common.{◌≡◌, Some, sym, ap, ◌∙◌}
use Rattle.std.specs.Option.{option_copied}
use Rattle.queue_core.specs.declared.reply.Look.{Look}
use Rattle.queue_core.specs.declared.reply.Reply.{Reply}
use Rattle.queue_core.specs.declared.reply.Reply.TheVariants.{Looked}
use Rattle.queue_core.specs.Queue.{look_of}
use Rattle.redrive.specs.House.{queue_of_uid}
use Rattle.sqs_replay.proofs.statistics.sheet_in.Goals as goal

same-look : (reply : Reply) (a b : Look) → reply ≡ Looked a → reply ≡ Looked b → a ≡ b
same-look reply a b h k = cc (h, k)

pub of-requires : goal.of-requires
of-requires c =
    let here : queue_of_uid c.args.house.now c.args.uid ≡ Some c.in-Some-Looked.queue.now =
    sym c.state.ensures.state ∙ ap option_copied c.in-Some-Looked.is-0 in
    ap (λ (l : Look). l.clock)
    (same-look c.args.reply.now c.in-Some-Looked.look (look_of c.in-Some-Looked.queue.now) c.in-Some-Looked.is-1 (c.requires c.in-Some-Looked.queue.now here))
