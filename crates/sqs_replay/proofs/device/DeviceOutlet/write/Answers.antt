use Rattle.std.proofs.Common.{◌++◌, take}
use Rattle.std.proofs.KnownBytes.{Appends-trans}
use Rattle.sqs_replay.proofs.Cuts.{cut_on}
use Rattle.sqs_replay.proofs.device.DeviceOutlet.write.Goals as goal

pub loop-rest-preserved : goal.loop-rest-preserved
loop-rest-preserved g c =
    let (front, whole, written, same_failures, same_refusals) = c.loop-rest.invariant in
    let count = c.in-Ok.count in
    let rest = c.loop-rest.rest.now in
    (front ++ take count rest, cut_on c.args.bytes.now front rest count whole, Appends-trans _ _ _ _ _ written c.in-Ok.ensures.bytes, same_failures, same_refusals)
