use Rattle.std.proofs.Common.{arith}
use Rattle.attribute_md5.proofs.PreimageLemmas.{preimage_of-take}
use Rattle.attribute_md5.proofs.bytes.preimage_of.Goals as goal

pub loop-attribute-preserved : goal.loop-attribute-preserved
loop-attribute-preserved c =
    let e = preimage_of-take c.args.attributes.now c.loop-attribute.attribute-index c.attribute-item.result (omega arith) in
    cc c.in_ok-push_attribute_preimage.ensures.pushed
