use Rattle.std.proofs.Common.{◌≡◌, take}
use Rattle.attribute_md5.specs.Digest.{preimage_of}
use Rattle.attribute_md5.proofs.bytes.preimage_of.Given as goal

abbrev pub invariant-loop-attribute : goal.invariant-loop-attribute
invariant-loop-attribute l = l.preimage.items ≡ preimage_of (take l.attribute-index l.attributes)
