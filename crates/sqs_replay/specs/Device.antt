-- What a clause reads of a `Device`.
use Rattle.std.specs.Prelude.{ℕ}
use Rattle.sqs_replay.specs.declared.device.Device.{Device}

-- the reader or writer that it was made of
abbrev pub device_inner : {T : Type 0} → Device T → T
device_inner device = device.inner

-- how often it has failed, but for lack of memory
abbrev pub device_failures : {T : Type 0} → Device T → ℕ
device_failures device = device.failures

-- how often it was refused memory
abbrev pub device_refusals : {T : Type 0} → Device T → ℕ
device_refusals device = device.refusals

-- how often it was read
abbrev pub device_reads : {T : Type 0} → Device T → ℕ
device_reads device = device.reads
