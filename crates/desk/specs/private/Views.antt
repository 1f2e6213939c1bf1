-- What a pass knows as it is made, cut off from another, joined with one, and ended.
use Rattle.std.specs.Prelude.{[]}
use Rattle.queue_config.specs.Limits.{default_limits}
use Rattle.queue_core.specs.Queue.{QueueHistory}
use Rattle.desk.specs.declared.view.View.{View}
use Rattle.desk.specs.declared.view.PassStage.TheVariants.{Fresh, Idle, Ended}
use Rattle.desk.specs.Held.{Lying}

-- no queue
abbrev no_queue : QueueHistory
no_queue = record { uid = 0; name = []; limits = default_limits; rules = []; clock = 0; lines = []; spare = 0 }

-- the view of the first pass of a desk that was made with this
abbrev pub first_view : Lying → View
first_view made_with = record { start = made_with.queue; place = made_with.place; number = 0; other = 1; begun = 0; seen = []; heard = []; mine = []; stage = Idle }

-- the view of a pass that was joined with another
abbrev pub ended_view : View
ended_view = record { start = no_queue; place = []; number = 0; other = 0; begun = 0; seen = []; heard = []; mine = []; stage = Ended }

-- a pass that is cut off from another has seen as much, and has made no calls
abbrev pub cut_off : View → View
cut_off v = record v { other = v.number; heard = []; mine = []; stage = Fresh }

-- a pass is told what a note says
abbrev pub hearing : View → View → View
hearing v note = record v { heard = note.seen }

-- a pass is told what another has seen, and that its number is another
abbrev pub absorbing : View → View → View
absorbing v ended = record v { heard = ended.seen; other = ended.number }
