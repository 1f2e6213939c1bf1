use Rattle.std.proofs.Common.{◌≡◌, ℕ, List, ◌++◌, take, Option}
use Rattle.sqs_replay.specs.private.Progress.{HasRead}
use Rattle.sqs_replay.proofs.run.take_bytes.Given as goal

abbrev pub invariant-loop-byte : goal.invariant-loop-byte
invariant-loop-byte g l =
    ((start : g.row.S.Denot) (before : Option (List ℕ)) (read : List ℕ)
    → HasRead g.S.Lines.text g.S.Lines.after start before read l.initial.server l.initial.kept.items
    (g.O.Outlet.taken l.initial.outlet) → HasRead g.S.Lines.text g.S.Lines.after start before
    (read ++ take l.byte-index l.bytes) l.server l.kept.items (g.O.Outlet.taken l.outlet))
    × (g.O.Outlet.failures l.outlet ≡ g.O.Outlet.failures l.initial.outlet)
    × (g.O.Outlet.refusals l.outlet ≡ g.O.Outlet.refusals l.initial.outlet)
