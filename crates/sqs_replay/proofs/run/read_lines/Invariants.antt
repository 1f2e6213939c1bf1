use Rattle.std.proofs.Common.{◌≡◌, ◌≤◌, ℕ, List, length}
use Rattle.std.specs.Io.KnownBytes.{Consumes}
use Rattle.sqs_replay.specs.private.Progress.{HasRead}
use Rattle.sqs_replay.proofs.Counts.{CountsTurns}
use Rattle.sqs_replay.proofs.run.read_lines.Given as goal

abbrev pub invariant-loop-turn : goal.invariant-loop-turn
invariant-loop-turn g l = record {
  so_far : (read : List ℕ) × Consumes (g.I.Inlet.left l.initial.inlet) (g.I.Inlet.left l.inlet) read
      × HasRead g.S.Lines.text g.S.Lines.after l.initial.server (g.O.Outlet.taken l.initial.outlet) read l.server l.kept.items (g.O.Outlet.taken l.outlet)
      × (l._turn ≤ length read);
  reads : CountsTurns l._turn (g.I.Inlet.reads l.initial.inlet) (g.I.Inlet.reads l.inlet);
  inlet_failures : g.I.Inlet.failures l.inlet ≡ g.I.Inlet.failures l.initial.inlet;
  inlet_refusals : g.I.Inlet.refusals l.inlet ≡ g.I.Inlet.refusals l.initial.inlet;
  outlet_failures : g.O.Outlet.failures l.outlet ≡ g.O.Outlet.failures l.initial.outlet;
  outlet_refusals : g.O.Outlet.refusals l.outlet ≡ g.O.Outlet.refusals l.initial.outlet;
}
