-- What holds while callers are made.
use Rattle.std.proofs.Common.{◌≡◌}
use Rattle.desk.proofs.tests.threads.gathered.Given as goal

abbrev pub invariant-loop : goal.invariant-loop
invariant-loop l = (l.pass ≡ l.initial.pass) × (l.pass.desk ≡ l.desk)
