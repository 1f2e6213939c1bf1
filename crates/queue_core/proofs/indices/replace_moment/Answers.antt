use Rattle.std.proofs.Common.{Some, None}
use Rattle.std.specs.FinMap as finite
use Rattle.queue_core.proofs.indexed.MomentLemmas.{moments_put, moments_taken, moments_are}
use Rattle.queue_core.proofs.indices.replace_moment.Goals as goal

pub returns-in-None-Some-clause-moments : goal.returns-in-None-Some-clause-moments
returns-in-None-Some-clause-moments c =
    let x = c.args.heap.now.moments in
    let m = c.in-None-Some.moment in
    moments_are x (finite.insert x c.args.number m) c.insert.new.self.moments c.args.number c.args.after (Some m) c.insert.ensures.moments (cc) (moments_put x c.args.number m)

pub returns-in-Some-Some-clause-moments : goal.returns-in-Some-Some-clause-moments
returns-in-Some-Some-clause-moments c =
    let x = c.args.heap.now.moments in
    let m = c.in-Some-Some.moment in
    moments_are x (finite.insert x c.args.number m) c.move_to.new.self.moments c.args.number c.args.after (Some m) c.move_to.ensures.moments (cc) (moments_put x c.args.number m)

pub returns-in-Some-None-clause-moments : goal.returns-in-Some-None-clause-moments
returns-in-Some-None-clause-moments c =
    let x = c.args.heap.now.moments in
    moments_are x (finite.remove x c.args.number) c.remove.new.self.moments c.args.number c.args.after None c.remove.ensures.moments (cc) (moments_taken x c.args.number)
