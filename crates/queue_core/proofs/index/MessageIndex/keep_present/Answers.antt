use Rattle.std.proofs.Common.{◌≡◌, ℕ, List, ◌++◌, length, ap, ◌∙◌, arith}
use Rattle.std.specs.List.{filter_map, range_with_len}
use Rattle.queue_core.specs.private.Keeping.{present_in}
use Rattle.queue_core.proofs.checkpoints.KeepingLemmas.{kept_next, range_next}
use Rattle.queue_core.proofs.index.MessageIndex.keep_present.Goals as goal

pub loop-place-preserved : goal.loop-place-preserved
loop-place-preserved c =
    let i = c.loop-place.place in
    let f = present_in c.args.retention c.args.clock c.args.self.now in
    record {
      so_far =
          c.in_ok-add_some.ensures.ok
          ∙ kept_next f c.args.kept.now.items c.loop-place.kept.items (range_with_len 0 i) i c.in_ok-message.message c.loop-place.invariant.so_far c.in_ok-message.ensures.ok
          ∙ ap (λ (ns : List ℕ). c.args.kept.now.items ++ filter_map f ns) (range_next i);
    }

pub returns-clause-ok : goal.returns-clause-ok
returns-clause-ok c =
    let f = present_in c.args.retention c.args.clock c.args.self.now in
    let end : c.loop-place.place ≡ length c.args.self.now.receives.items = omega (arith, c.loop-place.auto.place-end, c.loop-place-test.false, c.len-place-end.ensures) in
    c.loop-place.invariant.so_far ∙ ap (λ (n : ℕ). c.args.kept.now.items ++ filter_map f (range_with_len 0 n)) end
