use Rattle.std.proofs.Common.{◌≡◌, ◌<◌, ◌≤◌, ℕ, List, ◌++◌, length, get_or, take, sym, ap, ◌∙◌, rules, arith}
use Rattle.std.specs.List.{filter_map}
use Rattle.std.proofs.lemmas.List.{take_all, take_more}
use Rattle.std.proofs.lemmas.Grind.{get_or_default_zero}
use Rattle.queue_core.specs.private.Keeping.{kept_in}
use Rattle.queue_core.proofs.checkpoints.KeepingLemmas.{kept_next}
use Rattle.queue_core.proofs.index.MessageIndex.keep_left.Goals as goal

pub loop-place-preserved : goal.loop-place-preserved
loop-place-preserved c =
    let i = c.loop-place.place in
    let xs = c.args.self.now.leaving.items in
    let f = kept_in c.args.retention c.args.clock c.args.self.now in
    let inside : i < length xs = search rules in
    let read : c.index.result.now ≡ get_or xs i 0 = c.index.ensures ∙ get_or_default_zero xs i _ inside in
    record {
      so_far =
          c.in_ok-add_some.ensures.ok
          ∙ kept_next f c.args.kept.now.items c.loop-place.kept.items (take i xs) (get_or xs i 0) c.in_ok-message.message c.loop-place.invariant.so_far (c.in_ok-message.ensures.ok ∙ ap f read)
          ∙ ap (λ (ns : List ℕ). c.args.kept.now.items ++ filter_map f ns) (sym (take_more xs i 0 inside));
    }

pub returns-clause-ok : goal.returns-clause-ok
returns-clause-ok c =
    let xs = c.args.self.now.leaving.items in
    let f = kept_in c.args.retention c.args.clock c.args.self.now in
    let end : length xs ≤ c.loop-place.place = omega (arith, c.loop-place-test.false, c.len-place-end.ensures, c.args.self.now.leaving.ok.0) in
    c.loop-place.invariant.so_far ∙ ap (λ (ns : List ℕ). c.args.kept.now.items ++ filter_map f ns) (take_all c.loop-place.place xs end)
