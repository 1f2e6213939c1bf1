use Rattle.std.proofs.Common.{ap, sym, ◌∙◌}
use Rattle.desk.specs.Views.{Pass}
use Rattle.board.proofs.OnlyReader.{taken_is}
use Rattle.board.specs.Printed.{place_of}
use Rattle.board.specs.Shown.{Reader}
use Rattle.board.proofs.tests.Talk.open.Goals as goal

pub invariant_of-result : goal.invariant_of-result
invariant_of-result g d = record {
  own = ap (λ (k : Pass). k.desk) d.in_ok-desk.ensures.ok;
  place =
      ap (λ (k : Pass). k.place) d.in_ok-desk.ensures.ok
      ∙ sym (ap (λ (r : Reader). place_of r.book) (taken_is _ d.in-Some.reader d.pop.new.self.items (sym d.in_ok-publisher.ensures.readers ∙ d.in-Some.ensures.items)));
}
