use Rattle.message.specs.Order.{text_before}
use Rattle.message.proofs.SortedLemmas.{by_text, IsPermutation-sorted, IsSortedBy-sorted, IsStableBy-sorted, sorted_only}
use Rattle.board.specs.Sheet.{Sheet}
use Rattle.statistics_api.proofs.laws.queues_by_name_ascend.Goals as goal

pub returns : goal.returns
returns c =
    let before = λ (s t : Sheet). text_before s.name t.name in
    let order = by_text (λ (s : Sheet). s.name) in
    record {
      ascending = IsSortedBy-sorted before order;
      same = IsPermutation-sorted before;
      stable = IsStableBy-sorted before order;
      no_other = sorted_only before order;
    }
