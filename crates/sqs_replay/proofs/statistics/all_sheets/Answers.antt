use Rattle.std.proofs.Common.{◌≡◌, sym, subst, ◌∙◌}
use Rattle.redrive.specs.House.{House, house_at_moment}
use Rattle.sqs_replay.proofs.ByNameLemmas.{at-moment-twice, listed-sheets}
use Rattle.sqs_replay.proofs.statistics.all_sheets.Goals as goal

pub sheets_of_names-requires-clause-at : goal.sheets_of_names-requires-clause-at
sheets_of_names-requires-clause-at c =
    subst (λ (w : House). w ≡ house_at_moment w c.args.at) (sym c.advance_all.ensures.state) (sym (at-moment-twice c.args.house.now c.args.at))

pub sheets_of_names-requires-clause-names : goal.sheets_of_names-requires-clause-names
sheets_of_names-requires-clause-names c =
    c.as_slice.ensures.value ∙ c.in_ok-names.ensures.ok ∙ listed-sheets c.advance_all.new.self
