use Rattle.std.proofs.Common.{ap, ◌∙◌, length, rules, tests}
use Rattle.std.specs.List.{list_all}
use Rattle.std.specs.Map.Iter.{TakesFirst, deref}
use Rattle.std.proofs.lemmas.Iterator.Consumers.{YieldsList-from_shown}
use Rattle.std.proofs.lemmas.Iterator.Search.{all_from_yields_List}
use Rattle.aws_json.proofs.MemberLemmas.{is_null_or_text, list_all-have_texts}
use Rattle.aws_json.proofs.members.have_texts.Goals as goal

pub returns : goal.returns
returns c =
    all_from_yields_List is_null_or_text _ _ _ c.all.ensures.ran (YieldsList-from_shown (TakesFirst deref) deref (λ s. s) (λ s t h. ap length h.0) (λ s x t h. h) c.values.result) (λ x b q k. search (rules, tests))
    ∙ ap (list_all is_null_or_text) c.values.ensures.rest
    ∙ list_all-have_texts c.args.members.now.entries
