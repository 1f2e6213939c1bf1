use Rattle.std.proofs.Common.{◌≡◌, ◌<◌, ◌≤◌, true, length, ◌∙◌, arith}
use Rattle.std.specs.Char.{is_ascii_digit}
use Rattle.std.specs.List.{list_all}
use Rattle.std.proofs.lemmas.Grind.{common_steps}
use Rattle.queue_config.proofs.DecimalLemmas.{result_ok-parsed}
use Rattle.queue_config.proofs.decimal.decimal_number.Goals as goal

pub returns : goal.returns
returns c =
    let some : 0 < length c.args.text.now = grind (arith, common_steps) in
    let short : length c.args.text.now ≤ c.args.most = omega arith in
    let digits : list_all is_ascii_digit c.args.text.now ≡ true = cc in
    c.ok.ensures.value ∙ result_ok-parsed c.args.most c.args.text.now c.parse.result c.parse.ensures.value.0 some short c.requires digits
