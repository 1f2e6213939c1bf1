use Rattle.std.proofs.Common.{◌+◌, ◌∙◌, List, ℕ, Ok, take, sym, ap}
use Rattle.std.proofs.lemmas.List.{take_rest}
use Rattle.sqs_replay.proofs.LineLemmas.{cut-found, cut-none}
use Rattle.sqs_replay.proofs.input_line.cut.Goals as goal

pub returns-in-Some : goal.returns-in-Some
returns-in-Some c =
    let text = c.args.text.now in
    ap (λ (rest : List ℕ). Ok (take c.in-Some.place text, rest)) (take_rest text (c.in-Some.place + 1))
    ∙ sym (cut-found text c.in-Some.place (sym c.first_space.ensures ∙ c.in-Some.is))

pub returns-in-None : goal.returns-in-None
returns-in-None c = sym (cut-none c.args.text.now (sym c.first_space.ensures ∙ c.in-None.is))
