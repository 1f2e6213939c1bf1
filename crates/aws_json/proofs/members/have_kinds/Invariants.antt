use Rattle.std.proofs.Common.{◌≡◌, map, drop}
use Rattle.serde_json.specs.View.{view}
use Rattle.aws_json.specs.Members.{column, have_kinds}
use Rattle.aws_json.proofs.members.have_kinds.Given as goal

abbrev pub invariant-loop-name : goal.invariant-loop-name
invariant-loop-name l =
    have_kinds (map (λ c. column c.0.now c.1) (drop l.name-index l.columns)) (view l.body) ≡ have_kinds (map (λ c. column c.0.now c.1) l.columns) (view l.body)
