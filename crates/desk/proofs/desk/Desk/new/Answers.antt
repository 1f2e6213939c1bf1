use Rattle.std.proofs.Common.{rules, sym, ◌≡◌, [], ◌∷◌, Some}
use Rattle.desk.proofs.Keeping.{opens}
use Rattle.desk.proofs.desk.Desk.new.Goals as goal

pub new-requires-3 : goal.new-requires-3
new-requires-3 g c =
    let items : c.push_reserved.new.self.items ≡ Some c.in-Ok.held ∷ [] = search rules in
    rw items (opens c.of-start.result.value c.in-Ok.held (sym c.of-start.ensures))
