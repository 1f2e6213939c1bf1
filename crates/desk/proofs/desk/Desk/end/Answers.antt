use Rattle.std.proofs.Common.{rules, ap, ◌∙◌, refl, ◌≡◌, [], ◌∷◌, Some}
use Rattle.atomic_table.specs.Table.{rest}
use Rattle.desk.proofs.Keeping.{ends}
use Rattle.desk.proofs.desk.Desk.end.Goals as goal

pub fetch_add-ended-requires : goal.fetch_add-ended-requires
fetch_add-ended-requires g c =
    let call = c.requires.call in let v = c.args.seat.now.me.0 in
    let me : c.exchange-none.new.seat.me ≡ (v, (0, Some c.args.held) ∷ []) = c.exchange-none.ensures.3 ∙ ap (λ carried. (v, (0, Some c.args.held) ∷ rest carried)) c.requires.out in (
      search rules,
      search rules,
      rw me (ends _ _ _ c.requires.turn.0 (v, (0, Some c.args.held) ∷ []) c.args.held call.made c.self.invariant.1 c.requires.turn.1 refl call.last call.queue call.place call.answered),
    )
