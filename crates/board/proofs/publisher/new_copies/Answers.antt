use Rattle.std.proofs.Common.{List, ap, fold, ◌∙◌}
use Rattle.board.specs.Printed.{Publications, place_of}
use Rattle.board.specs.Rule.{place_with}
use Rattle.board.proofs.Placing.{sees}
use Rattle.board.proofs.publisher.new_copies.Goals as goal

pub publish_as-copies-requires : goal.publish_as-copies-requires
publish_as-copies-requires g c next is =
    let w = c.in_ok-copies.copies in
    sees w.desk.place.id w.desk.place.me.0.client w.desk.shown.value next
    (is ∙ ap (λ (ts : List Publications). fold place_with (place_of w.desk.shown.value.book) ts) c.in_ok-copies.ensures.1)
