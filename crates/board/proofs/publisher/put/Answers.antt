use Rattle.std.proofs.Common.{drop, ap, refl}
use Rattle.board.specs.Printed.{place_of}
use Rattle.board.proofs.Placing.{sees, appended, next_is, published}
use Rattle.board.proofs.publisher.put.Goals as goal

pub publish_as-requires : goal.publish_as-requires
publish_as-requires g c next is =
    let w = c.append.new.self in
    let at = appended c.append.result (place_of c.args.told.book) c.args.copies.desk.shown.value (drop c.args.copies.behind c.args.copies.log.items) c.args.copies.desk.place.me.0.client c.args.told
    w.desk.shown.value (drop w.behind w.log.items) w.desk.place.me.0.client c.requires refl
    (ap (λ d. d.shown.value) c.append.ensures.desk) (ap (λ d. d.place.me.0.client) c.append.ensures.desk) c.append.ensures.pending in
    sees w.desk.place.id w.desk.place.me.0.client w.desk.shown.value next (next_is (place_of c.args.told.book) w.desk.shown.value (drop w.behind w.log.items) w.desk.place.me.0.client next at is)

pub returns : goal.returns
returns g c =
    let w = c.append.new.self in
    let v = c.publish_as.result.0 in
    let at = appended c.append.result (place_of c.args.told.book) c.args.copies.desk.shown.value (drop c.args.copies.behind c.args.copies.log.items) c.args.copies.desk.place.me.0.client c.args.told
    w.desk.shown.value (drop w.behind w.log.items) w.desk.place.me.0.client c.requires refl
    (ap (λ d. d.shown.value) c.append.ensures.desk) (ap (λ d. d.place.me.0.client) c.append.ensures.desk) c.append.ensures.pending in
    published c.publish_as.result.1 (place_of c.args.told.book) w.desk.shown.value (drop w.behind w.log.items) w.desk.place.me.0.client v.desk.shown.value (drop v.behind v.log.items) v.desk.place.me.0.client
    at c.publish_as.ensures.values c.publish_as.ensures.rule
