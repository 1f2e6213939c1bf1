use Rattle.std.proofs.Common.{refl, inl}
use Rattle.sqs_server.proofs.front.Front.order.Goals as goal

pub returns-in-Ok-send : goal.returns-in-Ok-send
returns-in-Ok-send g c = inl (
  record { ordered = c.order_of-ordered.result; slot = c.in-Ok.slot; own = c.in-Ok.ensures.slot },
  c.order_of-ordered.ensures,
  (c.in-Ok.made, c.in-Ok.ensures.place, c.in-Ok.ensures.source, refl),
)
