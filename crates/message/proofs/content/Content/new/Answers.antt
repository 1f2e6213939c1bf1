use Rattle.std.proofs.Common.{◌≡◌, None, refl}
use Rattle.std.specs.Prelude.{string_bytes}
use Rattle.message.specs.Content.{body_fault}
use Rattle.message.proofs.ContentLemmas.{IsStoredContent-from_judged}
use Rattle.message.proofs.content.Content.new.Goals as goal

pub invariant_of-result : goal.invariant_of-result
invariant_of-result c =
    let whole : body_fault (string_bytes c.args.body) ≡ None = cc in
    rw (c.in_ok-parts-2.ensures.ok, c.in_ok-parts.ensures.ok)
    (IsStoredContent-from_judged _ c.args.attributes.items whole c.in_ok-attributes.ensures refl)
