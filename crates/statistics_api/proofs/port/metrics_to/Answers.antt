use Rattle.std.proofs.Common.{◌≡◌, Bool, true, false, inl, inr, codes, refl, sym, ◌∙◌}
use Rattle.std.specs.Prelude.{if◌then◌else◌, not}
use Rattle.std.specs.Str.{bytes_eq}
use Rattle.statistics_api.specs.Answer.{method_not_allowed}
use Rattle.statistics_api.specs.Metrics.{served_text}
use Rattle.statistics_api.specs.Response.{TypedText, as_json, metrics}
use Rattle.statistics_api.proofs.port.metrics_to.Goals as goal

-- what is chosen where a test holds
chosen : (b : Bool) (told other : TypedText) → false ≡ not b → (if b then told else other) ≡ told
chosen true told other h = refl
chosen false told other h = absurd cc

pub returns-clause-told : goal.returns-clause-told
returns-clause-told c =
    let is = chosen (bytes_eq c.args.method.now (codes "GET")) (metrics c.args.sheets.now (served_text c.args.served.now)) (as_json method_not_allowed) c.if-ne.ensures in
    elim c.metrics.ensures.told [ inl told ↦ inl (told ∙ sym is) | inr told ↦ inr told ]
