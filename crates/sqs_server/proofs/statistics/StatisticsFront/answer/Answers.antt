use Rattle.std.proofs.Common.{◌≡◌, ap, subst, ◌∙◌}
use Rattle.std.specs.Prelude.{option_map, unwrap_or}
use Rattle.http_uri.specs.Uri.{uri_path}
use Rattle.hyper.specs.Incoming.{size_left}
use Rattle.sqs_server.specs.Viewed.{IsJudged, host_in}
use Rattle.sqs_server.proofs.ViewLemmas.{sent_is_told}
use Rattle.sqs_server.proofs.statistics.StatisticsFront.answer.Goals as goal

pub returns : goal.returns
returns g c =
    let parts = c.into_parts-head in
    let host = option_map (λ s. s.now) c.host_of-host.result in
    let announced : c.unwrap_or-size.result ≡ unwrap_or (size_left parts.result.1.kind) 0 =
    c.unwrap_or-size.ensures ∙ ap (λ size. unwrap_or size 0) (c.exact-announced.ensures ∙ c.size_hint.ensures) in
    let sent = sent_is_told host c.as_str.result.now c.path.result.now c.unwrap_or-size.result c.judged-told.result c.response_of.result c.judged-told.ensures.told c.judged-told.ensures.written c.response_of.ensures in
    let sized = subst (λ size. IsJudged host c.as_str.result.now c.path.result.now size sent.0) announced sent.1 in
    let by_path = subst (λ path. IsJudged host c.as_str.result.now path (unwrap_or (size_left parts.result.1.kind) 0) sent.0) c.path.ensures.value sized in
    let by_method = subst (λ method. IsJudged host method (uri_path parts.result.0.uri) (unwrap_or (size_left parts.result.1.kind) 0) sent.0) c.as_str.ensures.value by_path in
    let judged = subst (λ named. IsJudged named parts.result.0.method (uri_path parts.result.0.uri) (unwrap_or (size_left parts.result.1.kind) 0) sent.0) c.host_of-host.ensures by_method in (
      sent.0,
      subst (λ p. IsJudged (host_in p.0) p.0.method (uri_path p.0.uri) (unwrap_or (size_left p.1.kind) 0) sent.0) parts.ensures judged,
      sent.2,
    )
