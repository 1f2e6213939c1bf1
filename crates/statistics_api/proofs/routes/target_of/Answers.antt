use Rattle.std.proofs.Common.{codes, ◌≡◌, ℕ, List, [], Some, None, Bor, refl, ap, subst, ◌∙◌, arith}
use Rattle.std.specs.Prelude.{option_map, unwrap_or, MatchOption}
use Rattle.matchit.specs.Params.{walk, AllText, named}
use Rattle.statistics_api.proofs.NameLemmas.{target_told, none_told, unwrapped}
use Rattle.statistics_api.proofs.routes.target_of.Goals as goal

pub returns-in-Ok : goal.returns-in-Ok
returns-in-Ok c =
    let found = rw c.requires at c.in-Ok.ensures.found in
    let tells = subst (λ (p : List ℕ). AllText (walk c.in-Ok.found.params.pattern.now c.in-Ok.found.params.text.now p c.in-Ok.found.params.names.now 0 0)
    → MatchOption c.get.result (named (codes "name") (walk c.in-Ok.found.params.pattern.now c.in-Ok.found.params.text.now p c.in-Ok.found.params.names.now 0 0) ≡ None)
    (λ v. named (codes "name") (walk c.in-Ok.found.params.pattern.now c.in-Ok.found.params.text.now p c.in-Ok.found.params.names.now 0 0) ≡ Some v.now)) c.in-Ok.ensures.path c.get.ensures in
    let name : c.unwrap_or.result.now ≡ unwrap_or (option_map (λ s. s.now) c.get.result) [] = unwrapped (λ (s : Bor (List ℕ)). s.now) c.get.result _ c.unwrap_or.result c.unwrap_or.ensures refl in
    ap (λ (n : List ℕ). Some (c.in-Ok.found.value.now, n)) name
    ∙ target_told (λ (s : Bor (List ℕ)). s.now) c.args.path.now c.in-Ok.found.params.pattern.now c.in-Ok.found.params.text.now c.in-Ok.found.params.names.now c.in-Ok.found.value.now c.get.result
    (λ i. omega (arith, c.type_inv.path i)) c.utf8.path found tells

pub returns-in-Err : goal.returns-in-Err
returns-in-Err c = none_told c.args.path.now (λ i. omega (arith, c.type_inv.path i)) (rw c.requires at c.in-Err.ensures.missing)
