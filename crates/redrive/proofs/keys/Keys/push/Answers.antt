use Rattle.std.proofs.Common.{◌≡◌, ℕ, Bool, false, cond, List, [], ◌∷◌, ◌++◌, nat_eq, Result, Ok, refl, sym, ap, subst, ◌∙◌}
use Rattle.std.specs.Prelude.{IfOk}
use Rattle.std.specs.List.{list_any}
use Rattle.std.specs.Str.{bytes_eq}
use Rattle.std.proofs.lemmas.Cmp.{nat_eq_equiv, nat_list_eq_equiv}
use Rattle.redrive.specs.Keys.{KeyLists}
use Rattle.redrive.proofs.StoredNameLemmas.{is_stored_as, same_padded}
use Rattle.redrive.proofs.keys.Keys.push.Goals as goal

-- a key that is not there goes last
goes_last : {X E : Type 0} (eq : X → X → Bool) (ks new : List X) (k : X) (r : Result Bool E) (b : Bool) → r ≡ Ok b → IfOk r (λ added. new ≡ cond (list_any (eq k) ks) ks (ks ++ k ∷ []))
    → list_any (eq k) ks ≡ false → new ≡ ks ++ k ∷ []
goes_last eq ks new k r b is keys none =
    subst (λ r. IfOk r (λ added. new ≡ cond (list_any (eq k) ks) ks (ks ++ k ∷ []))) is keys ∙ ap (λ there. cond there ks (ks ++ k ∷ [])) none

pub returns-clause-uids : goal.returns-clause-uids
returns-clause-uids c =
    let ks : List ℕ = c.self.inside.uids.keys in
    let none : list_any (λ u. nat_eq c.args.uid u) ks ≡ false =
    (λ i. list_any (λ u. nat_eq_equiv.symm c.args.uid u i) ks) ∙ ap (λ (k : KeyLists). list_any (λ u. nat_eq u c.args.uid) k.uids) c.self.view_is ∙ c.requires.new_uid in
    goes_last nat_eq ks c.insert.new.self.keys c.args.uid c.insert.result c.unwrap.result c.unwrap.ensures c.insert.ensures.keys none
    ∙ ap (λ (k : KeyLists). k.uids ++ c.args.uid ∷ []) c.self.view_is

pub returns-clause-names : goal.returns-clause-names
returns-clause-names c =
    let ks : List (List ℕ) = c.self.inside.names.keys in
    let none : list_any (is_stored_as c.args.name) ks ≡ false =
    (λ i. list_any (λ n. (same_padded c.args.name n ∙ nat_list_eq_equiv.symm c.args.name n) i) ks)
    ∙ ap (λ (k : KeyLists). list_any (λ n. bytes_eq n c.args.name) k.names) c.self.view_is ∙ c.requires.new_name in
    goes_last is_stored_as ks c.insert-2.new.self.keys c.args.name c.insert-2.result c.unwrap-2.result c.unwrap-2.ensures c.insert-2.ensures.keys none
    ∙ ap (λ (k : KeyLists). k.names ++ c.args.name ∷ []) c.self.view_is
