use Rattle.std.proofs.Common.{ap, ◌∙◌, position}
use Rattle.std.specs.Str.{bytes_eq}
use Rattle.std.proofs.lemmas.Cmp.{nat_list_eq_equiv}
use Rattle.redrive.specs.Keys.{KeyLists}
use Rattle.redrive.proofs.StoredNameLemmas.{same_padded}
use Rattle.redrive.proofs.keys.Keys.place_named.Goals as goal

pub returns : goal.returns
returns c =
    c.get_index_of.ensures.index
    ∙ (λ i. position (λ n. (same_padded c.args.name.now n ∙ nat_list_eq_equiv.symm c.args.name.now n) i) c.self.inside.names.keys)
    ∙ ap (λ (k : KeyLists). position (λ n. bytes_eq n c.args.name.now) k.names) c.self.view_is
