use Rattle.std.proofs.Common.{List, [], ◌∷◌, ◌++◌, sym, ap, ◌∙◌, subst}
use Rattle.std.proofs.lemmas.Option.{IfSome_then}
use Rattle.desk.specs.Printed.{TurnReport, IsPublicationRecord}
use Rattle.board.specs.Printed.{place_of}
use Rattle.board.proofs.Missing.{none_then}
use Rattle.board.proofs.publisher.PublisherPress.print.Goals as goal

pub publish-requires : goal.publish-requires
publish-requires g c = subst (λ (turns : List TurnReport). IsPublicationRecord (turns ++ c.args.turn ∷ [])) (sym c.requires.1) c.requires.2

pub returns-clause-some : goal.returns-clause-some
returns-clause-some g c = IfSome_then c.publish.result c.publish.ensures.some (λ told is turns stood fits. is ∙ ap (λ (ts : List TurnReport). ts ++ c.args.turn ∷ []) stood)

pub returns-clause-told : goal.returns-clause-told
returns-clause-told g c = IfSome_then c.publish.result c.publish.ensures.told (λ told is. (ap place_of is.0, (c.args.self.now.turns, is.1)))

pub returns-clause-none : goal.returns-clause-none
returns-clause-none g c = none_then c.publish.result c.publish.ensures.none (λ same turns stood. ap (λ p. p.turns) same ∙ stood)

pub returns-clause-place : goal.returns-clause-place
returns-clause-place g c = ap place_of c.publish.ensures.book
