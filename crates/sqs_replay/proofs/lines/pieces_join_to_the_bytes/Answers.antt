use Rattle.sqs_replay.proofs.Cuts.{whole_from-joined, whole_from-no_feed, last_from-no_feed, whole_pieces-joined, last_piece-joined}
use Rattle.std.proofs.Common.{[], sym, ap, ◌∙◌}
use Rattle.sqs_replay.specs.Cutting.{whole_pieces, last_piece}
use Rattle.sqs_replay.proofs.lines.pieces_join_to_the_bytes.Goals as goal

pub returns-clause-joined : goal.returns-clause-joined
returns-clause-joined c = λ input. whole_from-joined [] input

pub returns-clause-whole : goal.returns-clause-whole
returns-clause-whole c = λ input. whole_from-no_feed [] input tt

pub returns-clause-last : goal.returns-clause-last
returns-clause-last c = λ input. last_from-no_feed [] input tt

pub returns-clause-only : goal.returns-clause-only
returns-clause-only c = λ input pieces last free free_last joined.
    (sym (whole_pieces-joined pieces last free free_last) ∙ ap whole_pieces joined, sym (last_piece-joined pieces last free free_last) ∙ ap last_piece joined)
