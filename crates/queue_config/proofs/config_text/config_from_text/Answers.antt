use Rattle.std.proofs.Common.{◌≡◌, Some, None, subst, rules}
use Rattle.std.proofs.lemmas.Bool.{false≢true}
use Rattle.toml.specs.Data.{no_members}
use Rattle.toml.specs.Errors.{IsBlank, IsMemory}
use Rattle.toml.specs.Parse.{parse_document}
use Rattle.toml.specs.View.{table_view}
use Rattle.queue_config.proofs.EmptyText.{parse_document-empty, empty_is_blank}
use Rattle.queue_config.proofs.config_text.config_from_text.Goals as goal

pub returns-in-Err-clause-empty : goal.returns-in-Err-clause-empty
returns-in-Err-clause-empty c none =
    let blank : IsBlank c.args.text.now = rw none empty_is_blank in
    let memory : IsMemory c.in-Err.error = c.if-is_memory.ensures.0 (search rules) in
    absurd (c.in-Err.ensures.memory memory blank)

pub returns-in-Err-2-clause-empty : goal.returns-in-Err-2-clause-empty
returns-in-Err-2-clause-empty c none =
    let parsed : parse_document c.args.text.now ≡ Some no_members = rw none parse_document-empty in
    let one : c.in-Err-2.field-0 ≡ c.in-Err.error = cc in
    let other : ¬ IsMemory c.in-Err-2.field-0 = λ m. absurd (false≢true (c.if-is_memory.ensures.1 (subst IsMemory one m))) in
    let refused : parse_document c.args.text.now ≡ None = c.in-Err-2.ensures.refused other in
    cc

pub returns-clause-empty : goal.returns-clause-empty
returns-clause-empty c none =
    let parsed : parse_document c.args.text.now ≡ Some no_members = rw none parse_document-empty in
    let ok : parse_document c.args.text.now ≡ Some (table_view c.in-Ok.table) = c.in-Ok.ensures.ok in
    c.configuration_of_table.ensures.empty (cc)
