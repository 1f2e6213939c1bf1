-- What a checkpoint's parts are to contracts: the lists that its vectors hold.
use Rattle.journal.specs.declared.base.Parts.{Parts}
use Rattle.journal.specs.Base.{BaseOf}

abbrev pub base_in : {C : Type 0} → Parts C → BaseOf C
base_in parts = record {
  uid = parts.uid;
  settings = parts.settings;
  created = parts.created;
  modified = parts.modified;
  receives = parts.receives.items;
  accepted = parts.accepted.items;
  messages = parts.messages.items;
  rows = parts.rows.items;
  flows = parts.flows;
}
