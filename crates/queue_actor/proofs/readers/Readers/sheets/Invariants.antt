-- The sheets so far are those of the first readers, which have records now. The readers stay the same ones.
use Rattle.std.proofs.Common.{◌≡◌, map, take}
use Rattle.std.specs.List.{All, AllZip, AllWithin}
use Rattle.queue_actor.specs.Reading.{IsSheetUnder}
use Rattle.queue_actor.specs.private.Reading.{IsLater, HasRecord, sheet_of}
use Rattle.queue_actor.proofs.readers.Readers.sheets.Given as goal

abbrev pub invariant-loop-place : goal.invariant-loop-place
invariant-loop-place l = record {
  names : map (λ sheet. sheet.name) l.sheets.items ≡ take l.place (map (λ shown. shown.name) l.fn.self.all.items);
  same : map (λ shown. shown.name) l.self.all.items ≡ map (λ shown. shown.name) l.fn.self.all.items;
  sheets : l.sheets.items ≡ map (λ shown. sheet_of shown.reader) (take l.place l.self.all.items);
  fits : AllWithin (λ shown. HasRecord shown.reader) l.self.all.items 0 l.place;
  under : All (λ sheet. IsSheetUnder sheet.name sheet) l.sheets.items;
  kept : AllZip (λ before after. (after.uid ≡ before.uid) × (after.name ≡ before.name) × IsLater before.reader after.reader) l.fn.self.all.items l.self.all.items;
}
