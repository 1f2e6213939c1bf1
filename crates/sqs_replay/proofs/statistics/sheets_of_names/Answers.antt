use Rattle.std.proofs.Common.{◌≡◌, rules}
use Rattle.message.specs.declared.fault.Fault.TheVariants.{OutOfMemory}
use Rattle.sqs_replay.proofs.ByNameLemmas.{next-stays, next-fault, next-sheets, sheets-all}
use Rattle.sqs_replay.proofs.statistics.sheets_of_names.Goals as goal

pub returns-in_err-sheet-clause-fault : goal.returns-in_err-sheet-clause-fault
returns-in_err-sheet-clause-fault c =
    let memory : c.in_err-sheet.field-0.0 ≡ OutOfMemory =
    next-fault c.args.house.now c.args.at c.requires.at c.requires.registry c.args.names.now c.requires.names
    c.loop-name.house c.loop-name.invariant.state c.loop-name.name-index c.loop-name-test.true _ c.name-item.result c.name-item.is
    c.in_err-sheet.field-0.0 c.in_err-sheet.ensures.answer in
    search rules

pub loop-name-preserved : goal.loop-name-preserved
loop-name-preserved c = record {
  state =
      next-stays c.args.house.now c.args.at c.requires.at c.requires.registry c.args.names.now c.requires.names
      c.loop-name.house c.loop-name.invariant.state c.loop-name.name-index c.loop-name-test.true _ c.name-item.result c.name-item.is
      c.named_sheet.new.house c.in_ok-sheet.ensures.state;
  sheets =
      next-sheets c.args.house.now c.args.at c.requires.at c.requires.registry c.args.names.now c.requires.names
      c.loop-name.house c.loop-name.invariant.state c.loop-name.name-index c.loop-name-test.true _ c.name-item.result c.name-item.is
      c.in_ok-sheet.sheet c.loop-name.sheets.items c.push.new.self.items c.in_ok-sheet.ensures.answer c.loop-name.invariant.sheets c.in_ok-push.ensures.items;
}

pub returns-clause-sheets : goal.returns-clause-sheets
returns-clause-sheets c =
    sheets-all c.args.house.now c.args.at c.requires.at c.requires.registry c.args.names.now c.requires.names
    c.loop-name.name-index c.loop-name.sheets.items c.loop-name-test.false c.loop-name.invariant.sheets
