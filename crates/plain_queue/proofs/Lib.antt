mod ScanLemmas
mod EntryLemmas
mod TransferLemmas
mod BeforeLemmas
mod BreachLemmas
mod NumberingLemmas
