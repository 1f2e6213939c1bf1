pub mod MemberLemmas
pub mod EntryLemmas
pub mod UrlLemmas
pub mod ReplyLemmas
pub mod ActionLemmas
pub mod SentLemmas
pub mod OfferedLemmas
