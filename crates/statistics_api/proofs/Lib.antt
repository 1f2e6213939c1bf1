pub mod AskedLemmas
pub mod EscapeLemmas
pub mod ItemLemmas
pub mod JoinLemmas
pub mod NameLemmas
pub mod PlainLemmas
pub mod RouteLemmas
pub mod TextLemmas
