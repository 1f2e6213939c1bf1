pub mod StoredName
pub mod StoredContent
