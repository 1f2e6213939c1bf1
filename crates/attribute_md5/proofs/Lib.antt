pub mod PreimageLemmas
