pub mod Listed
pub mod DiscordLemmas
pub mod MatchLemmas
pub mod Windows
pub mod Alone
pub mod Searching
pub mod Rounds
pub mod Entries
