pub mod ForCode
pub mod Entries
pub mod TxsTold
pub mod NodesTold
pub mod WritesNoted
pub mod TallyTexts
pub mod Elsewhere
pub mod PhasesTold
