pub mod Audited
pub mod Ordered
pub mod StoreAudit
pub mod Runs
pub mod Works
pub mod HistoryTexts
