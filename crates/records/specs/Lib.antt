pub mod Faults
pub mod Records
pub mod Contents
pub mod Payloads
pub mod Requests
pub mod WrittenRecords
pub mod Asking
