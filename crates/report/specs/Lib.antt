pub mod Faults
pub mod Results
pub mod Texts
pub mod Reports
