pub mod Reporting
pub mod Reports
pub mod Texts
