pub mod Schema
pub mod Contract
pub mod DeclaringLaws
pub mod Holder
