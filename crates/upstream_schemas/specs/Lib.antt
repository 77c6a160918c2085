pub mod Asking
pub mod Known
