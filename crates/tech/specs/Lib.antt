pub mod Technology
