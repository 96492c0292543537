pub mod Facts
pub mod Program
