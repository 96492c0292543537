pub mod BytesRead
pub mod StreamHead
