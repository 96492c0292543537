-- Numbers that are printed with two and with three digits, padded with zeros.
mod Digits
-- Progress that is shown only where there is a total.
pub mod Showing
-- The escaped text of a name, part by part.
mod EscapedNames
-- The bytes of a name, one after another.
mod ListedNames
