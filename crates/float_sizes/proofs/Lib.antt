-- What other crates cite: how large rounded values, logarithms and exp are, and the sizes in fractions that this rests on.
pub mod Fractions
pub mod BitOrder
pub mod WholeSizes
pub mod LogSizes
pub mod ExpSizes
