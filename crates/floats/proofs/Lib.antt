-- What other crates cite: NaNs and patterns, the laws of the total order, rounded values as whole numbers, and the marked values of
-- the logarithms and of exp.
pub mod Patterns
pub mod TotalOrder
pub mod WholeNumbers
pub mod Marks
