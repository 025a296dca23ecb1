-- The marked numbers of document 01 as one list. And of a track that is repaired: how it begins, what is done with it, and what is the same of it as
-- after a full run, for the beats (Repaired) and for the sections (RepairedSections).
pub mod Marked
pub mod Repaired
pub mod RepairedSections
