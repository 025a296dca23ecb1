-- What an auditor reads first, one question a file: the marked numbers; that each promise determines its outcome, and what an answer
-- says its `Result` (Says); that patching equals
-- starting over, for the beats (Repaired) and for the sections (RepairedSections), with the parts of their first two theorems (FullRuns, SectionRuns);
-- what the meter changes; that no chain of beats is better than the grid; that what is written in another form is read back (Formats: tempo tracks;
-- Labels: label tracks and cue chunks); that feature rows are what similarity takes.
pub mod Marked
pub mod Determined
pub mod Says
pub mod Meters
pub mod FullRuns
pub mod Repaired
pub mod SectionRuns
pub mod RepairedSections
pub mod Chains
pub mod Formats
pub mod Labels
pub mod FeatureRows
