-- What an exported function promises follows from what the proved call promises and from how its answer is handed over; and the coincidence of outcomes.
pub mod Tellings
pub mod Outcomes
pub mod TrackTellings
