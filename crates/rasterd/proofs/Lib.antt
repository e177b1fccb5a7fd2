pub mod ResumingLemmas
pub mod ServingLemmas
pub mod StatusLemmas
pub mod WordLemmas
