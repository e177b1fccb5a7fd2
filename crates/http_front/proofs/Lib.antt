pub mod BufferLemmas
pub mod HeadLemmas
pub mod ReplyLemmas
pub mod SendingLemmas
pub mod StreamLemmas
pub mod BodyLemmas
pub mod TakenLemmas
