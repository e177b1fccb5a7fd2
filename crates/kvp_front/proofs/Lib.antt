pub mod SpellingLemmas
pub mod RequestLemmas
pub mod FrontLemmas
pub mod PairLemmas
