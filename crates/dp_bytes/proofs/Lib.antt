pub mod IntTextLemmas
pub mod DecimalLemmas
