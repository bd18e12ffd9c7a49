mod AsBox
mod ListingLemmas
mod PieceLemmas
mod ReasonLemmas
