mod WordLemmas
mod ComparingLemmas
mod TokenLemmas
mod AnswerLemmas
mod PlaceLemmas
