pub mod AnswerLemmas
pub mod CopiesLemmas
pub mod FieldsLemmas
pub mod ParametersLemmas
pub mod CodeLemmas
