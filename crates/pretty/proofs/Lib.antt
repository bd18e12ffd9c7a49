mod CommentLemmas
mod PrettyLemmas
mod ScriptLemmas
