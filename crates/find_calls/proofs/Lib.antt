mod CallLemmas
mod OpenLemmas
mod FollowLemmas
mod SearchLemmas
mod MarkLemmas
