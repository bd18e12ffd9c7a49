-- What is equal of two trees that are the same up to their spans and the trees inside.
use Rattle.pm_token.specs.Leaf.{name_token, mark_token, text_token}
use Rattle.pm_stream.specs.Events.{Event, One, Opens}
use Rattle.pm_stream.specs.declared.stream.TokenTree.{TokenTree}
use Rattle.pm_stream.specs.declared.stream.TokenTree.TheVariants.{Group, Ident, Punct, Literal}

-- the token, or the opener of the group, with the span 0..0
abbrev pub first_event : TokenTree → Event
first_event (Group g) = Opens g.delimiter 0
first_event (Ident i) = One (name_token i) 0 0
first_event (Punct p) = One (mark_token p) 0 0
first_event (Literal l) = One (text_token l) 0 0
