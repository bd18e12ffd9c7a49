-- The meaning of a buffer's entries.
use Rattle.std.specs.Prelude.{ℕ, ◌+◌, ◌-◌, ◌^◌, ◌<◌, ◌≤◌, false, List, [], ◌∷◌, codes, length, take, drop}
use Rattle.std.specs.Str.{chars, IsCharBoundary}
use Rattle.lexical.specs.Token.{Token, Name, Mark, Literal, token_text}
use Rattle.pm_token.specs.Escaped.{string_text}
use Rattle.pm_stream.specs.Events.{Event, One, Opens, Closes}
use Rattle.token_buffer.specs.declared.entry.Entry.{Entry}
use Rattle.token_buffer.specs.declared.entry.Entry.TheVariants as entries

-- the bytes of the text from lo to hi
abbrev pub cut : ℕ → ℕ → List ℕ → List ℕ
cut lo hi text = take (hi - lo) (drop lo text)

abbrev pub cut_chars : ℕ → ℕ → List ℕ → List ℕ
cut_chars lo hi text = chars (cut lo hi text)

-- the event of a token that begins at this position and is as long as its text
abbrev pub one_at : Token → ℕ → Event
one_at token at = One token at (at + length (token_text token))

-- the event that the entry means
abbrev pub event_of : List ℕ → Entry → Event
event_of text (entries.Name raw lo hi at) = one_at (Name raw (cut_chars lo hi text)) at
event_of text (entries.Mark joint mark at end) = One (Mark mark joint) at end
event_of text (entries.Literal lo hi at) = one_at (Literal (cut_chars lo hi text)) at
event_of text (entries.Open delimiter at count) = Opens delimiter at
event_of text (entries.Close delimiter end) = Closes delimiter end
event_of text (entries.DocName at end) = One (Name false (codes "doc")) at end
event_of text (entries.DocText closing lo hi at) =
    One (Literal (string_text (cut_chars lo hi text))) at (at + (3 + length (cut_chars lo hi text) + closing))

abbrev pub events_of : List ℕ → List Entry → List Event
events_of text [] = []
events_of text (entry ∷ more) = event_of text entry ∷ events_of text more

-- the number of entries inside the group that the entry opens, or 0
abbrev pub count_of : Entry → ℕ
count_of (entries.Name raw lo hi at) = 0
count_of (entries.Mark joint mark at end) = 0
count_of (entries.Literal lo hi at) = 0
count_of (entries.Open delimiter at count) = count
count_of (entries.Close delimiter end) = 0
count_of (entries.DocName at end) = 0
count_of (entries.DocText closing lo hi at) = 0

abbrev pub counts_of : List Entry → List ℕ
counts_of [] = []
counts_of (entry ∷ more) = count_of entry ∷ counts_of more

-- the position at which a closer's group ends, or 0 for any other entry
abbrev pub closer_end : Entry → ℕ
closer_end (entries.Name raw lo hi at) = 0
closer_end (entries.Mark joint mark at end) = 0
closer_end (entries.Literal lo hi at) = 0
closer_end (entries.Open delimiter at count) = 0
closer_end (entries.Close delimiter end) = end
closer_end (entries.DocName at end) = 0
closer_end (entries.DocText closing lo hi at) = 0

-- whether the text can be cut at the byte offsets lo and hi
abbrev pub IsCut : ℕ → ℕ → List ℕ → Type 0
IsCut lo hi text = (lo ≤ hi) × IsCharBoundary text lo × IsCharBoundary text hi

-- the position at which the event ends, or begins if it opens a group
abbrev pub end_of : Event → ℕ
end_of (One token lo hi) = hi
end_of (Opens d lo) = lo
end_of (Closes d hi) = hi

-- whether the text of the entry can be cut out, and its token ends at a position that a span may have
abbrev pub IsWithin : List ℕ → Entry → Type 0
IsWithin text (entries.Name raw lo hi at) =
    IsCut lo hi text × (end_of (event_of text (entries.Name raw lo hi at)) < 2 ^ 32)
IsWithin text (entries.Mark joint mark at end) = Unit {0}
IsWithin text (entries.Literal lo hi at) =
    IsCut lo hi text × (end_of (event_of text (entries.Literal lo hi at)) < 2 ^ 32)
IsWithin text (entries.Open delimiter at count) = Unit {0}
IsWithin text (entries.Close delimiter end) = Unit {0}
IsWithin text (entries.DocName at end) = Unit {0}
IsWithin text (entries.DocText closing lo hi at) =
    IsCut lo hi text × (end_of (event_of text (entries.DocText closing lo hi at)) < 2 ^ 32)

abbrev pub AreWithin : List ℕ → List Entry → Type 0
AreWithin text [] = Unit {0}
AreWithin text (entry ∷ more) = IsWithin text entry × AreWithin text more
