-- The laws about texts whose white space becomes other white space.
use Rattle.std.specs.Prelude.{ℕ, ◌≡◌, false, List, []}
use Rattle.lexical.specs.Cover.{onto, IsCover}
use Rattle.lexical.specs.Piece.{Piece}
use Rattle.pm_stream.specs.Forest.{Forest}
use Rattle.pm_stream.specs.Parsing.{ParsesTo}
use Rattle.proc_macro2.specs.Laws.{Gives}
use Rattle.relayout.specs.Relayout.{Becomes, Spaced, pieces_of}
use Rattle.relayout.specs.Written.{solid_pieces}

-- if pieces cover a source, they also cover the text with other white space between them, provided that no run is added
-- or removed and that each run after a line comment begins with LF
abbrev pub PiecesStay : Type 0
PiecesStay = (source : List ℕ) (xs : List Spaced) (old : List ℕ) (ys : List Spaced) (new : List ℕ)
    → IsCover (pieces_of xs old) source → Becomes false xs old ys new
    → IsCover (pieces_of ys new) (onto (pieces_of ys new) [])

-- whatever the source parses to, the text gives the same tokens up to spans
abbrev pub KeepsTokens : List ℕ → List ℕ → Type 0
KeepsTokens source text = (base first : ℕ) (stream : Forest) → ParsesTo first source stream → Gives base text stream

-- if the same pieces cover two texts, except for white characters, both texts give the same tokens
abbrev pub TokensStay : Type 0
TokensStay = (source text : List ℕ) (us vs : List Piece) → IsCover us source → IsCover vs text
    → solid_pieces vs ≡ solid_pieces us → KeepsTokens source text
