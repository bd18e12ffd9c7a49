-- When an explanation of why a text doesn't parse is right.
use Rattle.std.specs.Prelude.{ℕ, Bool, ◌≡◌, ◌+◌, ◌⊎◌, true, List, [], ◌∷◌, ◌++◌, length, Some, IfSome}
use Rattle.std.specs.List.{AllByRecursion}
use Rattle.std.specs.Str.{encode_utf8_all}
use Rattle.lexical.specs.Cover.{CoversUpTo}
use Rattle.lexical.specs.Delimiter.{is_opener}
use Rattle.lexical.specs.Piece.{Piece, Close, IsPiece, HasNoPiece}
use Rattle.pm_stream.specs.Delimited.{delimiter_of}
use Rattle.pm_stream.specs.Events.{expansion}
use Rattle.pm_stream.specs.Forest.{Forest}
use Rattle.pm_stream.specs.Parsing.{FaultAt, ParsesTo, is_first}
use Rattle.pm_stream.specs.Taken.{Waiting}
use Rattle.explain.specs.Open.{LeavesOpen, RefusesFor, WaitsAs}
use Rattle.explain.specs.Reason.{Holds}
use Rattle.explain.specs.declared.explained.Explained.{Explained}
use Rattle.explain.specs.declared.explained.Opener.{Opener}
use Rattle.explain.specs.declared.explained.Stretch.{Stretch}
use Rattle.explain.specs.declared.reason.Reason.TheVariants.{UnclosedOpener}

-- the source parses to some stream
abbrev pub Parses : ℕ → List ℕ → Type 0
Parses base source = (stream : Forest) × ParsesTo base source stream

-- the `Stretch` has the bytes and the span of this part of a text, which follows the text `text_before`
pub record IsStretch (base : ℕ) (text_before part : List ℕ) (stretch : Stretch) : Type 0 where
  pub start : stretch.start ≡ length (encode_utf8_all text_before)
  pub end : stretch.end ≡ length (encode_utf8_all (text_before ++ part))
  pub span : stretch.span ≡ record { lo = base + length text_before; hi = base + length (text_before ++ part) }

-- the opener is one character of the source, with the delimiter, bytes and span of that character
pub record IsOpenerOf (base : ℕ) (source : List ℕ) (x : Opener) : Type 0 where
  pub text_before : List ℕ
  pub character : ℕ
  pub after : List ℕ
  pub whole : source ≡ text_before ++ (character ∷ after)
  pub opens : is_opener character ≡ true
  pub delimiter : x.delimiter ≡ delimiter_of character
  pub at : IsStretch base text_before (character ∷ []) x.at

-- no piece begins at the rest of the text, for this reason
pub record IsStuck (base : ℕ) (text_before : List ℕ) (first : Bool) (rest : List ℕ) (x : Explained) : Type 0 where
  pub none : HasNoPiece first rest
  pub front : List ℕ
  pub part : List ℕ
  pub after : List ℕ
  pub split : rest ≡ front ++ (part ++ after)
  pub holds : Holds x.reason front part after
  pub before : IsStretch base text_before front x.before
  pub at : IsStretch base (text_before ++ front) part x.at

-- the rest of the text begins with a closer that the innermost opener doesn't match
pub record IsRefused (base : ℕ) (text_before : List ℕ) (first : Bool) (rest : List ℕ) (x : Explained) : Type 0 where
  pub closer : ℕ
  pub part : List ℕ
  pub after : List ℕ
  pub split : rest ≡ part ++ after
  pub stands : IsPiece first (Close closer) part after
  pub refuses : RefusesFor (delimiter_of closer) x.reason x.innermost
  pub before : IsStretch base text_before [] x.before
  pub at : IsStretch base text_before part x.at

-- the empty part of the text where this part begins
abbrev pub front_of : Stretch → Stretch
front_of stretch = record {
  start = stretch.start;
  end = stretch.start;
  span = record { lo = stretch.span.lo; hi = stretch.span.lo };
}

-- the explanation is that its innermost opener is left open
pub record SaysLeftOpen (x : Explained) : Type 0 where
  pub opener : Opener
  pub reason : x.reason ≡ UnclosedOpener
  pub innermost : x.innermost ≡ Some opener
  pub at : x.at ≡ opener.at
  pub before : x.before ≡ front_of opener.at

-- the text ends, and an opener is left open
pub record IsLeftOpen (rest : List ℕ) (x : Explained) : Type 0 where
  pub done : rest ≡ []
  pub says : SaysLeftOpen x

-- pieces cover the source up to where reading stops, the explanation has the openers that are open there, and its
-- reason holds at the fault
pub record IsExplained (base : ℕ) (source : List ℕ) (x : Explained) : Type 0 where
  pub pieces : List Piece
  pub text_before : List ℕ
  pub rest : List ℕ
  pub whole : source ≡ text_before ++ rest
  pub covers : CoversUpTo pieces source rest
  pub waits : List Waiting
  pub leaves : LeavesOpen (expansion base pieces) waits
  pub waiting_openers : WaitsAs waits x.innermost x.outer.items
  -- each of these openers has its own delimiter, bytes and span
  pub inmost : IfSome x.innermost (IsOpenerOf base source)
  pub others : AllByRecursion (IsOpenerOf base source) x.outer.items
  pub fault : FaultAt base source x.before.span.lo
  pub because : IsStuck base text_before (is_first pieces) rest x
      ⊎ (IsRefused base text_before (is_first pieces) rest x ⊎ IsLeftOpen rest x)
