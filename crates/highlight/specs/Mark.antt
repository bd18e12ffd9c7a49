-- How a part of a text is marked.
use Rattle.std.specs.Prelude.{ℕ, List, ◌++◌, codes}
use Rattle.explain.specs.Words.{sentence_of}
use Rattle.explain.specs.declared.reason.Reason.{Reason}
use Rattle.highlight.specs.Style.{class, colour}
use Rattle.highlight.specs.declared.style.Style.{Style}
use Rattle.highlight.specs.declared.style.Style.TheVariants.{NoPiece}

-- a mark: as a piece of this style, or as a part that is wrong for this reason
pub data Mark : Type 0 where
  Styled : Style → Mark
  Faulty : Reason → Mark

-- the class of a mark; a part that is wrong also has a title, the message of the reason
abbrev pub class_of : Mark → List ℕ
class_of (Styled style) = class style
class_of (Faulty reason) = codes "x title=\"" ++ (sentence_of reason ++ codes "\"")

abbrev pub colour_of : Mark → List ℕ
colour_of (Styled style) = colour style
colour_of (Faulty reason) = colour NoPiece
