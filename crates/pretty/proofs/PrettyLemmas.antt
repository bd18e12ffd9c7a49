-- The pretty text of a stream.
use Rattle.std.proofs.Common.{◌≡◌, ◌&&◌, ℕ, Bool, true, List, Option, Some, None, refl, subst, sym}
use Rattle.std.specs.Prelude.{nat_lt}
use Rattle.std.specs.Io.KnownBytes.{Keeps}
use Rattle.lexical.specs.Cover.{IsCover}
use Rattle.lexical.specs.Piece.{Piece}
use Rattle.messages.specs.Parsed.{first}
use Rattle.proc_macro2.specs.Forest.{Forest, flattening}
use Rattle.proc_macro2.specs.Same.{without_spans}
use Rattle.proc_macro2.specs.Parsing.{ParsesTo}
use Rattle.layout.specs.Layout.{IsLayout}
use Rattle.layout.specs.Writing.{ReadsBack}
use Rattle.quoting.specs.Joined.{joined}
use Rattle.relayout.specs.Comments.{IsCommented}
use Rattle.relayout.specs.Docs.{AreAlike}
use Rattle.relayout.specs.Relaid.{HasNoCover}
use Rattle.pretty.specs.Answer.{IsPretty, Writes, WritesUnless}
use Rattle.pretty.specs.Comments.{comments}
use Rattle.pretty.specs.Script.{code_of, script_line}

-- a layout that reads back still does if comments replace attributes
pub pretty_is : (wants : List Bool) (stream : Forest) (laid text : List ℕ) → IsLayout (joined wants stream) laid
    → ReadsBack (joined wants stream) laid → IsCommented true laid text → IsPretty stream text
pretty_is wants stream laid text layout back commented = record {
  wants = wants;
  laid = laid;
  layout = layout;
  commented = commented;
  back = λ base.
      let first = back base in
      let then = commented.tokens base base first.parsed first.parses in
      record {
        parsed = then.parsed;
        parses = then.parses;
        same = subst (λ s. AreAlike (flattening s) (flattening (without_spans then.parsed))) (sym first.same) then.same;
      };
}

-- a text that reads back has a cover
pub has_cover : (stream : Forest) (text : List ℕ) → ReadsBack stream text → HasNoCover text → ⊥
has_cover stream text back none = let first = back 0 in none first.parses.pieces first.parses.covers

-- an output that stays the same keeps its bytes
pub keeps_self : (known : Option (List ℕ)) → Keeps known known
keeps_self None = tt
keeps_self (Some bytes) = refl

-- the counted comments are those of the pieces by which the code is parsed
pub writes_code : (deny : Bool) (text code : List ℕ) (count : ℕ) (stream : Forest) (old new : Option (List ℕ))
    → code ≡ code_of text → ParsesTo first code stream
    → ((all : List Piece) → IsCover all code → count ≡ comments all)
    → WritesUnless (deny && nat_lt 0 count) (script_line text) stream old new → Writes deny text count old new
writes_code deny text code count stream old new is parses counts writes =
    let known = subst (λ c. ParsesTo first c stream) is parses in record {
      pieces = parses.pieces;
      covers = subst (IsCover parses.pieces) is parses.covers;
      counts = counts parses.pieces parses.covers;
      stream = stream;
      parses = known;
      writes = writes;
    }
