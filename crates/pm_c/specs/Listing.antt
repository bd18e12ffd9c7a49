-- The records of a stream's trees, and their texts.
use Rattle.std.specs.Prelude.{ℕ, ◌+◌, ◌⊎◌, ◌≤◌, List, [], ◌∷◌, flat_map, length}
use Rattle.std.specs.Str.{encode_utf8_all}
use Rattle.proc_macro2.specs.Forest.{Forest, nil, leaf, group}
use Rattle.proc_macro2.specs.InOrder.{in_order}
use Rattle.proc_macro2.specs.Spelling.{spelling}
use Rattle.proc_macro2.specs.declared.Delimiter.{Delimiter}
use Rattle.proc_macro2.specs.declared.Delimiter.TheVariants.{Parenthesis, Brace, Bracket, None}
use Rattle.proc_macro2.specs.declared.Spacing.{Spacing}
use Rattle.proc_macro2.specs.declared.Spacing.TheVariants.{Alone, Joint}
use Rattle.proc_macro2.specs.declared.TokenTree.{TokenTree}
use Rattle.proc_macro2.specs.declared.TokenTree.TheVariants.{Group, Ident, Punct, Literal}
use Rattle.pm_c.specs.declared.codes.TheConstants.{NO_MEMORY, TOO_LONG}
use Rattle.pm_c.specs.declared.listing.ListError.{ListError}
use Rattle.pm_c.specs.declared.listing.ListError.TheVariants as errors
use Rattle.pm_c.specs.declared.records.PmTree.{PmTree}

abbrev pub delimiter_number : Delimiter → ℕ
delimiter_number Parenthesis = 0
delimiter_number Brace = 1
delimiter_number Bracket = 2
delimiter_number None = 3

abbrev pub spacing_number : Spacing → ℕ
spacing_number Alone = 0
spacing_number Joint = 1

-- the number of trees in the stream, without those inside groups
abbrev pub width : Forest → ℕ
width nil = 0
width (leaf token lo hi rest) = 1 + width rest
width (group d lo hi inside rest) = 1 + width rest

-- the bytes of a tree's text in the listing: of an identifier or a literal as it is written, and none of others
abbrev pub kept_text : TokenTree → List ℕ
kept_text (Group g) = []
kept_text (Ident i) = spelling i
kept_text (Punct p) = []
kept_text (Literal l) = encode_utf8_all l.text

-- the record of a tree whose text begins at this byte offset
abbrev pub record_of : ℕ → TokenTree → PmTree
record_of start (Group g) =
    record {
      kind = 0;
      detail = delimiter_number g.delimiter;
      lo = g.span.lo;
      hi = g.span.hi;
      start = 0;
      count = width g.stream;
    }
record_of start (Ident i) =
    record { kind = 1; detail = 0; lo = i.span.lo; hi = i.span.hi; start = start; count = length (spelling i) }
record_of start (Punct p) =
    record { kind = 2; detail = spacing_number p.spacing; lo = p.span.lo; hi = p.span.hi; start = p.mark; count = 0 }
record_of start (Literal l) =
    record {
      kind = 3;
      detail = 0;
      lo = l.span.lo;
      hi = l.span.hi;
      start = start;
      count = length (encode_utf8_all l.text);
    }

-- the records of trees in order; the text of the first begins at this byte offset, and each other text follows the one
-- before
abbrev pub records_from : ℕ → List TokenTree → List PmTree
records_from start [] = []
records_from start (tree ∷ trees) = record_of start tree ∷ records_from (start + length (kept_text tree)) trees

-- the stream has too many trees for 32 bits, or its texts have too many bytes
abbrev pub IsTooLong : Forest → Type 0
IsTooLong stream =
    (4294967296 ≤ length (in_order stream)) ⊎ (4294967296 ≤ length (flat_map kept_text (in_order stream)))

-- the number of trees directly inside the tree
abbrev pub inner_width : TokenTree → ℕ
inner_width (Group g) = width g.stream
inner_width (Ident i) = 0
inner_width (Punct p) = 0
inner_width (Literal l) = 0

-- a number of the tree's record, or the byte offset where its text ends, doesn't fit in 32 bits
abbrev pub IsLongTree : ℕ → TokenTree → Type 0
IsLongTree start tree = (4294967296 ≤ start + length (kept_text tree)) ⊎ (4294967296 ≤ inner_width tree)

abbrev pub error_code : ListError → ℕ
error_code errors.TooLong = TOO_LONG
error_code errors.Memory = NO_MEMORY
