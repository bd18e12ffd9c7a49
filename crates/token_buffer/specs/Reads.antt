-- What the calls of a cursor return, from its remaining trees.
use Rattle.std.specs.Prelude.{ℕ, ◌≡◌, ◌==◌, ◌&&◌, Bool, true, false, List, Option, Some, None}
use Rattle.std.specs.Str.{chars}
use Rattle.lexical.specs.Token.{Token, Name, Mark, Literal}
use Rattle.pm_span.specs.Extent.{Extent}
use Rattle.pm_token.specs.Escaped.{string_text}
use Rattle.pm_token.specs.Leaf.{is_joint}
use Rattle.pm_token.specs.declared.delimiters.Delimiter.{Delimiter}
use Rattle.pm_stream.specs.Forest.{Forest, nil, leaf, group}
use Rattle.token_buffer.specs.Left.{trees_of}
use Rattle.token_buffer.specs.declared.cursor.Cursor.{Cursor}
use Rattle.token_buffer.specs.declared.cursor.LiteralText.{LiteralText}
use Rattle.token_buffer.specs.declared.cursor.LiteralText.TheVariants as literals
use Rattle.token_buffer.specs.declared.cursor.TokenText.{TokenText}
use Rattle.token_buffer.specs.declared.cursor.TokenText.TheVariants as texts

-- the trees that are left
abbrev pub left : Cursor → Forest
left cursor = trees_of cursor.text.now cursor.entries.now

-- the text of a literal as it is written
abbrev pub literal_text : LiteralText → List ℕ
literal_text (literals.Source text) = chars text.now
literal_text (literals.Doc text) = string_text (chars text.now)

-- whether the token comes first, and then the trees of the other cursor
abbrev pub BeginsWith : Token → Cursor → Cursor → Type 0
BeginsWith token cursor rest = (lo : ℕ) × (hi : ℕ) × (left cursor ≡ leaf token lo hi (left rest))

-- whether the group of the second cursor's trees comes first, and then the trees of the last cursor
abbrev pub BeginsWithGroup : Delimiter → Cursor → Cursor → Cursor → Type 0
BeginsWithGroup d cursor inside after =
    (lo : ℕ) × (hi : ℕ) × (left cursor ≡ group d lo hi (left inside) (left after))

-- whether the token or group comes first, and then the trees of the other cursor
abbrev pub Begins : TokenText → Cursor → Cursor → Type 0
Begins (texts.Ident name) cursor rest = BeginsWith (Name name.raw (chars name.text.now)) cursor rest
Begins (texts.Punct mark spacing) cursor rest = BeginsWith (Mark mark (is_joint spacing)) cursor rest
Begins (texts.Literal literal) cursor rest = BeginsWith (Literal (literal_text literal)) cursor rest
Begins (texts.Group delimiter inside) cursor rest = BeginsWithGroup delimiter cursor inside rest

-- whether an identifier comes first
abbrev pub name_first : Forest → Bool
name_first (leaf (Name raw name) lo hi rest) = true
name_first _ = false

-- whether a mark comes first
abbrev pub mark_first : Forest → Bool
mark_first (leaf (Mark c joint) lo hi rest) = true
mark_first _ = false

-- whether a literal comes first
abbrev pub literal_first : Forest → Bool
literal_first (leaf (Literal text) lo hi rest) = true
literal_first _ = false

-- whether a lone quote and a name come first
abbrev pub lifetime_first : Forest → Bool
lifetime_first (leaf (Mark c joint) lo hi rest) = (c == 39) && joint && name_first rest
lifetime_first _ = false

-- the delimiter of the group that comes first, or `None`
abbrev pub group_first : Forest → Option Delimiter
group_first nil = None
group_first (leaf token lo hi rest) = None
group_first (group d lo hi inside rest) = Some d

-- the span of the first tree, or `None`
abbrev pub first_extent : Forest → Option Extent
first_extent nil = None
first_extent (leaf token lo hi rest) = Some (record { lo = lo; hi = hi })
first_extent (group d lo hi inside rest) = Some (record { lo = lo; hi = hi })
